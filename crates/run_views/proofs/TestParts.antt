-- The location tests of a process, by the form that code meets.
use Rattle.std.proofs.Common.{◌≡◌, ◌++◌, ℕ, [], ◌∷◌, ap, ◌∙◌}
use Rattle.np_syntax.specs.declared.expression.Expr.{Expr}
use Rattle.np_syntax.specs.declared.pattern.Pat.{Pat}
use Rattle.np_syntax.specs.declared.types.Ty.{Ty}
use Rattle.np_syntax.specs.declared.process.Proc.{Proc}
use Rattle.np_syntax.specs.declared.process.ProcForm.{ProcForm-F}
use Rattle.np_syntax.specs.declared.process.ProcForm as form
use Rattle.np_syntax.specs.declared.process.ProcForm.{out-ProcForm}
use Rattle.np_syntax.specs.declared.process.ProcForm.TheVariants.{
  outs-Par,
  outs-Agent,
  outs-If,
  outs-Lookup,
  outs-New,
  outs-Inp,
  outs-Rep,
  outs-Migrate,
  outs-Let,
  outs-Stop,
  outs-Out,
  outs-Post,
  outs-Print,
  outs-Open,
  outs-Send,
  outs-IfLocal,
}
use Rattle.run_views.specs.Tests.{tests}
use Rattle.run_views.proofs.TestForms.{tests-by}

pub par-tests : (p l r : Proc) → p.form ≡ form.Par l r → tests p ≡ tests l ++ tests r
par-tests p l r is = tests-by p (ProcForm-F.Par l r) (ap out-ProcForm is ∙ outs-Par l r)

pub agent-tests : (p l r : Proc) (x : ℕ) → p.form ≡ form.Agent x l r → tests p ≡ tests l ++ tests r
agent-tests p l r x is = tests-by p (ProcForm-F.Agent x l r) (ap out-ProcForm is ∙ outs-Agent x l r)

pub if-tests : (p l r : Proc) (e : Expr) → p.form ≡ form.If e l r → tests p ≡ tests l ++ tests r
if-tests p l r e is = tests-by p (ProcForm-F.If e l r) (ap out-ProcForm is ∙ outs-If e l r)

pub lookup-tests : (p l r : Proc) (a m : Expr) (x : ℕ) → p.form ≡ form.Lookup a m x l r → tests p ≡ tests l ++ tests r
lookup-tests p l r a m x is = tests-by p (ProcForm-F.Lookup a m x l r) (ap out-ProcForm is ∙ outs-Lookup a m x l r)

pub new-tests : (p l : Proc) (x : ℕ) (t : Ty) → p.form ≡ form.New x t l → tests p ≡ tests l
new-tests p l x t is = tests-by p (ProcForm-F.New x t l) (ap out-ProcForm is ∙ outs-New x t l)

pub inp-tests : (p l : Proc) (c : Expr) (x : Pat) → p.form ≡ form.Inp c x l → tests p ≡ tests l
inp-tests p l c x is = tests-by p (ProcForm-F.Inp c x l) (ap out-ProcForm is ∙ outs-Inp c x l)

pub rep-tests : (p l : Proc) (c : Expr) (x : Pat) → p.form ≡ form.Rep c x l → tests p ≡ tests l
rep-tests p l c x is = tests-by p (ProcForm-F.Rep c x l) (ap out-ProcForm is ∙ outs-Rep c x l)

pub migrate-tests : (p l : Proc) (s : Expr) → p.form ≡ form.Migrate s l → tests p ≡ tests l
migrate-tests p l s is = tests-by p (ProcForm-F.Migrate s l) (ap out-ProcForm is ∙ outs-Migrate s l)

pub let-tests : (p l : Proc) (x : Pat) (e : Expr) → p.form ≡ form.Let x e l → tests p ≡ tests l
let-tests p l x e is = tests-by p (ProcForm-F.Let x e l) (ap out-ProcForm is ∙ outs-Let x e l)

pub stop-tests : (p : Proc) → p.form ≡ form.Stop → tests p ≡ []
stop-tests p is = tests-by p ProcForm-F.Stop (ap out-ProcForm is ∙ outs-Stop)

pub out-tests : (p : Proc) (c e : Expr) → p.form ≡ form.Out c e → tests p ≡ []
out-tests p c e is = tests-by p (ProcForm-F.Out c e) (ap out-ProcForm is ∙ outs-Out c e)

pub post-tests : (p : Proc) (b c e : Expr) → p.form ≡ form.Post b c e → tests p ≡ []
post-tests p b c e is = tests-by p (ProcForm-F.Post b c e) (ap out-ProcForm is ∙ outs-Post b c e)

pub print-tests : (p : Proc) (e : Expr) → p.form ≡ form.Print e → tests p ≡ []
print-tests p e is = tests-by p (ProcForm-F.Print e) (ap out-ProcForm is ∙ outs-Print e)

pub open-tests : (p : Proc) (e : Expr) → p.form ≡ form.Open e → tests p ≡ []
open-tests p e is = tests-by p (ProcForm-F.Open e) (ap out-ProcForm is ∙ outs-Open e)

pub send-tests : (p : Proc) (b s c e : Expr) → p.form ≡ form.Send b s c e → tests p ≡ p.at ∷ []
send-tests p b s c e is = tests-by p (ProcForm-F.Send b s c e) (ap out-ProcForm is ∙ outs-Send b s c e)

pub local-tests : (p l r : Proc) (b c e : Expr) → p.form ≡ form.IfLocal b c e l r → tests p ≡ p.at ∷ (tests l ++ tests r)
local-tests p l r b c e is = tests-by p (ProcForm-F.IfLocal b c e l r) (ap out-ProcForm is ∙ outs-IfLocal b c e l r)
