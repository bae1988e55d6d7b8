-- The form of a process whose parts are known.
use Rattle.std.proofs.Common.{◌≡◌, ℕ, Some, refl, ap}
use Rattle.np_syntax.specs.declared.types.Ty.{Ty}
use Rattle.np_eval.proofs.Common.{Expr, Pat}
use Rattle.np_syntax.specs.declared.process.Proc.{Proc}
use Rattle.np_syntax.specs.declared.process.ProcForm.{ProcForm-F}
use Rattle.np_eval.specs.Forms.{Layer, as_out}
use Rattle.np_eval.specs.FormParts.{as_stop, as_par, as_new, as_inp, as_rep, as_agent_form, as_migrate, as_iflocal}
use Rattle.np_eval.specs.FormParts.{as_send, as_post, as_if, as_let, as_print, as_open, as_lookup}

pub stop-form : (l : Layer) (u : Unit {0}) → as_stop l ≡ Some u → l ≡ ProcForm-F.Stop
stop-form ProcForm-F.Stop u h = refl
stop-form _ u h = absurd cc

pub par-form : (l : Layer) (s : Proc × Proc) → as_par l ≡ Some s → l ≡ ProcForm-F.Par s.0 s.1
par-form (ProcForm-F.Par p q) s h = let same : (p, q) ≡ s = cc in ap (λ (s : Proc × Proc). ProcForm-F.Par s.0 s.1) same
par-form _ s h = absurd cc

pub new-form : (l : Layer) (s : ℕ × Ty × Proc) → as_new l ≡ Some s → l ≡ ProcForm-F.New s.0 s.1 s.2
new-form (ProcForm-F.New x t p) s h = let same : (x, t, p) ≡ s = cc in ap (λ (s : ℕ × Ty × Proc). ProcForm-F.New s.0 s.1 s.2) same
new-form _ s h = absurd cc

pub out-form : (l : Layer) (s : Expr × Expr) → as_out l ≡ Some s → l ≡ ProcForm-F.Out s.0 s.1
out-form (ProcForm-F.Out c e) s h = let same : (c, e) ≡ s = cc in ap (λ (s : Expr × Expr). ProcForm-F.Out s.0 s.1) same
out-form _ s h = absurd cc

pub inp-form : (l : Layer) (s : Expr × Pat × Proc) → as_inp l ≡ Some s → l ≡ ProcForm-F.Inp s.0 s.1 s.2
inp-form (ProcForm-F.Inp c x p) s h = let same : (c, x, p) ≡ s = cc in ap (λ (s : Expr × Pat × Proc). ProcForm-F.Inp s.0 s.1 s.2) same
inp-form _ s h = absurd cc

pub rep-form : (l : Layer) (s : Expr × Pat × Proc) → as_rep l ≡ Some s → l ≡ ProcForm-F.Rep s.0 s.1 s.2
rep-form (ProcForm-F.Rep c x p) s h = let same : (c, x, p) ≡ s = cc in ap (λ (s : Expr × Pat × Proc). ProcForm-F.Rep s.0 s.1 s.2) same
rep-form _ s h = absurd cc

pub agent-form : (l : Layer) (s : ℕ × Proc × Proc) → as_agent_form l ≡ Some s → l ≡ ProcForm-F.Agent s.0 s.1 s.2
agent-form (ProcForm-F.Agent b p q) s h = let same : (b, p, q) ≡ s = cc in ap (λ (s : ℕ × Proc × Proc). ProcForm-F.Agent s.0 s.1 s.2) same
agent-form _ s h = absurd cc

pub migrate-form : (l : Layer) (s : Expr × Proc) → as_migrate l ≡ Some s → l ≡ ProcForm-F.Migrate s.0 s.1
migrate-form (ProcForm-F.Migrate e p) s h = let same : (e, p) ≡ s = cc in ap (λ (s : Expr × Proc). ProcForm-F.Migrate s.0 s.1) same
migrate-form _ s h = absurd cc

pub iflocal-form : (l : Layer) (s : Expr × Expr × Expr × Proc × Proc) → as_iflocal l ≡ Some s → l ≡ ProcForm-F.IfLocal s.0 s.1 s.2 s.3 s.4
iflocal-form (ProcForm-F.IfLocal b c e p q) s h =
    let same : (b, c, e, p, q) ≡ s = cc in
    ap (λ (s : Expr × Expr × Expr × Proc × Proc). ProcForm-F.IfLocal s.0 s.1 s.2 s.3 s.4) same
iflocal-form _ s h = absurd cc

pub send-form : (l : Layer) (s : Expr × Expr × Expr × Expr) → as_send l ≡ Some s → l ≡ ProcForm-F.Send s.0 s.1 s.2 s.3
send-form (ProcForm-F.Send b t c e) s h = let same : (b, t, c, e) ≡ s = cc in ap (λ (s : Expr × Expr × Expr × Expr). ProcForm-F.Send s.0 s.1 s.2 s.3) same
send-form _ s h = absurd cc

pub post-form : (l : Layer) (s : Expr × Expr × Expr) → as_post l ≡ Some s → l ≡ ProcForm-F.Post s.0 s.1 s.2
post-form (ProcForm-F.Post b c e) s h = let same : (b, c, e) ≡ s = cc in ap (λ (s : Expr × Expr × Expr). ProcForm-F.Post s.0 s.1 s.2) same
post-form _ s h = absurd cc

pub if-form : (l : Layer) (s : Expr × Proc × Proc) → as_if l ≡ Some s → l ≡ ProcForm-F.If s.0 s.1 s.2
if-form (ProcForm-F.If e p q) s h = let same : (e, p, q) ≡ s = cc in ap (λ (s : Expr × Proc × Proc). ProcForm-F.If s.0 s.1 s.2) same
if-form _ s h = absurd cc

pub let-form : (l : Layer) (s : Pat × Expr × Proc) → as_let l ≡ Some s → l ≡ ProcForm-F.Let s.0 s.1 s.2
let-form (ProcForm-F.Let x e p) s h = let same : (x, e, p) ≡ s = cc in ap (λ (s : Pat × Expr × Proc). ProcForm-F.Let s.0 s.1 s.2) same
let-form _ s h = absurd cc

pub print-form : (l : Layer) (e : Expr) → as_print l ≡ Some e → l ≡ ProcForm-F.Print e
print-form (ProcForm-F.Print x) e h = ap ProcForm-F.Print (let same : x ≡ e = cc in same)
print-form _ e h = absurd cc

pub open-form : (l : Layer) (e : Expr) → as_open l ≡ Some e → l ≡ ProcForm-F.Open e
open-form (ProcForm-F.Open x) e h = ap ProcForm-F.Open (let same : x ≡ e = cc in same)
open-form _ e h = absurd cc

pub lookup-form : (l : Layer) (s : Expr × Expr × ℕ × Proc × Proc) → as_lookup l ≡ Some s → l ≡ ProcForm-F.Lookup s.0 s.1 s.2 s.3 s.4
lookup-form (ProcForm-F.Lookup a m x p q) s h =
    let same : (a, m, x, p, q) ≡ s = cc in
    ap (λ (s : Expr × Expr × ℕ × Proc × Proc). ProcForm-F.Lookup s.0 s.1 s.2 s.3 s.4) same
lookup-form _ s h = absurd cc
