-- The sizes of processes, by which the translation comes to its end.
use Rattle.std.proofs.Common.{◌≡◌, ℕ, ◌+◌, ap, ◌∙◌}
use Rattle.np_syntax.specs.declared.types.Ty.{Ty}
use Rattle.np_syntax.specs.declared.expression.Expr.{Expr}
use Rattle.np_syntax.specs.declared.pattern.Pat.{Pat}
use Rattle.np_syntax.specs.declared.process.Proc.{Proc, fold-Proc, fold_out-Proc}
use Rattle.np_syntax.specs.declared.process.ProcForm.{ProcForm, ProcForm-F, out-ProcForm, map-ProcForm, fold-ProcForm, fold_out-ProcForm}
use Rattle.np_syntax.specs.declared.process.ProcForm as form
use Rattle.np_syntax.specs.declared.process.ProcForm.TheVariants as layer

abbrev size_step : ProcForm-F ℕ ℕ → ℕ
size_step (ProcForm-F.Par p q) = 1 + p + q
size_step (ProcForm-F.New c t p) = 1 + p
size_step (ProcForm-F.Inp c x p) = 1 + p
size_step (ProcForm-F.Rep c x p) = 1 + p
size_step (ProcForm-F.Agent b p q) = 1 + p + q
size_step (ProcForm-F.Migrate e p) = 1 + p
size_step (ProcForm-F.IfLocal b c e p q) = 1 + p + q
size_step (ProcForm-F.If e p q) = 1 + p + q
size_step (ProcForm-F.Let x e p) = 1 + p
size_step (ProcForm-F.Lookup b m x p q) = 1 + p + q
size_step _ = 1

pub size : Proc → ℕ
size = fold-Proc ℕ ℕ size_step (λ p. p.form)

pub form_size : ProcForm → ℕ
form_size = fold-ProcForm ℕ ℕ size_step (λ p. p.form)

pub size-form : (p : Proc) → size p ≡ form_size p.form
unfolding size form_size
size-form p = fold_out-Proc ℕ ℕ size_step (λ p. p.form) p

abbrev stepped : ProcForm-F ProcForm Proc → ℕ
stepped l = size_step (map-ProcForm ProcForm Proc ℕ ℕ form_size size l)

size-layer : (f : ProcForm) → form_size f ≡ stepped (out-ProcForm f)
unfolding size form_size
size-layer f = fold_out-ProcForm ℕ ℕ size_step (λ p. p.form) f

pub size-par : (p q : Proc) → form_size (form.Par p q) ≡ 1 + size p + size q
size-par p q = size-layer (form.Par p q) ∙ ap stepped (layer.outs-Par p q)

pub size-new : (c : ℕ) (t : Ty) (p : Proc) → form_size (form.New c t p) ≡ 1 + size p
size-new c t p = size-layer (form.New c t p) ∙ ap stepped (layer.outs-New c t p)

pub size-inp : (c : Expr) (x : Pat) (p : Proc) → form_size (form.Inp c x p) ≡ 1 + size p
size-inp c x p = size-layer (form.Inp c x p) ∙ ap stepped (layer.outs-Inp c x p)

pub size-rep : (c : Expr) (x : Pat) (p : Proc) → form_size (form.Rep c x p) ≡ 1 + size p
size-rep c x p = size-layer (form.Rep c x p) ∙ ap stepped (layer.outs-Rep c x p)

pub size-agent : (b : ℕ) (p q : Proc) → form_size (form.Agent b p q) ≡ 1 + size p + size q
size-agent b p q = size-layer (form.Agent b p q) ∙ ap stepped (layer.outs-Agent b p q)

pub size-migrate : (e : Expr) (p : Proc) → form_size (form.Migrate e p) ≡ 1 + size p
size-migrate e p = size-layer (form.Migrate e p) ∙ ap stepped (layer.outs-Migrate e p)

pub size-iflocal : (b c e : Expr) (p q : Proc) → form_size (form.IfLocal b c e p q) ≡ 1 + size p + size q
size-iflocal b c e p q = size-layer (form.IfLocal b c e p q) ∙ ap stepped (layer.outs-IfLocal b c e p q)

pub size-if : (e : Expr) (p q : Proc) → form_size (form.If e p q) ≡ 1 + size p + size q
size-if e p q = size-layer (form.If e p q) ∙ ap stepped (layer.outs-If e p q)

pub size-let : (x : Pat) (e : Expr) (p : Proc) → form_size (form.Let x e p) ≡ 1 + size p
size-let x e p = size-layer (form.Let x e p) ∙ ap stepped (layer.outs-Let x e p)

pub size-lookup : (b m : Expr) (x : ℕ) (p q : Proc) → form_size (form.Lookup b m x p q) ≡ 1 + size p + size q
size-lookup b m x p q = size-layer (form.Lookup b m x p q) ∙ ap stepped (layer.outs-Lookup b m x p q)
