-- The translation of each form of process, with caches.
use Rattle.std.proofs.Common.{◌≡◌, ℕ, ap, ◌∙◌}
use Rattle.np_syntax.specs.declared.types.Ty.{Ty}
use Rattle.np_syntax.specs.declared.expression.Expr.{Expr}
use Rattle.np_syntax.specs.declared.pattern.Pat.{Pat}
use Rattle.np_syntax.specs.declared.process.Tag.{Tag}
use Rattle.np_syntax.specs.declared.process.Proc.{Proc, fold_out-Proc}
use Rattle.np_syntax.specs.declared.process.ProcForm.{ProcForm, ProcForm-F, out-ProcForm, map-ProcForm, fold_out-ProcForm}
use Rattle.np_syntax.specs.declared.process.ProcForm as form
use Rattle.np_syntax.specs.declared.process.ProcForm.TheVariants as layer
use Rattle.daemon_encode.specs.declared.translated.Translated.{Translated}
use Rattle.daemon_encode.specs.Encoded.{Translation, kept, around, around_both, migration}
use Rattle.cache_encode.specs.Encoded.{posting, creation, cached_step, cached, cached_form}

pub cached-form : (n : ℕ) (p : Proc) (a : Expr) (next : ℕ) → cached n p a next ≡ cached_form n p.form p.tag p.at a next
unfolding cached cached_form
cached-form n p a next = ap (λ (f : Translation). f a next) (fold_out-Proc (Tag → ℕ → Translation) Translation (cached_step n) (λ p. p.form p.tag p.at) p)

abbrev pub stepped : ℕ → Tag → ℕ → Expr → ℕ → ProcForm-F ProcForm Proc → Translated
stepped n tag at a next l = cached_step n (map-ProcForm ProcForm Proc (Tag → ℕ → Translation) Translation (cached_form n) (cached n) l) tag at a next

pub cached-layer : (n : ℕ) (f : ProcForm) (tag : Tag) (at : ℕ) (a : Expr) (next : ℕ) → cached_form n f tag at a next ≡ stepped n tag at a next (out-ProcForm f)
unfolding cached cached_form
cached-layer n f tag at a next =
    ap (λ (g : Tag → ℕ → Translation). g tag at a next) (fold_out-ProcForm (Tag → ℕ → Translation) Translation (cached_step n) (λ p. p.form p.tag p.at) f)

module _ (n : ℕ) (tag : Tag) (at : ℕ) (a : Expr) (next : ℕ) where
  pub form-stop : cached_form n form.Stop tag at a next ≡ kept tag at form.Stop next
  form-stop = cached-layer n form.Stop tag at a next ∙ ap (stepped n tag at a next) layer.outs-Stop

  pub form-par : (p q : Proc) → cached_form n (form.Par p q) tag at a next ≡ around_both form.Par tag at (cached n p) (cached n q) a next
  form-par p q = cached-layer n (form.Par p q) tag at a next ∙ ap (stepped n tag at a next) (layer.outs-Par p q)

  pub form-new : (c : ℕ) (t : Ty) (p : Proc) → cached_form n (form.New c t p) tag at a next ≡ around (form.New c t) tag at (cached n p) a next
  form-new c t p = cached-layer n (form.New c t p) tag at a next ∙ ap (stepped n tag at a next) (layer.outs-New c t p)

  pub form-out : (c e : Expr) → cached_form n (form.Out c e) tag at a next ≡ kept tag at (form.Out c e) next
  form-out c e = cached-layer n (form.Out c e) tag at a next ∙ ap (stepped n tag at a next) (layer.outs-Out c e)

  pub form-inp : (c : Expr) (x : Pat) (p : Proc) → cached_form n (form.Inp c x p) tag at a next ≡ around (form.Inp c x) tag at (cached n p) a next
  form-inp c x p = cached-layer n (form.Inp c x p) tag at a next ∙ ap (stepped n tag at a next) (layer.outs-Inp c x p)

  pub form-rep : (c : Expr) (x : Pat) (p : Proc) → cached_form n (form.Rep c x p) tag at a next ≡ around (form.Rep c x) tag at (cached n p) a next
  form-rep c x p = cached-layer n (form.Rep c x p) tag at a next ∙ ap (stepped n tag at a next) (layer.outs-Rep c x p)

  pub form-agent : (b : ℕ) (p q : Proc) → cached_form n (form.Agent b p q) tag at a next ≡ creation n tag.node b (cached n p) (cached n q) a next
  form-agent b p q = cached-layer n (form.Agent b p q) tag at a next ∙ ap (stepped n tag at a next) (layer.outs-Agent b p q)

  pub form-migrate : (e : Expr) (p : Proc) → cached_form n (form.Migrate e p) tag at a next ≡ migration n tag.node e (cached n p) a next
  form-migrate e p = cached-layer n (form.Migrate e p) tag at a next ∙ ap (stepped n tag at a next) (layer.outs-Migrate e p)

  pub form-iflocal : (b c e : Expr) (p q : Proc) → cached_form n (form.IfLocal b c e p q) tag at a next ≡ around_both (form.IfLocal b c e) tag at (cached n p) (cached n q) a next
  form-iflocal b c e p q = cached-layer n (form.IfLocal b c e p q) tag at a next ∙ ap (stepped n tag at a next) (layer.outs-IfLocal b c e p q)

  pub form-send : (b s c e : Expr) → cached_form n (form.Send b s c e) tag at a next ≡ kept tag at (form.Send b s c e) next
  form-send b s c e = cached-layer n (form.Send b s c e) tag at a next ∙ ap (stepped n tag at a next) (layer.outs-Send b s c e)

  pub form-post : (b c v : Expr) → cached_form n (form.Post b c v) tag at a next ≡ posting n tag.node b c v a next
  form-post b c v = cached-layer n (form.Post b c v) tag at a next ∙ ap (stepped n tag at a next) (layer.outs-Post b c v)

  pub form-if : (e : Expr) (p q : Proc) → cached_form n (form.If e p q) tag at a next ≡ around_both (form.If e) tag at (cached n p) (cached n q) a next
  form-if e p q = cached-layer n (form.If e p q) tag at a next ∙ ap (stepped n tag at a next) (layer.outs-If e p q)

  pub form-let : (x : Pat) (e : Expr) (p : Proc) → cached_form n (form.Let x e p) tag at a next ≡ around (form.Let x e) tag at (cached n p) a next
  form-let x e p = cached-layer n (form.Let x e p) tag at a next ∙ ap (stepped n tag at a next) (layer.outs-Let x e p)

  pub form-print : (e : Expr) → cached_form n (form.Print e) tag at a next ≡ kept tag at (form.Print e) next
  form-print e = cached-layer n (form.Print e) tag at a next ∙ ap (stepped n tag at a next) (layer.outs-Print e)

  pub form-open : (e : Expr) → cached_form n (form.Open e) tag at a next ≡ kept tag at (form.Open e) next
  form-open e = cached-layer n (form.Open e) tag at a next ∙ ap (stepped n tag at a next) (layer.outs-Open e)

  pub form-lookup : (b m : Expr) (x : ℕ) (p q : Proc) → cached_form n (form.Lookup b m x p q) tag at a next ≡ around_both (form.Lookup b m x) tag at (cached n p) (cached n q) a next
  form-lookup b m x p q = cached-layer n (form.Lookup b m x p q) tag at a next ∙ ap (stepped n tag at a next) (layer.outs-Lookup b m x p q)

pub ruleset forms =
    (cached-form, form-stop, form-par, form-new, form-out, form-inp, form-rep, form-agent, form-migrate, form-iflocal, form-send, form-post, form-if, form-let, form-print, form-open, form-lookup)
