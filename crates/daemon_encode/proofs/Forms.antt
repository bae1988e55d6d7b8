-- The translation of each form of process.
use Rattle.std.proofs.Common.{◌≡◌, ℕ, ap, ◌∙◌}
use Rattle.np_syntax.specs.declared.types.Ty.{Ty}
use Rattle.np_syntax.specs.declared.expression.Expr.{Expr}
use Rattle.np_syntax.specs.declared.pattern.Pat.{Pat}
use Rattle.np_syntax.specs.declared.process.Tag.{Tag}
use Rattle.np_syntax.specs.declared.process.Proc.{Proc, fold_out-Proc}
use Rattle.np_syntax.specs.declared.process.ProcForm.{ProcForm, ProcForm-F, out-ProcForm, map-ProcForm, fold_out-ProcForm}
use Rattle.np_syntax.specs.declared.process.ProcForm as form
use Rattle.np_syntax.specs.declared.process.ProcForm.TheVariants as layer
use Rattle.daemon_encode.specs.declared.translated.Translated.{Translated}
use Rattle.infrastructure_texts.specs.Texts.{post_text}
use Rattle.daemon_encode.specs.Encoded.{Translation, kept, becomes, around, around_both, migration, creation, translate_step, translated, translated_form}

pub translated-form : (n : ℕ) (p : Proc) (a : Expr) (next : ℕ) → translated n p a next ≡ translated_form n p.form p.tag p.at a next
unfolding translated translated_form
translated-form n p a next = ap (λ (f : Translation). f a next) (fold_out-Proc (Tag → ℕ → Translation) Translation (translate_step n) (λ p. p.form p.tag p.at) p)

abbrev pub stepped : ℕ → Tag → ℕ → Expr → ℕ → ProcForm-F ProcForm Proc → Translated
stepped n tag at a next l = translate_step n (map-ProcForm ProcForm Proc (Tag → ℕ → Translation) Translation (translated_form n) (translated n) l) tag at a next

pub translated-layer : (n : ℕ) (f : ProcForm) (tag : Tag) (at : ℕ) (a : Expr) (next : ℕ) → translated_form n f tag at a next ≡ stepped n tag at a next (out-ProcForm f)
unfolding translated translated_form
translated-layer n f tag at a next =
    ap (λ (g : Tag → ℕ → Translation). g tag at a next) (fold_out-ProcForm (Tag → ℕ → Translation) Translation (translate_step n) (λ p. p.form p.tag p.at) f)

module _ (n : ℕ) (tag : Tag) (at : ℕ) (a : Expr) (next : ℕ) where
  pub form-stop : translated_form n form.Stop tag at a next ≡ kept tag at form.Stop next
  form-stop = translated-layer n form.Stop tag at a next ∙ ap (stepped n tag at a next) layer.outs-Stop

  pub form-par : (p q : Proc) → translated_form n (form.Par p q) tag at a next ≡ around_both form.Par tag at (translated n p) (translated n q) a next
  form-par p q = translated-layer n (form.Par p q) tag at a next ∙ ap (stepped n tag at a next) (layer.outs-Par p q)

  pub form-new : (c : ℕ) (t : Ty) (p : Proc) → translated_form n (form.New c t p) tag at a next ≡ around (form.New c t) tag at (translated n p) a next
  form-new c t p = translated-layer n (form.New c t p) tag at a next ∙ ap (stepped n tag at a next) (layer.outs-New c t p)

  pub form-out : (c e : Expr) → translated_form n (form.Out c e) tag at a next ≡ kept tag at (form.Out c e) next
  form-out c e = translated-layer n (form.Out c e) tag at a next ∙ ap (stepped n tag at a next) (layer.outs-Out c e)

  pub form-inp : (c : Expr) (x : Pat) (p : Proc) → translated_form n (form.Inp c x p) tag at a next ≡ around (form.Inp c x) tag at (translated n p) a next
  form-inp c x p = translated-layer n (form.Inp c x p) tag at a next ∙ ap (stepped n tag at a next) (layer.outs-Inp c x p)

  pub form-rep : (c : Expr) (x : Pat) (p : Proc) → translated_form n (form.Rep c x p) tag at a next ≡ around (form.Rep c x) tag at (translated n p) a next
  form-rep c x p = translated-layer n (form.Rep c x p) tag at a next ∙ ap (stepped n tag at a next) (layer.outs-Rep c x p)

  pub form-agent : (b : ℕ) (p q : Proc) → translated_form n (form.Agent b p q) tag at a next ≡ creation n tag.node b (translated n p) (translated n q) a next
  form-agent b p q = translated-layer n (form.Agent b p q) tag at a next ∙ ap (stepped n tag at a next) (layer.outs-Agent b p q)

  pub form-migrate : (e : Expr) (p : Proc) → translated_form n (form.Migrate e p) tag at a next ≡ migration n tag.node e (translated n p) a next
  form-migrate e p = translated-layer n (form.Migrate e p) tag at a next ∙ ap (stepped n tag at a next) (layer.outs-Migrate e p)

  pub form-iflocal : (b c e : Expr) (p q : Proc) → translated_form n (form.IfLocal b c e p q) tag at a next ≡ around_both (form.IfLocal b c e) tag at (translated n p) (translated n q) a next
  form-iflocal b c e p q = translated-layer n (form.IfLocal b c e p q) tag at a next ∙ ap (stepped n tag at a next) (layer.outs-IfLocal b c e p q)

  pub form-send : (b s c e : Expr) → translated_form n (form.Send b s c e) tag at a next ≡ kept tag at (form.Send b s c e) next
  form-send b s c e = translated-layer n (form.Send b s c e) tag at a next ∙ ap (stepped n tag at a next) (layer.outs-Send b s c e)

  pub form-post : (b c v : Expr) → translated_form n (form.Post b c v) tag at a next ≡ becomes (post_text n tag.node b c v) next
  form-post b c v = translated-layer n (form.Post b c v) tag at a next ∙ ap (stepped n tag at a next) (layer.outs-Post b c v)

  pub form-if : (e : Expr) (p q : Proc) → translated_form n (form.If e p q) tag at a next ≡ around_both (form.If e) tag at (translated n p) (translated n q) a next
  form-if e p q = translated-layer n (form.If e p q) tag at a next ∙ ap (stepped n tag at a next) (layer.outs-If e p q)

  pub form-let : (x : Pat) (e : Expr) (p : Proc) → translated_form n (form.Let x e p) tag at a next ≡ around (form.Let x e) tag at (translated n p) a next
  form-let x e p = translated-layer n (form.Let x e p) tag at a next ∙ ap (stepped n tag at a next) (layer.outs-Let x e p)

  pub form-print : (e : Expr) → translated_form n (form.Print e) tag at a next ≡ kept tag at (form.Print e) next
  form-print e = translated-layer n (form.Print e) tag at a next ∙ ap (stepped n tag at a next) (layer.outs-Print e)

  pub form-open : (e : Expr) → translated_form n (form.Open e) tag at a next ≡ kept tag at (form.Open e) next
  form-open e = translated-layer n (form.Open e) tag at a next ∙ ap (stepped n tag at a next) (layer.outs-Open e)

  pub form-lookup : (b m : Expr) (x : ℕ) (p q : Proc) → translated_form n (form.Lookup b m x p q) tag at a next ≡ around_both (form.Lookup b m x) tag at (translated n p) (translated n q) a next
  form-lookup b m x p q = translated-layer n (form.Lookup b m x p q) tag at a next ∙ ap (stepped n tag at a next) (layer.outs-Lookup b m x p q)

pub ruleset forms =
    (translated-form, form-stop, form-par, form-new, form-out, form-inp, form-rep, form-agent, form-migrate, form-iflocal, form-send, form-post, form-if, form-let, form-print, form-open, form-lookup)
