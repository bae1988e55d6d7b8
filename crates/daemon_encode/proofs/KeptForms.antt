-- What translations have in common: each keeps all forms but a creation and a post, as the central one does.
use Rattle.std.proofs.Common.{◌≡◌, ℕ, ap, ◌∙◌}
use Rattle.np_syntax.specs.declared.expression.Expr.{Expr}
use Rattle.np_syntax.specs.declared.process.Tag.{Tag}
use Rattle.np_syntax.specs.declared.process.Proc.{Proc}
use Rattle.np_syntax.specs.declared.process.ProcForm.{ProcForm, ProcForm-F, map-ProcForm}
use Rattle.np_eval.specs.Forms.{Layer, layer}
use Rattle.daemon_encode.specs.Encoded.{Translation, translate_step, translated, translated_form}
use Rattle.daemon_encode.proofs.Forms.{translated-form, translated-layer, stepped}

-- all forms but a creation and a post, which a translation may write out in a way of its own
abbrev pub IsShared : Layer → Type 0
IsShared (ProcForm-F.Agent b p q) = ⊥
IsShared (ProcForm-F.Post b c e) = ⊥
IsShared y = Unit {0}

abbrev pub Steps : Type 0
Steps = Tag → ℕ → Translation

-- the translations of what stands in a form
abbrev pub steps : (ProcForm → Steps) → (Proc → Translation) → Layer → ProcForm-F Steps Translation
steps forms f y = map-ProcForm ProcForm Proc Steps Translation forms f y

-- a translation for n sites that keeps all other forms
pub record KeepsForms (n : ℕ) (f : Proc → Translation) : Type 0 where
  pub forms : ProcForm → Steps
  pub shared : (p : Proc) (y : Layer) → layer p ≡ y → IsShared y → (a : Expr) (k : ℕ) → f p a k ≡ translate_step n (steps forms f y) p.tag p.at a k

pub translated-keeps : (n : ℕ) → KeepsForms n (translated n)
translated-keeps n = record {
  forms = translated_form n;
  shared = λ p y is same a k. translated-form n p a k ∙ translated-layer n p.form p.tag p.at a k ∙ ap (stepped n p.tag p.at a k) is;
}
