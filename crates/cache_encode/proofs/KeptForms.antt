-- The translation with caches keeps all forms but a creation and a post.
use Rattle.std.proofs.Common.{◌≡◌, ℕ, refl, ap, ◌∙◌}
use Rattle.np_syntax.specs.declared.expression.Expr.{Expr}
use Rattle.np_syntax.specs.declared.process.Tag.{Tag}
use Rattle.np_syntax.specs.declared.process.ProcForm.{ProcForm-F}
use Rattle.np_eval.specs.Forms.{Layer}
use Rattle.daemon_encode.specs.Encoded.{translate_step}
use Rattle.daemon_encode.proofs.KeptForms.{IsShared, steps, KeepsForms}
use Rattle.cache_encode.specs.Encoded.{cached_step, cached, cached_form}
use Rattle.cache_encode.proofs.Forms.{cached-form, cached-layer, stepped}

falls_back : (n : ℕ) (y : Layer) → IsShared y → (tag : Tag) (at : ℕ) (a : Expr) (k : ℕ)
    → cached_step n (steps (cached_form n) (cached n) y) tag at a k ≡ translate_step n (steps (cached_form n) (cached n) y) tag at a k
falls_back n (ProcForm-F.Agent b p q) same tag at a k = absurd same
falls_back n (ProcForm-F.Post b c e) same tag at a k = absurd same
falls_back n y same tag at a k = refl

pub cached-keeps : (n : ℕ) → KeepsForms n (cached n)
cached-keeps n = record {
  forms = cached_form n;
  shared = λ p y is same a k. cached-form n p a k ∙ cached-layer n p.form p.tag p.at a k ∙ ap (stepped n p.tag p.at a k) is ∙ falls_back n y same p.tag p.at a k;
}
