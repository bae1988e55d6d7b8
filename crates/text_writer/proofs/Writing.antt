-- Pieces that are written one behind another.
use Rattle.std.proofs.Common.{◌≡◌, ℕ, false, List, [], ◌++◌, ap, ◌∙◌, append_assoc, Result}
use Rattle.std.specs.Result.{IfOk}
use Rattle.std.proofs.lemmas.Result.{IfOk-weaker}
use Rattle.np_syntax.specs.declared.memory.Memory.{Memory}
use Rattle.text_writer.specs.declared.writer.TextWriter.{TextWriter}
use Rattle.text_writer.specs.Writes.{Writes}

-- a piece, and one behind it
pub then : (a b c : TextWriter) (x y : List ℕ) → Writes a b x → Writes b c y → Writes a c (x ++ y)
then a b c x y f g h = ((f (g h).0).0, (g h).1 ∙ ap (λ t. t ++ y) (f (g h).0).1 ∙ append_assoc a.text x y)

-- a piece that is this one
pub same : (a b : TextWriter) (x y : List ℕ) → Writes a b x → x ≡ y → Writes a b y
same a b x y f e h = ((f h).0, (f h).1 ∙ ap (λ t. a.text ++ t) e)

-- the text that is finished, where this was written from the start
pub finished : (a b : TextWriter) (x : List ℕ) (r : Result (List ℕ) Memory) → (a.failed ≡ false) × (a.text ≡ []) → Writes a b x
    → IfOk r (λ t. (b.failed ≡ false) × (t ≡ b.text)) → IfOk r (λ t. t ≡ x)
finished a b x r s w = IfOk-weaker r (λ t. (b.failed ≡ false) × (t ≡ b.text)) (λ t. t ≡ x) (λ t e. e.1 ∙ (w e.0).1 ∙ ap (λ o. o ++ x) s.1)
