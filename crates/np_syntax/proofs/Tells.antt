-- What a test of equality tells of two values, of which one is known.
use Rattle.std.specs.Prelude.{◌≡◌, IsTrue, true, false}
use Rattle.std.proofs.Common.{◌∙◌, refl, sym}

pub told_same : {A : Type 0} {a b x : A} → a ≡ x → b ≡ x → (IsTrue true → a ≡ b) × (a ≡ b → IsTrue true)
told_same p q = (λ h. p ∙ sym q, λ e. refl)

pub told_other : {A : Type 0} {a b x : A} → a ≡ x → (b ≡ x → ⊥) → (IsTrue false → a ≡ b) × (a ≡ b → IsTrue false)
told_other p n = (λ h. absurd cc, λ e. absurd (n (sym e ∙ p)))
