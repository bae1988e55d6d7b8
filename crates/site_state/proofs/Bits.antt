-- Sets of sites as bits.
use Rattle.std.proofs.Common.{◌≡◌, ◌≢◌, ◌≤◌, ◌<◌, ◌+◌, ◌-◌, ◌*◌, ◌/◌, ◌%◌, ◌^◌, ℕ, inl, inr, bit_and, bit_or, sym, ap, subst, ◌∙◌, arith, refl}
use Rattle.std.proofs.lemmas.Bool.{cases_lt}
use Rattle.std.proofs.lemmas.Nat.{shr-shr}
use Rattle.std.proofs.Math.Nat.{div-eq_of_lt}
use Rattle.std.proofs.Math.Pow.{pow_mono}
use Rattle.std.proofs.lemmas.Nat.Bits.{bit_at-trailing_zeros, bit_at-zero, bit_at_clear_other, bit_at_clear_same, bit_at_set_other, bit_at_set_same}
use Rattle.std.specs.Int.{bit_at, bit_not, trailing_zeros, w128}
use Rattle.site_state.specs.Lines.{IsLowest, IsMarked, IsStruck, IsUnmarked}

pub is_marked : (n k : ℕ) → k < 128 → IsMarked n k (bit_or n (1 * 2 ^ k % 2 ^ 128))
is_marked n k within = record {
  there = λ u. let set = bit_at_set_same w128 n k within in let clear = u.bit in absurd (omega arith);
  others = λ to apart. bit_at_set_other w128 n k within to apart;
}

pub not_marked : (n k : ℕ) → 128 ≤ k → IsMarked n k n
not_marked n k above = record { there = λ u. let w = u.within in absurd (omega arith); others = λ to apart. refl }

pub is_struck : (n k : ℕ) → k < 128 → IsStruck n k (bit_and n (bit_not w128 (1 * 2 ^ k % 2 ^ 128)))
is_struck n k within = record {
  there = λ l. record { within = l; bit = bit_at_clear_same w128 n k within };
  others = λ to low apart. bit_at_clear_other w128 n k within to low apart;
}

shifted : (n from i : ℕ) → bit_at (n / 2 ^ from) i ≡ bit_at n (from + i)
shifted n from i = ap (λ (x : ℕ). x % 2) (shr-shr n from i)

from_on : (n from to : ℕ) → from ≤ to → bit_at n to ≡ bit_at (n / 2 ^ from) (to - from)
from_on n from to more = let same : to ≡ from + (to - from) = omega arith in ap (bit_at n) same ∙ sym (shifted n from (to - from))

-- where nothing is left from a number on, no site from there on is marked
pub unmarked_from : (n from to : ℕ) → n / 2 ^ from ≡ 0 → from ≤ to → to < 128 → IsUnmarked n to
unmarked_from n from to none more within = record { within = within; bit = from_on n from to more ∙ ap (λ (m : ℕ). bit_at m (to - from)) none ∙ bit_at-zero (to - from) }

pub is_lowest : (n : ℕ) → 0 < n → n < 2 ^ 128 → IsLowest n (trailing_zeros w128 n)
is_lowest n some fits = let h = bit_at-trailing_zeros w128 n some fits in record { within = h.0; set = h.1; before = h.2 }

-- else the first from there on is the lowest bit of what is left
module _ (n from place : ℕ) (lowest : IsLowest (n / 2 ^ from) place) where
  pub first_marked : IsUnmarked n (from + place) → ⊥
  first_marked u = let set = lowest.set in let clear = shifted n from place ∙ u.bit in absurd (omega arith)

  below : 128 ≤ from + place → n < 2 ^ 128 → n < 2 ^ (from + place)
  below more fits = let grows = pow_mono more in omega (arith, grows)

  pub unmarked_before : n < 2 ^ 128 → (to : ℕ) → from ≤ to → to < from + place → IsUnmarked n to
  unmarked_before fits to more less =
      let set : bit_at n (from + place) ≡ 1 = sym (shifted n from place) ∙ lowest.set in
      let within : from + place < 128 = elim (cases_lt (from + place) 128) [
        | inl l ↦ l
        | inr m ↦ absurd (let none : bit_at n (from + place) ≡ 0 = ap (λ (x : ℕ). x % 2) (div-eq_of_lt (below m fits)) in omega arith)
      ] in
      record { within = omega arith; bit = from_on n from to more ∙ lowest.before (to - from) (omega arith) }
