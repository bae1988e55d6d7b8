-- A double quote that a text begins with or ends with.
use Rattle.std.proofs.Common.{◌≡◌, ◌≢◌, ℕ, ◌-◌, ◌<◌, List, [], ◌∷◌, ◌++◌, length, take, get_or, Bool, true, false, Option, Some, None, Bor, eqb}
use Rattle.std.proofs.Common.{if◌then◌else◌, refl, sym, ap, ◌∙◌, arith, length-append}
use Rattle.std.specs.Prelude.{MatchOption}
use Rattle.std.proofs.lemmas.Bool.{eqb-true}
use Rattle.std.proofs.Math.Seq.{take-append_seam, get_or-append_seam}
use Rattle.np_example_files.proofs.Endings.{last_split}
use Rattle.np_example_files.specs.Pieces.{before_quote, behind_quote}

-- a test that fails where it would show what does not hold
by_test : {X : Type 0} (b : Bool) (x : X) → (b ≡ true → ⊥) → (if b then Some x else None) ≡ None
by_test true x wrong = absurd (wrong refl)
by_test false x wrong = refl

pub behind_from_strip : (text : List ℕ) (r : Option (Bor (List ℕ))) → MatchOption r ((rest : List ℕ) → text ≢ 34 ∷ rest) (λ x. text ≡ 34 ∷ x.now)
    → MatchOption r (behind_quote text ≡ None) (λ x. behind_quote text ≡ Some x.now)
behind_from_strip [] None h = refl
behind_from_strip (first ∷ rest) None h = by_test (eqb first 34) rest (λ same. h rest (ap (λ c. c ∷ rest) (eqb-true first 34 same)))
behind_from_strip text (Some x) h = rw h refl

some_last : (text : List ℕ) → get_or text (length text - 1) 0 ≡ 34 → 0 < length text
some_last [] e = absurd (omega arith)
some_last (x ∷ xs) e = omega arith

pub before_from_strip : (text : List ℕ) (r : Option (Bor (List ℕ))) → MatchOption r ((front : List ℕ) → text ≢ front ++ (34 ∷ [])) (λ x. text ≡ x.now ++ (34 ∷ []))
    → MatchOption r (before_quote text ≡ None) (λ x. before_quote text ≡ Some x.now)
before_from_strip text None h =
    by_test (eqb (get_or text (length text - 1) 0) 34) (take (length text - 1) text) (λ same.
    let last : get_or text (length text - 1) 0 ≡ 34 = eqb-true (get_or text (length text - 1) 0) 34 same in
    h (take (length text - 1) text) (sym (last_split text 0 (some_last text last)) ∙ ap (λ c. take (length text - 1) text ++ c ∷ []) last))
before_from_strip text (Some x) h =
    let long : length (x.now ++ 34 ∷ []) - 1 ≡ length x.now = omega (arith, length-append x.now (34 ∷ [])) in
    rw (h, long, take-append_seam x.now (34 ∷ []), get_or-append_seam x.now 34 [] 0) refl
