-- The sum of printed numbers, one number after another.
use Rattle.std.proofs.Common.{◌≡◌, ℕ, ◌+◌, ◌<◌, ℤ, pos, ◌+ℤ◌, List, length, get_or, take, sym, ap, ◌∙◌}
use Rattle.std.specs.Int.{int_wrap, w64}
use Rattle.std.proofs.lemmas.Int.{int_wrap-add_left}
use Rattle.std.proofs.lemmas.List.Sums.{fold_more}
use Rattle.np_syntax.specs.declared.value.Value.{Value}
use Rattle.np_verdict.specs.Report.{number_of, total, wrapped_total}

-- wrapping on the way changes nothing
pub one_more : (said : List (ℕ × Value)) (i : ℕ) (d : ℕ × Value) → i < length said
    → int_wrap w64 (wrapped_total (take i said) +ℤ number_of (get_or said i d).1) ≡ wrapped_total (take (i + 1) said)
one_more said i d lt =
    int_wrap-add_left w64 (total (take i said)) (number_of (get_or said i d).1)
    ∙ ap (int_wrap w64) (sym (fold_more (λ (sum : ℤ) (one : ℕ × Value). sum +ℤ number_of one.1) (pos 0) said i d lt))

-- the sum with the number of the next value
pub step : (said : List (ℕ × Value)) (i : ℕ) (d : ℕ × Value) (result sum m n : ℤ) → result ≡ int_wrap w64 (sum +ℤ m) → m ≡ n → n ≡ number_of d.1
    → sum ≡ wrapped_total (take i said) → d ≡ get_or said i d → i < length said → result ≡ wrapped_total (take (i + 1) said)
step said i d result sum m n is same number so_far item lt =
    is ∙ ap (λ (z : ℤ). int_wrap w64 (z +ℤ m)) so_far
    ∙ ap (λ (z : ℤ). int_wrap w64 (wrapped_total (take i said) +ℤ z)) (same ∙ number ∙ ap (λ (p : ℕ × Value). number_of p.1) item)
    ∙ one_more said i d lt
