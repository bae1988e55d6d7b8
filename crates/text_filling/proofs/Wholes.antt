-- What a table asks for is there at each of its pieces.
use Rattle.std.proofs.Common.{◌≡◌, ◌<◌, ◌≤◌, ◌+◌, ℕ, zero, suc, true, nat_le, List, [], ◌∷◌, length, drop, slice_index_or, refl, sym, ap, ◌∙◌, arith}
use Rattle.np_syntax.proofs.Bools.{and-out}
use Rattle.infrastructure_texts.specs.declared.notation.Piece.{Piece}
use Rattle.infrastructure_texts.specs.Whole.{binders_of, given_of, is_closed, is_whole, made_of, part, parts_of, piece_binders, piece_given, taken}

after : (x : Piece) (xs : List Piece) (k : ℕ) → drop (suc k + 1) (x ∷ xs) ≡ drop (k + 1) xs
after x xs k = let e : suc k + 1 ≡ suc (k + 1) = omega arith in ap (λ n. drop n (x ∷ xs)) e

pub drop-here : (t : List Piece) (k : ℕ) (d : Piece) → k < length t → drop k t ≡ slice_index_or t k d ∷ drop (k + 1) t
drop-here [] k d h = absurd (omega (arith, h))
drop-here (x ∷ xs) zero d h = refl
drop-here (x ∷ xs) (suc k) d h = drop-here xs k d (omega (arith, h)) ∙ ap (λ l. slice_index_or xs k d ∷ l) (sym (after x xs k))

pub binders-here : (t : List Piece) (k : ℕ) (d : Piece) → k < length t → piece_binders (slice_index_or t k d) ≤ binders_of t
binders-here [] k d h = absurd (omega (arith, h))
binders-here (x ∷ xs) zero d h = grind arith
binders-here (x ∷ xs) (suc k) d h = let less = binders-here xs k d (omega (arith, h)) in grind (arith, less)

pub given-here : (t : List Piece) (k : ℕ) (d : Piece) → k < length t → piece_given (slice_index_or t k d) ≤ given_of t
given-here [] k d h = absurd (omega (arith, h))
given-here (x ∷ xs) zero d h = grind arith
given-here (x ∷ xs) (suc k) d h = let less = given-here xs k d (omega (arith, h)) in grind (arith, less)

pub parts-here : (t : List Piece) (k : ℕ) (d : Piece) → k < length t → part (slice_index_or t k d) + parts_of (drop (k + 1) t) ≤ parts_of t
parts-here [] k d h = absurd (omega (arith, h))
parts-here (x ∷ xs) zero d h = grind arith
parts-here (x ∷ xs) (suc k) d h = let less = parts-here xs k d (omega (arith, h)) in rw (after x xs k) (grind (arith, less))

pub taken-here : (t : List Piece) (k : ℕ) (d : Piece) → k < length t → is_closed t ≡ true → taken (slice_index_or t k d) ≤ made_of (drop (k + 1) t)
taken-here [] k d h closed = absurd (omega (arith, h))
taken-here (x ∷ xs) zero d h closed = let both = and-out (nat_le (taken x) (made_of xs)) (is_closed xs) closed in let first = both.0 in grind (arith, first)
taken-here (x ∷ xs) (suc k) d h closed = rw (after x xs k) (taken-here xs k d (omega (arith, h)) (and-out (nat_le (taken x) (made_of xs)) (is_closed xs) closed).1)

pub some-made : (t : List Piece) → is_whole t ≡ true → 0 < made_of t
some-made t whole = let both = and-out (nat_le 1 (made_of t)) (is_closed t) whole in let first = both.0 in grind (arith, first)

pub closed : (t : List Piece) → is_whole t ≡ true → is_closed t ≡ true
closed t whole = (and-out (nat_le 1 (made_of t)) (is_closed t) whole).1
