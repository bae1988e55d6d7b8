-- A list with two items exchanged, and with one moved, in the words of std.
use Rattle.std.proofs.Common.{◌≡◌, ℕ, ◌+◌, ◌-◌, ◌<◌, ◌≤◌, zero, suc, List, [], ◌∷◌, ◌++◌, length, take, drop, get_or, set, true, Some, refl, ap, ◌∙◌, arith, append_assoc, add-one}
use Rattle.std.specs.Prelude.{nat_le, slice_get, insert, remove, swap}
use Rattle.std.proofs.lemmas.Bool.Decides.{nat_tests}
use Rattle.std.proofs.lemmas.Option.{get_or_from_slice_get, slice_get_within}
use Rattle.std.proofs.Math.Nat.{sub-zero}
use Rattle.np_example_files.specs.Changes.{at_place, between, exchanged, moved}

is-le : (m n : ℕ) → m ≤ n → nat_le m n ≡ true
is-le m n h = grind (arith, nat_tests)

between_is : {X : Type 0} (xs : List X) (from to : ℕ) → from ≤ to → to ≤ length xs → between xs from to ≡ take (to - from) (drop from xs)
between_is xs from to h k = let p = is-le from to h in let q = is-le to (length xs) k in rw (p, q) refl

take-one : {X : Type 0} (xs : List X) (k : ℕ) (d : X) → k < length xs → take 1 (drop k xs) ≡ get_or xs k d ∷ []
take-one [] k d h = absurd (omega arith)
take-one (y ∷ ys) zero d h = refl
take-one (y ∷ ys) (suc k) d h = let less : k < length ys = omega arith in take-one ys k d less

set-parts : {X : Type 0} (xs : List X) (k : ℕ) (x : X) → k < length xs → take k xs ++ (x ∷ drop (suc k) xs) ≡ set xs k x
set-parts [] k x h = absurd (omega arith)
set-parts (y ∷ ys) zero x h = refl
set-parts (y ∷ ys) (suc k) x h = let less : k < length ys = omega arith in ap (λ zs. y ∷ zs) (set-parts ys k x less)

swapped-parts : {X : Type 0} (xs : List X) (i j : ℕ) (d : X) → i < j → j < length xs
    → take i xs ++ (take 1 (drop j xs) ++ (take (j - suc i) (drop (suc i) xs) ++ (take 1 (drop i xs) ++ drop (suc j) xs)))
    ≡ set (set xs i (get_or xs j d)) j (get_or xs i d)
swapped-parts [] i j d lt h = absurd (omega arith)
swapped-parts (x ∷ xs) i zero d lt h = absurd (omega arith)
swapped-parts (x ∷ xs) zero (suc k) d lt h =
    let less : k < length xs = omega arith in
    let all : suc k - 1 ≡ k = omega arith in
    rw (all, take-one xs k d less) (ap (λ zs. get_or xs k d ∷ zs) (set-parts xs k x less))
swapped-parts (x ∷ xs) (suc i) (suc j) d lt h =
    let fewer : suc j - suc (suc i) ≡ j - suc i = omega arith in
    let lt' : i < j = omega arith in
    let less : j < length xs = omega arith in
    rw fewer (ap (λ zs. x ∷ zs) (swapped-parts xs i j d lt' less))

grouped_four : {X : Type 0} (a b c d : List X) → a ++ b ++ c ++ d ≡ a ++ (b ++ (c ++ d))
grouped_four a b c d = simp append_assoc

grouped : {X : Type 0} (a b c d e : List X) → a ++ b ++ c ++ d ++ e ≡ a ++ (b ++ (c ++ (d ++ e)))
grouped a b c d e = simp append_assoc

pub exchanged_swap : {X : Type 0} (xs : List X) (i j : ℕ) → i < j → j < length xs → exchanged xs i j ≡ swap xs i j
exchanged_swap [] i j lt h = absurd (omega arith)
exchanged_swap {X} (d ∷ ys) i j lt h =
    let xs : List X = d ∷ ys in
    let front : between xs 0 i ≡ take i xs = between_is xs 0 i (omega arith) (omega arith) ∙ ap (λ n. take n xs) (sub-zero i) in
    let middle : between xs (i + 1) j ≡ take (j - suc i) (drop (suc i) xs) = between_is xs (i + 1) j (omega arith) (omega arith) ∙ ap (λ n. take (j - n) (drop n xs)) (add-one i) in
    let last : drop (j + 1) xs ≡ drop (suc j) xs = ap (λ n. drop n xs) (add-one j) in
    ap (λ zs. zs ++ at_place xs j ++ between xs (i + 1) j ++ at_place xs i ++ drop (j + 1) xs) front
    ∙ ap (λ zs. take i xs ++ at_place xs j ++ zs ++ at_place xs i ++ drop (j + 1) xs) middle
    ∙ ap (λ zs. take i xs ++ at_place xs j ++ take (j - suc i) (drop (suc i) xs) ++ at_place xs i ++ zs) last
    ∙ grouped (take i xs) (at_place xs j) (take (j - suc i) (drop (suc i) xs)) (at_place xs i) (drop (suc j) xs)
    ∙ swapped-parts xs i j d lt h

inserted-parts : {X : Type 0} (xs : List X) (i j : ℕ) (x : X) → i ≤ j → j < length xs
    → take i xs ++ ((x ∷ []) ++ (take (j - i) (drop i xs) ++ drop (suc j) xs)) ≡ insert (remove xs j) i x
inserted-parts [] i j x h k = absurd (omega arith)
inserted-parts (y ∷ ys) zero j x h k = ap (λ n. x ∷ (take n (y ∷ ys) ++ drop j ys)) (sub-zero j)
inserted-parts (y ∷ ys) (suc i) zero x h k = absurd (omega arith)
inserted-parts (y ∷ ys) (suc i) (suc j) x h k =
    let fewer : suc j - suc i ≡ j - i = omega arith in
    let le : i ≤ j = omega arith in
    let less : j < length ys = omega arith in
    rw fewer (ap (λ zs. y ∷ zs) (inserted-parts ys i j x le less))

pub moved_insert : {X : Type 0} (xs : List X) (i j : ℕ) (x : X) → i ≤ j → slice_get xs j ≡ Some x → moved xs i j ≡ insert (remove xs j) i x
moved_insert xs i j x h is =
    let less : j < length xs = slice_get_within xs j x is in
    let front : between xs 0 i ≡ take i xs = between_is xs 0 i (omega arith) (omega arith) ∙ ap (λ n. take n xs) (sub-zero i) in
    let one : at_place xs j ≡ x ∷ [] = take-one xs j x less ∙ ap (λ z. z ∷ []) (get_or_from_slice_get xs j x x is) in
    let middle : between xs i j ≡ take (j - i) (drop i xs) = between_is xs i j h (omega arith) in
    let last : drop (j + 1) xs ≡ drop (suc j) xs = ap (λ n. drop n xs) (add-one j) in
    ap (λ zs. zs ++ at_place xs j ++ between xs i j ++ drop (j + 1) xs) front
    ∙ ap (λ zs. take i xs ++ zs ++ between xs i j ++ drop (j + 1) xs) one
    ∙ ap (λ zs. take i xs ++ (x ∷ []) ++ zs ++ drop (j + 1) xs) middle
    ∙ ap (λ zs. take i xs ++ (x ∷ []) ++ take (j - i) (drop i xs) ++ zs) last
    ∙ grouped_four (take i xs) (x ∷ []) (take (j - i) (drop i xs)) (drop (suc j) xs)
    ∙ inserted-parts xs i j x h less
