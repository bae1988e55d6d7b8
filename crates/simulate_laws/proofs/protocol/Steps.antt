-- What a step says of sums over the things, and of each thing.
use Rattle.std.proofs.Common.{◌≡◌, ◌+◌, ◌≤◌, ℕ, List, [], ◌∷◌, ◌++◌, sym, ◌∙◌}
use Rattle.std.specs.List.{All, sum_by}
use Rattle.std.proofs.lemmas.List.Sums.{sum_by-append, get_or-le-sum_by}
use Rattle.std.proofs.lemmas.List.Sorted.{sum_by-IsPermutation, All-permutation, IsPermutation-sym}
use Rattle.std.proofs.lemmas.List.Elements.{All-append, All-nil, All-cons, All-head, All-tail}
use Rattle.simulate_laws.specs.protocol.Steps.{Step}

module _ {A : Type 0} where
  -- of two lists end to end
  pub all_left : (P : A → Type 0) (xs ys : List A) → All P (xs ++ ys) → All P xs
  all_left P [] ys h = All-nil P
  all_left P (x ∷ xs) ys h = All-cons P x xs (All-head P x (xs ++ ys) h) (all_left P xs ys (All-tail P x (xs ++ ys) h))

  pub all_right : (P : A → Type 0) (xs ys : List A) → All P (xs ++ ys) → All P ys
  all_right P [] ys h = h
  all_right P (x ∷ xs) ys h = all_right P xs ys (All-tail P x (xs ++ ys) h)

  -- what a thing weighs is part of what all weigh
  pub weighs : (xs : List A) → All (λ x. (f : A → ℕ) → f x ≤ sum_by f xs) xs
  weighs xs = λ k d h f. get_or-le-sum_by f xs k d h

module _ {A : Type 0} {before after take give : List A} (step : Step before after take give) where
  pub sum_before : (f : A → ℕ) → sum_by f before ≡ sum_by f take + sum_by f step.rest
  sum_before f = sym (sum_by-IsPermutation f before (take ++ step.rest) step.taken) ∙ sum_by-append f take step.rest

  pub sum_after : (f : A → ℕ) → sum_by f after ≡ sum_by f give + sum_by f step.rest
  sum_after f = sym (sum_by-IsPermutation f after (give ++ step.rest) step.given) ∙ sum_by-append f give step.rest

  pub all_taken : (P : A → Type 0) → All P before → All P take
  all_taken P h = all_left P take step.rest (All-permutation P before (take ++ step.rest) step.taken h)

  pub all_rest : (P : A → Type 0) → All P before → All P step.rest
  all_rest P h = all_right P take step.rest (All-permutation P before (take ++ step.rest) step.taken h)

  pub all_after : (P : A → Type 0) → All P give → All P step.rest → All P after
  all_after P g h = All-permutation P (give ++ step.rest) after (IsPermutation-sym after (give ++ step.rest) step.given) (All-append P give step.rest g h)

  -- what stays, each with how little it weighs
  pub all_rest_weighed : (P : A → Type 0) → All P before → All (λ x. P x × ((f : A → ℕ) → f x ≤ sum_by f step.rest)) step.rest
  all_rest_weighed P h = λ k d i. (all_rest P h k d i, weighs step.rest k d i)
