-- What is read in a part of a list is read in the list.
use Rattle.std.proofs.Common.{◌≡◌, ◌<◌, ◌≤◌, ◌-◌, ◌++◌, ℕ, List, length, get_or, ◌∙◌, ap, subst, arith, Some, slice_get, length-append}
use Rattle.std.proofs.lemmas.List.{get_or_append_left, get_or-append_right}
use Rattle.std.proofs.lemmas.Option.{slice_get-get_or}

module _ {T : Type 0} (xs l r : List T) (n k : ℕ) (d : T) (e : xs ≡ l ++ r) (long : length l ≡ n) where
  pub read_front : k < n → slice_get xs k ≡ Some (get_or l k d)
  read_front h =
      let within : k < length (l ++ r) = omega (arith, length-append l r) in
      rw e (slice_get-get_or (l ++ r) k d within ∙ ap (λ v. Some v) (get_or_append_left l r d k (omega arith)))

  pub read_back : n ≤ k → k < length xs → slice_get xs k ≡ Some (get_or r (k - n) d)
  read_back h i =
      let within : k < length (l ++ r) = subst (λ (v : List T). k < length v) e i in
      rw e (slice_get-get_or (l ++ r) k d within ∙ ap (λ v. Some v) (get_or-append_right l r n k d long h))
