-- Histories that go on behind those of which the merged events are a list.
use Rattle.std.proofs.Common.{◌≡◌, ◌<◌, ◌≤◌, ◌+◌, ◌==◌, nat_lt, ℕ, Bool, true, false, cond, List, [], ◌∷◌, ◌++◌, length, map, filter, get_or, Some, inl, ⊎_elim, refl, sym, ap, ap₂, subst, ◌∙◌, arith}
use Rattle.std.proofs.lemmas.Bool.Decides.{nat_tests}
use Rattle.std.proofs.lemmas.List.{length-map, map-append}
use Rattle.std.proofs.lemmas.List.Elements.{filter-append}
use Rattle.std.proofs.lemmas.Option.{slice_get-get_or}
use Rattle.std.specs.Prelude.{slice_get}
use Rattle.std.specs.List.{AllByRecursion}
use Rattle.np_syntax.specs.declared.event.Event.{Event}
use Rattle.stamp_history.specs.declared.stamped.Stamped.{Stamped}
use Rattle.stamp_history.specs.Histories.{Recorded, without_events}
use Rattle.run_merge.specs.declared.rank.Ranked.{Ranked}
use Rattle.run_merge.specs.Laws.{IsInOrder, IsNoLater, of_site}
use Rattle.run_merge.specs.Merged.{events_of, merged, ranked}
use Rattle.run_merge.proofs.InOrder.{all_append, all_filter, all_map, all_pass, all_weaker, at_cond, keeps_all, keeps_none}
use Rattle.run_merge.proofs.Ranks.{ascending, only}
use Rattle.np_site_runs.proofs.merged.Moving.{below_or_not}
use Rattle.run_save.specs.following.Following.{AreInPlace, AreOf, HaveLater, IsResumed, ResumesWhereLater}
use Rattle.run_save.proofs.following.Following.{numbered-below, of-none, of-place}

-- ---- lists

swap-cond : {X : Type 0} (p q : X → Bool) (x : X) (xs : List X) (b c : Bool) → p x ≡ b → q x ≡ c → filter p (filter q xs) ≡ filter q (filter p xs)
    → filter p (cond c (x ∷ filter q xs) (filter q xs)) ≡ filter q (cond b (x ∷ filter p xs) (filter p xs))
swap-cond p q x xs true true is js rest =
    ap (λ t. cond t (x ∷ filter p (filter q xs)) (filter p (filter q xs))) is ∙ ap (λ ys. x ∷ ys) rest
    ∙ sym (ap (λ t. cond t (x ∷ filter q (filter p xs)) (filter q (filter p xs))) js)
swap-cond p q x xs true false is js rest = rest ∙ sym (ap (λ t. cond t (x ∷ filter q (filter p xs)) (filter q (filter p xs))) js)
swap-cond p q x xs false true is js rest = ap (λ t. cond t (x ∷ filter p (filter q xs)) (filter p (filter q xs))) is ∙ rest
swap-cond p q x xs false false is js rest = rest

filter-swap : {X : Type 0} (p q : X → Bool) (xs : List X) → filter p (filter q xs) ≡ filter q (filter p xs)
filter-swap p q [] = refl
filter-swap p q (x ∷ xs) = swap-cond p q x xs (p x) (q x) refl refl (filter-swap p q xs)

in-order-filter : {X : Type 0} (p : Ranked X → Bool) (rs : List (Ranked X)) → IsInOrder rs → IsInOrder (filter p rs)
in-order-filter p [] order = tt
in-order-filter p (r ∷ rs) order =
    let rest = in-order-filter p rs order.1 in
    at_cond IsInOrder (p r) (r ∷ filter p rs) (filter p rs) (λ h. (all_filter (λ later. IsNoLater r.rank later.rank) p rs order.0, rest)) (λ h. rest)

in-order-append : {X : Type 0} (n : ℕ) (xs ys : List (Ranked X)) → IsInOrder xs → IsInOrder ys → AllByRecursion (λ r. r.rank.stamp < n + 1) xs
    → AllByRecursion (λ r. n < r.rank.stamp) ys → IsInOrder (xs ++ ys)
in-order-append n [] ys left right below above = right
in-order-append n (x ∷ xs) ys left right below above =
    let low : x.rank.stamp < n + 1 = below.0 in (
      all_append (λ (later : Ranked _). IsNoLater x.rank later.rank) xs ys left.0
          (all_weaker (λ (r : Ranked _). n < r.rank.stamp) (λ r. IsNoLater x.rank r.rank) (λ r more. inl (omega arith)) ys above),
      in-order-append n xs ys left.1 right below.1 above,
    )

is-above : (n m : ℕ) → n < m → nat_lt n m ≡ true
is-above n m h = grind (arith, nat_tests)

not-above : (n m : ℕ) → m < n + 1 → nat_lt n m ≡ false
not-above n m h = grind (arith, nat_tests)

above-is : (n m : ℕ) → nat_lt n m ≡ true → n < m
above-is n m h = grind (arith, nat_tests)

-- ---- what is added

module _ (events : List Event) (old new : List Recorded) (was : AreInPlace old) (is : AreInPlace new) (of : AreOf events old) (later : HaveLater (length events) old new) where
  abbrev n : ℕ
  n = length events

  abbrev after : Ranked Event → Bool
  after r = nat_lt n r.rank.stamp

  abbrev rest : List (Ranked Event)
  rest = filter after (merged new)

  long : length (merged old) ≡ n
  long = sym (length-map (merged old) (λ r. r.item)) ∙ ap length of.items

  early : AllByRecursion (λ r. r.rank.stamp < n + 1) (merged old)
  early = all_weaker (λ (r : Ranked Event). r.rank.stamp < 1 + length (merged old)) (λ r. r.rank.stamp < n + 1) (λ r less. omega (arith, long)) (merged old) (numbered-below 1 (merged old) of.stamps)

  -- the events of a site behind those of the list
  rest-of : (s : ℕ) → of_site s rest ≡ filter after (of_site s (merged new))
  rest-of s = filter-swap (λ (r : Ranked Event). r.rank.site == s) after (merged new)

  at-place : (s : ℕ) (h k : Recorded) → slice_get old s ≡ Some h → slice_get new s ≡ Some k → of_site s (merged old) ++ of_site s rest ≡ of_site s (merged new)
  at-place s h k there now =
      let more = later.each s h k there now in
      let site : k.site ≡ h.site = (is.each s k now).0 ∙ sym (was.each s h there).0 in
      let low : AllByRecursion (λ r. r.rank.stamp < n + 1) (events_of h) =
      subst (AllByRecursion (λ (r : Ranked Event). r.rank.stamp < n + 1)) (of-place old was s h there) (all_filter (λ (r : Ranked Event). r.rank.stamp < n + 1) (λ r. r.rank.site == s) (merged old) early) in
      let none : filter after (events_of h) ≡ [] =
      keeps_none after (events_of h) (all_weaker (λ (r : Ranked Event). r.rank.stamp < n + 1) (λ r. after r ≡ false) (λ r less. not-above n r.rank.stamp less) (events_of h) low) in
      let all : filter after (map (ranked k.site) more.0) ≡ map (ranked k.site) more.0 =
      keeps_all after (map (ranked k.site) more.0)
      (all_map (λ (r : Ranked Event). after r ≡ true) (ranked k.site) more.0 (all_weaker (λ (e : Stamped). n < e.stamp) (λ e. after (ranked k.site e) ≡ true) (λ e above. is-above n e.stamp above) more.0 more.2)) in
      let whole : events_of k ≡ events_of h ++ map (ranked k.site) more.0 =
      ap (map (ranked k.site)) more.1 ∙ map-append (ranked k.site) h.events more.0 ∙ ap (λ a. map (ranked a) h.events ++ map (ranked k.site) more.0) site in
      let behind : of_site s rest ≡ map (ranked k.site) more.0 =
      rest-of s ∙ ap (filter after) (of-place new is s k now ∙ whole) ∙ filter-append after (events_of h) (map (ranked k.site) more.0) ∙ ap₂ (λ xs ys. xs ++ ys) none all in
      ap₂ (λ xs ys. xs ++ ys) (of-place old was s h there) behind ∙ sym whole ∙ sym (of-place new is s k now)

  past : (s : ℕ) → length old ≤ s → of_site s (merged old) ++ of_site s rest ≡ of_site s (merged new)
  past s above =
      let less : length new ≤ s = subst (λ (m : ℕ). m ≤ s) (sym later.count) above in
      let none : of_site s (merged new) ≡ [] = of-none new is s less in
      ap₂ (λ xs ys. xs ++ ys) (of-none old was s above) (rest-of s ∙ ap (filter after) none) ∙ sym none

  alike : (s : ℕ) → of_site s (merged old ++ rest) ≡ of_site s (merged new)
  alike s = filter-append (λ (r : Ranked Event). r.rank.site == s) (merged old) rest ∙ ⊎_elim (λ less.
      let low : s < length new = subst (λ (m : ℕ). s < m) (sym later.count) less in
      let d : Recorded = without_events 0 0 in
      at-place s (get_or old s d) (get_or new s d) (slice_get-get_or old s d less) (slice_get-get_or new s d low)) (past s) (below_or_not s (length old))

  above : AllByRecursion (λ r. n < r.rank.stamp) rest
  above = all_weaker (λ (r : Ranked Event). after r ≡ true) (λ r. n < r.rank.stamp) (λ r h. above-is n r.rank.stamp h) rest (all_pass after (merged new))

  pub is-resumed : IsResumed events new
  is-resumed = record {
    first = merged old;
    rest = rest;
    is = sym (only new (merged old ++ rest) (in-order-append n (merged old) rest (ascending old) (in-order-filter after (merged new) (ascending new)) early above) alike);
    its = of.items;
    stamps = of.stamps;
    later = above;
  }

pub resumes : ResumesWhereLater
resumes events old new was is of later = is-resumed events old new was is of later
