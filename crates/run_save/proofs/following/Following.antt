-- Histories of which the merged events are those of a list, and one event more.
use Rattle.std.proofs.Common.{◌≡◌, ◌≢◌, ◌<◌, ◌≤◌, ◌+◌, ◌==◌, ℕ, suc, Bool, cond, List, [], ◌∷◌, ◌++◌, length, map, take, drop, filter, flat_map, get_or, Some, inl, inr, ⊎_elim, refl, sym, ap, ap₂, subst, ◌∙◌, append-nil, length-append, arith}
use Rattle.std.proofs.lemmas.Bool.{eq-eqb}
use Rattle.std.proofs.lemmas.Bool.Decides.{eqb_tells}
use Rattle.std.proofs.lemmas.List.{length-map, map-append, take-append-drop}
use Rattle.std.proofs.lemmas.List.Elements.{filter-append, recursion_from_All}
use Rattle.std.proofs.lemmas.List.Sums.{length-filter, count_by_more_yes}
use Rattle.std.proofs.lemmas.Option.{slice_get_within, slice_get-get_or, get_or_from_slice_get}
use Rattle.std.specs.Prelude.{count_by, slice_get}
use Rattle.std.specs.List.{AllByRecursion}
use Rattle.np_syntax.specs.declared.event.Event.{Event}
use Rattle.stamp_history.specs.declared.stamped.Stamped.{Stamped}
use Rattle.stamp_history.specs.Histories.{IsHistory, Recorded, without_events}
use Rattle.run_merge.specs.declared.rank.Ranked.{Ranked}
use Rattle.run_merge.specs.InOrder.{in_order}
use Rattle.run_merge.specs.Laws.{AreHistories, IsInOrder, IsNoLater, of_site}
use Rattle.run_merge.specs.Merged.{comes_before, events_of, items, merged, ranked}
use Rattle.run_merge.proofs.InOrder.{all_append, all_weaker}
use Rattle.run_merge.proofs.Ranks.{ascending, keeps_events, keeps_histories, no_others, only}
use Rattle.np_site_runs.proofs.merged.Moving.{below_or_not}
use Rattle.np_site_runs.proofs.Accounts.{own-sites}
use Rattle.run_save.specs.following.Following.{AreInPlace, AreNumbered, AreOf, HaveOneMore, NoneFollow, OneMoreFollows, RoomIsLeft, events_at}

-- ---- histories in their places

module _ (hs : List Recorded) (are : AreInPlace hs) where
  at : (k : ℕ) (d : Recorded) → k < length hs → ((get_or hs k d).site ≡ k) × IsHistory (get_or hs k d)
  at k d less = are.each k (get_or hs k d) (slice_get-get_or hs k d less)

  pub are_histories : AreHistories hs
  are_histories = record {
    each = recursion_from_All IsHistory hs (λ k d less. (at k d less).1);
    sites = own-sites 0 hs (λ k d less. (at k d less).0 ∙ omega arith);
  }

  -- the merged events of a site are those of its history
  pub of-place : (s : ℕ) (h : Recorded) → slice_get hs s ≡ Some h → of_site s (merged hs) ≡ events_of h
  of-place s h is =
      let less : s < length hs = slice_get_within hs s h is in
      let same : get_or hs s h ≡ h = get_or_from_slice_get hs s h h is in
      let one : of_site (get_or hs s h).site (merged hs) ≡ events_of (get_or hs s h) = keeps_histories hs s h are_histories less in
      subst (λ (m : ℕ). of_site m (merged hs) ≡ events_of h) (are.each s h is).0 (subst (λ (k : Recorded). of_site k.site (merged hs) ≡ events_of k) same one)

  pub of-none : (s : ℕ) → length hs ≤ s → of_site s (merged hs) ≡ []
  of-none s above = no_others hs s (recursion_from_All (λ h. h.site ≢ s) hs (λ k d less same. let here : (get_or hs k d).site ≡ k = (at k d less).0 in absurd (omega arith)))

-- ---- stamps

pub numbered-below : {X : Type 0} (n : ℕ) (rs : List (Ranked X)) → AreNumbered n rs → AllByRecursion (λ r. r.rank.stamp < n + length rs) rs
numbered-below n [] h = tt
numbered-below n (r ∷ rs) h = (omega arith, all_weaker (λ (x : Ranked _). x.rank.stamp < n + 1 + length rs) (λ (x : Ranked _). x.rank.stamp < n + suc (length rs)) (λ x less. omega arith) rs (numbered-below (n + 1) rs h.1))

numbered-more : {X : Type 0} (n : ℕ) (rs : List (Ranked X)) (x : Ranked X) → AreNumbered n rs → x.rank.stamp ≡ n + length rs → AreNumbered n (rs ++ x ∷ [])
numbered-more n [] x h is = (is ∙ omega arith, tt)
numbered-more n (r ∷ rs) x h is = (h.0, numbered-more (n + 1) rs x h.1 (is ∙ omega arith))

in-order-more : {X : Type 0} (rs : List (Ranked X)) (x : Ranked X) → IsInOrder rs → AllByRecursion (λ r. r.rank.stamp < x.rank.stamp) rs → IsInOrder (rs ++ x ∷ [])
in-order-more [] x order below = (tt, tt)
in-order-more (r ∷ rs) x order below = (all_append (λ (later : Ranked _). IsNoLater r.rank later.rank) rs (x ∷ []) order.0 (inl below.0, tt), in-order-more rs x order.1 below.1)

-- ---- one event more

module _ (events : List Event) (e : Event) (old new : List Recorded) (was : AreInPlace old) (is : AreInPlace new) (of : AreOf events old) (more : HaveOneMore old new e (length events + 1)) where
  abbrev x : Ranked Event
  x = ranked e.site (record { stamp = length events + 1; event = e })

  long : length (merged old) ≡ length events
  long = sym (length-map (merged old) (λ r. r.item)) ∙ ap length of.items

  abbrev kept : ℕ → List (Ranked Event)
  kept s = of_site s (merged old) ++ cond (e.site == s) (x ∷ []) []

  split : (s : ℕ) → of_site s (merged old ++ x ∷ []) ≡ kept s
  split s = filter-append (λ (r : Ranked Event). r.rank.site == s) (merged old) (x ∷ [])

  at-place : (s : ℕ) (h k : Recorded) → slice_get old s ≡ Some h → slice_get new s ≡ Some k → kept s ≡ of_site s (merged new)
  at-place s h k there now = elim (eqb_tells e.site s) [
    | inl w ↦
        let h_at : slice_get old e.site ≡ Some h = subst (λ (m : ℕ). slice_get old m ≡ Some h) (sym w.1) there in
        let k_at : slice_get new e.site ≡ Some k = subst (λ (m : ℕ). slice_get new m ≡ Some k) (sym w.1) now in
        let grown : events_of k ≡ events_of h ++ x ∷ [] =
        ap (λ es. map (ranked k.site) es) (more.there h k h_at k_at) ∙ map-append (ranked k.site) h.events (record { stamp = length events + 1; event = e } ∷ [])
        ∙ ap₂ (λ (a b : ℕ). map (ranked a) h.events ++ ranked b (record { stamp = length events + 1; event = e }) ∷ []) ((is.each s k now).0 ∙ sym (was.each s h there).0) ((is.each s k now).0 ∙ sym w.1) in
        ap₂ (λ rs t. rs ++ cond t (x ∷ []) []) (of-place old was s h there) w.0 ∙ sym grown ∙ sym (of-place new is s k now)
    | inr w ↦
        let same : k.events ≡ h.events = more.others s h k (λ i. w.1 (sym i)) there now in
        ap₂ (λ rs t. rs ++ cond t (x ∷ []) []) (of-place old was s h there) w.0 ∙ append-nil (events_of h)
        ∙ ap₂ (λ (a : ℕ) es. map (ranked a) es) ((was.each s h there).0 ∙ sym (is.each s k now).0) (sym same) ∙ sym (of-place new is s k now)
  ]

  past : (s : ℕ) → length old ≤ s → kept s ≡ of_site s (merged new)
  past s above =
      let apart : (e.site ≡ s → ⊥) = λ i. let low : e.site < length old = more.at in absurd (omega arith) in
      let less : length new ≤ s = subst (λ (m : ℕ). m ≤ s) (sym more.count) above in
      elim (eqb_tells e.site s) [
        | inl w ↦ absurd (apart w.1)
        | inr w ↦ ap₂ (λ rs t. rs ++ cond t (x ∷ []) []) (of-none old was s above) w.0 ∙ sym (of-none new is s less)
      ]

  alike : (s : ℕ) → of_site s (merged old ++ x ∷ []) ≡ of_site s (merged new)
  alike s = split s ∙ ⊎_elim (λ less.
      let low : s < length new = subst (λ (m : ℕ). s < m) (sym more.count) less in
      let d : Recorded = without_events 0 0 in
      at-place s (get_or old s d) (get_or new s d) (slice_get-get_or old s d less) (slice_get-get_or new s d low)) (past s) (below_or_not s (length old))

  is-merged : merged old ++ x ∷ [] ≡ merged new
  is-merged =
      only new (merged old ++ x ∷ [])
      (in-order-more (merged old) x (ascending old)
      (all_weaker (λ (r : Ranked Event). r.rank.stamp < 1 + length (merged old)) (λ r. r.rank.stamp < length events + 1) (λ r less. omega (arith, long)) (merged old) (numbered-below 1 (merged old) of.stamps)))
      alike

  pub one-more : AreOf (events ++ e ∷ []) new
  one-more = record {
    items = ap items (sym is-merged) ∙ map-append (λ (r : Ranked Event). r.item) (merged old) (x ∷ []) ∙ ap (λ es. es ++ e ∷ []) of.items;
    stamps = subst (AreNumbered 1) is-merged (numbered-more 1 (merged old) x of.stamps (omega (arith, long)));
  }

pub one_more_follows : OneMoreFollows
one_more_follows events e old new was is of more = one-more events e old new was is of more

-- ---- no event

no-events : (hs : List Recorded) → ((s : ℕ) (h : Recorded) → slice_get hs s ≡ Some h → h.events ≡ []) → flat_map events_of hs ≡ []
no-events [] none = refl
no-events (h ∷ hs) none = ap₂ (λ xs ys. map (ranked h.site) xs ++ ys) (none 0 h refl) (no-events hs (λ s k is. none (suc s) k is))

pub none_follow : NoneFollow
none_follow hs none =
    let empty : merged hs ≡ [] = ap (in_order comes_before) (no-events hs none) in
    record { items = ap items empty; stamps = subst (AreNumbered 1) (sym empty) tt }

-- ---- room

more-there : (events : List Event) (k : ℕ) (e : Event) → slice_get events k ≡ Some e → events_at e.site (take (k + 1) events) ≡ events_at e.site (take k events) + 1
more-there events k e is =
    let less : k < length events = slice_get_within events k e is in
    let same : get_or events k e ≡ e = get_or_from_slice_get events k e e is in
    count_by_more_yes (λ (x : Event). x.site == e.site) events k e less (ap (λ (x : Event). x.site == e.site) same ∙ eq-eqb e.site e.site refl)

fewer : {X : Type 0} (p : X → Bool) (k : ℕ) (xs : List X) → count_by p (take k xs) ≤ count_by p xs
fewer p k xs =
    let both : length (filter p xs) ≡ length (filter p (take k xs)) + length (filter p (drop k xs)) =
    ap (λ l. length (filter p l)) (sym (take-append-drop k xs)) ∙ ap length (filter-append p (take k xs) (drop k xs)) ∙ length-append (filter p (take k xs)) (filter p (drop k xs)) in
    omega (arith, length-filter p xs, length-filter p (take k xs))

pub room_is_left : RoomIsLeft
room_is_left events k e hs h are own first is there =
    let less : e.site < length hs = slice_get_within hs e.site h there in
    let same : get_or hs e.site h ≡ h = get_or_from_slice_get hs e.site h h there in
    let kept : filter (λ x. x.site == (get_or hs e.site h).site) (items (merged hs)) ≡ map (λ x. x.event) (get_or hs e.site h).events = keeps_events hs e.site h (are_histories hs are) own less in
    let its : filter (λ x. x.site == e.site) (items (merged hs)) ≡ map (λ (x : Stamped). x.event) h.events =
    subst (λ (m : ℕ). filter (λ (x : Event). x.site == m) (items (merged hs)) ≡ map (λ (x : Stamped). x.event) h.events) (are.each e.site h there).0
    (subst (λ (g : Recorded). filter (λ (x : Event). x.site == g.site) (items (merged hs)) ≡ map (λ (x : Stamped). x.event) g.events) same kept) in
    let number : length h.events ≡ events_at e.site (take k events) =
    sym (length-map h.events (λ x. x.event)) ∙ ap length (sym its) ∙ length-filter (λ (x : Event). x.site == e.site) (items (merged hs)) ∙ ap (events_at e.site) first in
    let more = more-there events k e is in
    let all : events_at e.site (take (k + 1) events) ≤ events_at e.site events = fewer (λ (x : Event). x.site == e.site) (k + 1) events in
    omega arith
