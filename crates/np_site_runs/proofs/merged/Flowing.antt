-- Where events are taken by their stamps, each item that one takes is the first that waits.
use Rattle.std.proofs.Common.{◌≡◌, ◌<◌, ◌≤◌, ◌==◌, ℕ, nat_eq, Bool, true, false, cond, List, [], ◌∷◌, ◌++◌, length, drop, Option, None, Some, IfSome, option_to_list, filter, flat_map, refl, sym, ap, ap₂, subst, ◌∙◌, append_assoc, append-nil, arith}
use Rattle.std.proofs.lemmas.Bool.{eqb-true, eq-eqb}
use Rattle.std.proofs.lemmas.List.{append_cancel_left}
use Rattle.std.proofs.lemmas.List.Elements.{filter-append}
use Rattle.std.specs.List.{AllByRecursion}
use Rattle.np_site_runs.proofs.merged.Steps.{false_eq}
use Rattle.run_merge.proofs.InOrder.{all_filter, all_flat_map, all_weaker, at_cond}
use Rattle.np_site_runs.specs.merged.Deeds.{Deed, StampedItem, put_for, taken_from}
use Rattle.np_site_runs.specs.merged.Turns.{Flows, Waiting, moved, own, puts, takes, takes_at, without}

-- no stamp is below an earlier one
abbrev pub IsByStamp : List Deed → Type 0
IsByStamp [] = Unit {0}
IsByStamp (d ∷ ds) = AllByRecursion (λ e. d.event.stamp ≤ e.event.stamp) ds × IsByStamp ds

-- an item that is put has the stamp of the event, and one that is taken has a lower one
pub record IsStamped (d : Deed) : Type 0 where
  pub put : IfSome d.put (λ x. x.stamp ≡ d.event.stamp)
  pub taken : IfSome d.taken (λ x. x.stamp < d.event.stamp)

pub all_both : {A : Type 0} (P Q : A → Type 0) (xs : List A) → AllByRecursion P xs → AllByRecursion Q xs → AllByRecursion (λ x. P x × Q x) xs
all_both P Q [] p q = tt
all_both P Q (x ∷ xs) p q = ((p.0, q.0), all_both P Q xs p.1 q.1)

-- ---- the deeds of a site

module _ (s : ℕ) (d : Deed) (ds : List Deed) (is : d.event.event.site ≡ s) where
  pub own-here : own s (d ∷ ds) ≡ d ∷ own s ds
  own-here = rw (eq-eqb d.event.event.site s is) refl

  pub own-there : (u : ℕ) → (u ≡ s → ⊥) → own u (d ∷ ds) ≡ own u ds
  own-there u apart = rw (false_eq d.event.event.site u (λ e. apart (sym e ∙ is))) refl

-- what holds of each site, from what holds of one and of the others
pub each_site : (P : ℕ → Type 0) (s : ℕ) → P s → ((u : ℕ) → (u ≡ s → ⊥) → P u) → (u : ℕ) → P u
each_site P s here there u = at (nat_eq u s) refl
  where
    at : (t : Bool) → nat_eq u s ≡ t → P u
    at true h = subst P (sym (eqb-true u s h)) here
    at false h = there u (λ e. let k = eq-eqb u s e in cc)

-- what an event takes waits for its site
pub takes-here : (s : ℕ) (x : StampedItem) → takes_at x.item.sender s s (Some x) ≡ x ∷ []
takes-here s x = rw (eq-eqb s s refl, eq-eqb x.item.sender x.item.sender refl) refl

-- ---- the first deed

-- what the deeds of a site have, where the first is by whichever site
first : {X : Type 0} (g : Deed → List X) (q : X → Bool) (s : ℕ) (d : Deed) (ds : List Deed)
    → filter q (flat_map g (own s (d ∷ ds))) ≡ cond (d.event.event.site == s) (filter q (g d)) [] ++ filter q (flat_map g (own s ds))
first {X} g q s d ds = at (d.event.event.site == s)
  where
    at : (b : Bool) → filter q (flat_map g (cond b (d ∷ own s ds) (own s ds))) ≡ cond b (filter q (g d)) [] ++ filter q (flat_map g (own s ds))
    at true = filter-append q (g d) (flat_map g (own s ds))
    at false = refl

-- where what is taken has lower stamps than what is still to be put, it waits first
waits_first : (m : ℕ) (ts ws ps zs : List StampedItem) → ws ++ ps ≡ ts ++ zs → AllByRecursion (λ x. x.stamp < m) ts → AllByRecursion (λ x. m ≤ x.stamp) ps
    → ws ≡ ts ++ drop (length ts) ws
waits_first m [] ws ps zs e low high = refl
waits_first m (t ∷ ts) [] ps zs e low high =
    let late = subst (AllByRecursion (λ x. m ≤ x.stamp)) e high in
    let above : m ≤ t.stamp = late.0 in
    let below : t.stamp < m = low.0 in
    absurd (omega arith)
waits_first m (t ∷ ts) (x ∷ ws) ps zs e low high =
    let same : x ≡ t = cc in
    let rest : ws ++ ps ≡ ts ++ zs = cc in
    ap₂ (λ y ys. y ∷ ys) same (waits_first m ts ws ps zs rest low.1 high)

-- what is left then
goes_on : (ws ts ls ps qs us zs : List StampedItem) → ws ++ (ps ++ qs) ≡ (ts ++ us) ++ zs → ws ≡ ts ++ ls → (ls ++ ps) ++ qs ≡ us ++ zs
goes_on ws ts ls ps qs us zs e is =
    append_cancel_left ts ((ls ++ ps) ++ qs) (us ++ zs)
    (ap (λ xs. ts ++ xs) (append_assoc ls ps qs) ∙ sym (append_assoc ts ls (ps ++ qs)) ∙ ap (λ xs. xs ++ (ps ++ qs)) (sym is) ∙ e ∙ append_assoc ts us zs)

-- ---- stamps

late-put : (m n : ℕ) (o : Option StampedItem) → m ≤ n → IfSome o (λ x. x.stamp ≡ n) → AllByRecursion (λ x. m ≤ x.stamp) (option_to_list o)
late-put m n None le is = tt
late-put m n (Some x) le is = let same : x.stamp ≡ n = is in (omega arith, tt)

early-taken : (m : ℕ) (o : Option StampedItem) → IfSome o (λ x. x.stamp < m) → AllByRecursion (λ x. x.stamp < m) (option_to_list o)
early-taken m None is = tt
early-taken m (Some x) is = (is, tt)

-- what is still to be put has no lower stamps than the deeds
puts-late : (m : ℕ) (q : StampedItem → Bool) (s : ℕ) (ds : List Deed) → AllByRecursion (λ d. m ≤ d.event.stamp) ds → AllByRecursion IsStamped ds
    → AllByRecursion (λ x. m ≤ x.stamp) (filter q (flat_map (λ d. option_to_list d.put) (own s ds)))
puts-late m q s ds late are =
    all_filter (λ x. m ≤ x.stamp) q (flat_map (λ d. option_to_list d.put) (own s ds))
    (all_flat_map (λ x. m ≤ x.stamp) (λ d. option_to_list d.put) (own s ds)
    (all_filter (λ d. AllByRecursion (λ x. m ≤ x.stamp) (option_to_list d.put)) (λ d. d.event.event.site == s) ds
    (all_weaker (λ d. (m ≤ d.event.stamp) × IsStamped d) (λ d. AllByRecursion (λ x. m ≤ x.stamp) (option_to_list d.put)) (λ d is. late-put m d.event.stamp d.put is.0 is.1.put) ds
    (all_both (λ d. m ≤ d.event.stamp) IsStamped ds late are))))

takes-early : (u v : ℕ) (d : Deed) → IsStamped d → AllByRecursion (λ x. x.stamp < d.event.stamp) (takes u v d)
takes-early u v d is =
    at_cond (AllByRecursion (λ x. x.stamp < d.event.stamp)) (d.event.event.site == v) (filter (λ x. x.item.sender == u) (option_to_list d.taken)) []
    (λ h. all_filter (λ x. x.stamp < d.event.stamp) (λ x. x.item.sender == u) (option_to_list d.taken) (early-taken d.event.stamp d.taken is.taken))
    (λ h. tt)

-- ---- all deeds

-- what waits and what is still to be put is what is still to be taken, and what is left at the end
abbrev pub Balanced : Waiting → List Deed → Waiting → Type 0
Balanced w ds rest = (u v : ℕ) → w u v ++ put_for v (own u ds) ≡ taken_from u (own v ds) ++ rest u v

pub flows : (ds : List Deed) (w rest : Waiting) → IsByStamp ds → AllByRecursion IsStamped ds → Balanced w ds rest → Flows w ds rest
flows [] w rest order are even = λ u v. sym (append-nil (w u v)) ∙ even u v
flows (d ∷ ds) w rest order are even =
    let equal : (u v : ℕ) → w u v ++ (puts u v d ++ put_for v (own u ds)) ≡ (takes u v d ++ taken_from u (own v ds)) ++ rest u v =
    λ u v.
    ap (λ xs. w u v ++ xs) (sym (first (λ d. option_to_list d.put) (λ x. x.item.receiver == v) u d ds))
    ∙ even u v
    ∙ ap (λ xs. xs ++ rest u v) (first (λ d. option_to_list d.taken) (λ x. x.item.sender == u) v d ds) in
    let late : (u v : ℕ) → AllByRecursion (λ x. d.event.stamp ≤ x.stamp) (put_for v (own u (d ∷ ds))) =
    λ u v. puts-late d.event.stamp (λ x. x.item.receiver == v) u (d ∷ ds) (omega arith, order.0) are in
    let front : (u v : ℕ) → w u v ≡ takes u v d ++ without w d u v =
    λ u v.
    waits_first d.event.stamp (takes u v d) (w u v) (puts u v d ++ put_for v (own u ds)) (taken_from u (own v ds) ++ rest u v)
    (equal u v ∙ append_assoc (takes u v d) (taken_from u (own v ds)) (rest u v))
    (takes-early u v d are.0)
    (subst (AllByRecursion (λ x. d.event.stamp ≤ x.stamp)) (first (λ d. option_to_list d.put) (λ x. x.item.receiver == v) u d ds) (late u v)) in (
      front,
      flows ds (moved w d) rest order.1 are.1
          (λ u v. goes_on (w u v) (takes u v d) (without w d u v) (puts u v d) (put_for v (own u ds)) (taken_from u (own v ds)) (rest u v) (equal u v) (front u v)),
    )
