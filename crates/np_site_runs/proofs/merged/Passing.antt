-- An event that takes what an earlier one put on its way has a greater stamp.
use Rattle.std.proofs.Common.{◌≡◌, ◌==◌, ◌<◌, ◌≤◌, inl, inr, ⊎_elim, ℕ, true, false, List, [], ◌∷◌, ◌++◌, map, Option, None, Some, IfSome, option_to_list, filter, flat_map, refl, sym, ap, subst, ◌∙◌, arith}
use Rattle.std.proofs.lemmas.Bool.{eq-eqb}
use Rattle.std.specs.List.{AllByRecursion}
use Rattle.np_calculus.proofs.Common.{Config, Contents}
use Rattle.np_calculus.specs.Parts.{IsApart}
use Rattle.np_calculus.proofs.Fits.{some}
use Rattle.np_calculus.proofs.FrameRule.{none-some}
use Rattle.np_site_runs.specs.merged.Joined.{AreApart, together}
use Rattle.np_site_runs.specs.merged.Links.{Linked, Links, Move, MovesTo, air, loads, over, spread}
use Rattle.np_site_runs.specs.merged.Steps.{IsSpread, sites}
use Rattle.np_site_runs.proofs.merged.Joined.{divide_apart, reorder-apart}
use Rattle.np_site_runs.proofs.merged.Links.{merged_run, took}
use Rattle.run_merge.specs.declared.rank.Ranked.{Ranked}
use Rattle.run_merge.specs.InOrder.{Ascends}
use Rattle.run_merge.specs.Merged.{comes_before, items}
use Rattle.run_merge.proofs.InOrder.{all_weaker, ascends-in_order}
use Rattle.run_merge.proofs.Ranks.{ranks_order}
use Rattle.np_site_runs.specs.merged.Deeds.{AreSiteRuns, Deed, SiteRuns, StampedItem, at_start, plain}
use Rattle.np_site_runs.specs.merged.StampedLaws.{AreRecorded}
use Rattle.stamp_history.specs.Histories.{Recorded}
use Rattle.np_site_runs.specs.merged.Elements.{Occurs}
use Rattle.np_site_runs.specs.merged.Passing.{Meets, PassesOn, TakenLater}
use Rattle.np_syntax.proofs.Options.{there-is}
use Rattle.np_site_runs.proofs.merged.Elements.{every-occurs, mapped-occurs, occurs-either, occurs-filter, occurs-first, occurs-if, occurs-map, occurs-second, over-occurs}
use Rattle.np_site_runs.specs.merged.Turns.{Waiting, moved, none_waits, puts, puts_at, takes, without}
use Rattle.np_site_runs.proofs.merged.Flowing.{IsByStamp, IsStamped}
use Rattle.np_site_runs.proofs.merged.Merging.{all_deeds, all_unmap, clocked, deeds_of, in_turn, of-site, ranked_deed, turns-by_stamp}
use Rattle.np_site_runs.proofs.merged.Moving.{Fits, MovesOn, Shows, move_of, moves_on}
use Rattle.np_site_runs.proofs.merged.Resting.{atom-out, packet-out, place-out}
use Rattle.np_site_runs.proofs.merged.Running.{begins, fits, turns-stamped}

-- ---- what waits is apart from what is taken

-- what is apart from all of these meets none of them
no-meeting : (ps : List Contents) (x y : Contents) → AreApart ps → IsApart y (together ps) → Occurs (λ p. p ≡ x) ps → Meets x y → ⊥
no-meeting ps x y apart far h (inl (q, here, there)) =
    let p = there-is (x.place q) here in
    none-some ((together ps).place q) (far.agents q there)
    (some ((together ps).place q) p.0 (place-out ps q p.0 apart (occurs-map (λ p. p ≡ x) (λ z. z.place q ≡ Some p.0) (λ z same. ap (λ (z : Contents). z.place q) same ∙ p.1) ps h)))
no-meeting ps x y apart far h (inr (q, inl here, there)) =
    let p = there-is (x.atom q) here in
    none-some ((together ps).atom q) (far.marks q there).atom
    (some ((together ps).atom q) p.0 (atom-out ps q p.0 apart (occurs-map (λ p. p ≡ x) (λ z. z.atom q ≡ Some p.0) (λ z same. ap (λ (z : Contents). z.atom q) same ∙ p.1) ps h)))
no-meeting ps x y apart far h (inr (q, inr here, there)) =
    let p = there-is (x.packet q) here in
    none-some ((together ps).packet q) (far.marks q there).packet
    (some ((together ps).packet q) p.0 (packet-out ps q p.0 apart (occurs-map (λ p. p ≡ x) (λ z. z.packet q ≡ Some p.0) (λ z same. ap (λ (z : Contents). z.packet q) same ∙ p.1) ps h)))

-- what stays on the links is apart from what a move takes
stays-apart : (n : ℕ) (g f : Linked) (m : Move) (c : Config) → IsSpread n (spread n g) c → (to : MovesTo n g m f) → AreApart (loads m.taken ++ air n to.between)
stays-apart n g f m c i to =
    let apart = (divide_apart (sites n g.here) (air n g.link) i.joined.apart).1 in
    (reorder-apart (took n m.event.site g.link to.between m.taken to.within to.takes) apart).1

-- an item that waits is on the links
on-links : (n : ℕ) (link : Links) (w : Waiting) (x : StampedItem) (u v : ℕ) → u < n → v < n → Shows link w → Occurs (λ z. z ≡ x) (w u v) → Occurs (λ p. p ≡ x.item.load) (air n link)
on-links n link w x u v from to shows h =
    over-occurs (λ p. p ≡ x.item.load) n (λ u. over n (λ t. map (λ x. x.load) (link u t))) u from
    (over-occurs (λ p. p ≡ x.item.load) n (λ t. map (λ x. x.load) (link u t)) v to
    (mapped-occurs (λ p. p ≡ x.item.load) (λ x. x.load) (link u v)
    (subst (Occurs (λ z. z.load ≡ x.item.load)) (sym (shows u v))
    (mapped-occurs (λ z. z.load ≡ x.item.load) (λ x. x.item) (w u v)
    (occurs-map (λ z. z ≡ x) (λ z. z.item.load ≡ x.item.load) (λ z same. ap (λ (z : StampedItem). z.item.load) same) (w u v) h)))))

-- ---- an item that waits is taken by a later event

listed-is : (o : Option StampedItem) (x : StampedItem) → Occurs (λ z. z ≡ x) (option_to_list o) → o ≡ Some x
listed-is None x h = absurd h
listed-is (Some z) x (inl same) = ap Some same
listed-is (Some z) x (inr h) = absurd h

takes-is : (u v : ℕ) (d : Deed) (x : StampedItem) → Occurs (λ z. z ≡ x) (takes u v d) → d.taken ≡ Some x
takes-is u v d x h =
    listed-is d.taken x
    (occurs-filter (λ z. z ≡ x) (λ x. x.item.sender == u) (option_to_list d.taken) (occurs-if (λ z. z ≡ x) (d.event.event.site == v) (filter (λ x. x.item.sender == u) (option_to_list d.taken)) h))

-- who takes the item, or what meets it, does so with a greater stamp
abbrev TakesLate : StampedItem → Deed → Type 0
TakesLate x e = (y : StampedItem) → e.taken ≡ Some y → Meets x.item.load y.item.load → x.stamp < e.event.stamp

taken-later : (n : ℕ) (ds : List Deed) (g : Linked) (end : ℕ → Config) (w rest : Waiting) (c : Config) (x : StampedItem) (u v : ℕ) → Fits n ds g end w rest
    → AllByRecursion IsStamped ds → IsByStamp ds → IsSpread n (spread n g) c → u < n → v < n → Occurs (λ z. z ≡ x) (w u v) → AllByRecursion (TakesLate x) ds
taken-later n [] g end w rest c x u v fits stamped order i from to h = tt
taken-later n (d ∷ ds) g end w rest c x u v fits stamped order i from to h = ⊎_elim
    (λ now.
    let is : d.taken ≡ Some x = takes-is u v d x now in
    let low : x.stamp < d.event.stamp = subst (λ o. IfSome o (λ x. x.stamp < d.event.stamp)) is stamped.0.taken in
    ((λ y taken meets. low), all_weaker (λ (e : Deed). d.event.stamp ≤ e.event.stamp) (TakesLate x) (λ e late y taken meets. omega arith) ds order.0))
    (λ stays.
    let on = moves_on n d ds g end w rest fits in
    let next = merged_run n (move_of d ∷ []) g on.next c i (on.next, on.move, refl) in
    let apart = stays-apart n g on.next (move_of d) c i on.move in (
      (λ y taken meets.
          let far = subst (λ o. AreApart (loads (plain o) ++ air n on.move.between)) taken apart in
          absurd (no-meeting (air n on.move.between) x.item.load y.item.load far.1 far.0 (on-links n on.move.between (without w d) x u v from to on.left stays) meets)),
      taken-later n ds on.next end (moved w d) rest next.0 x u v on.fits stamped.1 order.1 next.2 from to (occurs-first (λ z. z ≡ x) (without w d u v) (puts u v d) stays),
    ))
    (occurs-either (λ z. z ≡ x) (takes u v d) (without w d u v) (subst (Occurs (λ z. z ≡ x)) (fits.flow.0 u v) h))

-- ---- all events

-- each takes what earlier ones put with a greater stamp
abbrev pub PassLate : Deed → Deed → Type 0
PassLate d e = PassesOn d e → d.event.stamp < e.event.stamp

abbrev pub AllPassLate : List Deed → Type 0
AllPassLate [] = Unit {0}
AllPassLate (d ∷ ds) = AllByRecursion (PassLate d) ds × AllPassLate ds

puts-here : (s : ℕ) (x : StampedItem) → puts_at s x.item.receiver s (Some x) ≡ x ∷ []
puts-here s x = rw (eq-eqb s s refl, eq-eqb x.item.receiver x.item.receiver refl) refl

all-late : (n : ℕ) (ds : List Deed) (g : Linked) (end : ℕ → Config) (w rest : Waiting) (c : Config) → Fits n ds g end w rest
    → AllByRecursion IsStamped ds → IsByStamp ds → IsSpread n (spread n g) c → AllPassLate ds
all-late n [] g end w rest c fits stamped order i = tt
all-late n (d ∷ ds) g end w rest c fits stamped order i =
    let on = moves_on n d ds g end w rest fits in
    let next = merged_run n (move_of d ∷ []) g on.next c i (on.next, on.move, refl) in
    (first d.put refl on next.0 next.2, all-late n ds on.next end (moved w d) rest next.0 on.fits stamped.1 order.1 next.2)
  where
    first : (o : Option StampedItem) → d.put ≡ o → (on : MovesOn n d ds g end w rest) (c1 : Config) → IsSpread n (spread n on.next) c1 → AllByRecursion (PassLate d) ds
    first None is on c1 j = all_weaker (λ (e : Deed). d.event.stamp ≤ e.event.stamp) (PassLate d) (λ e late p. let none : None ≡ Some p.put = sym is ∙ p.puts in absurd cc) ds order.0
    first (Some x) is on c1 j =
        let to : x.item.receiver < n = subst (λ o. IfSome o (λ x. x.item.receiver < n)) is fits.among.0.to in
        let stamp : x.stamp ≡ d.event.stamp = subst (λ o. IfSome o (λ x. x.stamp ≡ d.event.stamp)) is stamped.0.put in
        let there : puts d.event.event.site x.item.receiver d ≡ x ∷ [] = ap (puts_at d.event.event.site x.item.receiver d.event.event.site) is ∙ puts-here d.event.event.site x in
        let waits : Occurs (λ z. z ≡ x) (moved w d d.event.event.site x.item.receiver) =
        occurs-second (λ z. z ≡ x) (without w d d.event.event.site x.item.receiver) (puts d.event.event.site x.item.receiver d) (subst (Occurs (λ z. z ≡ x)) (sym there) (inl refl)) in
        all_weaker (TakesLate x) (PassLate d)
        (λ e late p.
        let same : x ≡ p.put = (let e : Some x ≡ Some p.put = sym is ∙ p.puts in cc) in
        let less : x.stamp < e.event.stamp = late p.taken p.takes (subst (λ (z : StampedItem). Meets z.item.load p.taken.item.load) (sym same) p.meets) in
        omega arith) ds
        (taken-later n ds on.next end (moved w d) rest c1 x d.event.event.site x.item.receiver on.fits stamped.1 order.1 j fits.among.0.at to waits)

-- ---- by ranks

of-two : (rs : List (Ranked Deed)) (x y : Ranked Deed) → Ascends comes_before rs → AllPassLate (items rs) → Occurs (λ z. z ≡ x) rs → Occurs (λ z. z ≡ y) rs
    → comes_before x y ≡ true → PassLate x.item y.item
of-two [] x y up late h k less = absurd h
of-two (r ∷ rs) x y up late (inl same) (inl alike) less =
    let itself : comes_before r r ≡ true = subst (λ z. comes_before r z ≡ true) (sym alike) (subst (λ z. comes_before z y ≡ true) (sym same) less) in
    let not = ranks_order.one_way r r itself in
    absurd cc
of-two (r ∷ rs) x y up late (inl same) (inr k) less =
    subst (λ (z : Ranked Deed). PassLate z.item y.item) same (every-occurs (λ z. PassLate r.item z.item) y rs (all_unmap (PassLate r.item) (λ r. r.item) rs late.0) k)
of-two (r ∷ rs) x y up late (inr h) (inl alike) less =
    let not : comes_before x r ≡ false = every-occurs (λ z. comes_before z r ≡ false) x rs up.0 h in
    let is : comes_before x r ≡ true = subst (λ z. comes_before x z ≡ true) (sym alike) less in
    absurd cc
of-two (r ∷ rs) x y up late (inr h) (inr k) less = of-two rs x y up.1 late.1 h k less

-- all events in the order of the merged history
pub all_pass_late : (n : ℕ) (r : SiteRuns) (hs : List Recorded) (c : Config) → AreSiteRuns n r → AreRecorded hs r → IsSpread n (at_start r) c → AllPassLate (in_turn r.deeds hs)
all_pass_late n r hs c runs are shows =
    all-late n (in_turn r.deeds hs) (record { here = r.start; link = λ u v. [] }) r.end none_waits r.rest c
    (fits n r hs runs are) (turns-stamped n r hs (clocked n r runs) are) (turns-by_stamp n r hs (clocked n r runs) are) (begins n r c shows)

pub taken_later : TakenLater
taken_later n r hs c s t d e runs are shows first second before passes =
    let up = ascends-in_order (comes_before {X = Deed}) ranks_order (flat_map (deeds_of r.deeds) hs) in
    let late = all_pass_late n r hs c runs are shows in
    let among : (s : ℕ) (d : Deed) → Occurs (λ x. x ≡ d) (r.deeds s) → Occurs (λ x. x ≡ ranked_deed s d) (all_deeds r.deeds hs) =
    λ s d h.
    occurs-filter (λ x. x ≡ ranked_deed s d) (λ r. r.rank.site == s) (all_deeds r.deeds hs)
    (subst (Occurs (λ x. x ≡ ranked_deed s d)) (sym (of-site n r hs (clocked n r runs) are s))
    (mapped-occurs (λ x. x ≡ ranked_deed s d) (ranked_deed s) (r.deeds s) (occurs-map (λ x. x ≡ d) (λ x. ranked_deed s x ≡ ranked_deed s d) (λ x same. ap (ranked_deed s) same) (r.deeds s) h))) in
    of-two (all_deeds r.deeds hs) (ranked_deed s d) (ranked_deed t e) up late (among s d first) (among t e second) before passes
