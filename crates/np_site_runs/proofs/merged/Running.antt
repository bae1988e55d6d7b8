-- The merged history is a run of the whole, and its stamps are few.
use Rattle.std.proofs.Common.{◌≡◌, ◌<◌, ◌≤◌, ◌+◌, ⊎_elim, ℕ, zero, suc, List, [], ◌++◌, length, map, refl, sym, ap, ap₂, subst, ◌∙◌, arith}
use Rattle.std.proofs.lemmas.List.{length-map}
use Rattle.std.proofs.lemmas.Simd.{map-map}
use Rattle.std.specs.List.{AllByRecursion}
use Rattle.np_calculus.specs.Config.{Config}
use Rattle.np_calculus.specs.Reductions.{run}
use Rattle.np_site_runs.specs.merged.Links.{Move, air, over, spread}
use Rattle.np_site_runs.specs.merged.Steps.{IsSpread}
use Rattle.np_site_runs.proofs.merged.Links.{merged_run}
use Rattle.stamp_history.specs.Histories.{Recorded}
use Rattle.run_merge.specs.Merged.{merged, items}
use Rattle.run_merge.proofs.InOrder.{all_map, all_weaker}
use Rattle.np_site_runs.specs.merged.Deeds.{AreSiteRuns, IsDeedOf, Leads, SiteRuns, Ticks, TicksByOne, at_start, put_for, taken_from}
use Rattle.np_site_runs.specs.merged.StampedLaws.{AreRecorded, MergedIsRun, StampsAreFew}
use Rattle.np_site_runs.proofs.merged.Counting.{few, ticks-stamped}
use Rattle.np_site_runs.specs.merged.Turns.{AreClocked, AreInTurn, Flows, IsAmong, none_waits}
use Rattle.np_site_runs.proofs.merged.Flowing.{IsStamped, all_both, flows}
use Rattle.np_site_runs.proofs.merged.Merging.{all-ranks, all_deeds, all_in_turn, all_unmap, clocked, in_turn, own-turns, turns-by_stamp, turns-events, turns-merged}
use Rattle.np_site_runs.proofs.merged.Moving.{Fits, below_or_not, move_of, moves}

over-nothing : {A : Type 0} (n : ℕ) (f : ℕ → List A) → ((u : ℕ) → f u ≡ []) → over n f ≡ []
over-nothing zero f none = refl
over-nothing (suc n) f none = ap₂ (λ xs ys. xs ++ ys) (none n) (over-nothing n f none)

module _ (n : ℕ) (r : SiteRuns) (hs : List Recorded) (runs : AreClocked n r.deeds r.rest) (are : AreRecorded hs r) where
  pub turns-stamped : AllByRecursion IsStamped (in_turn r.deeds hs)
  turns-stamped = all_in_turn IsStamped r.deeds (λ s. ticks-stamped 0 (r.deeds s) (runs.ticks s)) hs

  flow : Flows none_waits (in_turn r.deeds hs) r.rest
  flow = flows (in_turn r.deeds hs) none_waits r.rest (turns-by_stamp n r hs runs are)
      turns-stamped
      (λ u v.
      ap (put_for v) (own-turns n r hs runs are u) ∙ runs.links u v ∙ ap (λ ds. taken_from u ds ++ r.rest u v) (sym (own-turns n r hs runs are v)))

  among : (s : ℕ) → AllByRecursion (IsAmong n) (r.deeds s)
  among s = ⊎_elim
      (λ less. all_weaker (IsDeedOf n s) (IsAmong n) (λ d is. record { at = subst (λ u. u < n) (sym is.at) less; to = is.to }) (r.deeds s) (runs.own s))
      (λ above. subst (AllByRecursion (IsAmong n)) (sym (runs.others s above)) tt)
      (below_or_not s n)

  pub are_in_turn : AreInTurn n r.deeds r.rest (in_turn r.deeds hs)
  are_in_turn = record { each = own-turns n r hs runs are; among = all_in_turn (IsAmong n) r.deeds among hs; flow = flow }

  stamps : ((s : ℕ) → TicksByOne 0 (r.deeds s)) → AllByRecursion (λ d. d.event.stamp ≤ 0 + length (in_turn r.deeds hs)) (in_turn r.deeds hs)
      × ((u v : ℕ) → AllByRecursion (λ x. x.stamp ≤ 0 + length (in_turn r.deeds hs)) (r.rest u v))
  stamps by_one = few 0 (in_turn r.deeds hs) (λ s. 0) none_waits r.rest (λ s. subst (Ticks 0) (sym (own-turns n r hs runs are s)) (runs.ticks s))
      (λ s. subst (TicksByOne 0) (sym (own-turns n r hs runs are s)) (by_one s))
      (λ s. omega arith) (λ u v. tt) flow

-- what holds before the first of the deeds
module _ (n : ℕ) (r : SiteRuns) (hs : List Recorded) (runs : AreSiteRuns n r) (are : AreRecorded hs r) where
  pub fits : Fits n (in_turn r.deeds hs) (record { here = r.start; link = λ u v. [] }) r.end none_waits r.rest
  fits = record {
    among = (are_in_turn n r hs (clocked n r runs) are).among;
    leads = λ s. subst (λ ds. Leads (r.start s) ds (r.end s)) (sym (own-turns n r hs (clocked n r runs) are s)) (runs.each s).leads;
    shows = λ u v. refl;
    none = λ u v above. refl;
    flow = (are_in_turn n r hs (clocked n r runs) are).flow;
  }

-- nothing is on links that are empty
pub begins : (n : ℕ) (r : SiteRuns) (c : Config) → IsSpread n (at_start r) c → IsSpread n (spread n (record { here = r.start; link = λ u v. [] })) c
begins n r c shows =
    let empty : air n (λ u v. []) ≡ [] = over-nothing n (λ u. over n (λ t. [])) (λ u. over-nothing n (λ t. []) (λ t. refl)) in
    subst (λ xs. IsSpread n (record { here = r.start; air = xs }) c) (sym empty) shows

pub merged_is_run : MergedIsRun
merged_is_run n r hs c runs are shows =
    let one = merged_run n (map move_of (in_turn r.deeds hs)) _ _ c (begins n r c shows)
    (moves n (in_turn r.deeds hs) _ r.end none_waits r.rest (fits n r hs runs are)) in
    let events : map (λ (m : Move). m.event) (map move_of (in_turn r.deeds hs)) ≡ items (merged hs) =
    map-map (λ (m : Move). m.event) move_of (in_turn r.deeds hs) ∙ turns-events n r hs (clocked n r runs) are in
    (one.0, ap (run c) (sym events) ∙ one.1, one.2)

pub stamps_are_few : StampsAreFew
stamps_are_few n r hs runs by_one are =
    let all = stamps n r hs (clocked n r runs) are by_one in
    let number : length (in_turn r.deeds hs) ≡ length (merged hs) =
    length-map (all_deeds r.deeds hs) (λ r. r.item) ∙ sym (length-map (all_deeds r.deeds hs) _) ∙ ap length (turns-merged n r hs (clocked n r runs) are) in
    let ranks = all_both _ _ (all_deeds r.deeds hs) (all-ranks n r hs (clocked n r runs) are) (all_unmap _ (λ r. r.item) (all_deeds r.deeds hs) all.0) in
    record {
      events = subst (AllByRecursion (λ e. e.rank.stamp ≤ length (merged hs))) (turns-merged n r hs (clocked n r runs) are)
          (all_map (λ e. e.rank.stamp ≤ length (merged hs)) _ (all_deeds r.deeds hs)
          (all_weaker _ (λ x. x.rank.stamp ≤ length (merged hs)) (λ x is.
          let low : x.item.event.stamp ≤ 0 + length (in_turn r.deeds hs) = is.1 in
          let same : x.item.event.stamp ≡ x.rank.stamp = is.0.stamp in
          omega arith) (all_deeds r.deeds hs) ranks));
      items = λ s t. all_weaker (λ x. x.stamp ≤ 0 + length (in_turn r.deeds hs)) (λ x. x.stamp ≤ length (merged hs)) (λ x is. omega arith)
          (r.rest s t) (all.1 s t);
    }
