-- What a crew adds behind events that were done again.
use Rattle.std.proofs.Common.{◌≡◌, ◌<◌, ◌++◌, ℕ, List, length, get_or, subst, subst₂}
use Rattle.std.specs.List.{AllByRecursion}
use Rattle.std.proofs.lemmas.Option.{slice_get_within, get_or_from_slice_get}
use Rattle.stamp_history.specs.declared.stamped.Stamped.{Stamped}
use Rattle.stamp_history.specs.Histories.{IsHistory, Recorded}
use Rattle.run_save.specs.following.Following.{AreInPlace, HaveLater}
use Rattle.site_crew.specs.Crews.{AddsLater, CrewState}
use Rattle.site_crew.specs.Runs.{AreHistoriesOf}

pub in_place : (n budget : ℕ) (hs : List Recorded) → AreHistoriesOf n budget hs → AreInPlace hs
in_place n budget hs are = record {
  each = λ s h at.
      let less : s < length hs = slice_get_within hs s h at in
      let same : get_or hs s h ≡ h = get_or_from_slice_get hs s h h at in
      let its = are.each s h (subst (λ (m : ℕ). s < m) are.count less) in
      (subst (λ (k : Recorded). k.site ≡ s) same its.site, subst IsHistory same its.history);
}

pub have_later : (n : ℕ) (a b : CrewState) → ((s : ℕ) → s < length a.histories → get_or a.clocks s 0 ≡ n) → AddsLater a b → HaveLater n a.histories b.histories
have_later n a b clocks later = record {
  count = later.count;
  each = λ s h k there now.
      let less : s < length a.histories = slice_get_within a.histories s h there in
      let was : get_or a.histories s h ≡ h = get_or_from_slice_get a.histories s h h there in
      let is : get_or b.histories s h ≡ k = get_or_from_slice_get b.histories s k h now in
      let added = later.each s h less in (
        added.begins.rest,
        subst₂ (λ (x y : Recorded). y.events ≡ x.events ++ added.begins.rest) was is added.begins.is,
        subst (λ (m : ℕ). AllByRecursion (λ (e : Stamped). m < e.stamp) added.begins.rest) (clocks s less) added.above,
      );
}
