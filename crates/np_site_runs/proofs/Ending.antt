-- Where the merged history of sites leads, and when the whole rests.
use Rattle.std.proofs.Common.{◌≡◌, ◌==◌, ℕ, inl, inr, List, [], ◌∷◌, map, Option, None, Some, IfSome, option_to_list, flat_map, refl, sym, ap, ap₂, subst, ◌∙◌}
use Rattle.std.specs.FinMap as table
use Rattle.std.specs.List.{AllByRecursion}
use Rattle.np_syntax.specs.declared.value.Name.{Name}
use Rattle.np_calculus.specs.declared.config.Atom.{Atom}
use Rattle.np_calculus.specs.Config.{Config}
use Rattle.np_calculus.specs.Idle.{Can}
use Rattle.np_calculus.specs.Starts.{start_low}
use Rattle.stamp_history.specs.Histories.{Recorded}
use Rattle.run_merge.proofs.InOrder.{all_filter, all_flat_map, all_weaker}
use Rattle.np_site_runs.specs.merged.Deeds.{Deed, StampedItem, taken_from}
use Rattle.np_site_runs.specs.merged.Elements.{Occurs}
use Rattle.np_site_runs.specs.merged.StampedLaws.{AreRecorded, IsSaid}
use Rattle.np_site_runs.specs.merged.Resting.{Brings}
use Rattle.np_site_runs.proofs.merged.Acting.{acts_along}
use Rattle.np_site_runs.proofs.merged.Linking.{all_second}
use Rattle.np_site_runs.proofs.merged.Resting.{idle_in_parts}
use Rattle.np_site_runs.proofs.merged.Running.{merged_is_run}
use Rattle.np_site_runs.proofs.merged.Saying.{said_in_order}
use Rattle.np_site_runs.specs.Holdings.{Holding, IsPart}
use Rattle.np_site_runs.specs.Ending.{HasPrinted, HeldRunsEnd, IsLoad, LowRunsEnd, PutLoads, RestsInHoldings, StillByOne, ending}
use Rattle.np_site_runs.specs.SiteRuns.{AreHeldRuns, HeldRuns, by_configs}
use Rattle.np_site_runs.proofs.Running.{held_runs_are_runs}
use Rattle.np_site_runs.proofs.Starting.{low_start_is_held}

-- ---- the end

printed-there : (h : Recorded) (e : Holding) (c : Config) → IsPart e c → HasPrinted e h → c.said ≡ map (λ v. (h.site, v)) h.said
printed-there h e c part is = part.said ∙ ap₂ (λ s vs. map (λ v. (s, v)) vs) is.site is.said

pub held_runs_end : HeldRunsEnd
held_runs_end n r hs here c runs kept parts silent shows =
    let t = held_runs_are_runs n r here c runs parts shows in
    let are : AreRecorded hs (by_configs r here t.0) = record { histories = kept.histories; events = kept.events; others = kept.others } in
    let printed : IsSaid hs (by_configs r here t.0) = record {
      silent = λ s. (parts s).said ∙ ap (map (λ v. ((r.start s).site, v))) (silent s);
      values = all_weaker (λ h. HasPrinted (r.end h.site) h) (λ h. (t.0 h.site).said ≡ map (λ v. (h.site, v)) h.said)
          (λ h is. printed-there h (r.end h.site) (t.0 h.site) (t.1 h.site) is) hs kept.printed;
    } in
    let one = merged_is_run n (by_configs r here t.0) hs c t.2 are shows in
    record {
      here = t.0;
      parts = t.1;
      whole = one.0;
      runs = one.1;
      said = said_in_order n (by_configs r here t.0) hs c one.0 t.2 are printed shows one.1 one.2;
      spread = one.2;
    }

pub low_runs_end : LowRunsEnd
low_runs_end q r hs less runs kept starts =
    let t = low_start_is_held q less in
    held_runs_end _ r hs t.0 (start_low q) runs kept (λ s. subst (λ h. IsPart h (t.0 s)) (sym (starts s)) (t.1 s))
    (λ s. ap (λ (h : Holding). h.said) (starts s)) t.2

-- ---- what can act in one configuration that a site's holding is can in another

module _ (h : Holding) (c d : Config) (one : IsPart h c) (other : IsPart h d) where
  atom-too : (m : Name) (a : Atom) → table.get d.atoms m ≡ Some a → table.get c.atoms m ≡ Some a
  atom-too m a is = one.has m a (other.only m a is)

  can-too : (site : ℕ) → Can d site → Can c site
  can-too site (inl p) = let none : None ≡ Some p.packet = sym (other.packets p.mark) ∙ p.flies in absurd cc
  can-too site (inr (inl a)) = inr (inl (record { agent = a.agent; comes = one.places a.agent ∙ sym (other.places a.agent) ∙ a.comes }))
  can-too site (inr (inr a)) = inr (inr (record {
    agent = a.agent;
    stands = one.places a.agent ∙ sym (other.places a.agent) ∙ a.stands;
    works = acts_along d c a.agent (λ m b there of. atom-too m b there) a.works;
  }))

pub still_by_one : StillByOne
still_by_one h c part idle d other site can = idle site (can-too h c d part other site can)

-- ---- what is left on the links

listed : (P : StampedItem → Type 0) (o : Option StampedItem) → IfSome o P → AllByRecursion P (option_to_list o)
listed P None h = tt
listed P (Some x) h = (h, tt)

-- what holds of each item that is put
pub all-put : (P : StampedItem → Type 0) (ds : List Deed) → AllByRecursion (λ d. IfSome d.put P) ds → AllByRecursion P (flat_map (λ d. option_to_list d.put) ds)
all-put P ds all =
    all_flat_map P (λ d. option_to_list d.put) ds
    (all_weaker (λ d. IfSome d.put P) (λ d. AllByRecursion P (option_to_list d.put)) (λ d is. listed P d.put is) ds all)

loads-left : (n : ℕ) (r : HeldRuns) → AreHeldRuns n r → PutLoads r → (s t : ℕ) → AllByRecursion (λ x. IsLoad x.item.load) (r.rest s t)
loads-left n r runs put s t =
    all_second (λ x. IsLoad x.item.load) (taken_from s (r.deeds t)) (r.rest s t)
    (subst (AllByRecursion (λ x. IsLoad x.item.load)) (runs.links s t)
    (all_filter (λ x. IsLoad x.item.load) (λ x. x.item.receiver == t) (flat_map (λ d. option_to_list d.put) (r.deeds s))
    (all-put (λ x. IsLoad x.item.load) (r.deeds s) (put s))))

none-left : (xs : List StampedItem) → AllByRecursion (λ x. IsLoad x.item.load) xs
    → ((site : ℕ) → Occurs (λ x. Brings site x.load) (map (λ x. x.item) xs) → ⊥) → xs ≡ []
none-left [] loads none = refl
none-left (x ∷ xs) loads none = absurd (none loads.0.0 (inl loads.0.1))

pub rests_in_holdings : RestsInHoldings
rests_in_holdings n r here whole runs put parts shows =
    let split = idle_in_parts n (ending r here) whole shows in (
      (λ idle.
          let both = split.0 idle in (
            λ s less. still_by_one (r.end s) (here s) (parts s) (both.0 s less),
            λ s t from to. none-left (r.rest s t) (loads-left n r runs put s t) (λ site h. both.1 site (s, t, from, to, h)),
          )),
      (λ (still, empty).
          split.1 (
            λ u less. still u less (here u) (parts u),
            λ site (u, t, from, to, h). subst (λ xs. Occurs (λ x. Brings site x.load) (map (λ x. x.item) xs)) (empty u t from to) h,
          )),
    )
