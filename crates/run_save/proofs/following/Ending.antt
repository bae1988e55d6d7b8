-- What sites did by themselves is a run that is ours, and its links are told.
use Rattle.std.proofs.Common.{◌≡◌, ◌<◌, ◌==◌, ℕ, nat_eq, cond, false, IfSome, option_to_list, flat_map, List, [], ◌++◌, length, map, refl, sym, ap, subst, ◌∙◌, arith}
use Rattle.std.proofs.lemmas.Bool.Decides.{nat_tests}
use Rattle.std.specs.List.{AllByRecursion}
use Rattle.np_syntax.specs.declared.program.LowProgram.{LowProgram}
use Rattle.np_calculus.specs.Config.{Config}
use Rattle.np_calculus.specs.Starts.{own_numbers, start_low}
use Rattle.stamp_history.specs.Histories.{Recorded}
use Rattle.run_merge.specs.Merged.{items, merged}
use Rattle.run_merge.proofs.InOrder.{all_filter}
use Rattle.np_site_runs.specs.merged.Deeds.{Deed, put_for}
use Rattle.np_site_runs.specs.merged.StampedLaws.{AreRecorded}
use Rattle.np_site_runs.specs.merged.Turns.{none_waits, own}
use Rattle.np_site_runs.proofs.merged.Flowing.{all_both}
use Rattle.np_site_runs.proofs.merged.Merging.{in_turn, own-turns, turns-events}
use Rattle.np_site_runs.proofs.merged.Running.{are_in_turn}
use Rattle.np_site_runs.specs.Accounts.{Accounts, AreSettled, AreTheirs, came_on, held_runs}
use Rattle.np_site_runs.specs.Acting.{LeadsTo}
use Rattle.np_site_runs.specs.Ending.{IsLoad, PutLoads}
use Rattle.np_site_runs.specs.SiteRuns.{AreHeldRuns, HeldRuns, by_configs}
use Rattle.np_site_runs.specs.Starting.{start_holding}
use Rattle.np_site_runs.proofs.Accounts.{inner, kept, rest-is, settled_are_runs}
use Rattle.np_site_runs.proofs.Ending.{all-put}
use Rattle.np_site_runs.proofs.Running.{clocked, is_held}
use Rattle.np_site_runs.proofs.Starting.{low_start_is_held}
use Rattle.run_save.specs.Ours.{IsOurs, IsOursFrom}
use Rattle.run_save.specs.Travels.{Travels, on_link, travels}
use Rattle.run_save.proofs.RunLaws.{nothing-ours}
use Rattle.run_save.specs.following.TravelLaws.{PutsLead, IsLinkTold, LinksAreTold, SettledAreOurs, link}
use Rattle.run_save.specs.following.ByKind.{DeedsAreOfKinds, IsOfKind}
use Rattle.run_save.specs.following.Shown.{ShowEach}
use Rattle.run_save.proofs.following.Lists.{show-front}
use Rattle.run_save.proofs.following.Turns.{AreRight, IsDone, IsReached, all-done}

apart : (s n : ℕ) → s < n → nat_eq s n ≡ false
apart s n less = grind (arith, nat_tests)

module _ (q : LowProgram) (r : Accounts) (hs : List Recorded) (less : q.at < length q.sites) (settled : AreSettled (length q.sites) (start_holding q) r)
    (theirs : AreTheirs (length q.sites) r hs) (right : PutsLead (length q.sites) r) where
  abbrev n : ℕ
  n = length q.sites

  abbrev whole : HeldRuns
  whole = held_runs (length q.sites) (start_holding q) r

  runs : AreHeldRuns n whole × PutLoads whole
  runs = settled_are_runs (length q.sites) (start_holding q) r settled

  recorded : (here : ℕ → Config) → AreRecorded hs (by_configs whole here here)
  recorded here =
      let all = kept (length q.sites) (start_holding q) r hs theirs in
      record { histories = all.histories; events = all.events; others = all.others }

  -- the deeds in the order of the merged history
  abbrev deeds : List Deed
  deeds = in_turn whole.deeds hs

  events-are : map (λ d. d.event.event) deeds ≡ items (merged hs)
  events-are =
      let t = low_start_is_held q less in
      turns-events n (by_configs whole t.0 t.0) hs (clocked n whole runs.0) (recorded t.0)

  own-are : (s : ℕ) → s < n → own s deeds ≡ r.deeds s
  own-are s low =
      let t = low_start_is_held q less in
      own-turns n (by_configs whole t.0 t.0) hs (clocked n whole runs.0) (recorded t.0) s ∙ inner n s (r.deeds s) [] low

  right-deeds : AreRight n deeds
  right-deeds u v from to =
      subst (λ ds. AllByRecursion (λ x. LeadsTo v x × IsLoad x.item.load) (put_for v ds)) (sym (own-are u from))
      (all_both (LeadsTo v) (λ x. IsLoad x.item.load) (put_for v (r.deeds u)) (right.each u v from to)
      (all_filter (λ x. IsLoad x.item.load) (λ x. x.item.receiver == v) (flat_map (λ d. option_to_list d.put) (r.deeds u))
      (all-put (λ x. IsLoad x.item.load) (r.deeds u)
      (subst (AllByRecursion (λ d. IfSome d.put (λ x. IsLoad x.item.load))) (inner n u (r.deeds u) [] from) (runs.1 u)))))

  reached : IsReached n (start_low q) [] whole.start (start_low q) none_waits
  reached = record {
    runs = refl;
    ours = nothing-ours (start_low q);
    counts = λ s low. ap (λ b. cond b (length own_numbers) 0) (apart s (length q.sites) low);
    told = record { waits = λ u v. []; are = λ u v h k. refl; shows = λ u v h k. tt; senders = λ u v h k. tt };
  }

  done : IsDone n (start_low q) [] (map (λ d. d.event.event) deeds) deeds whole.rest
  done =
      let t = low_start_is_held q less in
      all-done n (start_low q) deeds whole.start whole.end (record { here = t.0; link = λ u v. [] }) none_waits whole.rest (start_low q) []
      (is_held n whole deeds t.0 (start_low q) runs.0 (are_in_turn n (by_configs whole t.0 t.0) hs (clocked n whole runs.0) (recorded t.0)) t.1 t.2)
      reached
      right-deeds

  pub ours : IsOurs q (items (merged hs))
  ours = subst (IsOursFrom (start_low q)) events-are done.ours

  pub kinds : (s : ℕ) → s < n → AllByRecursion IsOfKind (r.deeds s)
  kinds s low = subst (AllByRecursion IsOfKind) (own-are s low) (all_filter IsOfKind (λ d. d.event.event.site == s) deeds done.kinds)

  module _ (s t : ℕ) (from : s < n) (to : t < n) where
    abbrev trips : Travels
    trips = travels (start_low q) (map (λ d. d.event.event) deeds)

    put-shows : ShowEach t (on_link (link s t) trips.put) (put_for t (r.deeds s))
    put-shows = subst (λ is. ShowEach t is (put_for t (r.deeds s))) (sym (done.more.are s t from to))
        (subst (λ ds. ShowEach t (done.more.more s t) (put_for t ds)) (own-are s from) (done.more.shows s t from to))

    rest-shows : ShowEach t (done.told.waits s t) (r.rest s t)
    rest-shows = subst (ShowEach t (done.told.waits s t)) (rest-is n s t (r.rest s t) from to) (done.told.shows s t from to)

    told : IsLinkTold trips r s t
    told = record {
      put = put-shows;
      taken = show-front t (on_link (link s t) trips.taken) (done.told.waits s t) (came_on s (r.came t)) (r.rest s t)
          (subst (λ is. ShowEach t is (came_on s (r.came t) ++ r.rest s t)) (done.told.are s t from to)
          (subst (ShowEach t (on_link (link s t) trips.put)) (settled.links s t from to) put-shows))
          rest-shows;
      left = done.told.waits s t;
      waits = done.told.are s t from to;
      rest = rest-shows;
      senders = done.told.senders s t from to;
    }

    pub link-told : IsLinkTold (travels (start_low q) (items (merged hs))) r s t
    link-told = subst (λ es. IsLinkTold (travels (start_low q) es) r s t) events-are told

pub settled_are_ours : SettledAreOurs
settled_are_ours q r hs less settled theirs right = ours q r hs less settled theirs right

pub deeds_are_of_kinds : DeedsAreOfKinds
deeds_are_of_kinds q r hs less settled theirs right s low = kinds q r hs less settled theirs right s low

pub links_are_told : LinksAreTold
links_are_told q r hs less settled theirs right s t from to = link-told q r hs less settled theirs right s t from to
