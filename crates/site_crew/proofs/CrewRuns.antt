-- The merged histories of seats that stand between rounds are a run from the low start, which is one that sites make by themselves.
use Rattle.std.proofs.Common.{◌≡◌, ◌<◌, ◌≤◌, ℕ, List, get_or, length, subst, sym}
use Rattle.std.specs.List.{AllByRecursion}
use Rattle.np_calculus.specs.Config.{Config}
use Rattle.np_calculus.specs.Starts.{start_low}
use Rattle.stamp_history.specs.declared.stamped.Stamped.{Stamped}
use Rattle.run_merge.proofs.InOrder.{all_map, all_weaker}
use Rattle.np_site_runs.specs.merged.Deeds.{Deed, IsDeedOf}
use Rattle.run_merge.specs.Stamps.{AreStamped}
use Rattle.np_site_runs.specs.Accounts.{SitesEnd}
use Rattle.np_code.specs.Programs.{ProgramTable, program}
use Rattle.run_save.specs.following.TravelLaws.{PutsLead}
use Rattle.run_save.proofs.following.Ending.{settled_are_ours}
use Rattle.run_save.proofs.following.Stamps.{settled_take_later}
use Rattle.agent_move.specs.declared.item.Item.{Item}
use Rattle.site_links.specs.declared.port.Port as Port
use Rattle.site_turn.specs.declared.seat.Seat.{Seat}
use Rattle.site_crew.specs.Runs.{IsCrewRun, IsProgram}
use Rattle.site_crew.specs.Seats.{Stand, histories}
use Rattle.site_crew.proofs.Clocks.{stamps_few}
use Rattle.site_crew.proofs.Directed.{puts_lead}
use Rattle.site_crew.proofs.Whole.{accounts, are_histories, are_settled, are_theirs, sites_end}

module _ {P R : Type 0} (g : Port.Ghosts P R Item) (code : ProgramTable) (limit : ℕ) where
  are_stamped : (xs : List (Seat P)) → Stand g code limit xs → IsProgram code → AreStamped (program code) limit (histories xs)
  are_stamped xs stand is =
      let are = are_histories g code limit xs stand.seats stand.whole in
      let settled = are_settled g code limit xs stand.seats stand.settled in
      let theirs = are_theirs g code limit xs stand.seats stand.whole in record {
        count = are.count;
        each = λ s d less.
            let low : s < length code.sites = subst (λ (m : ℕ). s < m) are.count less in
            let its = are.each s d low in record {
              site = its.site;
              own = subst (AllByRecursion (λ (e : Stamped). e.event.site ≡ s)) (sym (theirs.each s d low).events)
                  (all_map (λ (e : Stamped). e.event.site ≡ s) (λ (x : Deed). x.event) ((accounts g code limit xs stand.seats).deeds s)
                  (all_weaker (IsDeedOf (length code.sites) s) (λ x. x.event.event.site ≡ s) (λ x is. is.at) ((accounts g code limit xs stand.seats).deeds s)
                  (settled.each s low).run.own));
              rises = its.history.rising;
              within = subst (λ (m : ℕ). length (get_or (histories xs) s d).events ≤ m) its.budget its.history.within;
            };
        later = settled_take_later (program code) (accounts g code limit xs stand.seats) (histories xs) is.at settled theirs;
        few = stamps_few stand.seats stand.settled stand.steady;
      }

  pub run_of : (xs : List (Seat P)) (stand : Stand g code limit xs) → IsProgram code
      → (e : SitesEnd (length code.sites) (accounts g code limit xs stand.seats) (histories xs) (start_low (program code))) → IsCrewRun (program code) limit (histories xs) e.whole
  run_of xs stand is e =
      let lead : PutsLead (length code.sites) (accounts g code limit xs stand.seats) = record { each = puts_lead g code limit xs stand.seats stand.settled } in
      record {
        sites = are_histories g code limit xs stand.seats stand.whole;
        reaches = e.runs;
        said = e.said;
        ours = settled_are_ours (program code) (accounts g code limit xs stand.seats) (histories xs) is.at (are_settled g code limit xs stand.seats stand.settled)
            (are_theirs g code limit xs stand.seats stand.whole) lead;
        stamped = are_stamped xs stand is;
      }

  pub crew_run : (xs : List (Seat P)) → Stand g code limit xs → IsProgram code → (end : Config) × IsCrewRun (program code) limit (histories xs) end
  crew_run xs stand is = let e = sites_end g code limit xs stand.seats stand.settled stand.whole is.at in (e.whole, run_of xs stand is e)
