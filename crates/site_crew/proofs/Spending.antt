-- Where no other site has anything left to do, only sites that have made as many events as the budget can still act.
use Rattle.std.proofs.Common.{◌≡◌, ◌<◌, ◌≤◌, ◌⊎◌, ℕ, inl, inr, ⊎_elim, List, [], length, Option, None, Some, option_map, refl, sym, ap, subst, ◌∙◌, arith}
use Rattle.std.specs.Prelude.{slice_get}
use Rattle.std.proofs.lemmas.Option.{slice_get-map, slice_get_within}
use Rattle.np_calculus.specs.Config.{Config}
use Rattle.np_calculus.specs.Idle.{Can, Idle}
use Rattle.np_calculus.specs.Well.{Well}
use Rattle.run_merge.specs.Merged.{items, merged}
use Rattle.np_site_runs.specs.Ending.{IsStill}
use Rattle.np_site_runs.specs.Holdings.{Holding, IsPart}
use Rattle.np_site_runs.proofs.merged.Moving.{below_or_not}
use Rattle.np_site_runs.proofs.Acting.{only_sites_can, site_is_still}
use Rattle.np_code.specs.Programs.{ProgramTable, program}
use Rattle.site_agents.specs.Standings.{AreIdle, NoneCan}
use Rattle.site_state.specs.Standings.{holding_of}
use Rattle.agent_move.specs.declared.item.Item.{Item}
use Rattle.site_links.specs.declared.port.Port as Port
use Rattle.site_turn.specs.declared.seat.Seat.{Seat}
use Rattle.crew_ends.specs.Quiet.{AllQuiet}
use Rattle.site_crew.specs.Passes.{AreDone}
use Rattle.site_crew.specs.Runs.{IsCrewRun, IsProgram, IsSpent, NoPosts, OnlySpentCan, RunsSafely}
use Rattle.site_crew.specs.Seats.{Stand, histories}
use Rattle.site_crew.specs.Shown.{IsShownBy, seat_states}
use Rattle.site_crew.proofs.Deciding.{some_can}
use Rattle.site_crew.proofs.Directed.{are_directed}
use Rattle.np_syntax.proofs.Options.{some_is}
use Rattle.site_crew.proofs.Stillness.{Whole, none-rest, quiet_of, rests_of, still-end}
use Rattle.site_crew.proofs.CrewRuns.{run_of}
use Rattle.site_crew.proofs.Ready.{part_within, still_ready}
use Rattle.site_crew.proofs.Showing.{shown_by}
use Rattle.site_crew.proofs.Whole.{accounts, end_of, here, sites_end, some}

module _ {P R : Type 0} (g : Port.Ghosts P R Item) (code : ProgramTable) (limit : ℕ) (xs : List (Seat P)) (stand : Stand g code limit xs) (is : IsProgram code) where
  -- how many events the history in a place has
  abbrev IsFew : Seat P → Type 0
  IsFew s = length s.site.history.events < limit

  -- what a site holds is still, if it can do nothing more
  still-done : (e : Whole g code limit xs stand is) → Well e.whole → NoPosts e.whole → (i : ℕ) (s : Seat P) → slice_get xs i ≡ Some s → i < length code.sites
      → AreIdle code.processes s.site.agents ⊎ NoneCan code s.site.agents → IsStill ((accounts g code limit xs stand.seats).end i)
  unfolding accounts
  still-done e well posts i s at less (inl idle) = still-end g code limit i (slice_get xs i) (some g code limit xs stand.seats i less)
      (λ v there. subst (λ (w : Seat P). AreIdle code.processes w.site.agents) (some_is (slice_get xs i) s v at there) idle)
  still-done e well posts i s at less (inr none) =
      let is_end : end_of g code limit i (slice_get xs i) ≡ holding_of code s.site = ap (end_of g code limit i) at in
      let part : IsPart (holding_of code s.site) (e.here i) = subst (λ (h : Holding). IsPart h (e.here i)) is_end (e.parts i less) in
      subst IsStill (sym is_end)
      (still_ready code s.site.site s.site.agents s.site.next s.site.history.said (e.here i) e.whole part (part_within (length code.sites) _ e.whole e.spread i less) well posts none)

  -- a site that has made fewer events cannot act
  few-still : (e : Whole g code limit xs stand is) → Well e.whole → NoPosts e.whole → AreDone code limit xs → (i : ℕ) (s : Seat P) → slice_get xs i ≡ Some s → IsFew s → Can e.whole i → ⊥
  unfolding accounts
  few-still e well posts over i s at few can =
      let low : i < length xs = slice_get_within xs i s at in
      let less : i < length code.sites = subst (λ (m : ℕ). i < m) stand.seats.count low in
      let rest = (over.each i low).rests s at few in
      let told = (stand.settled.each i low).told s at in
      site_is_still (length code.sites) (accounts g code limit xs stand.seats) (histories xs) _ e i less (are_directed g code limit xs stand.seats stand.settled)
      (still-done e well posts i s at less rest.agents)
      (λ u from. none-rest g code limit u i (slice_get xs u) (slice_get xs i) (here g code limit xs stand.seats i)
      (λ v there. ((over.each i low).sent s at few).each u v there)
      (λ v there.
      let same : s ≡ v = some_is (slice_get xs i) s v at there in (
        subst (λ (w : Seat P). w.aside ≡ None) same rest.aside,
        subst (λ (w : Seat P). g.known w.port u ≡ []) same (told.none rest.waits u (subst (λ (m : ℕ). u < m) (sym stand.seats.count) from)),
      )))
      can

  spent-at : (e : Whole g code limit xs stand is) → Well e.whole → NoPosts e.whole → AreDone code limit xs → (i : ℕ) (o : Option (Seat P)) → slice_get xs i ≡ o → i < length code.sites → Can e.whole i
      → IsSpent limit (histories xs) i
  spent-at e well posts over i None at less can = absurd (some g code limit xs stand.seats i less at)
  spent-at e well posts over i (Some s) at less can =
      let within : length s.site.history.events ≤ limit =
      subst (λ (m : ℕ). length s.site.history.events ≤ m) (sym (stand.seats.each i s at).placed.budget ∙ (stand.seats.each i s at).budget) (stand.whole.each i s at).within in
      record {
        history = s.site.history;
        its = slice_get-map (λ s. s.site.history) xs i ∙ ap (option_map (λ s. s.site.history)) at;
        spent = ⊎_elim (λ few. absurd (few-still e well posts over i s at few can)) (λ many. omega arith) (below_or_not (length s.site.history.events) limit);
      }

  pub only_spent : (e : Whole g code limit xs stand is) → RunsSafely (program code) → AreDone code limit xs → OnlySpentCan limit (histories xs) e.whole
  only_spent e safe over = λ i can.
      spent-at e (safe.well (items (merged (histories xs))) e.whole e.runs) (safe.posts (items (merged (histories xs))) e.whole e.runs) over i (slice_get xs i) refl
      (only_sites_can (length code.sites) (accounts g code limit xs stand.seats) (histories xs) _ e i (are_directed g code limit xs stand.seats stand.settled) can) can

-- where the run of seats that stand between rounds ends, when the whole rests there, and which sites can act
pub record IsEndOf {P : Type 0} (code : ProgramTable) (limit : ℕ) (xs : List (Seat P)) (end : Config) : Type 0 where
  pub run : IsCrewRun (program code) limit (histories xs) end
  pub rests : AllQuiet code xs → Idle end
  pub quiet : Idle end → AllQuiet code xs
  pub spent : RunsSafely (program code) → AreDone code limit xs → OnlySpentCan limit (histories xs) end
  pub some : (Idle end → ⊥) → (site : ℕ) × Can end site

pub crew_end : {P R : Type 0} (g : Port.Ghosts P R Item) (code : ProgramTable) (limit : ℕ) (xs : List (Seat P)) → Stand g code limit xs → IsProgram code
    → (end : Config) × IsEndOf code limit xs end × IsShownBy code (seat_states g xs) (histories xs) end
crew_end g code limit xs stand is =
    let e = sites_end g code limit xs stand.seats stand.settled stand.whole is.at in (
      e.whole,
      record {
        run = run_of g code limit xs stand is e;
        rests = rests_of g code limit xs stand is e;
        quiet = λ idle. record { each = quiet_of g code limit xs stand is e idle };
        spent = only_spent g code limit xs stand is e;
        some = some_can e.whole (length code.sites)
            (λ s. only_sites_can (length code.sites) (accounts g code limit xs stand.seats) (histories xs) _ e s (are_directed g code limit xs stand.seats stand.settled));
      },
      shown_by g code limit xs stand is e,
    )
