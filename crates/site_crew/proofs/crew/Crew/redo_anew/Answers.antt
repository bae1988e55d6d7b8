use Rattle.std.proofs.Common.{◌≡◌, List, length, ap, refl, subst, sym, ◌∙◌}
use Rattle.np_syntax.specs.declared.program.LowProgram.{LowProgram}
use Rattle.np_code.specs.Programs.{program}
use Rattle.run_save.specs.Ours.{IsOurs}
use Rattle.site_turn.specs.declared.seat.Seat.{Seat}
use Rattle.site_crew.specs.Crews.{CrewState, HasRun, NoneFailed}
use Rattle.site_crew.specs.Lists.{AreWithin, IsToFollow}
use Rattle.site_crew.specs.Seats.{Stand, clocks, event_count, histories}
use Rattle.site_crew.proofs.Anew.{grow_anew}
use Rattle.site_crew.proofs.Counts.{none_counted}
use Rattle.site_crew.proofs.Crewing.{grow_refl, has_run, none_failed, stand_made}
use Rattle.site_crew.proofs.CrewRuns.{crew_run}
use Rattle.site_crew.proofs.Doing.{has_followed}
use Rattle.site_crew.proofs.Reseated.{kept_is, kept_run}
use Rattle.site_crew.proofs.crew.Crew.redo_anew.Goals as goal

pub returns-in_err-ports-clause-run : goal.returns-in_err-ports-clause-run
returns-in_err-ports-clause-run g c = subst (λ (s : CrewState). HasRun s) c.self.view_is (has_run c.self.invariant)

pub returns-in_err-seats-clause-run : goal.returns-in_err-seats-clause-run
returns-in_err-seats-clause-run g c = subst (λ (s : CrewState). HasRun s) c.self.view_is (has_run c.self.invariant)

pub returns-in_err-done-clause-run : goal.returns-in_err-done-clause-run
returns-in_err-done-clause-run g c = subst (λ (s : CrewState). HasRun s) c.self.view_is (has_run c.self.invariant)

pub returns-then-not-done-clause-run : goal.returns-then-not-done-clause-run
returns-then-not-done-clause-run g c = subst (λ (s : CrewState). HasRun s) c.self.view_is (has_run c.self.invariant)

pub returns-in_err-ports-clause-on : goal.returns-in_err-ports-clause-on
returns-in_err-ports-clause-on g c = rw (← c.self.view_is) (record { code = refl; budget = refl; histories = grow_refl _ })

pub returns-in_err-seats-clause-on : goal.returns-in_err-seats-clause-on
returns-in_err-seats-clause-on g c = rw (← c.self.view_is) (record { code = refl; budget = refl; histories = grow_refl _ })

pub returns-in_err-done-clause-on : goal.returns-in_err-done-clause-on
returns-in_err-done-clause-on g c = rw (← c.self.view_is) (record { code = refl; budget = refl; histories = grow_refl _ })

pub returns-then-not-done-clause-on : goal.returns-then-not-done-clause-on
returns-then-not-done-clause-on g c = rw (← c.self.view_is) (record { code = refl; budget = refl; histories = grow_refl _ })

pub redo_list-requires-clause-stand : goal.redo_list-requires-clause-stand
redo_list-requires-clause-stand g c κs within =
    rw c.as_mut_slice.ensures.value (stand_made c.sites.ensures c.in_ok-ports.ensures.ports c.in_ok-ports.ensures.unused c.in_ok-seats.ensures)

pub redo_list-requires-clause-none : goal.redo_list-requires-clause-none
redo_list-requires-clause-none g c κs within =
    rw c.as_mut_slice.ensures.value (none_counted c.in_ok-seats.seats.items (λ i s at. ap (λ h. h.events) (c.in_ok-seats.ensures.each i s at).2.site.history))

pub redo_list-requires-clause-sound : goal.redo_list-requires-clause-sound
redo_list-requires-clause-sound g c κs within = rw c.as_mut_slice.ensures.value (none_failed c.in_ok-seats.ensures)

pub returns-then-not-done-clause-never : goal.returns-then-not-done-clause-never
returns-then-not-done-clause-never g c = λ no.
    let table : program c.self.inside.code ≡ c.args._low.now = ap (λ (s : CrewState). program s.code) c.self.view_is ∙ c.requires.table in
    subst (λ (s : CrewState). IsToFollow c.args._low.now s.budget c.args.events.now → ⊥) c.self.view_is
    (subst (λ (l : LowProgram). IsToFollow l c.self.inside.budget c.args.events.now → ⊥) table (c.in_ok-done.ensures.never c.if-not-done.true))

pub invariant_of-self : goal.invariant_of-self
invariant_of-self g c =
    let whole = kept_is c.in_ok-seats.seats.ok.0 c.as_mut_slice.ensures.value c.redo_list.ensures.stand c.redo_list.ensures.grow in
    let done = c.in_ok-done.ensures.done c.if-not-done.false in
    record {
      safe = c.self.invariant.safe;
      program = c.self.invariant.program;
      budget = c.self.invariant.budget;
      stand = subst (λ (xs : List (Seat _)). Stand g.P.Port c.self.inside.code c.self.inside.budget xs) (sym whole) c.redo_list.ensures.stand;
      sound = λ ok. subst (λ (xs : List (Seat _)). NoneFailed xs) (sym whole) done.sound;
    }

pub returns-clause-run : goal.returns-clause-run
returns-clause-run g c = kept_run c.in_ok-seats.seats.ok.0 c.as_mut_slice.ensures.value c.redo_list.ensures.stand c.redo_list.ensures.grow c.self.invariant.program

pub returns-clause-on : goal.returns-clause-on
returns-clause-on g c =
    let whole = kept_is c.in_ok-seats.seats.ok.0 c.as_mut_slice.ensures.value c.redo_list.ensures.stand c.redo_list.ensures.grow in
    let none = subst (λ (s : CrewState). event_count s.histories ≡ 0) (sym c.self.view_is) c.requires.none in
    let stand = subst (λ (xs : List (Seat _)). Stand g.P.Port c.self.inside.code c.self.inside.budget xs) (sym whole) c.redo_list.ensures.stand in
    rw (← c.self.view_is) (record { code = refl; budget = refl; histories = grow_anew c.self.invariant.stand none stand })

pub returns-clause-ok : goal.returns-clause-ok
returns-clause-ok g c = λ yes.
    let now = c.redo_list.new.seats in
    let whole = kept_is c.in_ok-seats.seats.ok.0 c.as_mut_slice.ensures.value c.redo_list.ensures.stand c.redo_list.ensures.grow in
    let done = c.in_ok-done.ensures.done c.if-not-done.false in
    let table : program c.self.inside.code ≡ c.args._low.now = ap (λ (s : CrewState). program s.code) c.self.view_is ∙ c.requires.table in
    let within = subst (λ (l : LowProgram). AreWithin (length l.sites) c.self.inside.budget c.args.events.now) table (c.in_ok-done.ensures.within c.if-not-done.false) in
    let run = crew_run g.P.Port c.self.inside.code c.self.inside.budget now c.redo_list.ensures.stand c.self.invariant.program in
    let ours = subst (λ (l : LowProgram). IsOurs l c.args.events.now) table (subst (IsOurs (program c.self.inside.code)) done.of.items run.1.ours) in
    let sound = ap (λ (s : CrewState). s.failed) c.self.view_is ∙ c.requires.sound in
    has_followed c.args._low.now c.args.events.now _ now (ap histories whole) (ap clocks whole) sound within ours done (c.in_ok-done.ensures.clocks c.if-not-done.false)
