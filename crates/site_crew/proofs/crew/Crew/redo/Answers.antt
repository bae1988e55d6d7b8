use Rattle.std.proofs.lemmas.Grind.{common_steps}
use Rattle.std.proofs.Common.{◌≡◌, false, IfOk, ap, not, subst, rules, arith}
use Rattle.np_code.specs.Programs.{program}
use Rattle.site_crew.specs.Crews.{CrewState}
use Rattle.site_crew.specs.Lists.{IsToFollow}
use Rattle.site_crew.specs.Seats.{clocks, histories}
use Rattle.site_crew.proofs.Doing.{has_redone, on_redone}
use Rattle.site_crew.proofs.Reseated.{kept_crew, kept_is, kept_on, kept_run}
use Rattle.site_crew.proofs.crew.Crew.redo.Goals as goal

pub returns-clause-run : goal.returns-clause-run
returns-clause-run g c = kept_run c.self.inside.seats.ok.0 c.as_mut_slice.ensures.value c.redo_list-done.ensures.stand c.redo_list-done.ensures.grow c.self.invariant.program

pub returns-clause-ok : goal.returns-clause-ok
returns-clause-ok g c =
    let was = c.self.inside in
    let now = c.redo_list-done.new.seats in
    let whole = kept_is was.seats.ok.0 c.as_mut_slice.ensures.value c.redo_list-done.ensures.stand c.redo_list-done.ensures.grow in
    on_redone c.redo_list-done.result c.all_done.result _ (λ done at within all. has_redone c.args.events.now _ now (ap histories whole) (ap clocks whole) (ap not all) within done at)
    c.redo_list-done.ensures.done c.redo_list-done.ensures.clocks c.redo_list-done.ensures.within c.all_done.ensures.ok

pub returns-clause-on : goal.returns-clause-on
returns-clause-on g c = kept_on c.self.inside.seats.ok.0 c.as_mut_slice.ensures.value c.redo_list-done.ensures.stand c.redo_list-done.ensures.grow c.self.view_is

pub returns-clause-never : goal.returns-clause-never
returns-clause-never g c =
    subst (λ (s : CrewState). IfOk c.redo_list-done.result (λ all. all ≡ false → IsToFollow (program s.code) s.budget c.args.events.now → ⊥)) c.self.view_is c.redo_list-done.ensures.never

pub invariant_of-self : goal.invariant_of-self
invariant_of-self g c =
    let whole = kept_is c.self.inside.seats.ok.0 c.as_mut_slice.ensures.value c.redo_list-done.ensures.stand c.redo_list-done.ensures.grow in
    kept_crew c.self.inside.seats.ok.0 c.as_mut_slice.ensures.value c.redo_list-done.ensures.stand c.redo_list-done.ensures.grow c.self.invariant (search rules)

pub returns-clause-no : goal.returns-clause-no
returns-clause-no g c = grind (arith, common_steps)

pub redo_list-done-requires-clause-none : goal.redo_list-done-requires-clause-none
redo_list-done-requires-clause-none g c = grind (arith, common_steps)

pub returns-clause-err : goal.returns-clause-err
returns-clause-err g c = grind (arith, common_steps)

pub redo_list-done-requires-clause-stand : goal.redo_list-done-requires-clause-stand
redo_list-done-requires-clause-stand g c = grind (arith, common_steps)

pub redo_list-done-requires-clause-sound : goal.redo_list-done-requires-clause-sound
redo_list-done-requires-clause-sound g c = grind (arith, common_steps)
