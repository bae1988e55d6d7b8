use Rattle.std.proofs.lemmas.Grind.{common_steps}
use Rattle.std.proofs.Common.{subst, sym, ◌∙◌, arith}
use Rattle.site_crew.specs.Crews.{HasRun, NoneFailed}
use Rattle.site_crew.proofs.Crewing.{has_run, later_refl}
use Rattle.site_crew.proofs.Reseated.{kept_crew, kept_done, kept_later, kept_on, kept_round, kept_run}
use Rattle.site_crew.proofs.crew.Crew.serial_round_of.Goals as goal

pub returns-then-self-clause-run : goal.returns-then-self-clause-run
returns-then-self-clause-run g c = subst HasRun c.self.view_is (has_run c.self.invariant)

pub returns-clause-run : goal.returns-clause-run
returns-clause-run g c = kept_run c.self.inside.seats.ok.0 c.as_mut_slice.ensures.value c.serial_round-after.ensures.stand c.serial_round-after.ensures.grow c.self.invariant.program

pub returns-clause-ok : goal.returns-clause-ok
returns-clause-ok g c =
    kept_round c.self.inside.seats.ok.0 c.as_mut_slice.ensures.value c.serial_round-after.ensures.stand c.serial_round-after.ensures.grow c.self.view_is c.self.invariant.safe c.self.invariant.program c.self.invariant.budget _
    c.events_of-before.ensures.total c.as_slice.ensures.value c.serial_round-after.ensures.total c.as_slice-2.ensures.value c.judged-round.result c.told.result c.judged-round.ensures
    (λ e. subst NoneFailed (c.as_slice-3.ensures.value ∙ sym c.as_slice-2.ensures.value) (c.any_failed-self-inside.ensures.none e)) c.told.ensures.sound c.told.ensures.ok

pub returns-then-self-clause-later : goal.returns-then-self-clause-later
returns-then-self-clause-later g c = later_refl _ _

pub returns-clause-on : goal.returns-clause-on
returns-clause-on g c = kept_on c.self.inside.seats.ok.0 c.as_mut_slice.ensures.value c.serial_round-after.ensures.stand c.serial_round-after.ensures.grow c.self.view_is

pub returns-clause-later : goal.returns-clause-later
returns-clause-later g c = kept_later c.self.inside.seats.ok.0 c.as_mut_slice.ensures.value c.serial_round-after.ensures.stand c.serial_round-after.ensures.grow c.self.view_is c.serial_round-after.ensures.later

pub invariant_of-self : goal.invariant_of-self
invariant_of-self g c = kept_crew c.self.inside.seats.ok.0 c.as_mut_slice.ensures.value c.serial_round-after.ensures.stand c.serial_round-after.ensures.grow c.self.invariant
    (λ e. subst NoneFailed c.as_slice-3.ensures.value (c.any_failed-self-inside.ensures.none e))

pub returns-then-self-clause-on : goal.returns-then-self-clause-on
returns-then-self-clause-on g c = grind (arith, common_steps)

pub serial_round-after-requires-clause-stand : goal.serial_round-after-requires-clause-stand
serial_round-after-requires-clause-stand g c = grind (arith, common_steps)

pub returns-clause-failed : goal.returns-clause-failed
returns-clause-failed g c = grind (arith, common_steps)

pub judged-round-requires : goal.judged-round-requires
judged-round-requires g c =
    kept_done c.self.inside.seats.ok.0 c.as_mut_slice.ensures.value c.serial_round-after.ensures.stand c.serial_round-after.ensures.grow c.events_of-before.ensures.total c.as_slice.ensures.value
    c.serial_round-after.ensures.total c.as_slice-2.ensures.value c.serial_round-after.ensures.done
