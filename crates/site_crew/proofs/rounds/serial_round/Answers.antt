use Rattle.std.proofs.Common.{arith}
use Rattle.site_crew.proofs.Passing.{done_over, done_round}
use Rattle.site_crew.proofs.Running.{all_later_trans, grow_trans}
use Rattle.site_crew.proofs.rounds.serial_round.Goals as goal
use Rattle.site_crew.proofs.rounds.serial_round.Goals.{then-before-after-via-then-before-after, then-before-after-via-else-before-after+then-are_over}

pub returns-clause-grow : goal.returns-clause-grow
returns-clause-grow g c = grow_trans c.serial_pass-after.ensures.grow c.serial_pass.ensures.grow

pub returns-clause-later : goal.returns-clause-later
returns-clause-later g c = all_later_trans c.serial_pass-after.ensures.later c.serial_pass.ensures.later

pub returns-clause-done : goal.returns-clause-done
returns-clause-done g c =
    let one = c.serial_pass-after.ensures in let two = c.serial_pass.ensures in done_round c.requires.stand one.stand two.stand one.passed two.passed one.grow two.grow

pub returns-then-before-after-clause-done : goal.returns-then-before-after-clause-done
returns-then-before-after-clause-done g c = λ few ok free. elim c.then-before-after.branch [
  | then-before-after-via-then-before-after w ↦ absurd (omega (arith, few, w.if-before-after.true, c.events_of-before.ensures.total, c.serial_pass-after.ensures.total))
  | then-before-after-via-else-before-after+then-are_over w ↦ done_over (w.are_over.ensures.yes w.if-are_over.true)
]
