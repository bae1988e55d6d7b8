use Rattle.std.proofs.Common.{refl, inr}
use Rattle.site_turn.proofs.Events.{stepped_surely}
use Rattle.site_turn.proofs.Steps.{turned_failed, turned_stepped}
use Rattle.site_turn.proofs.turning.step_surely.Goals as goal

pub returns-in-Ok-clause-turned : goal.returns-in-Ok-clause-turned
returns-in-Ok-clause-turned g c = turned_stepped c.in-Ok.stepped c.in-Ok.ensures.ok c.requires.placed.lines refl refl refl refl

pub returns-in-Ok-clause-stepped : goal.returns-in-Ok-clause-stepped
returns-in-Ok-clause-stepped g c = stepped_surely c.args.code.now c.args.seat.now (record c.args.seat.now { site = c.step.new.self }) c.in-Ok.stepped c.in-Ok.ensures.ok

pub returns-in-Err-clause-turned : goal.returns-in-Err-clause-turned
returns-in-Err-clause-turned g c = turned_failed c.in-Err.ensures.err refl refl refl refl

pub returns-in-Err-clause-stepped : goal.returns-in-Err-clause-stepped
returns-in-Err-clause-stepped g c = (c.in-Err.ensures.err, inr refl)
