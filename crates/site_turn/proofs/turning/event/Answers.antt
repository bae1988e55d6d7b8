use Rattle.std.proofs.lemmas.Grind.{common_steps}
use Rattle.std.proofs.Common.{◌≡◌, ◌∙◌, true, false, ap, sym, arith}
use Rattle.std.specs.Prelude.{is_some}
use Rattle.site_turn.proofs.Events.{had_failed, had_quiet, had_spent, none_stays, none_trans, none_waited, not_some, one_after, one_did}
use Rattle.site_turn.proofs.Steps.{seated_after, turned_trans}
use Rattle.site_turn.proofs.turning.event.Goals as goal
use Rattle.site_turn.proofs.turning.event.Goals.{then-seat-via-then-seat, then-seat-via-else-seat+then-is_some}

pub returns-then-seat-clause-no : goal.returns-then-seat-clause-no
returns-then-seat-clause-no g c = λ e. c.poll.ensures.no c.if-poll.false

pub returns-then-seat-clause-idle : goal.returns-then-seat-clause-idle
returns-then-seat-clause-idle g c = λ zero e. had_failed c.args.seat.now c.poll.new.seat c.args.effort.walks (λ ok free. elim c.then-seat.branch [
  | then-seat-via-then-seat w ↦ let failed : true ≡ false = sym w.if-seat.true ∙ ok in absurd cc
  | then-seat-via-else-seat+then-is_some w ↦ let some : true ≡ false = sym w.if-is_some.true ∙ w.is_some.ensures ∙ ap is_some free in absurd cc
])

pub step-requires-after_bounds : goal.step-requires-after_bounds
step-requires-after_bounds g c κs within = seated_after c.poll.ensures.turned c.requires

pub look-requires-after_bounds : goal.look-requires-after_bounds
look-requires-after_bounds g c κs within = seated_after c.step.ensures.turned (seated_after c.poll.ensures.turned c.requires)

pub returns-in-Quiet-clause-turned : goal.returns-in-Quiet-clause-turned
returns-in-Quiet-clause-turned g c = turned_trans (turned_trans c.poll.ensures.turned c.step.ensures.turned) c.look.ensures.turned

pub returns-in-Quiet-clause-yes : goal.returns-in-Quiet-clause-yes
returns-in-Quiet-clause-yes g c = λ e. one_after (none_trans (c.poll.ensures.no c.if-poll.false) (none_stays c.in-Quiet.ensures.stepped.1)) (c.look.ensures.yes e)

pub returns-in-Quiet-clause-no : goal.returns-in-Quiet-clause-no
returns-in-Quiet-clause-no g c = λ e. none_trans (none_trans (c.poll.ensures.no c.if-poll.false) (none_stays c.in-Quiet.ensures.stepped.1)) (c.look.ensures.no e)

pub returns-in-Quiet-clause-idle : goal.returns-in-Quiet-clause-idle
returns-in-Quiet-clause-idle g c = λ zero e.
    let free = not_some c.poll.new.seat.aside c.is_some.result c.is_some.ensures c.if-is_some.false in
    let known = none_waited c.args.seat.now c.poll.new.seat (c.poll.ensures.first zero c.if-poll.false) free in
    had_quiet c.args.seat.now c.poll.new.seat c.look.new.seat c.args.effort.walks (c.poll.ensures.no c.if-poll.false) known c.in-Quiet.ensures.stepped.2

pub returns-in-Did-clause-turned : goal.returns-in-Did-clause-turned
returns-in-Did-clause-turned g c = turned_trans c.poll.ensures.turned c.step.ensures.turned

pub returns-in-Did-clause-yes : goal.returns-in-Did-clause-yes
returns-in-Did-clause-yes g c = λ e. one_after (c.poll.ensures.no c.if-poll.false) (one_did c.in-Did.ensures.stepped.1.did)

pub returns-in-Spent-clause-turned : goal.returns-in-Spent-clause-turned
returns-in-Spent-clause-turned g c = turned_trans c.poll.ensures.turned c.step.ensures.turned

pub returns-in-Spent-clause-no : goal.returns-in-Spent-clause-no
returns-in-Spent-clause-no g c = λ e. none_trans (c.poll.ensures.no c.if-poll.false) (none_stays c.in-Spent.ensures.stepped.0)

pub returns-in-Spent-clause-idle : goal.returns-in-Spent-clause-idle
returns-in-Spent-clause-idle g c = λ zero e. had_spent c.args.seat.now c.poll.new.seat c.step.new.seat c.args.effort.walks (c.poll.ensures.no c.if-poll.false) c.in-Spent.ensures.stepped.1

pub returns-in-Did-clause-no : goal.returns-in-Did-clause-no
returns-in-Did-clause-no g c = grind (arith, common_steps)

pub returns-in-Spent-clause-yes : goal.returns-in-Spent-clause-yes
returns-in-Spent-clause-yes g c = grind (arith, common_steps)

pub returns-in-Did-clause-idle : goal.returns-in-Did-clause-idle
returns-in-Did-clause-idle g c = λ zero e. absurd (let h = e in cc)

pub returns-then-poll-clause-idle : goal.returns-then-poll-clause-idle
returns-then-poll-clause-idle g c = λ zero e. absurd (let h = e in cc)

pub returns-then-poll-clause-no : goal.returns-then-poll-clause-no
returns-then-poll-clause-no g c = grind (arith, common_steps)
