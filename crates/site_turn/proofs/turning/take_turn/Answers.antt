use Rattle.std.proofs.Common.{sym, ◌∙◌}
use Rattle.site_turn.proofs.Events.{had_failed}
use Rattle.site_turn.proofs.Steps.{turned_refl}
use Rattle.site_turn.proofs.turning.take_turn.Goals as goal

pub returns-else-not-seat-clause-turned : goal.returns-else-not-seat-clause-turned
returns-else-not-seat-clause-turned g c = turned_refl _

pub returns-else-not-seat-clause-idle : goal.returns-else-not-seat-clause-idle
returns-else-not-seat-clause-idle g c = λ same. had_failed c.args.seat.now c.args.seat.now c.args.effort.walks (λ ok free. (let e = sym c.if-not-seat.false ∙ ok in absurd cc))

pub returns-else-not-seat-clause-sends : goal.returns-else-not-seat-clause-sends
returns-else-not-seat-clause-sends g c = λ same ok. absurd (let e = sym c.if-not-seat.false ∙ ok in cc)
