use Rattle.std.proofs.Common.{◌≡◌, Some, sym, ◌∙◌, arith}
use Rattle.std.specs.FinMap as map
use Rattle.agent_pool.proofs.Walking.{met-all}
use Rattle.site_agents.specs.declared.seat.Seat.{Seat}
use Rattle.site_agents.specs.Standings.{CanNothing}
use Rattle.site_agents.proofs.Reading.{none_can}
use Rattle.site_agents.proofs.serving.any_ready.Goals as goal

pub returns-clause-none : goal.returns-clause-none
returns-clause-none c =
    let seats = c.args.seats.now.items in
    none_can c.args.code.now seats
    (met-all (λ q. (s : Seat) → map.get seats q ≡ Some s → CanNothing c.args.code.now s.agent) seats c.args.seats.now.keys c.len-at-end.ensures.covers
    (λ q h s e. absurd (let x = sym h ∙ e in cc)) (λ k d l. c.loop-at.invariant k d (omega (arith, l, c.loop-at-test.false, c.len-at-end.ensures.len))))
