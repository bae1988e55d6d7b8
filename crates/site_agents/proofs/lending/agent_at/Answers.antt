use Rattle.std.proofs.Common.{refl, sym}
use Rattle.np_tables.proofs.Mapped.{mapped_there}
use Rattle.site_agents.specs.LentSeats.{filled}
use Rattle.site_agents.specs.Standings.{agent_of}
use Rattle.site_agents.proofs.Seatings.{changed_there}
use Rattle.site_agents.proofs.lending.agent_at.Goals as goal

pub returns : goal.returns
returns c =
    let there = c.value_at-seat.ensures.value in (
      (refl, λ w. changed_there c.args.seats.now c.args.name c.value_at-seat.result.now (filled w) there),
      record { writes_back = tt; value = sym (mapped_there agent_of c.args.seats.now.items c.args.name c.value_at-seat.result.now (sym there)) },
    )
