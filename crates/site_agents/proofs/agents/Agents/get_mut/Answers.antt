use Rattle.std.proofs.Common.{sym, subst, inl, inr}
use Rattle.np_tables.specs.Stored.{Stored}
use Rattle.site_agents.specs.declared.seat.Seat.{Seat}
use Rattle.np_tables.specs.Lent.{IsPlace}
use Rattle.site_agents.specs.Standings.{agent_of}
use Rattle.site_agents.proofs.LentLaws.{absent, lent_view, lent_agent, lent_in_turn}
use Rattle.site_agents.proofs.Reading.{mapped_none}
use Rattle.site_agents.proofs.agents.Agents.get_mut.Goals as goal

pub invariant_of-self-lent : goal.invariant_of-self-lent
invariant_of-self-lent c =
    let inside = c.self.inside in
    lent_in_turn inside.seats c.call_again.new.seats c.args.name inside.turns c.call_again.new.turns inside.doubtful c.call_again.ensures.seats c.self.invariant c.call_again.ensures.keeps c.call_again.ensures.waits

pub agent_at-requires : goal.agent_at-requires
agent_at-requires c = subst (λ (s : Stored Seat). IsPlace s.keys c.args.name c.in-Some.index) (sym c.call_again.ensures.seats) c.in-Some.ensures.place

pub returns-in-Some : goal.returns-in-Some
returns-in-Some c =
    let there = c.agent_at.ensures.value in
    let called = c.call_again.ensures.seats in (
      (λ i. inl (c.agent_at.result.ghost_name, λ w. lent_view c.args.self.now c.self.inside.seats c.call_again.new.seats c.args.name c.self.view_is called c.agent_at.result.now there w i)),
      record { writes_back = tt; agent = lent_agent c.args.self.now c.self.inside.seats c.call_again.new.seats c.args.name c.self.view_is called c.agent_at.result.now there },
    )

pub returns-in-None : goal.returns-in-None
returns-in-None c = (
  (λ i. inr (c.self.view_is i)),
  record { writes_back = tt; agent = rw (← c.self.view_is) (sym (mapped_none agent_of c.self.inside.seats.items c.args.name (absent _ c.in-None.ensures.found))) },
)
