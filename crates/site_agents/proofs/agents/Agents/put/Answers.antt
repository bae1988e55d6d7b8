use Rattle.std.proofs.Common.{true, false, sym, ap, subst, refl, ◌∙◌}
use Rattle.std.specs.FinMap as map
use Rattle.np_tables.specs.Names.{NameMap}
use Rattle.agent_pool.specs.Pools.{Pool}
use Rattle.site_agents.specs.declared.seat.Seat.{Seat}
use Rattle.site_agents.specs.Rounds.{InTurn}
use Rattle.site_agents.specs.Standings.{AreNamed}
use Rattle.site_agents.proofs.Comings.{in_turn_put, named_put, quiet_put}
use Rattle.site_agents.proofs.Reading.{seen, put_agents, put_quiet}
use Rattle.site_agents.proofs.agents.Agents.put.Goals as goal

-- the seat of an agent that comes
abbrev seat : Pool → Seat
seat p = record { agent = p; queued = true; doubted = false }

pub invariant_of-self : goal.invariant_of-self
invariant_of-self c =
    let inside = c.self.inside in
    subst (λ (m : NameMap Seat). InTurn m c.push.new.self inside.doubtful) (sym c.put.ensures.items)
    (in_turn_put inside.seats.items c.name-name.result inside.turns c.push.new.self inside.doubtful inside.doubtful c.self.invariant (seat c.args.agent) c.push.ensures.keeps c.push.ensures.waits refl)

pub returns-clause-agents : goal.returns-clause-agents
returns-clause-agents c =
    put_agents c.args.self.now c.self.inside.seats c.put.new.self c.name-name.result (seat c.args.agent) c.self.view_is c.put.ensures.items ∙ ap (λ n. map.insert c.args.self.now.agents n c.args.agent) c.name-name.ensures

pub returns-clause-quiet : goal.returns-clause-quiet
returns-clause-quiet c =
    put_quiet c.args.self.now c.self.inside.seats c.put.new.self c.name-name.result (seat c.args.agent) c.self.view_is c.put.ensures.items ∙ ap (λ n. map.insert c.args.self.now.quiet n false) c.name-name.ensures

pub returns-clause-named : goal.returns-clause-named
returns-clause-named c = λ h. subst AreNamed (sym (returns-clause-agents c)) (named_put c.args.self.now.agents c.args.agent h)

pub returns-clause-still : goal.returns-clause-still
returns-clause-still c = λ code. quiet_put code c.args.self.now (seen c.put.new.self) c.args.agent.name c.args.agent (returns-clause-agents c) (returns-clause-quiet c)
