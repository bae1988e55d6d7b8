use Rattle.std.proofs.Common.{sym, ap, subst, ◌∙◌}
use Rattle.std.specs.FinMap as map
use Rattle.np_tables.specs.Names.{NameMap}
use Rattle.site_agents.specs.declared.seat.Seat.{Seat}
use Rattle.site_agents.specs.Rounds.{InTurn}
use Rattle.site_agents.specs.Standings.{Standing, AreNamed}
use Rattle.site_agents.proofs.Comings.{in_turn_cut, keeps_itself, named_cut, quiet_cut}
use Rattle.site_agents.proofs.Reading.{seen, cut_agents, cut_quiet}
use Rattle.site_agents.proofs.agents.Agents.take.Goals as goal

pub invariant_of-self : goal.invariant_of-self
invariant_of-self c =
    let t = c.take_seat in
    subst (λ (m : NameMap Seat). InTurn m t.new.turns c.self.inside.doubtful) (sym t.ensures.items)
    (in_turn_cut c.self.inside.seats.items c.args.name c.self.inside.turns t.new.turns c.self.inside.doubtful c.self.inside.doubtful c.self.invariant t.ensures.turns (keeps_itself c.args.name c.self.inside.doubtful))

pub returns-clause-agent : goal.returns-clause-agent
returns-clause-agent c = c.take_seat.ensures.agent ∙ ap (λ (s : Standing). map.get s.agents c.args.name) c.self.view_is

pub returns-clause-agents : goal.returns-clause-agents
returns-clause-agents c = cut_agents c.args.self.now c.self.inside.seats c.take_seat.new.seats c.args.name c.self.view_is c.take_seat.ensures.items

pub returns-clause-quiet : goal.returns-clause-quiet
returns-clause-quiet c = cut_quiet c.args.self.now c.self.inside.seats c.take_seat.new.seats c.args.name c.self.view_is c.take_seat.ensures.items

pub returns-clause-named : goal.returns-clause-named
returns-clause-named c = λ h. subst AreNamed (sym (returns-clause-agents c)) (named_cut c.args.self.now.agents c.args.name h)

pub returns-clause-still : goal.returns-clause-still
returns-clause-still c = λ code.
    quiet_cut code c.args.self.now (seen c.take_seat.new.seats) c.args.name (returns-clause-agents c)
    (returns-clause-quiet c)
