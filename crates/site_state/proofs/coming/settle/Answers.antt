use Rattle.std.proofs.Common.{refl, sym, ap, ◌∙◌}
use Rattle.std.specs.FinMap as map
use Rattle.site_state.proofs.Seats.{absent_again, back_again}
use Rattle.site_state.proofs.coming.settle.Goals as goal

pub put-requires-clause-absent : goal.put-requires-clause-absent
put-requires-clause-absent c = absent_again _ _ c.name.result _ c.take.ensures.agents (sym c.name.ensures)

pub returns-clause-agents : goal.returns-clause-agents
returns-clause-agents c =
    back_again c.args.agents.now.agents _ _ _ c.name.result _ _ refl c.take.ensures.agents (sym c.name.ensures) c.put.ensures.agents
    ∙ ap (λ n. map.insert c.args.agents.now.agents n c.args.agent) c.name.ensures
