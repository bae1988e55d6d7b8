use Rattle.std.proofs.Common.{ap, ◌∙◌}
use Rattle.std.specs.FinMap as map
use Rattle.np_tables.specs.Names.{NameMap}
use Rattle.np_tables.proofs.Tables.{get-none}
use Rattle.agent_pool.specs.Pools.{Pool}
use Rattle.np_tests.proofs.forced.site_with.Goals as goal

pub settle_agent-requires : goal.settle_agent-requires
settle_agent-requires c = ap (λ (m : NameMap Pool). map.get m c.args.agent.name) c.in_ok-site.ensures.agents ∙ get-none c.args.agent.name
