use Rattle.np_tables.specs.Mapped.{mapped}
use Rattle.agent_pool.specs.Pools.{seen_as}
use Rattle.agent_pool.proofs.Beginnings.{nothing-ready}
use Rattle.agent_pool.proofs.Walking.{none-to}
use Rattle.agent_pool.proofs.search.any_ready.Goals as goal

pub returns-in-None-clause-none : goal.returns-in-None-clause-none
returns-in-None-clause-none c = λ agent.
    none-to c.any_pair.result (nothing-ready c.args.code.now (mapped (seen_as c.args.code.now.processes agent) c.args.atoms.now.items) (c.in-None.ensures.none agent))
    (c.any_pair.ensures.none agent)
