use Rattle.np_tables.specs.Mapped.{mapped}
use Rattle.agent_pool.specs.Pools.{seen_as}
use Rattle.agent_pool.proofs.Beginnings.{nothing-ready}
use Rattle.agent_pool.proofs.Calms.{calm-alone, calm-meet}
use Rattle.agent_pool.proofs.search.ready_in.Goals as goal

pub returns-then-all_calm-clause-none : goal.returns-then-all_calm-clause-none
returns-then-all_calm-clause-none c = λ agent.
    let calm = c.all_calm.ensures c.if-all_calm.true in
    nothing-ready c.args.code.now (mapped (seen_as c.args.code.now.processes agent) c.args.atoms.now.items) (calm-alone c.args.code.now agent c.args.atoms.now.items calm)
    (calm-meet c.args.code.now agent c.args.atoms.now.items calm)
