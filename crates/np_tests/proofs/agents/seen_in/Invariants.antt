use Rattle.agent_pool.specs.Pools.{IsFiled}
use Rattle.np_tests.proofs.agents.seen_in.Given as goal

abbrev pub invariant-loop-n : goal.invariant-loop-n
invariant-loop-n l = IsFiled l.code.processes l.agent.atoms
