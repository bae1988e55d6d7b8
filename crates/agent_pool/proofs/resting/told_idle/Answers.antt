use Rattle.std.proofs.Common.{◌<◌, refl, subst, arith}
use Rattle.np_tables.proofs.Walks.{one-more}
use Rattle.agent_pool.proofs.Walking.{met-all}
use Rattle.agent_pool.specs.Resting.{SettledAt}
use Rattle.agent_pool.proofs.Settling.{nowhere-settled, settled-idle}
use Rattle.agent_pool.proofs.resting.told_idle.Goals as goal

pub loop-at-preserved : goal.loop-at-preserved
loop-at-preserved c =
    one-more (SettledAt c.args.code.now.processes c.args.atoms.now.items) c.args.atoms.now.keys c.loop-at.at c.key.result (subst (λ k. c.loop-at.at < k) c.len-at-end.ensures.len c.loop-at-test.true)
    c.key.ensures.at c.in-Settled.ensures c.loop-at.invariant

pub returns : goal.returns
returns c =
    let ts = c.args.code.now.processes in
    let items = c.args.atoms.now.items in (
      (λ t. settled-idle ts items (met-all (SettledAt ts items) items c.args.atoms.now.keys c.len-at-end.ensures.covers (nowhere-settled ts items)
          (λ k d l. c.loop-at.invariant k d (omega (arith, l, c.loop-at-test.false, c.len-at-end.ensures.len))))),
      (λ n. refl),
    )
