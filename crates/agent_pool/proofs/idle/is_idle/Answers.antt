use Rattle.std.proofs.lemmas.Grind.{common_steps}
use Rattle.std.proofs.Common.{◌<◌, sym, subst, refl, arith}
use Rattle.np_tables.proofs.Walks.{one-more}
use Rattle.agent_pool.proofs.Walking.{met-all}
use Rattle.agent_pool.specs.Idle.{waits_in, IsStill, Stays}
use Rattle.agent_pool.proofs.idle.is_idle.Goals as goal

pub returns : goal.returns
returns c = (
  (λ t. record {
    each = met-all (IsStill c.args.code.now.processes c.args.atoms.now.items) c.args.atoms.now.items c.args.atoms.now.keys
        c.len-at-end.ensures.covers (λ q h. subst (λ o. Stays c.args.code.now.processes c.args.atoms.now.items (waits_in c.args.code.now.processes o)) (sym h) tt)
        (λ k d l. c.loop-at.invariant k d (omega (arith, l, c.loop-at-test.false, c.len-at-end.ensures.len)));
  }),
  (λ n. refl),
)

pub loop-at-preserved : goal.loop-at-preserved
loop-at-preserved c =
    one-more (IsStill c.args.code.now.processes c.args.atoms.now.items) c.args.atoms.now.keys c.loop-at.at c.key.result (subst (λ k. c.loop-at.at < k) c.len-at-end.ensures.len c.loop-at-test.true)
    c.key.ensures.at (c.is_still.ensures.0 c.if-not-is_still.false) c.loop-at.invariant

pub returns-then-not-is_still : goal.returns-then-not-is_still
returns-then-not-is_still c = grind (arith, common_steps)
