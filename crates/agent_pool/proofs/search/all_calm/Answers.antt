use Rattle.std.proofs.Common.{◌<◌, sym, subst, ◌∙◌, arith}
use Rattle.np_tables.proofs.Walks.{one-more}
use Rattle.agent_pool.specs.Calm.{CalmAt}
use Rattle.agent_pool.proofs.Walking.{met-all}
use Rattle.agent_pool.proofs.search.all_calm.Goals as goal

pub loop-at-preserved : goal.loop-at-preserved
loop-at-preserved c =
    one-more (CalmAt c.args.code.now c.args.atoms.now.items) c.args.atoms.now.keys c.loop-at.at c.key.result (subst (λ k. c.loop-at.at < k) c.len-at-end.ensures.len c.loop-at-test.true)
    c.key.ensures.at (c.is_calm.ensures c.if-not-is_calm.false) c.loop-at.invariant

pub returns : goal.returns
returns c = λ t.
    met-all (CalmAt c.args.code.now c.args.atoms.now.items) c.args.atoms.now.items c.args.atoms.now.keys c.len-at-end.ensures.covers
    (λ q h kept e. absurd (let x = sym h ∙ e in cc)) (λ k d l. c.loop-at.invariant k d (omega (arith, l, c.loop-at-test.false, c.len-at-end.ensures.len)))
