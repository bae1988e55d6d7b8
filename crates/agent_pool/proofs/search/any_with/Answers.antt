use Rattle.std.proofs.lemmas.Grind.{common_steps}
use Rattle.std.proofs.Common.{◌≡◌, None, sym, ◌∙◌, arith}
use Rattle.np_tables.specs.Mapped.{mapped}
use Rattle.agent_pool.specs.Pools.{seen_as}
use Rattle.agent_pool.specs.Readies.{pair_in}
use Rattle.agent_pool.proofs.Beginnings.{pair-ready}
use Rattle.agent_pool.proofs.Maps.{own-agent}
use Rattle.agent_pool.proofs.Walking.{met-all, giver-nowhere}
use Rattle.agent_pool.proofs.search.any_with.Goals as goal

pub returns-in-Some-clause-some : goal.returns-in-Some-clause-some
returns-in-Some-clause-some c = λ agent.
    let ts = c.args.code.now.processes in
    let items = c.args.atoms.now.items in
    pair-ready c.args.code.now (mapped (seen_as ts agent) items) c.args.mark c.key.result c.in-Some.ready
    (λ a b there stands. own-agent ts agent items c.key.result b stands ∙ sym (own-agent ts agent items c.args.mark a there)) (sym (c.pair_in.ensures.is agent) ∙ c.in-Some.is)

pub returns-clause-none : goal.returns-clause-none
returns-clause-none c = λ agent.
    let f = seen_as c.args.code.now.processes agent in
    met-all (λ q. pair_in (mapped f c.args.atoms.now.items) c.args.mark q ≡ None) c.args.atoms.now.items c.args.atoms.now.keys c.len-at-end.ensures.covers
    (λ q h. giver-nowhere f c.args.atoms.now.items c.args.mark q h)
    (λ k d l. c.loop-at.invariant agent k d (omega (arith, l, c.loop-at-test.false, c.len-at-end.ensures.len)))

pub loop-at-preserved : goal.loop-at-preserved
loop-at-preserved c = grind (arith, common_steps)
