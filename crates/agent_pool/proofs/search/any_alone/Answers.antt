use Rattle.std.proofs.Common.{◌≡◌, None, length, sym, ◌∙◌, arith}
use Rattle.np_tables.specs.Mapped.{mapped}
use Rattle.agent_pool.specs.Pools.{seen_as}
use Rattle.agent_pool.specs.Readies.{alone_in}
use Rattle.agent_pool.proofs.Beginnings.{alone-ready}
use Rattle.agent_pool.proofs.Walking.{met-all, alone-nowhere}
use Rattle.agent_pool.proofs.search.any_alone.Goals as goal

pub returns-in-Some-clause-some : goal.returns-in-Some-clause-some
returns-in-Some-clause-some c = λ agent.
    alone-ready c.args.code.now (mapped (seen_as c.args.code.now.processes agent) c.args.atoms.now.items) c.key.result c.in-Some.ready (sym (c.alone_in.ensures.is agent) ∙ c.in-Some.is)

pub returns-clause-none : goal.returns-clause-none
returns-clause-none c = λ agent.
    let f = seen_as c.args.code.now.processes agent in
    let sites = length c.args.code.now.sites in
    record {
      each = met-all (λ q. alone_in sites (mapped f c.args.atoms.now.items) q ≡ None) c.args.atoms.now.items c.args.atoms.now.keys c.len-at-end.ensures.covers
          (λ q h. alone-nowhere f c.args.atoms.now.items sites q h)
          (λ k d l. c.loop-at.invariant agent k d (omega (arith, l, c.loop-at-test.false, c.len-at-end.ensures.len)));
    }
