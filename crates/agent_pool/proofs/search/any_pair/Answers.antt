use Rattle.std.proofs.lemmas.Grind.{common_steps}
use Rattle.std.proofs.Common.{◌≡◌, None, arith}
use Rattle.np_syntax.specs.declared.value.Name.{Name}
use Rattle.np_tables.specs.Mapped.{mapped}
use Rattle.agent_pool.specs.Pools.{seen_as}
use Rattle.agent_pool.specs.Readies.{pair_in}
use Rattle.agent_pool.proofs.Walking.{met-all, taker-nowhere}
use Rattle.agent_pool.proofs.search.any_pair.Goals as goal

pub returns-clause-none : goal.returns-clause-none
returns-clause-none c = λ agent.
    let f = seen_as c.args.code.now.processes agent in
    record {
      each = met-all (λ q. (other : Name) → pair_in (mapped f c.args.atoms.now.items) q other ≡ None) c.args.atoms.now.items c.args.atoms.now.keys c.len-at-end.ensures.covers
          (λ q h. taker-nowhere f c.args.atoms.now.items q h)
          (λ k d l. c.loop-at.invariant agent k d (omega (arith, l, c.loop-at-test.false, c.len-at-end.ensures.len)));
    }

pub loop-at-preserved : goal.loop-at-preserved
loop-at-preserved c = grind (arith, common_steps)
