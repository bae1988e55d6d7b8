use Rattle.std.proofs.Common.{◌<◌, refl, subst, arith}
use Rattle.np_tables.proofs.Walks.{one-more}
use Rattle.agent_pool.proofs.Walking.{met-all}
use Rattle.site_agents.specs.Standings.{agents_of, IdleAt}
use Rattle.site_agents.proofs.Reading.{idle_absent}
use Rattle.site_agents.proofs.serving.all_idle.Goals as goal

pub loop-at-preserved : goal.loop-at-preserved
loop-at-preserved c =
    one-more (IdleAt c.args.code.now.processes (agents_of c.args.seats.now.items)) c.args.seats.now.keys c.loop-at.at c.key.result (subst (λ k. c.loop-at.at < k) c.len-at-end.ensures.len c.loop-at-test.true)
    c.key.ensures.at (c.is_idle.ensures.0 c.if-not-is_idle.false) c.loop-at.invariant

pub returns : goal.returns
returns c =
    let seats = c.args.seats.now.items in
    let ts = c.args.code.now.processes in (
      (λ t. record {
        each = met-all (IdleAt ts (agents_of seats)) seats c.args.seats.now.keys c.len-at-end.ensures.covers (λ q h. idle_absent ts seats q h)
            (λ k d l. c.loop-at.invariant k d (omega (arith, l, c.loop-at-test.false, c.len-at-end.ensures.len)));
      }),
      (λ n. refl),
    )
