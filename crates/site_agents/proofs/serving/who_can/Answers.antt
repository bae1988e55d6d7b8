use Rattle.std.proofs.Common.{◌<◌, sym, ◌∙◌, subst, arith}
use Rattle.np_tables.proofs.Walks.{one-more}
use Rattle.agent_pool.proofs.Walking.{met-all}
use Rattle.site_agents.specs.Standings.{agents_of, CanDo}
use Rattle.site_agents.proofs.Reading.{can_nowhere}
use Rattle.site_agents.proofs.serving.who_can.Goals as goal

pub loop-at-preserved : goal.loop-at-preserved
loop-at-preserved c =
    one-more (λ q. CanDo c.args.code.now (agents_of c.args.seats.now.items) q c.args.r → ⊥) c.args.seats.now.keys c.loop-at.at c.key-name.result
    (subst (λ k. c.loop-at.at < k) c.len-at-end.ensures.len c.loop-at-test.true) c.key-name.ensures.at
    (λ can. absurd (let both = sym (c.can_do.ensures.1 can) ∙ c.if-can_do.false in cc)) c.loop-at.invariant

pub returns-then-can_do-clause-some : goal.returns-then-can_do-clause-some
returns-then-can_do-clause-some c = c.can_do.ensures.0 c.if-can_do.true

pub returns-clause-none : goal.returns-clause-none
returns-clause-none c =
    let seats = c.args.seats.now.items in
    record {
      each = met-all (λ q. CanDo c.args.code.now (agents_of seats) q c.args.r → ⊥) seats c.args.seats.now.keys c.len-at-end.ensures.covers (λ q h. can_nowhere c.args.code.now seats q c.args.r h)
          (λ k d l. c.loop-at.invariant k d (omega (arith, l, c.loop-at-test.false, c.len-at-end.ensures.len)));
    }
