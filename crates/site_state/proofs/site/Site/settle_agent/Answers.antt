use Rattle.std.proofs.Common.{refl}
use Rattle.site_state.proofs.Done.{same_quiet}
use Rattle.site_state.proofs.site.Site.settle_agent.Goals as goal

pub invariant_of-self : goal.invariant_of-self
invariant_of-self c = let h = c.self.invariant.0 in (
  record {
    site = h.site;
    budget = h.budget;
    named = c.put.ensures.named (rw c.in-Ok.ensures.agents h.named);
    names = h.names;
    clock = h.clock;
    last = h.last;
  },
  c.self.invariant.1,
)

pub returns-in-Ok-clause-ok : goal.returns-in-Ok-clause-ok
returns-in-Ok-clause-ok c = rw (← c.self.view_is) record {
  agents = rw (c.put.ensures.agents, c.in-Ok.ensures.agents) refl;
  quiet = λ code q. same_quiet code _ _ refl refl (c.put.ensures.still code (same_quiet code _ _ c.in-Ok.ensures.agents c.in-Ok.ensures.quiet q));
  same = record { site = refl; next = refl; clock = refl; history = refl };
  outgoing = refl;
}
