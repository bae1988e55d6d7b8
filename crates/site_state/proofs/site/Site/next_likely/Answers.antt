use Rattle.std.proofs.Common.{refl}
use Rattle.site_state.proofs.Done.{same_quiet}
use Rattle.site_state.proofs.site.Site.next_likely.Goals as goal

pub returns-clause-stays : goal.returns-clause-stays
returns-clause-stays c = rw (← c.self.view_is) record {
  agents = c.next_likely.ensures.agents;
  quiet = λ q. same_quiet c.args.code.now _ _ refl refl (c.next_likely.ensures.still (same_quiet c.args.code.now _ _ refl refl q));
  same = record { site = refl; next = refl; clock = refl; history = refl };
  outgoing = refl;
}
