use Rattle.std.proofs.Common.{refl}
use Rattle.site_state.proofs.Done.{same_quiet}
use Rattle.site_state.proofs.Sites.{none_given}
use Rattle.site_state.proofs.site.Site.next_ready.Goals as goal

pub returns-clause-stays : goal.returns-clause-stays
returns-clause-stays c = rw (← c.self.view_is) record {
  agents = c.next_ready.ensures.agents;
  quiet = λ q. same_quiet c.args.code.now _ _ refl refl (c.next_ready.ensures.still (same_quiet c.args.code.now _ _ refl refl q));
  same = record { site = refl; next = refl; clock = refl; history = refl };
  outgoing = refl;
}

pub returns-clause-none : goal.returns-clause-none
returns-clause-none c = rw (← c.self.view_is) (none_given _ _ c.next_ready.result (λ q. c.next_ready.ensures.none (same_quiet c.args.code.now _ _ refl refl q)))
