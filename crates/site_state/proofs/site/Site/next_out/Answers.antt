use Rattle.std.proofs.Common.{refl}
use Rattle.site_state.proofs.Sites.{match_weaker, same_agents}
use Rattle.site_state.proofs.site.Site.next_out.Goals as goal

pub returns : goal.returns
returns c = rw (← c.self.view_is) (match_weaker c.take.result
    (λ h. record {
      none = h.0;
      same = record {
        same = record { site = refl; agents = same_agents _ _ refl; next = refl; clock = refl; history = refl; outgoing = h.1 };
        quiet = λ code q. record { each = q.each };
      };
    })
    (λ item h. record { agents = refl; quiet = refl; same = record { site = refl; next = refl; clock = refl; history = refl }; outgoing = h }) c.take.ensures.taken)
