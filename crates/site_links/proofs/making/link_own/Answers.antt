use Rattle.std.proofs.Common.{refl}
use Rattle.site_links.proofs.making.link_own.Goals as goal

pub returns : goal.returns
returns g c = let e = c.in_ok-own.ensures in record {
  own = _;
  grown = record { site_same = refl; ends = c.in_ok-push.ensures.items; fresh = e.fresh };
  meet = e.meet;
}
