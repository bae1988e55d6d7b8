use Rattle.std.proofs.Common.{refl}
use Rattle.site_links.proofs.making.link_two.Goals as goal

pub returns : goal.returns
returns g c = let e = c.in_ok-first.ensures in record {
  first = _;
  second = _;
  grown_first = record { site_same = refl; ends = c.in_ok-push.ensures.items; fresh = e.fresh.0 };
  grown_second = record { site_same = refl; ends = c.in_ok-push-2.ensures.items; fresh = e.fresh.1 };
  there = e.meet.0;
  back = e.meet.1;
}
