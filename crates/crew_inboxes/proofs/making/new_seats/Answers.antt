use Rattle.std.proofs.Common.{◌≡◌, arith}
use Rattle.crew_inboxes.proofs.Weaving.{begun_more, woven_begun}
use Rattle.crew_inboxes.proofs.making.new_seats.Goals as goal

pub loop-site-preserved : goal.loop-site-preserved
loop-site-preserved c = begun_more c.args.sites c.loop-site.site c.loop-site.seats.items _ c.loop-site.invariant c.in_ok-add_seat.ensures

pub returns : goal.returns
returns c = let e : c.loop-site.site ≡ c.args.sites = omega arith in woven_begun c.args.sites c.loop-site.site c.loop-site.seats.items c.loop-site.invariant e
