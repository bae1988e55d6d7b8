use Rattle.std.proofs.Common.{arith}
use Rattle.np_serial.proofs.SerialEvents.{low-sites}
use Rattle.look_pages.proofs.sides.low_side.Goals as goal

pub follow-requires-clause-sites : goal.follow-requires-clause-sites
follow-requires-clause-sites c = omega (arith, c.requires.sites, low-sites c.args.low.now)

pub causes_low-causes-requires-clause-sites : goal.causes_low-causes-requires-clause-sites
causes_low-causes-requires-clause-sites c = omega (arith, c.requires.sites, low-sites c.args.low.now)
