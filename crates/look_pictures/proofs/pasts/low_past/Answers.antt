use Rattle.std.proofs.Common.{arith}
use Rattle.np_serial.proofs.SerialEvents.{low-sites}
use Rattle.look_pictures.proofs.pasts.low_past.Goals as goal

pub follow-requires-clause-sites : goal.follow-requires-clause-sites
follow-requires-clause-sites c = omega (arith, c.requires.sites, low-sites c.args.low.now)

pub low_faded-requires-clause-sites : goal.low_faded-requires-clause-sites
low_faded-requires-clause-sites c = omega (arith, c.requires.sites, low-sites c.args.low.now)
