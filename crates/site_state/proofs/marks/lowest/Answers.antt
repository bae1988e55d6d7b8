use Rattle.std.proofs.Common.{arith}
use Rattle.site_state.proofs.Bits.{is_lowest}
use Rattle.site_state.proofs.marks.lowest.Goals as goal

pub returns : goal.returns
returns c = is_lowest c.args.bits c.requires c.ranges.bits.fits
