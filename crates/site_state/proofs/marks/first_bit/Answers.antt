use Rattle.std.proofs.Common.{arith}
use Rattle.site_state.proofs.Bits.{first_marked, unmarked_before, unmarked_from}
use Rattle.site_state.proofs.marks.first_bit.Goals as goal

pub returns-then-rest-eq0-clause-before : goal.returns-then-rest-eq0-clause-before
returns-then-rest-eq0-clause-before c = λ to more less. unmarked_from c.args.bits c.args.from to c.if-rest-eq0.true more less

pub returns-else-rest-eq0-clause-marked : goal.returns-else-rest-eq0-clause-marked
returns-else-rest-eq0-clause-marked c = first_marked c.args.bits c.args.from c.lowest.result c.lowest.ensures

pub returns-else-rest-eq0-clause-before : goal.returns-else-rest-eq0-clause-before
returns-else-rest-eq0-clause-before c = unmarked_before c.args.bits c.args.from c.lowest.result c.lowest.ensures c.ranges.bits.fits
