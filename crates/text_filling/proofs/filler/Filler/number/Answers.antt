use Rattle.std.proofs.Common.{arith, sym}
use Rattle.text_filling.proofs.Nths.{nth-below, nth-past}
use Rattle.text_filling.proofs.filler.Filler.number.Goals as goal

pub returns-then-place-known : goal.returns-then-place-known
returns-then-place-known c = nth-below c.args.self.binders.now c.args.self.next c.args.place 0 (omega (arith, c.if-place-known.true))

pub returns-else-place-known : goal.returns-else-place-known
returns-else-place-known c = sym (nth-past c.args.self.binders.now c.args.self.next c.args.place (omega (arith, c.if-place-known.false)))
