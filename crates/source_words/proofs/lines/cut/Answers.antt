use Rattle.std.proofs.Common.{◌≡◌, arith, subst, sym}
use Rattle.source_words.specs.Words.{source_of}
use Rattle.source_words.proofs.Pieces.{lines-end}
use Rattle.source_words.proofs.lines.cut.Goals as goal

pub returns : goal.returns
returns c =
    let source = c.args.source.now in
    subst (λ ls. source_of ls ≡ source) (sym c.in_ok-add-2.ensures) (lines-end source c.loop-at.lines _ c.loop-at.start _ (omega arith) c.loop-at.invariant.are c.in_ok-line_of-2.ensures)
