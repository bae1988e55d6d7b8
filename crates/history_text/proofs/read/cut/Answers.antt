use Rattle.std.proofs.Common.{◌∷◌, ap, ◌∙◌, sym}
use Rattle.history_text.specs.Histories.{lines}
use Rattle.history_text.proofs.Lines.{cut_is, no_rest, all_rest}
use Rattle.history_text.proofs.read.cut.Goals as goal

pub returns-in-empty-clause-lines : goal.returns-in-empty-clause-lines
returns-in-empty-clause-lines c =
    cut_is c.args.bytes.now c.split_at.result.0.now c.split_at.result.1.now c.line_len.result c.requires c.line_len.ensures.value c.split_at.ensures.front c.split_at.ensures.back
    ∙ ap (λ l. c.split_at.result.0.now ∷ lines l) (no_rest c.split_at.result.1.now c.in-empty.len_below)

pub returns-in-len1-up-clause-lines : goal.returns-in-len1-up-clause-lines
returns-in-len1-up-clause-lines c =
    cut_is c.args.bytes.now c.split_at.result.0.now c.split_at.result.1.now c.line_len.result c.requires c.line_len.ensures.value c.split_at.ensures.front c.split_at.ensures.back
    ∙ ap (λ l. c.split_at.result.0.now ∷ lines l) (sym (all_rest c.split_at.result.1.now))
