use Rattle.std.proofs.Common.{◌∙◌, ◌-◌, ◌++◌, List, ℕ, ap}
use Rattle.std.proofs.lemmas.Iterator.{YieldsList-from_take}
use Rattle.std.proofs.lemmas.Iterator.Adapters.{YieldsList-from_skip}
use Rattle.std.proofs.lemmas.Iterator.Consumers.{YieldsList-at, YieldsList-end}
use Rattle.std.proofs.lemmas.Iterator.Splits.{YieldsList-from_lines}
use Rattle.np_example_files.specs.Pieces.{with_line_feeds}
use Rattle.np_example_files.proofs.Texts.{longer}
use Rattle.np_example_files.proofs.pieces.add_lines.Goals as goal

pub returns-in_err-add_line-clause-kept : goal.returns-in_err-add_line-clause-kept
returns-in_err-add_line-clause-kept c = longer c.args.bytes.now.items c.loop-line.bytes.items c.add_line.new.bytes.items _ c.loop-line.invariant c.add_line.ensures.kept

pub returns-clause-made : goal.returns-clause-made
returns-clause-made c =
    let taken = YieldsList-from_take c.args.last (YieldsList-at c.take.ensures.source (YieldsList-from_lines c.args.text.now c.lines.ensures.rest)) c.take.ensures.count in
    let skipped = YieldsList-from_skip (c.args.first - 1) (YieldsList-at c.skip-line-items.ensures.source taken) (c.skip-line-items.ensures.count ∙ c.saturating_sub.ensures) in
    let all = YieldsList-end (YieldsList-at c.into_iter-line-iterator.ensures.into_iter_gives skipped) c.loop-line.yielded _ c.loop-line.yielded_by _ _ c.in-None.is c.next.ensures.steps in
    c.loop-line.invariant ∙ ap (λ (xs : List (List ℕ)). c.args.bytes.now.items ++ with_line_feeds xs) all.0
