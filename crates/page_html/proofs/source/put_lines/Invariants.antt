use Rattle.std.proofs.Common.{◌≡◌, ◌+◌, ◌++◌, false, drop}
use Rattle.page_html.specs.Parts.{counted}
use Rattle.page_html.specs.Sources.{line_text}
use Rattle.page_html.proofs.source.put_lines.Given as goal

-- those so far, and those still to come
abbrev pub invariant-loop-index : goal.invariant-loop-index
invariant-loop-index l = l.text.failed ≡ false → (l.initial.text.failed ≡ false)
    × (l.text.text ++ counted line_text (l.index + 1) (drop l.index l.lines) ≡ l.initial.text.text ++ counted line_text 1 l.lines)
