use Rattle.std.proofs.Common.{◌≡◌, ◌+◌, ◌++◌, false, drop}
use Rattle.page_html.specs.Parts.{counted}
use Rattle.page_html.specs.Tables.{row_text}
use Rattle.page_html.proofs.tables.put_rows.Given as goal

-- those so far, and those still to come
abbrev pub invariant-loop-index : goal.invariant-loop-index
invariant-loop-index l = l.text.failed ≡ false → (l.initial.text.failed ≡ false)
    × (l.text.text ++ counted (row_text l.level) (l.index + 1) (drop l.index l.rows) ≡ l.initial.text.text ++ counted (row_text l.level) 1 l.rows)
