use Rattle.std.proofs.Common.{◌≡◌, ◌++◌, false, drop}
use Rattle.std.specs.List.{flat_map}
use Rattle.markup_text.specs.Escapes.{escaped}
use Rattle.page_html.specs.Marks.{spaced}
use Rattle.page_html.proofs.marks.put_numbers.Given as goal

-- those so far, and those still to come
abbrev pub invariant-loop-number : goal.invariant-loop-number
invariant-loop-number l = l.text.failed ≡ false → (l.initial.text.failed ≡ false)
    × (l.text.text ++ escaped (flat_map spaced (drop l.number-index l.numbers)) ≡ l.initial.text.text ++ escaped (flat_map spaced l.numbers))
