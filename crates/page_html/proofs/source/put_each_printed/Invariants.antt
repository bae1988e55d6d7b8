use Rattle.std.proofs.Common.{◌≡◌, ◌++◌, false, drop}
use Rattle.std.specs.List.{flat_map}
use Rattle.page_html.specs.Sources.{printed_text}
use Rattle.page_html.proofs.source.put_each_printed.Given as goal

-- those so far, and those still to come
abbrev pub invariant-loop-one : goal.invariant-loop-one
invariant-loop-one l = l.text.failed ≡ false → (l.initial.text.failed ≡ false)
    × (l.text.text ++ flat_map printed_text (drop l.one-index l.printed) ≡ l.initial.text.text ++ flat_map printed_text l.printed)
