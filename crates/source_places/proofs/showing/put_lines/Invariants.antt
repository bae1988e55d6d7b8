use Rattle.std.proofs.Common.{◌≡◌, ◌++◌, false, take}
use Rattle.std.specs.List.{flat_map}
use Rattle.source_places.specs.Shown.{shown_line}
use Rattle.source_places.proofs.showing.put_lines.Given as goal

-- the lines so far
abbrev pub invariant-loop-line : goal.invariant-loop-line
invariant-loop-line l = l.text.failed ≡ false → (l.fn.text.failed ≡ false) × (l.text.text ≡ l.fn.text.text ++ flat_map shown_line (take l.line-index l.lines))
