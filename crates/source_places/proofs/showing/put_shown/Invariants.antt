use Rattle.std.proofs.Common.{◌≡◌, ◌++◌, ◌-◌, false, length}
use Rattle.source_places.specs.Shown.{shown_some}
use Rattle.source_places.proofs.showing.put_shown.Given as goal

-- the characters so far, and then those still to come
abbrev pub invariant-loop : goal.invariant-loop
invariant-loop l = l.text.failed ≡ false → (l.fn.text.failed ≡ false)
    × (l.text.text ++ shown_some (length l.bytes - l.index) l.rest ≡ l.fn.text.text ++ shown_some (length l.bytes) l.bytes)
