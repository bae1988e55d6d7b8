use Rattle.std.proofs.Common.{◌≡◌, ◌++◌, false, take}
use Rattle.std.specs.List.{flat_map}
use Rattle.source_places.specs.Shown.{shown_byte}
use Rattle.source_places.proofs.showing.put_bytes.Given as goal

-- the bytes so far
abbrev pub invariant-loop-byte : goal.invariant-loop-byte
invariant-loop-byte l = l.text.failed ≡ false → (l.fn.text.failed ≡ false) × (l.text.text ≡ l.fn.text.text ++ flat_map shown_byte (take l.byte-index l.bytes))
