use Rattle.std.proofs.Common.{◌≡◌, ◌++◌, false, take}
use Rattle.std.specs.List.{flat_map}
use Rattle.markup_text.specs.Escapes.{escaped_byte}
use Rattle.markup_text.proofs.escape.put_escaped.Given as goal

-- the bytes so far
abbrev pub invariant-loop-byte : goal.invariant-loop-byte
invariant-loop-byte l = l.text.failed ≡ false → (l.fn.text.failed ≡ false) × (l.text.text ≡ l.fn.text.text ++ flat_map escaped_byte (take l.byte-index l.bytes))
