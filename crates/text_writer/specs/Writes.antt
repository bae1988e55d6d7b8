-- A text that is written piece by piece (docs/ARCHITECTURE.md, "Texts that are written").
use Rattle.std.specs.Prelude.{◌≡◌, ℕ, false, List, ◌++◌}
use Rattle.text_writer.specs.declared.writer.TextWriter.{TextWriter}

-- where memory is not wanting then, it was not before, and the piece stands behind what was written
abbrev pub Writes : TextWriter → TextWriter → List ℕ → Type 0
Writes old new piece = new.failed ≡ false → (old.failed ≡ false) × (new.text ≡ old.text ++ piece)
