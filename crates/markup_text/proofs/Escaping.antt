-- Bytes that are written escaped, piece by piece.
use Rattle.std.proofs.Common.{◌≡◌, ℕ, List, ◌++◌, sym, ap}
use Rattle.std.specs.Prelude.{codes}
use Rattle.std.proofs.lemmas.List.Concat.{flat_map-append}
use Rattle.text_writer.specs.declared.writer.TextWriter.{TextWriter}
use Rattle.text_writer.specs.Writes.{Writes}
use Rattle.text_writer.proofs.Writing.{same, then}
use Rattle.markup_text.specs.declared.words.AttributeName.{AttributeName}
use Rattle.markup_text.specs.Attributes.{attribute_text, value_opened, words}
use Rattle.markup_text.specs.Escapes.{escaped, escaped_byte}

-- bytes, and others behind them
pub escaped-then : (a b c : TextWriter) (x y : List ℕ) → Writes a b (escaped x) → Writes b c (escaped y) → Writes a c (escaped (x ++ y))
escaped-then a b c x y f g = same a c (escaped x ++ escaped y) (escaped (x ++ y)) (then a b c (escaped x) (escaped y) f g) (sym (flat_map-append escaped_byte x y))

-- bytes that are these
pub escaped-same : (a b : TextWriter) (x y : List ℕ) → Writes a b (escaped x) → x ≡ y → Writes a b (escaped y)
escaped-same a b x y f e = same a b (escaped x) (escaped y) f (ap escaped e)

-- an attribute that says them
pub value-written : (a b c d : TextWriter) (name : AttributeName) (x : List ℕ) → Writes a b (value_opened name) → Writes b c (escaped x) → Writes c d (codes "\"")
    → Writes a d (attribute_text (words name x))
value-written a b c d name x f g = then a c d (value_opened name ++ escaped x) (codes "\"") (then a b c (value_opened name) (escaped x) f g)
