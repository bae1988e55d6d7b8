-- The string at the front of bytes, as it is read from left to right.
use Rattle.std.specs.Prelude.{ℕ, ◌+◌, Bool, true, false, nat_le, ◌==◌, if◌then◌else◌, List, [], ◌∷◌, ◌++◌, length, Option, Some, None}
use Rattle.np_syntax.specs.Escapes.{escapes}
use Rattle.np_syntax.specs.declared.limits.TheConstants.{LONGEST_STRING}
use Rattle.np_lex.specs.declared.strings.Part.{Part}
use Rattle.np_lex.specs.declared.strings.Part.TheVariants as part
use Rattle.np_lex.specs.declared.token.What.{What}
use Rattle.np_lex.specs.declared.token.What.TheVariants as what
use Rattle.np_lex.specs.Tokens.{is_plain}

abbrev pub meant_by : List (ℕ × ℕ) → ℕ → Part
meant_by [] letter = part.Wrong
meant_by (escape ∷ others) letter = if letter == escape.1 then part.Byte escape.0 else meant_by others letter

-- what a byte is within the quotes, behind a backslash or not
abbrev pub part_of : Bool → ℕ → Part
part_of true byte = meant_by escapes byte
part_of false byte = if byte == 34 then part.Close
    else (if byte == 92 then part.Backslash else (if is_plain byte then part.Byte byte else part.Wrong))

-- behind so many bytes, which wrote this text
abbrev pub behind : ℕ → List ℕ → Option (ℕ × List ℕ) → Option (ℕ × List ℕ)
behind len text None = None
behind len text (Some more) = Some (len + more.0, text ++ more.1)

-- how many bytes there are up to the closing quote and with it, and the text that they write
abbrev pub unquoted : Bool → List ℕ → Option (ℕ × List ℕ)
unquoted escaped [] = None
unquoted escaped (byte ∷ rest) = elim (part_of escaped byte) [
  | part.Close ↦ Some (1, [])
  | part.Backslash ↦ behind 1 [] (unquoted true rest)
  | part.Byte b ↦ behind 1 (b ∷ []) (unquoted false rest)
  | part.Wrong ↦ None
]

abbrev pub limited : Option (ℕ × List ℕ) → Option (ℕ × What)
limited None = None
limited (Some read) = if nat_le (length read.1) LONGEST_STRING then Some (1 + read.0, what.Str read.1) else None

-- the string whose opening quote stands before these bytes, with its length
unfoldable pub string : List ℕ → Option (ℕ × What)
string rest = limited (unquoted false rest)
