-- The text of a value that is printed (docs/LANGUAGE.md, "Printed values").
use Rattle.std.specs.Prelude.{ℕ, Bool, true, false, ◌==◌, List, [], ◌∷◌, ◌++◌, map, codes, slice_index_or, if◌then◌else◌}
use Rattle.std.specs.Fmt.{signed_decimal}
use Rattle.std.specs.List.{flat_map}
use Rattle.np_syntax.specs.Escapes.{escapes}
use Rattle.np_syntax.specs.declared.value.Value.{Value, Value-F, fold-Value}

abbrev pub escaped_by : List (ℕ × ℕ) → ℕ → List ℕ
escaped_by [] byte = byte ∷ []
escaped_by (escape ∷ others) byte = if byte == escape.0 then codes "\\" ++ escape.1 ∷ [] else escaped_by others byte

-- a byte of a string, as its escape where it has one
abbrev pub escaped : ℕ → List ℕ
escaped = escaped_by escapes

abbrev pub quoted : List ℕ → List ℕ
quoted text = codes "\"" ++ flat_map escaped text ++ codes "\""

-- texts with single spaces between them
abbrev pub spaced : List (List ℕ) → List ℕ
spaced [] = []
spaced (text ∷ texts) = text ++ flat_map (λ other. codes " " ++ other) texts

abbrev pub truth_text : Bool → List ℕ
truth_text true = codes "true"
truth_text false = codes "false"

abbrev pub text_step : List (List ℕ) → Value-F (List ℕ) → List ℕ
text_step sites (Value-F.Int number) = signed_decimal number
text_step sites (Value-F.Truth truth) = truth_text truth
text_step sites (Value-F.Str text) = quoted text
text_step sites (Value-F.Site site) = slice_index_or sites site []
text_step sites (Value-F.Tuple parts) = codes "[" ++ spaced parts ++ codes "]"
text_step sites _ = []

-- the text of a value, in a program whose sites have these names; empty where it is never printed
unfoldable pub value_text : List (List ℕ) → Value → List ℕ
value_text sites = fold-Value (List ℕ) (text_step sites)

-- the text of a tuple
abbrev pub tuple_text : List (List ℕ) → List Value → List ℕ
tuple_text sites parts = codes "[" ++ spaced (map (value_text sites) parts) ++ codes "]"
