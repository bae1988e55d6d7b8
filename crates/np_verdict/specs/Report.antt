-- The texts of reports (docs/COMMANDS.md, "Reports and refusals").
use Rattle.std.specs.Prelude.{ℕ, ℤ, pos, ◌+ℤ◌, List, [], ◌++◌, length, codes, decimal, slice_index_or}
use Rattle.std.specs.Fmt.{signed_decimal}
use Rattle.std.specs.Int.{int_wrap, w64}
use Rattle.std.specs.List.{flat_map, fold}
use Rattle.np_syntax.specs.declared.value.Value.{Value, Value-F, out-Value}
use Rattle.np_syntax.specs.declared.event.End.{End}
use Rattle.np_syntax.specs.declared.event.End.TheVariants.{Rest, Spent}
use Rattle.np_syntax.specs.Printed.{value_text}

-- the line of a printed value: the site's name, and the value
abbrev pub said_line : List (List ℕ) → ℕ × Value → List ℕ
said_line sites said = slice_index_or sites said.0 [] ++ codes ": " ++ value_text sites said.1 ++ codes "\n"

-- the line of each printed value in order
abbrev pub said_text : List (List ℕ) → List (ℕ × Value) → List ℕ
said_text sites said = flat_map (said_line sites) said

abbrev pub last_line : End → List ℕ
last_line Rest = codes "at rest\n"
last_line Spent = codes "budget spent\n"

-- what a run printed, the histories that were asked for, and how the run ended
unfoldable pub report_text : List (List ℕ) → List (ℕ × Value) → List ℕ → End → List ℕ
report_text sites said between how = said_text sites said ++ between ++ last_line how

-- what a run printed, and how many events it has
unfoldable pub replay_text : List (List ℕ) → List (ℕ × Value) → ℕ → List ℕ
replay_text sites said events = said_text sites said ++ codes "a run of " ++ decimal events ++ codes " events\n"

-- what was printed, the history text of what led to it, and how many events that is
unfoldable pub past_text : List (List ℕ) → ℕ × Value → List ℕ → ℕ → List ℕ
past_text sites said history events = said_line sites said ++ history ++ codes "past of " ++ decimal events ++ codes " events\n"

-- ---- the run of a generated source

abbrev pub number_at : Value-F Value → ℤ
number_at (Value-F.Int number) = number
number_at _ = pos 0

-- the number that a value is; any other value counts for nothing
abbrev pub number_of : Value → ℤ
number_of v = number_at (out-Value v)

-- the sum of the numbers that were printed
abbrev pub total : List (ℕ × Value) → ℤ
total said = fold (λ sum one. sum +ℤ number_of one.1) (pos 0) said

-- what is left of it in 64 bits with a sign
abbrev pub wrapped_total : List (ℕ × Value) → ℤ
wrapped_total said = int_wrap w64 (total said)

-- how many agents the source has, how many values were printed, their sum, and how the run ended
unfoldable pub load_text : ℕ → List (ℕ × Value) → End → List ℕ
load_text agents said how =
    codes "agents " ++ decimal agents ++ codes "\nsaid " ++ decimal (length said) ++ codes "\nsum " ++ signed_decimal (wrapped_total said)
    ++ codes "\n" ++ last_line how
