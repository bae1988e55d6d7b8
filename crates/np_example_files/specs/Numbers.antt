-- Numbers that stand in a line (crates/np_examples/data/README.md, "The format").
use Rattle.std.specs.Prelude.{ℕ, Bool, ◌&&◌, nat_lt, if◌then◌else◌, List, length, Option, Some, None, Result}
use Rattle.std.specs.Char.{is_ascii_digit}
use Rattle.std.specs.List.{list_all}
use Rattle.std.specs.Option.{ok_or}
use Rattle.std.specs.Str.Parse.{digits_value, without_leading_plus}
use Rattle.np_example_files.specs.declared.fail.ExampleFail.{ExampleFail}
use Rattle.np_example_files.specs.declared.fail.ExampleFail.TheVariants as fail

-- one digit or more, and nothing else
abbrev pub is_numeral : List ℕ → Bool
is_numeral digits = nat_lt 0 (length digits) && list_all is_ascii_digit digits

-- the number that the digits write, if it is below the bound
abbrev pub value_below : ℕ → List ℕ → Option ℕ
value_below bound digits = if is_numeral digits && nat_lt (digits_value 10 digits) bound then Some (digits_value 10 digits) else None

-- the same of a text, in which a plus may stand in front of the digits
unfoldable pub number_below : ℕ → List ℕ → Option ℕ
number_below bound text = value_below bound (without_leading_plus text)

-- that number, or the refusal of the line
abbrev pub number_or_refusal : ℕ → List ℕ → ℕ → Result ℕ ExampleFail
number_or_refusal bound text line = ok_or (number_below bound text) (fail.Line line)
