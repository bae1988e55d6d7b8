use Rattle.std.proofs.Common.{◌≡◌, ◌≤◌, take}
use Rattle.np_syntax.specs.Numerals.{value}
use Rattle.np_syntax.specs.declared.limits.TheConstants.{LARGEST_NUMBER}
use Rattle.history_text.proofs.fields.bounded.Given as goal

abbrev pub invariant-digits : goal.invariant-digits
invariant-digits l = record { same : l.number ≡ value (take l.byte-index l.digits); small : l.number ≤ LARGEST_NUMBER }
