use Rattle.std.proofs.Common.{◌≡◌, ◌≤◌, ◌+◌, drop, length, false}
use Rattle.np_syntax.specs.declared.limits.TheConstants.{LONGEST_STRING}
use Rattle.np_lex.specs.Strings.{behind, unquoted}
use Rattle.np_lex.proofs.strings.string.Given as goal

abbrev pub invariant-bytes : goal.invariant-bytes
invariant-bytes l = record {
  same : unquoted false l.rest ≡ behind l.byte-index l.text (unquoted l.escaped (drop l.byte-index l.rest));
  count : l.len ≡ 1 + l.byte-index;
  few : length l.text ≤ LONGEST_STRING;
}
