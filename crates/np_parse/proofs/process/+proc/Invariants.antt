use Rattle.std.proofs.Common.{suc, ◌+◌, ◌*◌, ◌-◌, ◌≡◌, ◌≤◌}
use Rattle.np_syntax.specs.declared.limits.TheConstants.{DEEPEST}
use Rattle.np_parse.specs.Read.Processes.{proc, more}
use Rattle.np_parse.proofs.process.+proc.Given as goal

abbrev pub decreases-proc : goal.decreases-proc
decreases-proc l = 6 * l.levels

abbrev pub decreases-proc_in : goal.decreases-proc_in
decreases-proc_in l = 6 * l.below + 5

abbrev pub decreases-on_channel : goal.decreases-on_channel
decreases-on_channel l = 6 * l.below + 3

abbrev pub decreases-bracket : goal.decreases-bracket
decreases-bracket l = 6 * l.below + 4

abbrev pub decreases-others : goal.decreases-others
decreases-others l = 6 * l.below + 3

abbrev pub decreases-single : goal.decreases-single
decreases-single l = 6 * l.below + 1

abbrev pub decreases-double : goal.decreases-double
decreases-double l = 6 * l.below + 2

abbrev pub decreases-two : goal.decreases-two
decreases-two l = 6 * l.below + 1

abbrev pub decreases-more : goal.decreases-more
decreases-more l = 6 * l.below + 1

abbrev pub invariant-more-turns : goal.invariant-more-turns
invariant-more-turns l = record {
  same : more (proc DEEPEST l.below) (suc l.below) l.at (suc l.below) l.initial.left l.initial.tokens
      ≡ more (proc DEEPEST l.below) (suc l.below) l.at (suc l.below - l.counter) l.left l.tokens;
  within : l.left.1 ≤ l.below + 1;
}
