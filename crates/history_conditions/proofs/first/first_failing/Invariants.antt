use Rattle.std.proofs.Common.{◌≡◌, drop}
use Rattle.history_conditions.specs.Conditions.{first_failing, holds}
use Rattle.history_conditions.proofs.first.first_failing.Given as goal

-- of those that are left
abbrev pub invariant-loop-condition : goal.invariant-loop-condition
invariant-loop-condition l =
    first_failing (holds l.moment.reached.now l.event) l.conditions ≡ first_failing (holds l.moment.reached.now l.event) (drop l.condition-index l.conditions)
