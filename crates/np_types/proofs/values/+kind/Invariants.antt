use Rattle.std.proofs.Common.{◌≡◌, drop}
use Rattle.np_types.specs.Worlds.{bare, kinds}
use Rattle.np_types.proofs.ValueTypes.{after_types}
use Rattle.np_types.proofs.values.+kind.Given as goal

abbrev pub invariant-kinds-loop-value : goal.invariant-kinds-loop-value
invariant-kinds-loop-value l = kinds bare l.values ≡ after_types l.types (kinds bare (drop l.value-index l.values))
