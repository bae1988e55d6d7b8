use Rattle.std.proofs.Common.{◌≡◌, drop}
use Rattle.np_types.specs.Least.{leasts}
use Rattle.np_types.specs.Worlds.{bare}
use Rattle.np_types.proofs.Leasts.{after_leasts}
use Rattle.np_types.proofs.expressions.+least.Given as goal

abbrev pub invariant-leasts-loop-part : goal.invariant-leasts-loop-part
invariant-leasts-loop-part l = leasts bare l.env l.parts ≡ after_leasts l.types (leasts bare l.env (drop l.part-index l.parts))
