use Rattle.std.proofs.Common.{◌≡◌, drop, map}
use Rattle.std.specs.FinSet as set
use Rattle.np_calculus.specs.Starts.{own, with_all}
use Rattle.np_configuration.proofs.start.names_of.Given as goal

abbrev pub invariant-loop-n : goal.invariant-loop-n
invariant-loop-n l = with_all l.names.members (map (own l.sites) (drop l.n-index l.numbers)) ≡ with_all set.empty (map (own l.sites) l.numbers)
