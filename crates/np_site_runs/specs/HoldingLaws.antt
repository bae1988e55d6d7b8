-- What the laws of holdings say.
use Rattle.std.specs.Prelude.{[]}
use Rattle.np_site_runs.specs.Holdings.{Holding, DoesAll}

abbrev pub NothingDone : Type 0
NothingDone = (h : Holding) → DoesAll h [] h
