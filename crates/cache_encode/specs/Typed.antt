-- What holds of the low program of a checked program where agents have caches, and of its runs (docs/LANGUAGE.md, "Types" and
-- "Reductions").
use Rattle.std.specs.Prelude.{◌≡◌, Some, List, length}
use Rattle.np_syntax.specs.declared.program.Program.{Program}
use Rattle.np_syntax.specs.declared.event.Event.{Event}
use Rattle.np_calculus.specs.Config.{Config}
use Rattle.np_calculus.specs.Reductions.{run}
use Rattle.np_calculus.specs.Runs.{RunsWell}
use Rattle.np_calculus.specs.Starts.{start_low}
use Rattle.np_calculus.specs.Well.{WellAlong}
use Rattle.np_check.specs.Faults.{IsAccepted}
use Rattle.np_safety.specs.Low.{IsFaultless, infrastructure}
use Rattle.np_safety.specs.Typed.{TypedAlong}
use Rattle.daemon_encode.specs.LowSound.{IsLowSound}
use Rattle.cache_encode.specs.Encoded.{encoded_cached}

-- neither main's process nor the daemon's has a fault under the types of the infrastructure's channels
abbrev pub CachedFaultless : Type 0
CachedFaultless = (p : Program) → IsAccepted p → IsFaultless (encoded_cached p)

-- uses, sites, values and the types at each `new` are as a low program has them
abbrev pub CachedSound : Type 0
CachedSound = (p : Program) → IsAccepted p → IsLowSound (encoded_cached p)

-- every run from its low start is typed throughout, and meets no value of a wrong type: so it is after each prefix
abbrev pub CachedWellTyped : Type 0
CachedWellTyped = (p : Program) → IsAccepted p → (events : List Event) (d : Config) → run (start_low (encoded_cached p)) events ≡ Some d
    → TypedAlong (start_low (encoded_cached p)) (infrastructure (length p.sites)) events × WellAlong (start_low (encoded_cached p)) events

-- its low start can run: it meets the condition of the serial run
abbrev pub CachedRunsWell : Type 0
CachedRunsWell = (p : Program) → IsAccepted p → RunsWell (start_low (encoded_cached p)) (encoded_cached p).at
