-- What the infrastructure of a run decides: the low program, the run of the high level that is read off, and what is said of the posts of
-- a run (docs/TRANSLATION.md, "Translation and daemon").
use Rattle.std.specs.Prelude.{List}
use Rattle.np_syntax.specs.declared.event.Event.{Event}
use Rattle.np_syntax.specs.declared.program.LowProgram.{LowProgram}
use Rattle.np_syntax.specs.declared.program.Program.{Program}
use Rattle.np_calculus.specs.Config.{Config}
use Rattle.daemon_encode.specs.Encoded.{encoded}
use Rattle.cache_encode.specs.Encoded.{encoded_cached}
use Rattle.np_lift.specs.Lift.{lift}
use Rattle.np_lift.specs.Posts.{IsAllHanded, IsPaired}
use Rattle.np_lift.specs.CachedLift.{lift_cached}
use Rattle.np_lift.specs.CachedPosts.{IsAllHandedCached, IsPairedCached}
use Rattle.simulate_laws.specs.simulation.HeldLetters.{ArePlaced, ArePlacedCached}
use Rattle.np_words.specs.declared.modes.Infrastructure.{Infrastructure}
use Rattle.np_words.specs.declared.modes.Infrastructure.TheVariants.{Cache, Central}

-- the low program of a program
abbrev pub low_by : Infrastructure → Program → LowProgram
low_by Central p = encoded p
low_by Cache p = encoded_cached p

-- the events of the high level that are read off events of the low level
abbrev pub lift_by : Infrastructure → List Event → List Event
lift_by Central events = lift events
lift_by Cache events = lift_cached events

-- each message to an agent wherever it is was handed over once at most, and as it was sent: with caches by a messenger too
abbrev pub IsPairedBy : Infrastructure → Config → List Event → Type 0
IsPairedBy Central start events = IsPaired start events
IsPairedBy Cache start events = IsPairedCached start events

-- the letter of each that was not handed over is in its one place: a packet, or an atom of the daemon or of the agent that it is for,
-- and with caches of a messenger
abbrev pub ArePlacedBy : Infrastructure → Config → List Event → Type 0
ArePlacedBy Central start events = ArePlaced start events
ArePlacedBy Cache start events = ArePlacedCached start events

-- and each was handed over
abbrev pub IsAllHandedBy : Infrastructure → Config → List Event → Type 0
IsAllHandedBy Central start events = IsAllHanded start events
IsAllHandedBy Cache start events = IsAllHandedCached start events
