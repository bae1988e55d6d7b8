-- What the laws of posts say (docs/TRANSLATION.md, "Translation and daemon").
use Rattle.std.specs.Prelude.{◌≡◌, List, [], None, Some, length}
use Rattle.std.specs.FinMap as map
use Rattle.np_syntax.specs.declared.value.Name.{Name}
use Rattle.np_syntax.specs.declared.process.Tag.{Tag}
use Rattle.np_syntax.specs.declared.event.Event.{Event}
use Rattle.np_syntax.specs.declared.program.Program.{Program}
use Rattle.np_syntax.specs.declared.program.LowProgram.{LowProgram}
use Rattle.np_calculus.specs.Config.{Config}
use Rattle.np_calculus.specs.Idle.{Idle}
use Rattle.np_calculus.specs.Reductions.{output_in, run}
use Rattle.np_calculus.specs.Starts.{start_high, start_low}
use Rattle.np_lift.specs.Lift.{lift}
use Rattle.np_lift.specs.Posts.{IsAllHanded, IsPaired, Letter, deeds, deeds_to}
use Rattle.np_lift.specs.CachedLift.{at_first, lift_cached, stands_for}
use Rattle.np_lift.specs.CachedPosts.{IsAllHandedCached, IsPairedCached, deeds_from}
use Rattle.np_check.specs.Faults.{IsAccepted}
use Rattle.infrastructure_texts.specs.Infrastructures.{Infrastructure}
use Rattle.daemon_encode.specs.Translates.{IsLowOf}
use Rattle.simulate_laws.specs.simulation.RestLaws.{HasCacheRest, HasRest}
use Rattle.simulate_laws.specs.simulation.Laws.{IsCentralLifted, IsLifted}
use Rattle.simulate_laws.specs.simulation.HeldLetters.{ArePlaced, ArePlacedCached}
use Rattle.simulate_laws.specs.simulation.OnePlace.{StandsOnOne}
use Rattle.simulate_laws.specs.simulation.UnderWay.{left_by, letters_of, under_way}

-- each post of a run is handed over once at most, before the next one of its mark
abbrev pub PostsArePaired : Type 0
PostsArePaired = (p : Program) (q : LowProgram) (low : IsLowOf Infrastructure.central p q) → IsAccepted p
    → (events : List Event) (c : Config) → run (start_low q) events ≡ Some c
    → IsPaired (start_low q) events

-- The things of the mark of a post that was not opened yet carry its letter, one of them and once; and no things carry any other. The
-- things are those by which the run's end belongs to that of the lifted run.
abbrev pub LettersInPlace : Type 0
LettersInPlace = (p : Program) (q : LowProgram) (low : IsLowOf Infrastructure.central p q) → IsAccepted p
    → (events : List Event) (c : Config) → run (start_low q) events ≡ Some c
    → (l : IsCentralLifted (length p.sites) p.binders low.first (start_high p) events c)
    × ((mark : Name) → letters_of (map.get l.view.things mark) ≡ under_way (deeds_to mark (deeds (start_low q) events)))

-- by the low level alone: the letter of each post that was not handed over is in its one place
abbrev pub LettersHaveOnePlace : Type 0
LettersHaveOnePlace = (p : Program) (q : LowProgram) (low : IsLowOf Infrastructure.central p q) → IsAccepted p → (events : List Event)
    → ArePlaced (start_low q) events

-- where the lifted run leads to, the output of each such letter stands in its agent already, under the mark of its post
abbrev pub LettersStandAbove : Type 0
LettersStandAbove = (p : Program) (q : LowProgram) (low : IsLowOf Infrastructure.central p q) → IsAccepted p
    → (events : List Event) (c : Config) → run (start_low q) events ≡ Some c
    → (high : Config) → run (start_high p) (lift events) ≡ Some high → (mark : Name) (letter : Letter)
    → left_by None (deeds_to mark (deeds (start_low q) events)) ≡ Some letter
    → (tag : Tag) × (map.get high.atoms mark ≡ Some (output_in letter.agent letter.chan letter.value tag))

-- where the run has come to rest each of its posts was handed over, once
abbrev pub RestsAllHanded : Type 0
RestsAllHanded = (p : Program) (q : LowProgram) (low : IsLowOf Infrastructure.central p q) → IsAccepted p
    → (events : List Event) (c : Config) → run (start_low q) events ≡ Some c
    → Idle c → IsAllHanded (start_low q) events

-- and the lifted run has come to rest at the high level, where nothing is left of the infrastructure
abbrev pub RestsAbove : Type 0
RestsAbove = (p : Program) (q : LowProgram) (low : IsLowOf Infrastructure.central p q) → IsAccepted p → (events : List Event) (c : Config)
    → run (start_low q) events ≡ Some c
    → Idle c → (l : IsCentralLifted (length p.sites) p.binders low.first (start_high p) events c) × Idle l.high × HasRest l.view

-- ---- with caches

-- each post of a run, by the daemon or by a messenger, is handed over once at most, before the next one of the mark for which its own
-- stands
abbrev pub CachedPostsArePaired : Type 0
CachedPostsArePaired = (p : Program) (q : LowProgram) (low : IsLowOf Infrastructure.cached p q) → IsAccepted p
    → (events : List Event) (c : Config)
    → run (start_low q) events ≡ Some c → IsPairedCached (start_low q) events

-- The letter of a post that was not handed over yet stands on one thing; and where there is no such post, no thing carries any. The
-- things are those by which the run's end belongs to that of the lifted run.
abbrev pub CachedLettersInPlace : Type 0
CachedLettersInPlace = (p : Program) (q : LowProgram) (low : IsLowOf Infrastructure.cached p q) → IsAccepted p
    → (events : List Event) (c : Config)
    → run (start_low q) events ≡ Some c
    → (l : IsLifted Infrastructure.cached (length p.sites) p.binders low.first (start_high p) events c)
    × ((mark : Name) (letter : Letter) → left_by None (deeds_to mark (deeds_from at_first (start_low q) events)) ≡ Some letter
    → StandsOnOne (length p.sites) c l.view mark letter)
    × ((mark m : Name) → left_by None (deeds_to mark (deeds_from at_first (start_low q) events)) ≡ None
    → stands_for l.view.standing m ≡ mark
    → letters_of (map.get l.view.things m) ≡ [])

-- by the low level alone: the letter of each post that was not handed over is in its one place
abbrev pub CachedLettersHaveOnePlace : Type 0
CachedLettersHaveOnePlace = (p : Program) (q : LowProgram) (low : IsLowOf Infrastructure.cached p q) → IsAccepted p → (events : List Event)
    → ArePlacedCached (start_low q) events

-- where the lifted run leads to, the output of each such letter stands in its agent already, under the mark of its post
abbrev pub CachedLettersStandAbove : Type 0
CachedLettersStandAbove = (p : Program) (q : LowProgram) (low : IsLowOf Infrastructure.cached p q) → IsAccepted p
    → (events : List Event) (c : Config)
    → run (start_low q) events ≡ Some c → (high : Config) → run (start_high p) (lift_cached events) ≡ Some high
    → (mark : Name) (letter : Letter)
    → left_by None (deeds_to mark (deeds_from at_first (start_low q) events)) ≡ Some letter
    → (tag : Tag) × (map.get high.atoms mark ≡ Some (output_in letter.agent letter.chan letter.value tag))

-- where the run has come to rest each of its posts was handed over, once
abbrev pub CachedRestsAllHanded : Type 0
CachedRestsAllHanded = (p : Program) (q : LowProgram) (low : IsLowOf Infrastructure.cached p q) → IsAccepted p
    → (events : List Event) (c : Config)
    → run (start_low q) events ≡ Some c → Idle c → IsAllHandedCached (start_low q) events

-- and the lifted run has come to rest at the high level, where nothing is left of the infrastructure: the caches and the hints are free too
abbrev pub CachedRestsAbove : Type 0
CachedRestsAbove = (p : Program) (q : LowProgram) (low : IsLowOf Infrastructure.cached p q) → IsAccepted p
    → (events : List Event) (c : Config)
    → run (start_low q) events ≡ Some c → Idle c
    → (l : IsLifted Infrastructure.cached (length p.sites) p.binders low.first (start_high p) events c) × Idle l.high × HasRest l.view
    × HasCacheRest c l.high l.view
