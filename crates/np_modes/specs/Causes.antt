-- What a call makes of its texts, and the cause of each refusal (docs/COMMANDS.md, "Reports and refusals").
use Rattle.std.specs.Prelude.{◌≡◌, ℕ, ◌+◌, ◌<◌, ◌≤◌, ◌⊎◌, List, [], length, Option, Some, None, IsSome}
use Rattle.np_syntax.specs.declared.limits.TheConstants.{LONGEST_SOURCE, MOST_SITES}
use Rattle.np_syntax.specs.declared.event.Event.{Event}
use Rattle.np_syntax.specs.declared.program.LowProgram.{LowProgram}
use Rattle.np_calculus.specs.Config.{Config}
use Rattle.np_calculus.specs.Reductions.{run}
use Rattle.np_calculus.specs.Starts.{start_low}
use Rattle.np_sources.specs.declared.job.MadeRun.{MadeRun}
use Rattle.np_generate.specs.Generated.{generated}
use Rattle.np_histories.specs.Histories.{HasNoEvents, IsFaulty, Replays, Stops, Upgrades}
use Rattle.np_histories.specs.Histories as histories
use Rattle.np_histories.specs.declared.limits.TheConstants.{LONGEST_HISTORY}
use Rattle.np_verdict.specs.declared.refusal.Refusal.{Refusal}
use Rattle.np_verdict.specs.declared.refusal.Refusal.TheVariants.{Usage, TooLong, HistoryTooLong}
use Rattle.np_words.specs.Plans.{plan}
use Rattle.np_words.specs.declared.modes.Infrastructure.{Infrastructure}
use Rattle.np_words.specs.declared.planning.Plan.{Plan}
use Rattle.np_words.specs.declared.planning.Plan.TheVariants as plans
use Rattle.np_words.specs.declared.planning.Task.{Task}
use Rattle.np_words.specs.declared.planning.View.{View}
use Rattle.np_words.specs.declared.planning.View.TheVariants as view
use Rattle.np_modes.specs.Readings.{Reading, IsText, IsRead, IsUnread}
use Rattle.np_sources.specs.Reaches.{Reach, CanGoOn, CannotGoOn, FaultyTo, IsLowOf, reach_of}
use Rattle.np_sources.specs.Makes.{DoesLoad, DoesTask, KeepsResumed, in_two_steps}
use Rattle.np_sources.specs.declared.sites.Shown.{Shown}
use Rattle.np_sources.specs.declared.sites.Shown.TheVariants as shown
use Rattle.np_sources.specs.declared.limits.TheConstants.{LOAD_BUDGET}
use Rattle.np_on_sites.specs.declared.record.Record.{Record}

-- ---- what is made

-- the source was read, and this was made of it
pub record OfSource (texts : Reading) (file : List ℕ) (task : Task) (kept : Option Record) (high : Option MadeRun)
    (text : List ℕ) : Type 0 where
  pub bytes : List ℕ
  pub read : IsRead texts file LONGEST_SOURCE bytes
  pub does : DoesTask task bytes kept high text

-- the history was read and replayed, and this is the report of what is shown of it
pub record OfRun (texts : Reading) (history : List ℕ) (infrastructure : Infrastructure) (low : LowProgram) (view : View)
    (kept : Option Record) (high : Option MadeRun) (text : List ℕ) : Type 0 where
  pub bytes : List ℕ
  pub read : IsRead texts history LONGEST_HISTORY bytes
  pub replays : Replays infrastructure low view bytes text
  pub is_kept : kept ≡ None
  pub is_high : high ≡ None

-- the source has this low program
pub record IsLowered (texts : Reading) (source : List ℕ) (infrastructure : Infrastructure) (low : LowProgram) : Type 0 where
  pub bytes : List ℕ
  pub read : IsText texts source LONGEST_SOURCE bytes
  pub lowers : IsLowOf infrastructure bytes low

-- both were read, and the history was replayed
pub record OfReplay (texts : Reading) (source history : List ℕ) (infrastructure : Infrastructure) (view : View) (kept : Option Record)
    (high : Option MadeRun) (text : List ℕ) : Type 0 where
  pub low : LowProgram
  pub lowered : IsLowered texts source infrastructure low
  pub run : OfRun texts history infrastructure low view kept high text

-- the bytes are a history, and the run of the source of those bytes goes on from its events
pub record GoesOnFrom (infrastructure : Infrastructure) (budget : ℕ) (how : Shown) (source bytes : List ℕ)
    (kept : Option Record) (high : Option MadeRun) (text : List ℕ) : Type 0 where
  pub events : List Event
  pub history : histories.IsRead bytes events
  pub keeps : KeepsResumed infrastructure budget how source events kept high text

-- the history was read, and the run goes on from it
pub record OfSaved (texts : Reading) (saved : List ℕ) (infrastructure : Infrastructure) (budget : ℕ) (how : Shown) (source : List ℕ)
    (kept : Option Record) (high : Option MadeRun) (text : List ℕ) : Type 0 where
  pub bytes : List ℕ
  pub read : IsRead texts saved LONGEST_HISTORY bytes
  pub goes_on : GoesOnFrom infrastructure budget how source bytes kept high text

-- both were read, and the run of the source goes on from the history
pub record OfResume (texts : Reading) (source saved : List ℕ) (infrastructure : Infrastructure) (budget : ℕ) (how : Shown)
    (kept : Option Record) (high : Option MadeRun) (text : List ℕ) : Type 0 where
  pub bytes : List ℕ
  pub read : IsText texts source LONGEST_SOURCE bytes
  pub run : OfSaved texts saved infrastructure budget how bytes kept high text

-- the history was read, and this is its text in the second format
pub record OfUpgrade (texts : Reading) (history : List ℕ) (kept : Option Record) (high : Option MadeRun) (text : List ℕ) : Type 0 where
  pub bytes : List ℕ
  pub read : IsRead texts history LONGEST_HISTORY bytes
  pub upgrades : Upgrades bytes text
  pub is_kept : kept ≡ None
  pub is_high : high ≡ None

-- this is the generated source
pub record OfNumber (agents : ℕ) (kept : Option Record) (high : Option MadeRun) (text : List ℕ) : Type 0 where
  pub generates : text ≡ generated agents
  pub is_kept : kept ≡ None
  pub is_high : high ≡ None

-- the generated source, which is no longer than a source may be, was run
pub record OfLoad (infrastructure : Infrastructure) (agents : ℕ) (kept : Option Record) (high : Option MadeRun)
    (text : List ℕ) : Type 0 where
  pub short : length (generated agents) ≤ LONGEST_SOURCE
  pub does : DoesLoad infrastructure agents kept high text

abbrev pub Does : Reading → Plan → Option Record → Option MadeRun → List ℕ → Type 0
Does texts (plans.Source file task) kept high text = OfSource texts file task kept high text
Does texts (plans.Replay source history infrastructure view) kept high text =
    OfReplay texts source history infrastructure view kept high text
Does texts (plans.Resume source saved budget history shows serial links infrastructure) kept high text =
    OfResume texts source saved infrastructure budget (shown.Printed history (in_two_steps shows)) kept high text
Does texts (plans.Upgrade history) kept high text = OfUpgrade texts history kept high text
Does texts (plans.Generate agents) kept high text = OfNumber agents kept high text
Does texts (plans.Load agents serial links infrastructure) kept high text = OfLoad infrastructure agents kept high text

-- the words ask for this, and it was made
pub record HasMade (words : List (List ℕ)) (texts : Reading) (kept : Option Record) (high : Option MadeRun) (text : List ℕ) : Type 0 where
  pub asked : Plan
  pub planned : plan words ≡ Some asked
  pub does : Does texts asked kept high text

-- the bytes of the source of which this was made; none where it was made of none
abbrev pub source_in : (texts : Reading) (asked : Plan) (kept : Option Record) (high : Option MadeRun) (text : List ℕ)
    → Does texts asked kept high text → List ℕ
source_in texts (plans.Source file task) kept high text does = does.bytes
source_in texts (plans.Replay source history infrastructure view) kept high text does = does.lowered.bytes
source_in texts (plans.Resume source saved budget history shows serial links infrastructure) kept high text does = does.bytes
source_in texts (plans.Upgrade history) kept high text does = []
source_in texts (plans.Generate agents) kept high text does = []
source_in texts (plans.Load agents serial links infrastructure) kept high text does = generated agents

abbrev pub source_of : {words : List (List ℕ)} {texts : Reading} {kept : Option Record} {high : Option MadeRun} {text : List ℕ}
    → HasMade words texts kept high text → List ℕ
source_of {words} {texts} {kept} {high} {text} made = source_in texts made.asked kept high text made.does

-- ---- what is refused

-- the source was read, and it is refused so
pub record IsFaultySource (texts : Reading) (file : List ℕ) (reach : Reach) (refusal : Refusal) : Type 0 where
  pub bytes : List ℕ
  pub read : IsRead texts file LONGEST_SOURCE bytes
  pub faulty : FaultyTo reach bytes refusal

-- the source was not read, or it is refused; no more than one text began
pub record RefusesSource (texts : Reading) (file : List ℕ) (reach : Reach) (refusal : Refusal) : Type 0 where
  pub cause : IsUnread texts file LONGEST_SOURCE TooLong refusal ⊎ IsFaultySource texts file reach refusal
  pub begins : texts.begins ≤ texts.begun + 1

-- the history was read, and it is no history, or not of a run of the low program that has what is to be shown
pub record IsFaultyRun (texts : Reading) (history : List ℕ) (low : LowProgram) (view : View) (refusal : Refusal) : Type 0 where
  pub bytes : List ℕ
  pub read : IsRead texts history LONGEST_HISTORY bytes
  pub faulty : IsFaulty low view bytes refusal

abbrev pub RefusesRun : Reading → List ℕ → LowProgram → View → Refusal → Type 0
RefusesRun texts history low view refusal = IsUnread texts history LONGEST_HISTORY HistoryTooLong refusal
    ⊎ IsFaultyRun texts history low view refusal

-- the source is accepted, and the history is refused
pub record RefusesReplay (texts : Reading) (source history : List ℕ) (infrastructure : Infrastructure) (view : View)
    (refusal : Refusal) : Type 0 where
  pub low : LowProgram
  pub lowered : IsLowered texts source infrastructure low
  pub run : RefusesRun texts history low view refusal

-- there are few sites, and main's is one of them
pub record CanRun (low : LowProgram) : Type 0 where
  pub sites : length low.sites ≤ MOST_SITES
  pub at : low.at < length low.sites

-- the bytes are a history of a run of the low program from which its sites do not go on
pub record StopsThere (budget : ℕ) (low : LowProgram) (bytes : List ℕ) (refusal : Refusal) : Type 0 where
  pub events : List Event
  pub history : histories.IsRead bytes events
  pub last : Config
  pub reaches : run (start_low low) events ≡ Some last
  pub cannot : CannotGoOn budget low events refusal

-- the events are no run of the low program, from the index of the refusal on, or one from which its sites do not go on
abbrev pub StopsFrom : ℕ → LowProgram → List Event → Refusal → Type 0
StopsFrom budget low events refusal = Stops (start_low low) events refusal
    ⊎ (IsSome (run (start_low low) events) × CannotGoOn budget low events refusal)

-- the bytes are a history of a run of the low program from which its sites can go on
pub record IsFit (budget : ℕ) (low : LowProgram) (bytes : List ℕ) : Type 0 where
  pub events : List Event
  pub history : histories.IsRead bytes events
  pub last : Config
  pub reaches : run (start_low low) events ≡ Some last
  pub can : CanGoOn budget low events

-- the bytes are no history, or of no run of the low program, or of one from which its sites do not go on
abbrev pub IsUnfit : ℕ → LowProgram → List ℕ → Refusal → Type 0
IsUnfit budget low bytes refusal = IsFaulty low view.Said bytes refusal ⊎ StopsThere budget low bytes refusal

-- the history was read, and it is unfit
pub record IsUnfitSaved (texts : Reading) (saved : List ℕ) (low : LowProgram) (budget : ℕ) (refusal : Refusal) : Type 0 where
  pub bytes : List ℕ
  pub read : IsRead texts saved LONGEST_HISTORY bytes
  pub unfit : IsUnfit budget low bytes refusal

abbrev pub RefusesSaved : Reading → List ℕ → LowProgram → ℕ → Refusal → Type 0
RefusesSaved texts saved low budget refusal = IsUnread texts saved LONGEST_HISTORY HistoryTooLong refusal
    ⊎ IsUnfitSaved texts saved low budget refusal

-- the source is accepted, and the history is refused
pub record RefusesResume (texts : Reading) (source saved : List ℕ) (infrastructure : Infrastructure) (budget : ℕ)
    (refusal : Refusal) : Type 0 where
  pub low : LowProgram
  pub lowered : IsLowered texts source infrastructure low
  pub run : RefusesSaved texts saved low budget refusal

-- the history was read, and it is none
pub record IsFaultyHistory (texts : Reading) (history : List ℕ) (refusal : Refusal) : Type 0 where
  pub bytes : List ℕ
  pub read : IsRead texts history LONGEST_HISTORY bytes
  pub faulty : HasNoEvents bytes refusal

abbrev pub RefusesHistory : Reading → List ℕ → Refusal → Type 0
RefusesHistory texts history refusal = IsUnread texts history LONGEST_HISTORY HistoryTooLong refusal ⊎ IsFaultyHistory texts history refusal

-- the generated source, which is no longer than a source may be, is refused
pub record RefusesLoad (infrastructure : Infrastructure) (agents : ℕ) (refusal : Refusal) : Type 0 where
  pub short : length (generated agents) ≤ LONGEST_SOURCE
  pub faulty : FaultyTo (Reach.sites infrastructure LOAD_BUDGET) (generated agents) refusal

-- what is asked for is refused so
abbrev pub RefusesPlan : Reading → Plan → Refusal → Type 0
RefusesPlan texts (plans.Source file task) refusal = RefusesSource texts file (reach_of task) refusal
RefusesPlan texts (plans.Replay source history infrastructure view) refusal =
    RefusesSource texts source (Reach.low infrastructure) refusal ⊎ RefusesReplay texts source history infrastructure view refusal
RefusesPlan texts (plans.Resume source saved budget history shows serial links infrastructure) refusal =
    RefusesSource texts source (Reach.low infrastructure) refusal ⊎ RefusesResume texts source saved infrastructure budget refusal
RefusesPlan texts (plans.Upgrade history) refusal = RefusesHistory texts history refusal
RefusesPlan texts (plans.Generate agents) refusal = ⊥
RefusesPlan texts (plans.Load agents serial links infrastructure) refusal = RefusesLoad infrastructure agents refusal

-- the refusal has its cause
pub data Stands (words : List (List ℕ)) (texts : Reading) : Refusal → Type 0 where
  -- the words ask for nothing that the program does
  words : plan words ≡ None → Stands words texts Usage
  -- what they ask for is refused
  asked : {refusal : Refusal} (p : Plan) → plan words ≡ Some p → RefusesPlan texts p refusal → Stands words texts refusal

-- ---- texts that are read

abbrev pub texts_of : Plan → ℕ
texts_of (plans.Source file task) = 1
texts_of (plans.Replay source history infrastructure view) = 2
texts_of (plans.Resume source saved budget history shows serial links infrastructure) = 2
texts_of (plans.Upgrade history) = 1
texts_of (plans.Generate agents) = 0
texts_of (plans.Load agents serial links infrastructure) = 0

-- how many texts are read where the words say this, or nothing
abbrev pub texts_read : Option Plan → ℕ
texts_read None = 0
texts_read (Some p) = texts_of p
