-- What follows from the causes of the answers: when each comes. The texts are told.
use Rattle.std.specs.Prelude.{◌≡◌, ◌≢◌, ℕ, Bool, ◌<◌, ◌≤◌, ◌⊎◌, ◌↔◌, List, length, Some, None}
use Rattle.np_syntax.specs.declared.limits.TheConstants.{LONGEST_SOURCE}
use Rattle.np_syntax.specs.declared.program.LowProgram.{LowProgram}
use Rattle.np_io.specs.Causes.{Rose}
use Rattle.np_words.specs.Plans.{plan}
use Rattle.np_words.specs.declared.planning.Plan.{Plan}
use Rattle.np_words.specs.declared.planning.Plan.TheVariants as plans
use Rattle.np_words.specs.declared.planning.Task.{Task}
use Rattle.np_words.specs.declared.planning.View.{View}
use Rattle.np_words.specs.declared.modes.Infrastructure.{Infrastructure}
use Rattle.np_words.specs.declared.modes.Links.{Links}
use Rattle.np_generate.specs.Generated.{generated}
use Rattle.np_sources.specs.declared.limits.TheConstants.{LOAD_BUDGET}
use Rattle.np_verdict.specs.declared.refusal.Refusal.{Refusal}
use Rattle.np_verdict.specs.declared.refusal.Refusal.TheVariants.{TooLong, HistoryTooLong, TooManyEvents}
use Rattle.np_verdict.specs.Lines.{status_of}
use Rattle.np_verdict.specs.declared.statuses.TheConstants.{BAD_HISTORY, BAD_SOURCE, BAD_USAGE, BUDGET_SPENT, DONE, NO_MEMORY}
use Rattle.np_histories.specs.Histories.{HasEvents, HasRun, HasNoEvents, IsFaulty}
use Rattle.np_histories.specs.declared.limits.TheConstants.{LONGEST_HISTORY}
use Rattle.np_sources.specs.Reaches.{Reach, TakenTo, FaultyTo, IsLowOf, reach_of}
use Rattle.np_modes.specs.Causes.{IsFit, IsUnfit, Stands}
use Rattle.np_run.specs.Answers.{Call, HasCauses, IsRefused}
use Rattle.np_answers.specs.declared.answer.Answer.{Answer}

-- the name holds these bytes, and no read of it failed
pub record IsTold (call : Call) (name bytes : List ℕ) : Type 0 where
  pub held : call.texts.held name ≡ Some bytes
  pub whole : ¬ Rose (call.texts.before name) (call.texts.now name)

-- ---- sources

-- The source that is read first or generated, how far it is taken, and its bytes; whether a history is read behind it.
pub data HasSource (call : Call) : Plan → Reach → List ℕ → Type 0 where
  alone : (file bytes : List ℕ) (task : Task) → IsTold call file bytes → HasSource call (plans.Source file task) (reach_of task) bytes
  replayed : (source history bytes : List ℕ) (infrastructure : Infrastructure) (view : View) → IsTold call source bytes
      → HasSource call (plans.Replay source history infrastructure view) (Reach.low infrastructure) bytes
  resumed : (source saved bytes : List ℕ) (budget : ℕ) (history high serial : Bool) (links : Links) (infrastructure : Infrastructure)
      → IsTold call source bytes
      → HasSource call (plans.Resume source saved budget history high serial links infrastructure) (Reach.low infrastructure) bytes
  made : (agents : ℕ) (serial : Bool) (links : Links) (infrastructure : Infrastructure)
      → HasSource call (plans.Load agents serial links infrastructure) (Reach.sites infrastructure LOAD_BUDGET) (generated agents)

-- the words ask for something of a source, and these are its bytes
pub record Reads (call : Call) (asked : Plan) (reach : Reach) (bytes : List ℕ) : Type 0 where
  pub planned : plan call.words ≡ Some asked
  pub source : HasSource call asked reach bytes

-- a history is read behind the source
pub data ReadsBoth : Plan → Type 0 where
  replayed : (source history : List ℕ) (infrastructure : Infrastructure) (view : View)
      → ReadsBoth (plans.Replay source history infrastructure view)
  resumed : (source saved : List ℕ) (budget : ℕ) (history high serial : Bool) (links : Links) (infrastructure : Infrastructure)
      → ReadsBoth (plans.Resume source saved budget history high serial links infrastructure)

-- the source has a low program, and then the history is read
pub record Replays (asked : Plan) (bytes : List ℕ) : Type 0 where
  pub both : ReadsBoth asked
  pub infrastructure : Infrastructure
  pub low : LowProgram
  pub lowered : IsLowOf infrastructure bytes low

-- ---- histories

-- What a history is read for: for its events alone; or to replay it from the start of a low program, and to show this of it; or to go
-- on from it, where each site makes at most so many events.
pub data Purpose : Type 0 where
  events : Purpose
  replay : LowProgram → View → Purpose
  resume : LowProgram → ℕ → Purpose

-- the history that is read, and for what
pub data ReadsHistory (call : Call) : Plan → List ℕ → Purpose → Type 0 where
  alone : (history : List ℕ) → ReadsHistory call (plans.Upgrade history) history Purpose.events
  replayed : (source history bytes : List ℕ) (infrastructure : Infrastructure) (view : View) (low : LowProgram) → IsTold call source bytes
      → length bytes ≤ LONGEST_SOURCE → IsLowOf infrastructure bytes low
      → ReadsHistory call (plans.Replay source history infrastructure view) history (Purpose.replay low view)
  resumed : (source saved bytes : List ℕ) (budget : ℕ) (history high serial : Bool) (links : Links) (infrastructure : Infrastructure)
      (low : LowProgram)
      → IsTold call source bytes → length bytes ≤ LONGEST_SOURCE → IsLowOf infrastructure bytes low
      → ReadsHistory call (plans.Resume source saved budget history high serial links infrastructure) saved (Purpose.resume low budget)

-- the words ask for something of a history, and these are its bytes
pub record Follows (call : Call) (purpose : Purpose) (bytes : List ℕ) : Type 0 where
  pub asked : Plan
  pub planned : plan call.words ≡ Some asked
  pub history : List ℕ
  pub reads : ReadsHistory call asked history purpose
  pub told : IsTold call history bytes

-- what is wrong with a history
abbrev pub FaultyHistory : Purpose → List ℕ → Refusal → Type 0
FaultyHistory Purpose.events bytes refusal = HasNoEvents bytes refusal
FaultyHistory (Purpose.replay low view) bytes refusal = IsFaulty low view bytes refusal
FaultyHistory (Purpose.resume low budget) bytes refusal = IsUnfit budget low bytes refusal

-- ---- where what is asked for is done

pub record AcceptsSource (call : Call) (file : List ℕ) (reach : Reach) : Type 0 where
  pub bytes : List ℕ
  pub told : IsTold call file bytes
  pub short : length bytes ≤ LONGEST_SOURCE
  pub accepted : TakenTo reach bytes

pub record AcceptsReplay (call : Call) (source history : List ℕ) (infrastructure : Infrastructure) (view : View) : Type 0 where
  pub bytes : List ℕ
  pub told : IsTold call source bytes
  pub short : length bytes ≤ LONGEST_SOURCE
  pub low : LowProgram
  pub lowered : IsLowOf infrastructure bytes low
  pub run : List ℕ
  pub told_run : IsTold call history run
  pub short_run : length run ≤ LONGEST_HISTORY
  pub replays : HasRun low view run

pub record AcceptsResume (call : Call) (source saved : List ℕ) (infrastructure : Infrastructure) (budget : ℕ) : Type 0 where
  pub bytes : List ℕ
  pub told : IsTold call source bytes
  pub short : length bytes ≤ LONGEST_SOURCE
  pub low : LowProgram
  pub lowered : IsLowOf infrastructure bytes low
  pub run : List ℕ
  pub told_run : IsTold call saved run
  pub short_run : length run ≤ LONGEST_HISTORY
  pub fit : IsFit budget low run

pub record AcceptsHistory (call : Call) (history : List ℕ) : Type 0 where
  pub bytes : List ℕ
  pub told : IsTold call history bytes
  pub short : length bytes ≤ LONGEST_HISTORY
  pub accepted : HasEvents bytes

-- each text that is read is accepted, and no read of it failed; and so is a generated source that is run
abbrev pub Accepts : Call → Plan → Type 0
Accepts call (plans.Source file task) = AcceptsSource call file (reach_of task)
Accepts call (plans.Replay source history infrastructure view) = AcceptsReplay call source history infrastructure view
Accepts call (plans.Resume source saved budget history high serial links infrastructure) =
    AcceptsResume call source saved infrastructure budget
Accepts call (plans.Upgrade history) = AcceptsHistory call history
Accepts call (plans.Generate agents) = Unit {0}
Accepts call (plans.Load agents serial links infrastructure) = TakenTo (Reach.sites infrastructure LOAD_BUDGET) (generated agents)

-- ---- the laws

-- where no call failed, and each text is accepted, what is asked for is done, or memory was wanting
abbrev pub Completes : Type 0
Completes = (call : Call) (answer : Answer) (asked : Plan) → HasCauses call answer → plan call.words ≡ Some asked → Accepts call asked
    → ¬ Rose call.out.before call.out.now → ¬ Rose call.err.before call.err.now
    → (answer.status ≡ DONE) ⊎ (answer.status ≡ BUDGET_SPENT) ⊎ (answer.status ≡ NO_MEMORY)

-- the words are refused exactly where they ask for nothing that the program does
abbrev pub RefusesWords : Type 0
RefusesWords = (call : Call) (answer : Answer) → HasCauses call answer → ¬ Rose call.err.before call.err.now → answer.status ≢ NO_MEMORY
    → (answer.status ≡ BAD_USAGE) ↔ (plan call.words ≡ None)

-- a source is refused as too long exactly where it is
abbrev pub RefusesLong : Type 0
RefusesLong = (call : Call) (answer : Answer) (asked : Plan) (reach : Reach) (bytes : List ℕ) → HasCauses call answer
    → Reads call asked reach bytes
    → ¬ Rose call.err.before call.err.now → answer.status ≢ NO_MEMORY → IsRefused call answer TooLong ↔ (LONGEST_SOURCE < length bytes)

-- where the words ask for something of a source alone, it is refused as too long exactly where more was read than a source may have
abbrev pub CountsLong : Type 0
CountsLong = (call : Call) (answer : Answer) (file : List ℕ) (task : Task) → HasCauses call answer
    → plan call.words ≡ Some (plans.Source file task)
    → ¬ Rose call.err.before call.err.now → answer.status ≢ NO_MEMORY → IsRefused call answer TooLong ↔ (LONGEST_SOURCE < call.texts.taken)

-- a source that is not too long is refused exactly where the mode refuses it, and so; only a history behind it gets another refusal
abbrev pub RefusesSources : Type 0
RefusesSources = (call : Call) (answer : Answer) (asked : Plan) (reach : Reach) (bytes : List ℕ) (refusal : Refusal) → HasCauses call answer
    → Reads call asked reach bytes → ¬ Rose call.err.before call.err.now → answer.status ≢ NO_MEMORY → length bytes ≤ LONGEST_SOURCE
    → (FaultyTo reach bytes refusal → IsRefused call answer refusal)
    × (IsRefused call answer refusal → FaultyTo reach bytes refusal ⊎ Replays asked bytes)

-- the answer is this refusal, of this status, and no other has its cause in the call
pub record RefusesAlone (status : ℕ) (call : Call) (answer : Answer) (refusal : Refusal) : Type 0 where
  pub is : answer.status ≡ status
  pub refused : IsRefused call answer refusal
  pub only : (other : Refusal) → Stands call.words call.texts other → other ≡ refusal

-- what is wrong with a source: it is too long, or the mode refuses it
abbrev pub FailsWith : Reach → List ℕ → Refusal → Type 0
FailsWith reach bytes refusal = ((refusal ≡ TooLong) × (LONGEST_SOURCE < length bytes))
    ⊎ ((length bytes ≤ LONGEST_SOURCE) × FaultyTo reach bytes refusal)

-- a source with which something is wrong has this one refusal
abbrev pub RefusesOnce : Type 0
RefusesOnce = (call : Call) (answer : Answer) (asked : Plan) (reach : Reach) (bytes : List ℕ) (refusal : Refusal) → HasCauses call answer
    → Reads call asked reach bytes → ¬ Rose call.err.before call.err.now → answer.status ≢ NO_MEMORY
    → FailsWith reach bytes refusal → RefusesAlone BAD_SOURCE call answer refusal

-- a history is refused as too long exactly where it is
abbrev pub RefusesLongHistories : Type 0
RefusesLongHistories = (call : Call) (answer : Answer) (purpose : Purpose) (bytes : List ℕ) → HasCauses call answer
    → Follows call purpose bytes
    → ¬ Rose call.err.before call.err.now → answer.status ≢ NO_MEMORY
    → IsRefused call answer HistoryTooLong ↔ (LONGEST_HISTORY < length bytes)

-- where the words ask for something of a history alone, it is refused as too long exactly where more was read than a history may have
abbrev pub CountsLongHistories : Type 0
CountsLongHistories = (call : Call) (answer : Answer) (history : List ℕ) → HasCauses call answer
    → plan call.words ≡ Some (plans.Upgrade history)
    → ¬ Rose call.err.before call.err.now → answer.status ≢ NO_MEMORY
    → IsRefused call answer HistoryTooLong ↔ (LONGEST_HISTORY < call.texts.taken)

-- a history that is not too long is refused exactly where it is none, or of no run, or of one that has not what is to be shown, and so
abbrev pub RefusesHistories : Type 0
RefusesHistories = (call : Call) (answer : Answer) (purpose : Purpose) (bytes : List ℕ) (refusal : Refusal) → HasCauses call answer
    → Follows call purpose bytes → ¬ Rose call.err.before call.err.now → answer.status ≢ NO_MEMORY → length bytes ≤ LONGEST_HISTORY
    → IsRefused call answer refusal ↔ FaultyHistory purpose bytes refusal

-- such a history has this one refusal, of status 7, but for one of a run that cannot go on because its sites could make too many events
abbrev pub RefusesHistoriesOnce : Type 0
RefusesHistoriesOnce = (call : Call) (answer : Answer) (purpose : Purpose) (bytes : List ℕ) (refusal : Refusal) → HasCauses call answer
    → Follows call purpose bytes → ¬ Rose call.err.before call.err.now → answer.status ≢ NO_MEMORY → length bytes ≤ LONGEST_HISTORY
    → FaultyHistory purpose bytes refusal → RefusesAlone (status_of refusal) call answer refusal
    × ((refusal ≡ TooManyEvents) ⊎ (status_of refusal ≡ BAD_HISTORY))
