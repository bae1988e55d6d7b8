-- How far a source is taken, and what is wrong with one that is not taken so far (docs/COMMANDS.md, "Reports and refusals" and
-- "Limits").
use Rattle.std.specs.Prelude.{◌≡◌, ℕ, ◌*◌, ◌<◌, ◌≤◌, ◌⊎◌, ◌^◌, List, length, Option, None, Some, IsSome, slice_get}
use Rattle.np_syntax.specs.declared.event.Event.{Event}
use Rattle.np_syntax.specs.declared.program.LowProgram.{LowProgram}
use Rattle.np_syntax.specs.declared.program.Program.{Program}
use Rattle.np_syntax.specs.declared.limits.TheConstants.{MOST_EVENTS}
use Rattle.np_calculus.specs.Reductions.{run}
use Rattle.np_calculus.specs.Starts.{start_low}
use Rattle.np_code.specs.Sizes.{capped, program_nodes}
use Rattle.np_code.specs.declared.limits.TheConstants.{MOST_CODE_NODES}
use Rattle.np_check.specs.Faults.{IsAccepted}
use Rattle.np_verdict.specs.Faults.{Stage, Accepted, Faulty, IsWellTyped}
use Rattle.np_verdict.specs.declared.refusal.Refusal.{Refusal}
use Rattle.np_verdict.specs.declared.refusal.Refusal.TheVariants.{LocationTest, TooManyNodes, TooManyEvents, NotOurs, BudgetPast}
use Rattle.run_views.specs.Tests.{tests}
use Rattle.run_save.specs.Ours.{IsOurs, StopsBeingOurs}
use Rattle.site_crew.specs.Lists.{AreWithin, IsFirstPast}
use Rattle.np_words.specs.declared.modes.Infrastructure.{Infrastructure}
use Rattle.np_words.specs.declared.modes.HighText.{HighText}
use Rattle.np_words.specs.declared.modes.HighText.TheVariants.{OneStep}
use Rattle.np_words.specs.declared.planning.Task.{Task}
use Rattle.np_words.specs.declared.planning.Task.TheVariants as task
use Rattle.np_on_sites.specs.ByInfrastructure.{low_by}

-- to its tree, to its program, to a low program that has a code, to a run of that on its sites within a budget, or so far that a high
-- text can be shown of it
pub data Reach : Type 0 where
  tree : Reach
  program : Reach
  low : Infrastructure → Reach
  sites : Infrastructure → ℕ → Reach
  shown : HighText → Reach → Reach

-- how far what is asked for takes a source: `show` asks for no types, `low` for the low program, and `run` alone for its run
abbrev pub reach_of : Task → Reach
reach_of (task.Run budget history high serial links infrastructure) = Reach.shown high (Reach.sites infrastructure budget)
reach_of (task.High budget history) = Reach.shown history Reach.program
reach_of task.Show = Reach.tree
reach_of task.Check = Reach.program
reach_of (task.Low infrastructure) = Reach.low infrastructure

-- ---- what is accepted

-- the source is well typed, this is the low program of its program, and its nodes are not too many
pub record IsLowOf (infrastructure : Infrastructure) (bytes : List ℕ) (low : LowProgram) : Type 0 where
  pub program : Program
  pub accepted : IsWellTyped bytes program
  pub is : low ≡ low_by infrastructure program
  pub few : program_nodes low ≤ MOST_CODE_NODES

-- the program is accepted, and this is its low program, whose nodes are not too many
pub record IsCompiled (infrastructure : Infrastructure) (p : Program) (low : LowProgram) : Type 0 where
  pub accepted : IsAccepted p
  pub is : low ≡ low_by infrastructure p
  pub few : program_nodes low ≤ MOST_CODE_NODES

-- the source has a low program, whose sites make few events within the budget
pub record HasFewEvents (infrastructure : Infrastructure) (budget : ℕ) (bytes : List ℕ) : Type 0 where
  pub low : LowProgram
  pub lowered : IsLowOf infrastructure bytes low
  pub few : length low.sites * budget ≤ MOST_EVENTS

-- the offset of what bars a program from being shown by such a high text: where migration is one step, its first location test
abbrev pub barred : HighText → Program → Option ℕ
barred OneStep p = slice_get (tests p.main) 0
barred _ p = None

-- nothing bars the program of the source, if it has one
abbrev pub IsFree : HighText → List ℕ → Type 0
IsFree high bytes = (p : Program) → IsWellTyped bytes p → barred high p ≡ None

-- the source is accepted so far
abbrev pub TakenTo : Reach → List ℕ → Type 0
TakenTo Reach.tree bytes = Accepted Stage.tree bytes
TakenTo Reach.program bytes = Accepted Stage.program bytes
TakenTo (Reach.low infrastructure) bytes = (low : LowProgram) × IsLowOf infrastructure bytes low
TakenTo (Reach.sites infrastructure budget) bytes = HasFewEvents infrastructure budget bytes
TakenTo (Reach.shown high reach) bytes = IsFree high bytes × TakenTo reach bytes

-- ---- what is refused

-- the nodes of the low program are too many, and the refusal has their number
pub record HasManyNodes (low : LowProgram) (refusal : Refusal) : Type 0 where
  pub many : MOST_CODE_NODES < program_nodes low
  pub is : refusal ≡ TooManyNodes (capped (program_nodes low))

-- the source is well typed, and the nodes of its low program are too many
pub record IsTooLarge (infrastructure : Infrastructure) (bytes : List ℕ) (refusal : Refusal) : Type 0 where
  pub program : Program
  pub accepted : IsWellTyped bytes program
  pub large : HasManyNodes (low_by infrastructure program) refusal

-- the source is well typed, and nothing is wrong with its low program but that its sites could make too many events within the budget
pub record HasManyEvents (infrastructure : Infrastructure) (budget : ℕ) (bytes : List ℕ) (refusal : Refusal) : Type 0 where
  pub low : LowProgram
  pub lowered : IsLowOf infrastructure bytes low
  pub many : MOST_EVENTS < length low.sites * budget
  pub is : refusal ≡ TooManyEvents

-- the source is well typed, and what bars it from being shown stands at the offset of the refusal
pub record IsBarred (high : HighText) (bytes : List ℕ) (refusal : Refusal) : Type 0 where
  pub program : Program
  pub accepted : IsWellTyped bytes program
  pub at : ℕ
  pub bars : barred high program ≡ Some at
  pub is : refusal ≡ LocationTest at

-- the source has no low program
abbrev pub HasNoLow : Infrastructure → List ℕ → Refusal → Type 0
HasNoLow infrastructure bytes refusal = Faulty Stage.program bytes refusal ⊎ IsTooLarge infrastructure bytes refusal

-- the source is refused so, where it is to be taken so far
abbrev pub FaultyTo : Reach → List ℕ → Refusal → Type 0
FaultyTo Reach.tree bytes refusal = Faulty Stage.tree bytes refusal
FaultyTo Reach.program bytes refusal = Faulty Stage.program bytes refusal
FaultyTo (Reach.low infrastructure) bytes refusal = HasNoLow infrastructure bytes refusal
FaultyTo (Reach.sites infrastructure budget) bytes refusal = HasNoLow infrastructure bytes refusal
    ⊎ HasManyEvents infrastructure budget bytes refusal
FaultyTo (Reach.shown high reach) bytes refusal = IsBarred high bytes refusal ⊎ (IsFree high bytes × FaultyTo reach bytes refusal)

-- an accepted program is refused so, where it is to be run on its sites: its low program has too many nodes, or these could make too
-- many events
pub record MakesMany (infrastructure : Infrastructure) (budget : ℕ) (p : Program) (refusal : Refusal) : Type 0 where
  pub few : program_nodes (low_by infrastructure p) ≤ MOST_CODE_NODES
  pub many : MOST_EVENTS < length (low_by infrastructure p).sites * budget
  pub is : refusal ≡ TooManyEvents

abbrev pub CannotRun : Infrastructure → ℕ → Program → Refusal → Type 0
CannotRun infrastructure budget p refusal = HasManyNodes (low_by infrastructure p) refusal ⊎ MakesMany infrastructure budget p refusal

-- ---- saved events, of a run of a low program

-- its sites make few events within the budget, they have no more of the saved ones, and made those by themselves
pub record CanGoOn (budget : ℕ) (low : LowProgram) (events : List Event) : Type 0 where
  pub few : length low.sites * budget ≤ MOST_EVENTS
  pub within : AreWithin (length low.sites) budget events
  pub ours : IsOurs low events

-- its sites could make too many events within the budget
pub record CouldMakeMany (budget : ℕ) (low : LowProgram) (refusal : Refusal) : Type 0 where
  pub many : MOST_EVENTS < length low.sites * budget
  pub is : refusal ≡ TooManyEvents

-- they make few, and this is the first site that has more of the saved events than the budget
pub record ArePastBudget (budget : ℕ) (low : LowProgram) (events : List Event) (refusal : Refusal) : Type 0 where
  pub few : length low.sites * budget ≤ MOST_EVENTS
  pub site : ℕ
  pub past : IsFirstPast (length low.sites) budget events site
  pub is : refusal ≡ BudgetPast site

-- none has more, and from the event at this index on they are not what the sites make by themselves
pub record AreNotOurs (budget : ℕ) (low : LowProgram) (events : List Event) (refusal : Refusal) : Type 0 where
  pub few : length low.sites * budget ≤ MOST_EVENTS
  pub within : AreWithin (length low.sites) budget events
  pub index : ℕ
  pub stops : StopsBeingOurs (start_low low) events index
  pub is : refusal ≡ NotOurs index

-- so it is refused to go on from them
abbrev pub CannotGoOn : ℕ → LowProgram → List Event → Refusal → Type 0
CannotGoOn budget q events refusal = CouldMakeMany budget q refusal ⊎ ArePastBudget budget q events refusal
    ⊎ AreNotOurs budget q events refusal

-- they are no run of the low program from which its sites can go on
abbrev pub NeverGoesOn : ℕ → LowProgram → List Event → Type 0
NeverGoesOn budget q events = IsSome (run (start_low q) events) → length events < 2 ^ 32 → CanGoOn budget q events → ⊥
