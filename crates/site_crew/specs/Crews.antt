-- What contracts see of a crew.
use Rattle.std.specs.Prelude.{◌≡◌, ◌<◌, ◌≤◌, ◌↔◌, ℕ, Bool, true, false, List, Some, slice_get, refl}
use Rattle.std.specs.Coded.{Coded, code_by, coded×, coded_ℕ, coded_bool, coded_list}
use Rattle.np_syntax.specs.declared.limits.TheConstants.{LARGEST_BUDGET}
use Rattle.np_syntax.specs.declared.event.End.{End}
use Rattle.np_syntax.specs.declared.event.End.TheVariants as ends
use Rattle.np_calculus.specs.Config.{Config}
use Rattle.np_calculus.specs.Idle.{Idle}
use Rattle.stamp_history.specs.Histories.{Recorded, recorded_code}
use Rattle.site_links.specs.declared.port.Port as Port
use Rattle.np_code.specs.Programs.{ProgramTable, program, table_code}
use Rattle.agent_move.specs.declared.item.Item.{Item}
use Rattle.site_turn.specs.declared.seat.Seat.{Seat}
use Rattle.site_crew.specs.declared.round.Round.{Round}
use Rattle.site_crew.specs.declared.round.Round.TheVariants as round
use Rattle.site_crew.specs.Carried.{IsCarriedBy}
use Rattle.site_crew.specs.Passes.{AreDone}
use Rattle.crew_ends.specs.Quiet.{AllQuiet}
use Rattle.site_crew.specs.Runs.{IsCrewRun, IsProgram, OnlySpentCan, RunsSafely, SpentCan}
use Rattle.site_crew.specs.Seats.{AllGrow, AllLater, Stand, event_count}
use Rattle.site_crew.specs.Shown.{IsShownBy, SeatState, seat_code}

-- the code that it runs, its budget, whether memory ran out; and in the order of the numbers of its sites their histories, their
-- clocks, and what stands there and goes between them
pub record CrewState : Type 0 where
  pub code : ProgramTable
  pub budget : ℕ
  pub failed : Bool
  pub histories : List Recorded
  pub clocks : List ℕ
  pub seats : List SeatState

abbrev pub crew_code : Coded CrewState
crew_code =
    code_by (ProgramTable × (ℕ × (Bool × (List Recorded × (List ℕ × List SeatState)))))
    (coded× table_code (coded× coded_ℕ (coded× coded_bool
    (coded× (coded_list recorded_code) (coded× (coded_list coded_ℕ) (coded_list seat_code))))))
    (λ c. (c.code, (c.budget, (c.failed, (c.histories, (c.clocks, c.seats))))))
    (λ p. record { code = p.0; budget = p.1.0; failed = p.1.1.0; histories = p.1.1.1.0; clocks = p.1.1.1.1.0; seats = p.1.1.1.1.1 })
    (λ _. refl)

-- no seat has wanted for memory
pub record NoneFailed {P : Type 0} (xs : List (Seat P)) : Type 0 where
  pub each : (i : ℕ) (s : Seat P) → slice_get xs i ≡ Some s → s.failed ≡ false

-- what each crew keeps to
pub record IsCrew {P R : Type 0} (g : Port.Ghosts P R Item) (code : ProgramTable) (most : ℕ) (failed : Bool)
    (xs : List (Seat P)) : Type 0 where
  pub safe : RunsSafely (program code)
  pub program : IsProgram code
  pub budget : most ≤ LARGEST_BUDGET
  pub stand : Stand g code most xs
  pub sound : failed ≡ false → NoneFailed xs

-- its merged histories are a run from the low start of its program, which ends in just what its sites, its links and its histories
-- show; and what is under way is what the links and the outgoing lines carry
abbrev pub HasRun : CrewState → Type 0
HasRun c = (end : Config) × IsCrewRun (program c.code) c.budget c.histories end × IsShownBy c.code c.seats c.histories end
    × IsCarriedBy c.seats c.histories

-- the crew at a later time
pub record GoesOn (old new : CrewState) : Type 0 where
  pub code : new.code ≡ old.code
  pub budget : new.budget ≡ old.budget
  pub histories : AllGrow old.histories new.histories

-- what is added to its histories is stamped above the clocks that its sites had
abbrev pub AddsLater : CrewState → CrewState → Type 0
AddsLater old new = AllLater old.clocks old.histories new.clocks new.histories

-- whether an event was added, and if not whether the whole rests
abbrev pub Tells : ℕ → ℕ → Config → Round → Type 0
Tells before after end round.Went = before < after
Tells before after end round.Rest = (after ≤ before) × Idle end
Tells before after end round.Spent = (after ≤ before) × (Idle end → ⊥)

-- what a round tells of the run that there is after it
pub record IsRoundOf (old new : CrewState) (r : Round) : Type 0 where
  pub end : Config
  pub run : IsCrewRun (program new.code) new.budget new.histories end
  pub shown : IsShownBy new.code new.seats new.histories end
  pub carried : IsCarriedBy new.seats new.histories
  pub tells : Tells (event_count old.histories) (event_count new.histories) end r
  pub spent : r ≡ round.Spent → OnlySpentCan new.budget new.histories end
  pub still : r ≡ round.Spent → SpentCan new.budget new.histories end

-- the same by what the seats tell after it
abbrev pub IsJudged : {P : Type 0} → ProgramTable → ℕ → Bool → List (Seat P) → Round → Type 0
IsJudged code budget went xs round.Went = went ≡ true
IsJudged code budget went xs round.Rest = (went ≡ false) × AllQuiet code xs
IsJudged code budget went xs round.Spent = (went ≡ false) × (AllQuiet code xs → ⊥) × AreDone code budget xs

-- Where the run of a crew has ended, whether the whole rests there, and which sites can still act if it does not: those alone that have
-- made as many events as the budget, and there is one.
pub record HasEnded (c : CrewState) (e : End) : Type 0 where
  pub last : Config
  pub run : IsCrewRun (program c.code) c.budget c.histories last
  pub shown : IsShownBy c.code c.seats c.histories last
  pub carried : IsCarriedBy c.seats c.histories
  pub rests : (e ≡ ends.Rest) ↔ Idle last
  pub spent : e ≡ ends.Spent → OnlySpentCan c.budget c.histories last
  pub still : e ≡ ends.Spent → SpentCan c.budget c.histories last
