-- What the turns of all sites leave, and when no site has anything left to do.
use Rattle.std.specs.Prelude.{◌≡◌, ◌⊎◌, ◌<◌, ℕ, Bool, false, List, length, None, Some, slice_get}
use Rattle.std.specs.List.{AllByRecursion}
use Rattle.np_syntax.specs.declared.limits.TheConstants.{STAMPS_END}
use Rattle.site_links.specs.declared.port.Port as Port
use Rattle.np_code.specs.Programs.{ProgramTable}
use Rattle.agent_move.specs.declared.item.Item.{Item}
use Rattle.site_agents.specs.Standings.{AreIdle, NoneCan}
use Rattle.site_turn.specs.declared.seat.Seat.{Seat}
use Rattle.crew_ends.specs.Quiet.{NoneSends}
use Rattle.site_crew.specs.Links.{AllStill}
use Rattle.site_crew.specs.Seats.{AllTookTurns}

-- all sites took a turn, and then the links were settled
pub record HavePassed {P R : Type 0} (g : Port.Ghosts P R Item) (code : ProgramTable) (walks : Bool) (xs ys : List (Seat P)) : Type 0 where
  pub between : List (Seat P)
  pub took : AllTookTurns g code walks xs between
  pub still : AllStill g between ys

-- no item is set aside
pub record NoneAside {P : Type 0} (xs : List (Seat P)) : Type 0 where
  pub each : (i : ℕ) (s : Seat P) → slice_get xs i ≡ Some s → s.aside ≡ None

-- each event has a stamp that is accepted
pub record AreLow {P : Type 0} (xs : List (Seat P)) : Type 0 where
  pub each : (i : ℕ) (s : Seat P) → slice_get xs i ≡ Some s → AllByRecursion (λ e. e.stamp < STAMPS_END) s.site.history.events

-- its agents are idle, or none of them can do anything; nothing waits for it, and nothing is set aside
pub record CanNothingMore {P : Type 0} (code : ProgramTable) (s : Seat P) : Type 0 where
  pub agents : AreIdle code.processes s.site.agents ⊎ NoneCan code s.site.agents
  pub waits : s.waits ≡ false
  pub aside : s.aside ≡ None

-- the site in this place can do nothing more, if it has made fewer events than the budget
pub record IsDone {P : Type 0} (code : ProgramTable) (budget : ℕ) (xs : List (Seat P)) (i : ℕ) : Type 0 where
  pub rests : (s : Seat P) → slice_get xs i ≡ Some s → length s.site.history.events < budget → CanNothingMore code s
  pub sent : (s : Seat P) → slice_get xs i ≡ Some s → length s.site.history.events < budget → NoneSends xs i

-- so it is with each site
pub record AreDone {P : Type 0} (code : ProgramTable) (budget : ℕ) (xs : List (Seat P)) : Type 0 where
  pub each : (i : ℕ) → i < length xs → IsDone code budget xs i
