-- When nothing is left for a crew to do.
use Rattle.std.specs.Prelude.{◌≡◌, ◌<◌, ℕ, false, List, [], length, None, Some, slice_get}
use Rattle.np_code.specs.Programs.{ProgramTable}
use Rattle.site_agents.specs.Standings.{AreIdle}
use Rattle.site_state.specs.Lines.{NothingOut, queue_at}
use Rattle.site_turn.specs.declared.seat.Seat.{Seat}

-- its agents are idle, nothing waits for it, nothing is set aside, and all that it put out is sent
pub record IsQuietSeat {P : Type 0} (code : ProgramTable) (s : Seat P) : Type 0 where
  pub idle : AreIdle code.processes s.site.agents
  pub waits : s.waits ≡ false
  pub aside : s.aside ≡ None
  pub sent : NothingOut s.site.outgoing

pub record AllQuiet {P : Type 0} (code : ProgramTable) (xs : List (Seat P)) : Type 0 where
  pub each : (i : ℕ) (s : Seat P) → slice_get xs i ≡ Some s → IsQuietSeat code s

-- ---- one site

-- its agents are idle, nothing waits for it, and nothing is set aside
pub record IsResting {P : Type 0} (code : ProgramTable) (s : Seat P) : Type 0 where
  pub idle : AreIdle code.processes s.site.agents
  pub waits : s.waits ≡ false
  pub aside : s.aside ≡ None

-- no site has an item for this one that is still to be put on its link
pub record NoneSends {P : Type 0} (xs : List (Seat P)) (to : ℕ) : Type 0 where
  pub each : (k : ℕ) (s : Seat P) → slice_get xs k ≡ Some s → queue_at s.site.outgoing to ≡ []

-- the site in this place can do nothing, if it has made fewer events than the budget
pub record IsOver {P : Type 0} (code : ProgramTable) (budget : ℕ) (xs : List (Seat P)) (i : ℕ) : Type 0 where
  pub rests : (s : Seat P) → slice_get xs i ≡ Some s → length s.site.history.events < budget → IsResting code s
  pub sent : (s : Seat P) → slice_get xs i ≡ Some s → length s.site.history.events < budget → NoneSends xs i

-- so it is with each site
pub record AreOver {P : Type 0} (code : ProgramTable) (budget : ℕ) (xs : List (Seat P)) : Type 0 where
  pub each : (i : ℕ) → i < length xs → IsOver code budget xs i
