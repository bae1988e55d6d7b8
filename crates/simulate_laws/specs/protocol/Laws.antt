-- What the laws of the protocol say.
use Rattle.std.specs.Prelude.{◌≡◌, ◌+◌, ◌≤◌, ℕ, true, is_some, List, [], ◌∷◌}
use Rattle.std.specs.List.{sum_by, Contains}
use Rattle.np_syntax.specs.declared.value.Name.{Name}
use Rattle.simulate_laws.specs.protocol.Chips.{Chip, counted}
use Rattle.simulate_laws.specs.protocol.Columns.{Column}
use Rattle.simulate_laws.specs.protocol.Phases.{Phase}
use Rattle.simulate_laws.specs.protocol.Protocol.{Protocol}
use Rattle.simulate_laws.specs.protocol.Rules.{Rule}
use Rattle.simulate_laws.specs.protocol.Scenes.{Locks, Scene, Whereabouts}
use Rattle.simulate_laws.specs.protocol.Starts.{first_chips, first_locks, first_phase, first_scene}
use Rattle.simulate_laws.specs.protocol.Steps.{Step}

-- a step that a rule allows keeps the protocol, in the phases that it leads to
abbrev pub KeepsProtocol : Type 0
KeepsProtocol = (w next : Scene) (phase : Name → Phase) (before after take give : List Chip) → Rule w take give next
    → Step before after take give
    → Protocol w phase before → (then : Name → Phase) × Protocol next then after

abbrev pub StartsInOrder : Type 0
StartsInOrder = (main lock : Name) (site : ℕ) (map : Locks) → ((a : Name) → map a ≡ first_locks main lock a)
    → Protocol (first_scene main lock site) (first_phase main) (first_chips main lock site map)

-- in how many affairs an agent is, its free `currentloc` counted as one
abbrev pub affairs : Name → List Chip → ℕ
affairs a chips =
    sum_by (counted a Column.token) chips + sum_by (counted a Column.maker) chips + sum_by (counted a Column.mover) chips + sum_by
    (counted a Column.leaver) chips
    + sum_by (counted a Column.waiter) chips + sum_by (counted a Column.child) chips

-- what the protocol gives those that stand on it
pub record InOrder (w : Scene) (chips : List Chip) : Type 0 where
  -- an agent is in one affair at most
  pub one_affair : (a : Name) → affairs a chips ≤ 1
  -- a letter under way to an agent finds it: the agent is where the letter goes, it neither may leave nor has left, and there is one
  -- such letter
  pub meets : (a : Name) (s : ℕ) → Contains chips (Chip.delivery a s)
      → (w.place a ≡ Whereabouts.at s) × (sum_by (counted a Column.leaver) chips ≡ 0) × (sum_by (counted a Column.report) chips ≡ 0)
  -- what is looked up is found
  pub found : (a : Name) → Contains chips (Chip.knows a) → is_some (w.lock a) ≡ true

abbrev pub KeepsOrder : Type 0
KeepsOrder = (w : Scene) (phase : Name → Phase) (chips : List Chip) → Protocol w phase chips → InOrder w chips

-- a new agent that is about to start is in the map; and an agent that is about to end its affair waits for no agent that it made
pub record Acknowledged (w : Scene) : Type 0 where
  pub starts : (phase : Name → Phase) (before after give : List Chip) (b a : Name) (s : ℕ)
      → Step before after (Chip.ack_here b ∷ Chip.child b a s ∷ []) give → Protocol w phase before → is_some (w.lock b) ≡ true
  pub finishes : (phase : Name → Phase) (before after give : List Chip) (a : Name) (s : ℕ)
      → Step before after (Chip.waiter a s ∷ Chip.ack_here a ∷ []) give → Protocol w phase before
      → sum_by (counted a Column.owed) before ≡ 0
