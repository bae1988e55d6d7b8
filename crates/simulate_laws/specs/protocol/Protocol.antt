-- What always holds of the protocol: of the agents' places and the daemon's map, the phases, and what stands about.
use Rattle.std.specs.Prelude.{◌≡◌, ◌≤◌, ◌+◌, ◌⊎◌, ℕ, Bool, true, Some, List, is_some, cond}
use Rattle.std.specs.List.{All, sum_by, count_by}
use Rattle.np_syntax.specs.declared.value.Name.{Name}
use Rattle.simulate_laws.specs.protocol.Chips.{Chip, Service, counted, is_of_locks, has_lock, takes_for, does, always_serves}
use Rattle.simulate_laws.specs.protocol.Columns.{Column, times}
use Rattle.simulate_laws.specs.protocol.Phases.{Phase, line, is_present, is_registered, is_moving}
use Rattle.simulate_laws.specs.protocol.Scenes.{Whereabouts, Scene, is_there}

-- what a chip tells of places, locks and phases is true
abbrev pub IsTrueOf : Scene → (Name → Phase) → Chip → Type 0
IsTrueOf w phase (Chip.token a s) = w.place a ≡ Whereabouts.at s
IsTrueOf w phase (Chip.maker a s) = w.place a ≡ Whereabouts.at s
-- who waits is there, or has left for there
IsTrueOf w phase (Chip.waiter a s) = (w.place a ≡ Whereabouts.at s) ⊎ (phase a ≡ Phase.reporting s)
IsTrueOf w phase (Chip.child b p s) = (w.place b ≡ Whereabouts.at s) × (w.place p ≡ Whereabouts.at s)
IsTrueOf w phase (Chip.registration b s) = w.place b ≡ Whereabouts.at s
IsTrueOf w phase (Chip.ack_sent a s) = w.place a ≡ Whereabouts.at s
-- a report is of the site for which its agent left; once it was sent, the agent is there
IsTrueOf w phase (Chip.report a t sent) = (phase a ≡ Phase.reporting t) × (sent ≡ true → w.place a ≡ Whereabouts.at t)
IsTrueOf w phase (Chip.delivery b s) = w.place b ≡ Whereabouts.at s
-- a free lock is some agent's, and says where that is
IsTrueOf w phase (Chip.free l s) = (a : Name) × (w.lock a ≡ Some l) × (w.place a ≡ Whereabouts.at s)
IsTrueOf w phase (Chip.locks m) = (a : Name) → m a ≡ w.lock a
IsTrueOf w phase (Chip.wants b l) = w.lock b ≡ Some l
IsTrueOf w phase (Chip.knows b) = is_some (w.lock b) ≡ true
IsTrueOf w phase _ = Unit {0}

abbrev pub one_if : Bool → ℕ
one_if t = cond t 1 0

pub record Protocol (w : Scene) (phase : Name → Phase) (chips : List Chip) : Type 0 where
  -- each agent has one affair at most, and who waits in it for what is as the table says: so no acknowledgement is taken by another
  pub rows : (a : Name) (c : Column) → sum_by (counted a c) chips ≡ times c (line (phase a))
  -- an agent with a place is in a phase, and no other
  pub placed : (a : Name) → is_there (w.place a) ≡ is_present (phase a)
  -- the map has exactly the agents that are registered: so each look-up finds its agent
  pub registered : (a : Name) → is_some (w.lock a) ≡ is_registered (phase a)
  -- no two agents have one lock: so who takes a lock takes that of its agent
  pub apart : (a b l : Name) → w.lock a ≡ Some l → w.lock b ≡ Some l → a ≡ b
  -- the daemon has one map
  pub one_map : count_by is_of_locks chips ≡ 1
  -- the lock of a registered agent is free, or out for one delivery, or out for its move: so no letter is under way to an agent that leaves
  pub one_lock : (a : Name) → count_by (has_lock (w.lock a) a) chips + one_if (is_moving (phase a)) ≡ one_if (is_registered (phase a))
  -- an agent that reports a site is there, or on its way there
  pub travels : (a : Name) (t : ℕ) → phase a ≡ Phase.reporting t → (w.place a ≡ Whereabouts.at t) ⊎ (w.place a ≡ Whereabouts.under_way t)
  -- letters, and messages to the daemon, are always taken: so none rests
  pub letters : (a : Name) → is_there (w.place a) ≡ true → 1 ≤ count_by (takes_for a) chips
  pub services : (k : Service) → always_serves k ≡ true → 1 ≤ count_by (does k) chips
  -- sites that are told are true, so what is sent to an agent finds it; locks that are known are the agents', and the map is the daemon's
  pub true_chips : All (IsTrueOf w phase) chips
