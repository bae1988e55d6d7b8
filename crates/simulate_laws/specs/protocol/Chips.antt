-- What stands about in a configuration as far as the protocol goes, whatever process, packet or stage it is in.
use Rattle.std.specs.Prelude.{ℕ, Bool, true, false, Option, None, Some, List, [], ◌∷◌, cond, nat_eq}
use Rattle.std.specs.List.{sum_by}
use Rattle.np_syntax.specs.declared.value.Name.{Name}
use Rattle.np_tables.specs.Names.{same_name}
use Rattle.simulate_laws.specs.protocol.Columns.{Column, same}
use Rattle.simulate_laws.specs.protocol.Scenes.{Locks}

-- the daemon's servers; the last, which tells where agents are, is there with caches alone
pub data Service : Type 0 where
  registers : Service
  grants : Service
  notes_moves : Service
  passes_on : Service
  ends_deliveries : Service
  tells : Service

pub data Chip : Type 0 where
  -- of an agent, at a site: its `currentloc` is free; it is about to make an agent; it waits for the end of its affair
  token : Name → ℕ → Chip
  maker : Name → ℕ → Chip
  waiter : Name → ℕ → Chip
  -- of an agent: it waits to be granted a move; it is about to leave
  mover : Name → Chip
  leaver : Name → Chip
  -- an agent that its parent made at a site, and that waits until it is registered
  child : Name → Name → ℕ → Chip
  -- an agent's request to move, and its registration at a site, up to where the daemon has done it
  request : Name → Chip
  registration : Name → ℕ → Chip
  -- an acknowledgement for an agent: on its way to a site, and there
  ack_sent : Name → ℕ → Chip
  ack_here : Name → Chip
  -- an agent's report that it is at a site, and whether it was sent from there
  report : Name → ℕ → Bool → Chip
  -- a letter on its way to an agent at a site, up to where the daemon has noted that it came
  delivery : Name → ℕ → Chip
  -- an agent's lock is free, and says its site
  free : Name → ℕ → Chip
  -- the daemon's lock, free or in use, with its map
  locks : Locks → Chip
  -- something waits for this lock, as that of the agent
  wants : Name → Name → Chip
  -- something will look the agent up
  knows : Name → Chip
  -- the agent takes letters; the daemon serves
  takes_letters : Name → Chip
  serves : Service → Chip

-- the columns of the table in which a chip counts, each for an agent: a child is also owed to its parent
abbrev pub columns : Chip → List (Name × Column)
columns (Chip.token a s) = (a, Column.token) ∷ []
columns (Chip.maker a s) = (a, Column.maker) ∷ []
columns (Chip.waiter a s) = (a, Column.waiter) ∷ []
columns (Chip.mover a) = (a, Column.mover) ∷ []
columns (Chip.leaver a) = (a, Column.leaver) ∷ []
columns (Chip.child b p s) = (b, Column.child) ∷ (p, Column.owed) ∷ []
columns (Chip.request a) = (a, Column.request) ∷ []
columns (Chip.registration b s) = (b, Column.registration) ∷ []
columns (Chip.ack_sent a s) = (a, Column.ack) ∷ []
columns (Chip.ack_here a) = (a, Column.ack) ∷ []
columns (Chip.report a t sent) = (a, Column.report) ∷ []
columns _ = []

-- how often an entry counts for an agent in a column
abbrev pub counts : Name → Column → Name × Column → ℕ
counts a c e = cond (same_name a e.0) (same c e.1) 0

abbrev pub counted : Name → Column → Chip → ℕ
counted a c chip = sum_by (counts a c) (columns chip)

abbrev pub is_of_locks : Chip → Bool
is_of_locks (Chip.locks m) = true
is_of_locks _ = false

abbrev pub is_lock : Option Name → Name → Bool
is_lock None l = false
is_lock (Some k) l = same_name k l

-- the lock of an agent: it is free, or a letter is being delivered to the agent
abbrev pub has_lock : Option Name → Name → Chip → Bool
has_lock lock a (Chip.free l s) = is_lock lock l
has_lock lock a (Chip.delivery b s) = same_name a b
has_lock lock a _ = false

abbrev pub takes_for : Name → Chip → Bool
takes_for a (Chip.takes_letters b) = same_name a b
takes_for a _ = false

abbrev pub service_number : Service → ℕ
service_number Service.registers = 0
service_number Service.grants = 1
service_number Service.notes_moves = 2
service_number Service.passes_on = 3
service_number Service.ends_deliveries = 4
service_number Service.tells = 5

-- whether the daemon serves so by each infrastructure
abbrev pub always_serves : Service → Bool
always_serves Service.tells = false
always_serves _ = true

abbrev pub does : Service → Chip → Bool
does k (Chip.serves j) = nat_eq (service_number k) (service_number j)
does k _ = false
