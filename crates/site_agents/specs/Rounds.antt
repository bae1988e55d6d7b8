-- The steps by which the agents at a site are served.
use Rattle.std.specs.Prelude.{◌≡◌, true, false, Option, None, Some}
use Rattle.std.specs.FinMap as map
use Rattle.np_syntax.specs.declared.value.Name.{Name}
use Rattle.np_tables.specs.Names.{NameMap}
use Rattle.np_tables.specs.Stored.{Stored}
use Rattle.np_code.specs.Programs.{ProgramTable}
use Rattle.site_agents.specs.declared.seat.Seat.{Seat}
use Rattle.site_agents.specs.Queues.{Waiting, waits}
use Rattle.site_agents.specs.Standings.{is_quiet, agents_of, CanNothing}

-- each agent that has a turn waits for it, and each that is doubtful waits among the doubtful
pub record InTurn (seats : NameMap Seat) (turns doubtful : Waiting) : Type 0 where
  pub queued : (q : Name) (s : Seat) → map.get seats q ≡ Some s → s.queued ≡ true → waits turns q ≡ true
  pub doubted : (q : Name) (s : Seat) → map.get seats q ≡ Some s → s.doubted ≡ true → waits doubtful q ≡ true

-- each agent with no turn can do nothing
pub record QuietCan (code : ProgramTable) (seats : NameMap Seat) : Type 0 where
  pub each : (q : Name) (s : Seat) → map.get seats q ≡ Some s → is_quiet s ≡ true → CanNothing code s.agent

-- the agents stay, each with a turn waits for it, and those with none can do nothing
pub record GoesOn (code : ProgramTable) (old : Stored Seat) (old_turns old_doubtful : Waiting) (new : Stored Seat)
    (new_turns new_doubtful : Waiting) : Type 0 where
  pub agents : agents_of new.items ≡ agents_of old.items
  pub spare : new.spare ≡ old.spare
  pub in_turn : InTurn old.items old_turns old_doubtful → InTurn new.items new_turns new_doubtful
  pub quiet : QuietCan code old.items → QuietCan code new.items

-- the seats with that of a name changed, if there is one
abbrev pub changed_in : NameMap Seat → Name → (Seat → Seat) → Option Seat → NameMap Seat
changed_in seats q f None = seats
changed_in seats q f (Some s) = map.insert seats q (f s)

abbrev pub changed : NameMap Seat → Name → (Seat → Seat) → NameMap Seat
changed seats q f = changed_in seats q f (map.get seats q)

abbrev pub with_changed : Stored Seat → Name → (Seat → Seat) → Stored Seat
with_changed s q f = record s { items = changed s.items q f }

-- a seat whose agent is doubtful, has a turn, or is no more doubtful
abbrev pub doubted : Seat → Seat
doubted s = record s { queued = false; doubted = true }

abbrev pub called : Seat → Seat
called s = record s { queued = true; doubted = false }

abbrev pub settled : Seat → Seat
settled s = record s { doubted = false }

-- a seat whose agent has a turn, whether or not it is doubtful
abbrev pub again : Seat → Seat
again s = record s { queued = true }
