-- The phases of an agent's affairs, and the table of what stands about in each (docs/TRANSLATION.md, "Translation and daemon").
use Rattle.std.specs.Prelude.{ℕ, Bool, true, false, List, [], ◌∷◌}
use Rattle.simulate_laws.specs.protocol.Columns.{Column}

pub data Phase : Type 0 where
  -- there is no such agent
  absent : Phase
  -- it has no affair: its `currentloc` is free
  resting : Phase
  -- it is about to make an agent
  creating : Phase
  -- it asks to move, the grant is on its way to it, and it may leave
  asking : Phase
  granting : Phase
  granted : Phase
  -- it left for the site, and its report is on its way to the daemon
  reporting : ℕ → Phase
  -- it waits for the agent that it made
  parent : Phase
  -- the acknowledgement that ends its affair is on its way to it
  finishing : Phase
  -- it was made, and the daemon does not know it yet; and the daemon knows it, and the acknowledgement is on its way to it
  registering : Phase
  starting : Phase

-- the table: in each phase exactly this stands about for the agent
abbrev pub line : Phase → List Column
line Phase.absent = []
line Phase.resting = Column.token ∷ []
line Phase.creating = Column.maker ∷ []
line Phase.asking = Column.mover ∷ Column.request ∷ []
line Phase.granting = Column.mover ∷ Column.ack ∷ []
line Phase.granted = Column.leaver ∷ []
line (Phase.reporting t) = Column.waiter ∷ Column.report ∷ []
line Phase.parent = Column.waiter ∷ Column.owed ∷ []
line Phase.finishing = Column.waiter ∷ Column.ack ∷ []
line Phase.registering = Column.child ∷ Column.registration ∷ []
line Phase.starting = Column.child ∷ Column.ack ∷ []

abbrev pub is_present : Phase → Bool
is_present Phase.absent = false
is_present _ = true

-- the daemon's map has it
abbrev pub is_registered : Phase → Bool
is_registered Phase.absent = false
is_registered Phase.registering = false
is_registered _ = true

-- its lock is out for its move
abbrev pub is_moving : Phase → Bool
is_moving Phase.granting = true
is_moving Phase.granted = true
is_moving (Phase.reporting t) = true
is_moving _ = false
