-- The columns of the table of phases: what may stand about for an agent, each at most once at a time.
use Rattle.std.specs.Prelude.{ℕ, cond, nat_eq, List}
use Rattle.std.specs.List.{sum_by}

pub data Column : Type 0 where
  -- the agent's `currentloc` is free
  token : Column
  -- the part of the agent that took it: it is about to make an agent, to be granted a move, to leave, or waits for the end of its affair
  maker : Column
  mover : Column
  leaver : Column
  waiter : Column
  -- the agent was made, and waits until it is registered
  child : Column
  -- its request to move, its registration, an acknowledgement for it, its report of its new site
  request : Column
  registration : Column
  ack : Column
  report : Column
  -- an agent that it made and that has not told it yet that it is registered
  owed : Column

abbrev pub number : Column → ℕ
number Column.token = 0
number Column.maker = 1
number Column.mover = 2
number Column.leaver = 3
number Column.waiter = 4
number Column.child = 5
number Column.request = 6
number Column.registration = 7
number Column.ack = 8
number Column.report = 9
number Column.owed = 10

abbrev pub same : Column → Column → ℕ
same c d = cond (nat_eq (number c) (number d)) 1 0

-- how often a column stands in a list
abbrev pub times : Column → List Column → ℕ
times c ds = sum_by (same c) ds
