-- How far the clocks of a crew have gone on (docs/HISTORIES.md, "History text").
use Rattle.std.specs.Prelude.{◌≡◌, ◌≤◌, ◌+◌, ℕ, cond, nat_le, List, [], ◌∷◌, map, Some, slice_get}
use Rattle.stamp_history.specs.declared.stamped.Stamped.{Stamped}
use Rattle.stamp_history.specs.Histories.{Recorded}
use Rattle.site_links.specs.declared.port.Port as Port
use Rattle.np_code.specs.Programs.{ProgramTable}
use Rattle.agent_move.specs.declared.item.Item.{Item}
use Rattle.site_turn.specs.declared.seat.Seat.{Seat}
use Rattle.site_turn.specs.Steady.{IsSteady}

-- how many of the events have stamps that are no greater than a number
abbrev pub low_events : ℕ → List Stamped → ℕ
low_events n [] = 0
low_events n (e ∷ es) = cond (nat_le e.stamp n) 1 0 + low_events n es

-- and how many of those of all histories
abbrev pub low_count : ℕ → List Recorded → ℕ
low_count n [] = 0
low_count n (h ∷ hs) = low_events n h.events + low_count n hs

-- No clock has gone on by more than Lamport's rule asks for, but that each may have been set to this number, or to a smaller one; and
-- so many events have stamps that are no greater. (A crew that does saved events again sets its clocks to their number.)
pub record AreSteady {P R : Type 0} (g : Port.Ghosts P R Item) (code : ProgramTable) (xs : List (Seat P)) : Type 0 where
  pub set : ℕ
  pub enough : set ≤ low_count set (map (λ s. s.site.history) xs)
  pub each : (i : ℕ) (s : Seat P) → slice_get xs i ≡ Some s → IsSteady g code set s
