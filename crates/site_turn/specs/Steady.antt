-- How far the clock of a site goes on (docs/HISTORIES.md, "History text").
use Rattle.std.specs.Prelude.{◌≡◌, ◌<◌, ◌≤◌, ◌+◌, ◌⊎◌, ℕ, List, length}
use Rattle.std.specs.List.{AllByRecursion}
use Rattle.stamp_history.specs.declared.stamped.Stamped.{Stamped}
use Rattle.site_links.specs.declared.port.Port as Port
use Rattle.np_site_runs.specs.merged.Elements.{Occurs}
use Rattle.np_code.specs.Programs.{ProgramTable}
use Rattle.agent_move.specs.declared.item.Item.{Item}
use Rattle.site_turn.specs.declared.seat.Seat.{Seat}

-- one of the events has this stamp
abbrev pub IsStampOf : ℕ → List Stamped → Type 0
IsStampOf k es = Occurs (λ e. e.stamp ≡ k) es

module _ {P R : Type 0} (g : Port.Ghosts P R Item) (code : ProgramTable) where
  -- an item with this stamp came from one of the sites
  abbrev pub HasCome : ℕ → Seat P → Type 0
  HasCome k s = (from : ℕ) × (from < length code.sites) × Occurs (λ x. x.stamp ≡ k) (g.got s.port from)

  -- the stamp is one more than that of an event of the site, or than that of an item that came; or it is at most one more than a number
  -- to which the clock was set
  abbrev pub IsOneMore : ℕ → Seat P → ℕ → Type 0
  IsOneMore set s stamp = (stamp ≤ set + 1) ⊎ ((k : ℕ) × (stamp ≡ k + 1) × (IsStampOf k s.site.history.events ⊎ HasCome k s))

  -- the clock has not gone on by more than Lamport's rule asks for, but that it may have been set to this number, or to a smaller one
  pub record IsSteady (set : ℕ) (s : Seat P) : Type 0 where
    pub clock : (s.site.clock ≤ set) ⊎ IsStampOf s.site.clock s.site.history.events
    pub each : AllByRecursion (λ e. IsOneMore set s e.stamp) s.site.history.events
