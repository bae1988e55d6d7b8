-- What the laws of things say.
use Rattle.std.specs.Prelude.{◌≡◌, ℕ, length}
use Rattle.np_syntax.specs.declared.program.Program.{Program}
use Rattle.np_syntax.specs.declared.program.LowProgram.{LowProgram}
use Rattle.np_calculus.specs.Starts.{daemon_agent, first_atom, main_agent}
use Rattle.np_scope.specs.Sound.{IsSound}
use Rattle.infrastructure_texts.specs.Infrastructures.{Infrastructure}
use Rattle.daemon_encode.specs.Translates.{IsLowOf}
use Rattle.simulate_laws.specs.things.Shapes.{Are}
use Rattle.simulate_laws.specs.things.Starts.{daemon_things, main_things}
use Rattle.simulate_laws.specs.protocol.Chips.{Service}
use Rattle.infrastructure_texts.specs.Pieces.{beside, gives, here, site}
use Rattle.infrastructure_texts.specs.Daemon.{daemon_text, first_places}
use Rattle.simulate_laws.specs.things.Desks.{desk, server}

-- the daemon has its map, main's lock and its five servers
abbrev pub DaemonByServers : Type 0
DaemonByServers = (n s0 x : ℕ) → daemon_text n s0 x
    ≡ beside 0 (beside 0 (beside 0 (beside 0 (beside 0 (beside 0
    (first_places n)
    (gives 0 (here n) (site s0)))
    (server n (desk n x Service.registers)))
    (server n (desk n x Service.grants)))
    (server n (desk n x Service.notes_moves)))
    (server n (desk n x Service.passes_on)))
    (server n (desk n x Service.ends_deliveries))

-- the two atoms of the low start of a sound program
pub record HasStartThings (i : Infrastructure) (p : Program) (q : LowProgram) (first : ℕ) : Type 0 where
  pub main : Are i (length p.sites) p.binders first (first_atom (main_agent (length p.sites)) q.main)
      (main_things i (length p.sites) p.at p.main)
  pub daemon : Are i (length p.sites) p.binders first (first_atom (daemon_agent (length p.sites)) q.daemon)
      (daemon_things i (length p.sites) p.at)

abbrev pub StartsWithThings : Infrastructure → Type 0
StartsWithThings i = (p : Program) (q : LowProgram) (low : IsLowOf i p q) → IsSound p → HasStartThings i p q low.first
