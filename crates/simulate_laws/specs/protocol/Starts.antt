-- Where the protocol begins: main at its site, with its lock, and the daemon (docs/TRANSLATION.md, "Starts").
use Rattle.std.specs.Prelude.{ℕ, None, Some, List, [], ◌∷◌, cond}
use Rattle.np_syntax.specs.declared.value.Name.{Name}
use Rattle.np_tables.specs.Names.{same_name}
use Rattle.simulate_laws.specs.protocol.Chips.{Chip, Service}
use Rattle.simulate_laws.specs.protocol.Phases.{Phase}
use Rattle.simulate_laws.specs.protocol.Scenes.{Locks, Scene, Whereabouts}

-- nothing but main, and nothing but its lock
abbrev pub first_locks : Name → Name → Locks
first_locks main lock q = cond (same_name q main) (Some lock) None

abbrev pub first_scene : Name → Name → ℕ → Scene
first_scene main lock site =
    record { place = λ q. cond (same_name q main) (Whereabouts.at site) Whereabouts.nowhere; lock = first_locks main lock }

abbrev pub first_phase : Name → Name → Phase
first_phase main q = cond (same_name q main) Phase.resting Phase.absent

-- main's `currentloc` and lock are free, and it takes letters; the daemon has its map and serves
abbrev pub first_chips : Name → Name → ℕ → Locks → List Chip
first_chips main lock site map =
    Chip.token main site ∷ Chip.takes_letters main ∷ Chip.locks map ∷ Chip.free lock site ∷ Chip.serves Service.registers
    ∷ Chip.serves Service.grants
    ∷ Chip.serves Service.notes_moves ∷ Chip.serves Service.passes_on ∷ Chip.serves Service.ends_deliveries ∷ []
