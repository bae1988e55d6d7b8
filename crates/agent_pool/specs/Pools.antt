-- What contracts see of an agent.
use Rattle.std.specs.Prelude.{◌≡◌, ℕ, List, Some, refl}
use Rattle.std.specs.Coded.{Coded, code_by, coded×, coded_ℕ}
use Rattle.std.specs.FinMap as map
use Rattle.np_syntax.specs.declared.value.Name.{Name}
use Rattle.np_syntax.specs.contracts.value.Name as name
use Rattle.np_syntax.specs.declared.process.Proc.{Proc}
use Rattle.np_tables.specs.Names.{NameMap}
use Rattle.np_tables.specs.Mapped.{mapped}
use Rattle.np_calculus.specs.declared.config.Atom.{Atom}
use Rattle.agent_index.specs.contracts.wait.Wait as wait
use Rattle.agent_index.specs.Shelves.{Kept}
use Rattle.agent_pool.specs.declared.held.Held.{Held}
use Rattle.agent_pool.specs.contracts.held.Held as held
use Rattle.agent_pool.specs.Held.{atom_of, wait_of}

-- its name, its atoms by their marks, each with what it is filed under, and how many more are sure to find a place
pub record Pool : Type 0 where
  pub name : Name
  pub atoms : NameMap (Kept Held)
  pub spare : ℕ

abbrev pub pool_code : Coded Pool
pool_code =
    code_by (Name × (NameMap (Kept Held) × ℕ)) (coded× name.the_row.coded
    (coded× (map.code name.the_row.coded (coded× wait.the_row.coded held.the_row.coded)) coded_ℕ))
    (λ p. (p.name, (p.atoms, p.spare))) (λ q. record { name = q.0; atoms = q.1.0; spare = q.1.1 }) (λ _. refl)

-- the atoms as the calculus sees them
abbrev pub seen_as : List Proc → Name → Kept Held → Atom
seen_as ts agent kept = atom_of ts agent kept.1

abbrev pub atoms_of : List Proc → Pool → NameMap Atom
atoms_of ts p = mapped (seen_as ts p.name) p.atoms

-- an agent but for its room
abbrev pub without_room : Pool → Name × NameMap (Kept Held)
without_room p = (p.name, p.atoms)

-- nothing that contracts see has changed, but for the room
pub record Unchanged (old new : Pool) : Type 0 where
  pub name : new.name ≡ old.name
  pub atoms : new.atoms ≡ old.atoms

-- each atom is filed under what it waits for by the code
pub record IsFiled (ts : List Proc) (atoms : NameMap (Kept Held)) : Type 0 where
  pub each : (m : Name) (kept : Kept Held) → map.get atoms m ≡ Some kept → kept.0 ≡ wait_of ts kept.1
