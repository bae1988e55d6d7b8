-- What each atom of a configuration waits for, as the work lists keep it.
use Rattle.std.specs.Prelude.{◌≡◌, true, IsSome}
use Rattle.std.specs.FinMap as map
use Rattle.std.specs.FinSet as set
use Rattle.np_syntax.specs.declared.value.Name.{Name}
use Rattle.np_tables.specs.declared.errand.Errand.{Errand}
use Rattle.np_tables.specs.Names.{NameMap, NameSet}
use Rattle.np_tables.specs.Mapped.{mapped}
use Rattle.np_eval.specs.Errands.{errand_at}
use Rattle.np_eval.specs.Forms.{layer}
use Rattle.np_calculus.specs.declared.config.Atom.{Atom}
use Rattle.np_calculus.specs.declared.config.Packet.{Packet}

abbrev pub errand_of : Atom → Errand
errand_of a = errand_at a.agent a.env (layer a.proc)

-- What holds of each configuration in code: every atom is filed under its errand, and the marks of atoms and of packets
-- are born.
pub record IsKept (work : NameMap Errand) (atoms : NameMap Atom) (packets : NameMap Packet) (born : NameSet) : Type 0 where
  pub filed : work ≡ mapped errand_of atoms
  pub marked : (m : Name) → IsSome (map.get atoms m) → set.contains born m ≡ true
  pub flown : (m : Name) → IsSome (map.get packets m) → set.contains born m ≡ true
