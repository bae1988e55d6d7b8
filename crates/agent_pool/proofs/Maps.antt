-- What the map of an agent's atoms is to the calculus after each write.
use Rattle.std.proofs.Common.{◌≡◌, List, Option, None, Some, sym, ap, ◌∙◌}
use Rattle.std.specs.Prelude.{option_map}
use Rattle.std.specs.FinMap as map
use Rattle.np_syntax.specs.declared.value.Name.{Name}
use Rattle.np_syntax.specs.declared.process.Proc.{Proc}
use Rattle.np_syntax.proofs.Options.{done}
use Rattle.np_tables.specs.Mapped.{mapped}
use Rattle.np_tables.specs.Names.{NameMap}
use Rattle.np_tables.proofs.Mapped.{get-mapped, mapped-put, mapped-cut}
use Rattle.np_calculus.specs.declared.config.Atom.{Atom}
use Rattle.agent_index.specs.declared.wait.Wait.{Wait}
use Rattle.agent_index.specs.Shelves.{Kept}
use Rattle.agent_pool.specs.declared.held.Held.{Held}
use Rattle.agent_pool.specs.Held.{atom_of}
use Rattle.agent_pool.specs.Pools.{Pool, seen_as, atoms_of}

pub ruleset maps = (get-mapped, mapped-put, mapped-cut)

-- an atom of the agent is one of the agent
pub own-agent : (ts : List Proc) (agent : Name) (atoms : NameMap (Kept Held)) (q : Name) (a : Atom) → map.get (mapped (seen_as ts agent) atoms) q ≡ Some a → a.agent ≡ agent
own-agent ts agent atoms q a h = by (map.get atoms q) (sym (get-mapped (seen_as ts agent) atoms q) ∙ h)
  where
    by : (o : Option (Kept Held)) → option_map (seen_as ts agent) o ≡ Some a → a.agent ≡ agent
    by None e = absurd cc
    by (Some kept) e = ap (λ (b : Atom). b.agent) (done e)

-- an agent that goes on as an atom under a mark
pub gone-on : (ts : List Proc) (old new : Pool) (m : Name) (w : Wait) (h : Held) → new.name ≡ old.name → new.atoms ≡ map.insert old.atoms m (w, h)
    → atoms_of ts new ≡ map.insert (atoms_of ts old) m (atom_of ts old.name h)
gone-on ts old new m w h name atoms = (λ i. mapped (seen_as ts (name i)) (atoms i)) ∙ mapped-put (seen_as ts old.name) old.atoms m (w, h)
