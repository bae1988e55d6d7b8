-- Typed configurations (docs/LANGUAGE.md, "Reductions").
use Rattle.std.specs.Prelude.{◌≡◌, true, Some, Ok, List, ◌++◌}
use Rattle.std.specs.FinMap as map
use Rattle.std.specs.FinSet as set
use Rattle.np_syntax.specs.declared.value.Name.{Name}
use Rattle.np_syntax.specs.declared.value.Value.{Value}
use Rattle.np_syntax.specs.declared.types.Cap.{Cap}
use Rattle.np_syntax.specs.declared.types.Ty.{Ty}
use Rattle.np_syntax.specs.declared.event.Event.{Event}
use Rattle.np_types.specs.Worlds.{World}
use Rattle.np_types.specs.Least.{Types}
use Rattle.np_calculus.specs.declared.config.Atom.{Atom}
use Rattle.np_calculus.specs.declared.config.Packet.{Packet}
use Rattle.np_calculus.specs.Config.{Config}
use Rattle.np_calculus.specs.Reductions.{sends, run}
use Rattle.np_check.specs.Faults.{check}
use Rattle.np_safety.specs.Fits.{LeastTypes, Sent}
use Rattle.np_safety.specs.Channels.{Channels, channels_after, world}

-- the process has no fault, where the binders of its environment have the least types of their values: so each use has its
-- binder, each channel has a type and each site is one of the program, in the values and in the process
pub record TypedAtom (w : World) (a : Atom) : Type 0 where
  pub types : Types
  pub least : LeastTypes w a.env types
  pub good : check w a.proc types ≡ Ok tt

-- no atom's process has a fault, and each value that waits or travels on a channel fits it
pub record Typed (w : World) (c : Config) : Type 0 where
  pub atoms : (m : Name) (a : Atom) → map.get c.atoms m ≡ Some a → TypedAtom w a
  pub outputs : (m : Name) (a : Atom) (s : Name × Value) → map.get c.atoms m ≡ Some a → sends a ≡ Some s → Sent w s.0 s.1
  pub packets : (m : Name) (p : Packet) → map.get c.packets m ≡ Some p → Sent w p.chan p.value

-- each of these channels is born
abbrev pub AreBorn : Config → Channels → Type 0
AreBorn c g = (n : Name) (k : Cap × Ty) → map.get g n ≡ Some k → set.contains c.born n ≡ true

-- after each prefix of the events, from a configuration with these channels, they lead somewhere that is typed: in the world of
-- its sites, of those channels and of those that were made
pub record TypedAlong (c : Config) (g : Channels) (events : List Event) : Type 0 where
  pub each : (first rest : List Event) → events ≡ first ++ rest
      → (d : Config) × (run c first ≡ Some d) × Typed (world c.sites (channels_after first g c)) d
