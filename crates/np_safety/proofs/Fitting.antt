-- Configurations whose values fit some types, from which the least ones follow.
use Rattle.std.proofs.Common.{◌≡◌, ℕ, Option, Some, Ok, List, [], ◌∷◌}
use Rattle.std.specs.FinMap as table
use Rattle.np_safety.proofs.Common.{Name, Value, Ty, World, Types, check, Env, Atom, Config, Fits, Sent}
use Rattle.np_tables.specs.Names.{NameMap}
use Rattle.np_calculus.specs.declared.config.Packet.{Packet}
use Rattle.np_safety.specs.Fits.{LeastTypes}

-- there is a value, which fits the type
pub record Valued (w : World) (o : Option Value) (t : Ty) : Type 0 where
  pub value : Value
  pub is : o ≡ Some value
  pub fits : Fits w value t

-- each value fits its own type
abbrev pub FitAll : World → List Value → List Ty → Type 0
FitAll w [] [] = Unit {0}
FitAll w [] (t ∷ ts) = ⊥
FitAll w (v ∷ vs) [] = ⊥
FitAll w (v ∷ vs) (t ∷ ts) = Fits w v t × FitAll w vs ts

-- the values of an environment have least types
pub record Known (w : World) (env : Env) : Type 0 where
  pub types : Types
  pub least : LeastTypes w env types

-- each binder that has a type has a value, which fits it
pub record Agrees (w : World) (env : Env) (types : Types) : Type 0 where
  pub known : Known w env
  pub all : (x : ℕ) (t : Ty) → table.get types x ≡ Some t → Valued w (table.get env x) t

-- the process has no fault, under types of binders that the values of its environment fit
pub record FittingAtom (w : World) (a : Atom) : Type 0 where
  pub types : Types
  pub agrees : Agrees w a.env types
  pub good : check w a.proc types ≡ Ok tt

abbrev pub FittingAtoms : World → NameMap Atom → Type 0
FittingAtoms w atoms = (m : Name) (a : Atom) → table.get atoms m ≡ Some a → FittingAtom w a

abbrev pub SentPackets : World → NameMap Packet → Type 0
SentPackets w packets = (m : Name) (p : Packet) → table.get packets m ≡ Some p → Sent w p.chan p.value

pub record Fitting (w : World) (c : Config) : Type 0 where
  pub atoms : FittingAtoms w c.atoms
  pub packets : SentPackets w c.packets
