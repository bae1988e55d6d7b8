-- Parts of a configuration: what stands in two of them, side by side.
use Rattle.std.specs.Prelude.{◌≡◌, ◌⊎◌, ℕ, true, Option, None, Some, IsSome}
use Rattle.std.specs.FinSet as set
use Rattle.np_syntax.specs.declared.value.Name.{Name}
use Rattle.np_calculus.specs.declared.config.Atom.{Atom}
use Rattle.np_calculus.specs.declared.config.Place.TheVariants as place
use Rattle.np_calculus.specs.Config.{Config}
use Rattle.np_calculus.specs.Sight.{Contents, inside}

-- the first that there is
abbrev pub either : {X : Type 0} → Option X → Option X → Option X
either (Some x) o = Some x
either None o = o

abbrev pub nothing : Contents
nothing = record { place = λ q. None; atom = λ q. None; packet = λ q. None }

abbrev pub beside : Contents → Contents → Contents
beside x y = record {
  place = λ q. either (x.place q) (y.place q);
  atom = λ q. either (x.atom q) (y.atom q);
  packet = λ q. either (x.packet q) (y.packet q);
}

-- the mark of an atom or of a packet
abbrev pub IsMark : Contents → Name → Type 0
IsMark x q = IsSome (x.atom q) ⊎ IsSome (x.packet q)

pub record LacksMark (x : Contents) (q : Name) : Type 0 where
  pub atom : x.atom q ≡ None
  pub packet : x.packet q ≡ None

-- no agent of the one stands in the other, and no mark
pub record IsApart (x y : Contents) : Type 0 where
  pub agents : (q : Name) → IsSome (x.place q) → y.place q ≡ None
  pub marks : (q : Name) → IsMark x q → LacksMark y q

pub record IsSplit (whole part rest : Contents) : Type 0 where
  pub is : whole ≡ beside part rest
  pub apart : IsApart part rest

-- the agent of each atom has a place
pub record IsLodged (x : Contents) : Type 0 where
  pub each : (m : Name) (a : Atom) → x.atom m ≡ Some a → IsSome (x.place a.agent)

-- no agent is at the site
pub record IsAway (x : Contents) (site : ℕ) : Type 0 where
  pub none : (agent : Name) → x.place agent ≡ Some (place.At site) → ⊥

-- each name that stands there is born
pub record AreBorn (c : Config) : Type 0 where
  pub agents : (q : Name) → IsSome ((inside c).place q) → set.contains c.born q ≡ true
  pub marks : (q : Name) → IsMark (inside c) q → set.contains c.born q ≡ true

-- the configuration is a part of it and a rest
pub record IsWhole (whole part : Config) (rest : Contents) : Type 0 where
  pub sites : whole.sites ≡ part.sites
  pub split : IsSplit (inside whole) (inside part) rest
  pub born : AreBorn whole

-- all that a site has: its atoms are with their agents, and no agent is at another site
pub record IsOfSite (site : ℕ) (x : Contents) : Type 0 where
  pub lodged : IsLodged x
  pub away : (u : ℕ) → (u ≡ site → ⊥) → IsAway x u
