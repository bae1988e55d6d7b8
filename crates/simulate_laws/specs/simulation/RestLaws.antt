-- What the law of rest says (docs/TRANSLATION.md, "Translation and daemon").
use Rattle.std.specs.Prelude.{◌≡◌, ◌⊎◌, ℕ, true, None, Some, List, [], ◌∷◌}
use Rattle.std.specs.List.{All}
use Rattle.std.specs.FinMap as map
use Rattle.std.specs.FinSet as set
use Rattle.np_syntax.specs.declared.value.Name.{Name}
use Rattle.np_calculus.specs.declared.config.Atom.{Atom}
use Rattle.np_calculus.specs.declared.config.Place.{Place}
use Rattle.np_calculus.specs.Config.{Config}
use Rattle.np_calculus.specs.Idle.{Idle}
use Rattle.np_calculus.specs.Parts.{IsLodged}
use Rattle.np_calculus.specs.Sight.{inside}
use Rattle.np_eval.specs.Eval.{find_place}
use Rattle.simulate_laws.specs.protocol.Phases.{Phase}
use Rattle.infrastructure_texts.specs.Infrastructures.{Infrastructure}
use Rattle.simulate_laws.specs.things.Things.{Thing, carried}
use Rattle.simulate_laws.specs.levels.Coupled.{Coupled, View}
use Rattle.simulate_laws.specs.simulation.FreeLocks.{HasFreeLocks}

-- the infrastructure has nothing left to do
pub record HasRest (v : View) : Type 0 where
  -- no agent has an affair
  pub agents : (a : Name) → (v.phase a ≡ Phase.resting) ⊎ (v.phase a ≡ Phase.absent)
  -- the daemon's lock is free
  pub lock : (m : Name) × (ps : List (Name × Name)) × (map.get v.things m ≡ Some (Thing.places ps ∷ []))
  -- and so is the lock of each agent in its map
  pub locks : (a l : Name) → v.lock a ≡ Some l → (m : Name) × (s : ℕ) × (map.get v.things m ≡ Some (Thing.free l s ∷ []))
  -- no letter is under way
  pub letters : (m : Name) (ts : List Thing) → map.get v.things m ≡ Some ts → All (λ t. carried t ≡ None) ts

-- ---- with caches

-- an agent's cache is free, and so is each of its hints
pub record HasFreeCache (v : View) (a : Name) : Type 0 where
  pub mark : Name
  pub held : List (Name × Name)
  pub cache : map.get v.things mark ≡ Some (Thing.cache a held ∷ [])
  pub hints : (x l : Name) → find_place held x ≡ Some l → (m : Name) × (map.get v.things m ≡ Some (Thing.hint a l ∷ []))

-- it waits for no hint, and for the cache of no agent of the source
abbrev pub WaitsForNone : Config → Thing → Type 0
WaitsForNone high (Thing.hoping a h l) = ⊥
WaitsForNone high (Thing.replacing a l) = ⊥
WaitsForNone high (Thing.told a) = map.get high.places a ≡ None
WaitsForNone high _ = Unit {0}

-- the caches and the messengers have nothing left to do either
pub record HasCacheRest (low high : Config) (v : View) : Type 0 where
  -- each agent of the source has its cache and its hints
  pub caches : (a : Name) (p : Place) → map.get high.places a ≡ Some p → HasFreeCache v a
  -- none of them waits for these; no post does either, since the high level rests
  pub served : (m : Name) (ts : List Thing) → map.get v.things m ≡ Some ts → All (WaitsForNone high) ts
  -- no messenger has an atom that carries a letter
  pub messengers : (m : Name) (b : Atom) (ts : List Thing) → map.get low.atoms m ≡ Some b
      → set.contains v.standing.messengers b.agent ≡ true
      → map.get v.things m ≡ Some ts → All (λ t. carried t ≡ None) ts

-- ---- by each infrastructure

-- where no site can act at the low level, and each atom's agent has a place, none can at the high level; the infrastructure has nothing
-- left to do, and the locks of its daemon are free
abbrev pub RestsTogether : Type 0
RestsTogether = (i : Infrastructure) (n from first : ℕ) (low high : Config) (v : View) → Coupled i n from first low high v
    → IsLodged (inside low) → Idle low → Idle high × HasRest v × (i ≡ Infrastructure.cached → HasCacheRest low high v)
    × HasFreeLocks low high
