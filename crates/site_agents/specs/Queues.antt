-- What contracts see of a queue of names.
use Rattle.std.specs.Prelude.{◌≡◌, ◌⊎◌, ℕ, Bool, true, false, ◌||◌, List, [], ◌∷◌, ◌++◌, ◌<◌, length, slice_index_or, remove, Option, None}
use Rattle.std.specs.Prelude.{Some, refl}
use Rattle.std.specs.List.{list_any}
use Rattle.std.specs.Coded.{Coded, code_by, coded×, coded_bool, coded_list}
use Rattle.np_syntax.specs.declared.value.Name.{Name}
use Rattle.np_syntax.specs.contracts.value.Name as name
use Rattle.np_tables.specs.Names.{same_name}

-- the names that wait, in the order of their coming, and whether one is missing
pub record Waiting : Type 0 where
  pub names : List Name
  pub lost : Bool

abbrev pub waiting_code : Coded Waiting
waiting_code = code_by (List Name × Bool) (coded× (coded_list name.the_row.coded) coded_bool) (λ w. (w.names, w.lost))
    (λ p. record { names = p.0; lost = p.1 }) (λ _. refl)

-- the name is in the list
abbrev pub listed : List Name → Name → Bool
listed names q = list_any (same_name q) names

-- the name waits, or is one that may be missing
abbrev pub waits : Waiting → Name → Bool
waits w q = w.lost || listed w.names q

-- the name stands behind all others; or there was no room for it, and it is said that one is missing
abbrev pub ComesLast : Name → Waiting → Waiting → Type 0
ComesLast name old new = (new ≡ record old { names = old.names ++ name ∷ [] }) ⊎ (new ≡ record old { lost = true })

-- the name stands at this place
pub record StandsAt (names : List Name) (at : ℕ) (name : Name) : Type 0 where
  pub within : at < length names
  pub is : name ≡ slice_index_or names at name

-- the name went from this place, and the others stand in their order; or it stood nowhere
abbrev pub IsCut : Name → Option ℕ → List Name → List Name → Type 0
IsCut name None old new = (listed old name ≡ false) × (new ≡ old)
IsCut name (Some at) old new = StandsAt old at name × (new ≡ remove old at)

-- the name went once, if it waited
pub record Leaves (name : Name) (old new : Waiting) : Type 0 where
  pub place : Option ℕ
  pub names : IsCut name place old.names new.names
  pub lost : new.lost ≡ old.lost

-- whoever waited waits
pub record Keeps (old new : Waiting) : Type 0 where
  pub each : (q : Name) → waits old q ≡ true → waits new q ≡ true

-- whoever waited waits, but for the name
pub record KeepsBut (name : Name) (old new : Waiting) : Type 0 where
  pub each : (q : Name) → same_name q name ≡ false → waits old q ≡ true → waits new q ≡ true
