-- What contracts see of a table and of a set of names: a map or a set, and its room.
use Rattle.std.specs.Prelude.{◌≡◌, ◌<◌, ℕ, List, length, slice_index_or, Some, refl}
use Rattle.std.specs.Coded.{Coded, code_by, coded×, coded_ℕ, coded_list}
use Rattle.std.specs.FinMap as map
use Rattle.std.specs.FinSet as set
use Rattle.np_syntax.specs.declared.value.Name.{Name}
use Rattle.np_syntax.specs.contracts.value.Name as name
use Rattle.np_tables.specs.Names.{NameMap, NameSet}

-- a map, how many new keys are sure to find room, and the keys in their stored order
pub record Stored (X : Type 0) : Type 0 where
  pub items : NameMap X
  pub spare : ℕ
  pub keys : List Name

-- a set, and how many new names are sure to find room
pub record StoredNames : Type 0 where
  pub members : NameSet
  pub spare : ℕ

abbrev pub stored_code : {X : Type 0} → Coded X → Coded (Stored X)
stored_code {X} x =
    code_by (NameMap X × (ℕ × List Name)) (coded× (map.code name.the_row.coded x) (coded× coded_ℕ (coded_list name.the_row.coded)))
    (λ s. (s.items, (s.spare, s.keys))) (λ p. record { items = p.0; spare = p.1.0; keys = p.1.1 }) (λ _. refl)

abbrev pub stored_names_code : Coded StoredNames
stored_names_code =
    code_by (NameSet × ℕ) (coded× (set.code name.the_row.coded) coded_ℕ) (λ s. (s.members, s.spare))
    (λ p. record { members = p.0; spare = p.1 }) (λ _. refl)

-- the name stands in the list, at an index
pub record Stands (names : List Name) (q : Name) : Type 0 where
  pub index : ℕ
  pub within : index < length names
  pub is : (d : Name) → slice_index_or names index d ≡ q

-- each name of the map stands in the list
abbrev pub Covers : {X : Type 0} → NameMap X → List Name → Type 0
Covers {X} m names = (q : Name) (x : X) → map.get m q ≡ Some x → Stands names q

-- the map of entries in any order, and the set of names in any order
abbrev pub map_of : {X : Type 0} → List (Name × X) → NameMap X
map_of entries = map.from_entries entries

abbrev pub set_of : List Name → NameSet
set_of names = set.from_list names
