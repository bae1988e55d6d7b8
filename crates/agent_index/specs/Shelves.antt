-- What contracts see of values by their marks, each with what it waits for.
use Rattle.std.specs.Prelude.{ℕ, List, Option, None, Some, refl}
use Rattle.std.specs.Coded.{Coded, code_by, coded×, coded_ℕ, coded_list}
use Rattle.std.specs.FinMap as map
use Rattle.np_syntax.specs.declared.value.Name.{Name}
use Rattle.np_syntax.specs.contracts.value.Name as name
use Rattle.np_tables.specs.Names.{NameMap}
use Rattle.agent_index.specs.declared.wait.Wait.{Wait}
use Rattle.agent_index.specs.contracts.wait.Wait as wait

-- a value, and what it waits for
abbrev pub Kept : Type 0 → Type 0
Kept X = Wait × X

-- the values by their marks, how many more are sure to find a place, and the marks in the order of a walk
pub record Shelf (X : Type 0) : Type 0 where
  pub items : NameMap (Kept X)
  pub spare : ℕ
  pub keys : List Name

abbrev pub shelf_code : {X : Type 0} → Coded X → Coded (Shelf X)
shelf_code {X} x =
    code_by (NameMap (Kept X) × (ℕ × List Name))
    (coded× (map.code name.the_row.coded (coded× wait.the_row.coded x)) (coded× coded_ℕ (coded_list name.the_row.coded)))
    (λ s. (s.items, (s.spare, s.keys))) (λ p. record { items = p.0; spare = p.1.0; keys = p.1.1 }) (λ _. refl)

-- the value alone
abbrev pub value_of : {X : Type 0} → Option (Kept X) → Option X
value_of None = None
value_of (Some kept) = Some kept.1

-- what it waits for
abbrev pub wait_of : {X : Type 0} → Option (Kept X) → Option Wait
wait_of None = None
wait_of (Some kept) = Some kept.0
