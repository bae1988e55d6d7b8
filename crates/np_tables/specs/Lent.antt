-- What a table ends as, where one of its values was lent to be changed in place.
use Rattle.std.specs.Prelude.{◌≡◌, ℕ, nat_eq, ◌&&◌, List, position, Option, Some}
use Rattle.std.specs.FinMap as map
use Rattle.std.specs.Borrow.{Lends, LendsIf, Fml, RattleType, MutBor}
use Rattle.np_syntax.specs.declared.value.Name.{Name}
use Rattle.np_tables.specs.Stored.{Stored}
use Rattle.np_tables.specs.contracts.table.Table.{the_row}

-- the map with this value under a name
abbrev pub with_item : {X : Type 0} → Stored X → Name → X → Stored X
with_item s name value = record s { items = map.insert s.items name value }

-- the name has the last value written through what was lent, and where none was the map stays as it is
abbrev pub lends_item : (V : RattleType) → MutBor (Stored V.Denot) → Name → Option (MutBor V.Denot) → Fml
lends_item V s name r = LendsIf (the_row V) V s r (with_item s.now name) s.now

-- the first place of the name in the list
abbrev pub IsPlace : List Name → Name → ℕ → Type 0
IsPlace names q i = position (λ k. nat_eq q.site k.site && nat_eq q.n k.n) names ≡ Some i

-- the same where the name is there
abbrev pub lends_there : (V : RattleType) → MutBor (Stored V.Denot) → Name → MutBor V.Denot → Fml
lends_there V s name r = Lends (the_row V) V s r (with_item s.now name)
