-- Maps of names with each value changed.
use Rattle.std.specs.Prelude.{map}
use Rattle.std.specs.FinMap as table
use Rattle.np_tables.specs.Names.{NameMap}

-- the map with each of its values changed by the function
unfoldable pub mapped : {X Y : Type 0} → (X → Y) → NameMap X → NameMap Y
mapped f m = table.from_entries (map (λ e. (e.0, f e.1)) (table.entries m))
