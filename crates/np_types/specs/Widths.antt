-- The nodes of a type, and the types that may be printed (docs/LANGUAGE.md, "Types").
use Rattle.std.specs.Prelude.{ℕ, ◌+◌, Bool, true, false, ◌&&◌, List, [], ◌∷◌, nat_le}
use Rattle.np_syntax.specs.declared.types.Ty.{Ty, Ty-F, fold-Ty}
use Rattle.np_syntax.specs.declared.limits.TheConstants.{WIDEST_TYPE}

abbrev pub sum_all : List ℕ → ℕ
sum_all [] = 0
sum_all (n ∷ ns) = n + sum_all ns

abbrev pub nodes_step : Ty-F ℕ → ℕ
nodes_step (Ty-F.Chan c n) = 1 + n
nodes_step (Ty-F.Tuple ns) = 1 + sum_all ns
nodes_step _ = 1

-- the names, capabilities and tuples of a type, each counted wherever it stands
unfoldable pub nodes : Ty → ℕ
nodes = fold-Ty ℕ nodes_step

abbrev pub nodes_all : List Ty → ℕ
nodes_all [] = 0
nodes_all (t ∷ ts) = nodes t + nodes_all ts

-- at most 1,024 nodes
abbrev pub narrow : Ty → Bool
narrow t = nat_le (nodes t) WIDEST_TYPE

abbrev pub every : List Bool → Bool
every [] = true
every (b ∷ bs) = b && every bs

abbrev pub printable_step : Ty-F Bool → Bool
printable_step Ty-F.Int = true
printable_step Ty-F.Bool = true
printable_step Ty-F.Str = true
printable_step Ty-F.Site = true
printable_step (Ty-F.Tuple bs) = every bs
printable_step _ = false

-- Int, Bool, String, Site, and tuples of printable types
unfoldable pub printable : Ty → Bool
printable = fold-Ty Bool printable_step

abbrev pub printable_all : List Ty → Bool
printable_all [] = true
printable_all (t ∷ ts) = printable t && printable_all ts
