-- How often chips count in the columns of an agent.
use Rattle.std.proofs.Common.{◌≡◌, ◌+◌, ℕ, Bool, true, false, cond, List, [], ◌∷◌, ◌++◌, map, refl, sym, ap, ◌∙◌, arith}
use Rattle.std.specs.List.{sum_by, flat_map}
use Rattle.std.proofs.lemmas.List.Sums.{sum_by-append, sum_by-cons}
use Rattle.np_syntax.specs.declared.value.Name.{Name}
use Rattle.np_tables.specs.Names.{same_name}
use Rattle.simulate_laws.specs.protocol.Chips.{Chip, columns, counts, counted}
use Rattle.simulate_laws.specs.protocol.Columns.{Column, same, times}

abbrev pub only : Bool → ℕ → ℕ
only t n = cond t n 0

pub only-add : (t : Bool) (m n : ℕ) → only t (m + n) ≡ only t m + only t n
only-add true m n = refl
only-add false m n = omega arith

-- entries of one agent
abbrev pub all_of : Name → List Column → List (Name × Column)
all_of a ds = map (λ d. (a, d)) ds

sum-flat : (x : Name) (c : Column) (chips : List Chip) → sum_by (counted x c) chips ≡ sum_by (counts x c) (flat_map columns chips)
sum-flat x c [] = refl
sum-flat x c (chip ∷ chips) =
    sum_by-cons (counted x c) chip chips ∙ ap (λ n. counted x c chip + n) (sum-flat x c chips) ∙ sym (sum_by-append (counts x c) (columns chip) (flat_map columns chips))

count-of : (x : Name) (c : Column) (a : Name) (ds : List Column) → sum_by (counts x c) (all_of a ds) ≡ only (same_name x a) (times c ds)
count-of x c a [] = go (same_name x a)
  where
    go : (t : Bool) → 0 ≡ only t 0
    go true = refl
    go false = refl
count-of x c a (d ∷ ds) =
    sum_by-cons (counts x c) (a, d) (all_of a ds) ∙ ap (λ n. only (same_name x a) (same c d) + n) (count-of x c a ds) ∙ sym (only-add (same_name x a) (same c d) (times c ds))
    ∙ ap (only (same_name x a)) (sym (sum_by-cons (same c) d ds))

-- chips whose entries are those of one agent, and those of two
pub tally : (chips : List Chip) (a : Name) (ds : List Column) → flat_map columns chips ≡ all_of a ds
    → (x : Name) (c : Column) → sum_by (counted x c) chips ≡ only (same_name x a) (times c ds)
tally chips a ds e x c = sum-flat x c chips ∙ ap (sum_by (counts x c)) e ∙ count-of x c a ds

pub tally_two : (chips : List Chip) (a b : Name) (ds es : List Column) → flat_map columns chips ≡ all_of a ds ++ all_of b es
    → (x : Name) (c : Column) → sum_by (counted x c) chips ≡ only (same_name x a) (times c ds) + only (same_name x b) (times c es)
tally_two chips a b ds es e x c =
    let two : sum_by (counts x c) (all_of a ds ++ all_of b es) ≡ sum_by (counts x c) (all_of a ds) + sum_by (counts x c) (all_of b es) = sum_by-append (counts x c) (all_of a ds) (all_of b es) in
    let whole : sum_by (counted x c) chips ≡ sum_by (counts x c) (all_of a ds ++ all_of b es) = sum-flat x c chips ∙ ap (sum_by (counts x c)) e in
    omega (arith, count-of x c a ds, count-of x c b es)
