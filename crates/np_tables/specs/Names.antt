-- Names in order of site and number, and finite maps and sets of them.
use Rattle.std.specs.Prelude.{Bool, false, Option, None, Some}
use Rattle.std.specs.declared.cmp.Ordering.{Ordering}
use Rattle.std.specs.Ordering.{nat_cmp, then_cmp, on, eq_by_cmp}
use Rattle.std.specs.FinMap as map
use Rattle.std.specs.FinSet as set
use Rattle.np_syntax.specs.declared.value.Name.{Name}

abbrev pub name_cmp : Name → Name → Ordering
name_cmp = then_cmp (on (λ a. a.site) nat_cmp) (on (λ a. a.n) nat_cmp)

abbrev pub same_name : Name → Name → Bool
same_name a b = eq_by_cmp name_cmp a b

abbrev pub NameMap : Type 0 → Type 0
NameMap X = map.FinMap name_cmp X

abbrev pub NameSet : Type 0
NameSet = set.FinSet name_cmp

-- the set with one more name, if one is given
abbrev pub with_one : Option Name → NameSet → NameSet
with_one None names = names
with_one (Some name) names = set.insert names name

-- the name is the one that is given, if one is
abbrev pub is_one : Option Name → Name → Bool
is_one None q = false
is_one (Some name) q = same_name q name
