-- Lists of which some element passes a test: by their sums, by their parts, and in tables.
use Rattle.std.proofs.Common.{◌≡◌, ◌≤◌, ◌⊎◌, inl, inr, ℕ, Bool, true, false, cond, nat_eq, ◌||◌, ◌&&◌, T, None, Some, List, [], ◌∷◌, ◌++◌, refl, sym, ap, subst, ◌∙◌, arith}
use Rattle.std.specs.List.{count_by, flat_map, list_any, sum_by}
use Rattle.std.proofs.lemmas.List.Sums.{sum_by-cons}
use Rattle.std.specs.Ordering.{is_eq, is_lt}
use Rattle.std.specs.declared.cmp.Ordering.{Ordering}
use Rattle.std.specs.declared.cmp.Ordering.TheVariants.{Less, Equal, Greater}
use Rattle.std.specs.FinMap as map
use Rattle.std.specs.FinMap.{entries_sorted, find, get-entries, is_sorted}
use Rattle.std.specs.FinMap.Entries.{below_all}
use Rattle.np_syntax.specs.declared.value.Name.{Name}
use Rattle.np_tables.specs.Names.{NameMap, name_cmp, same_name}
use Rattle.np_tables.proofs.Tables.{same_name-is, same_name-itself}
use Rattle.simulate_laws.specs.protocol.Chips.{Chip, columns, counted, counts}
use Rattle.simulate_laws.specs.protocol.Columns.{Column, number}
use Rattle.simulate_laws.proofs.levels.Quiet.{or_cases, or_second}

pub one_truth : (b : Bool) → (b || false) ≡ true → b ≡ true
one_truth true h = refl
one_truth false h = absurd cc

or_none : (a b : Bool) → (a || b) ≡ false → (a ≡ false) × (b ≡ false)
or_none true b h = absurd cc
or_none false b h = (refl, h)

-- ---- by sums

module _ {X : Type 0} (p : X → Bool) where
  pub any_weaker : (q : X → Bool) → ((x : X) → p x ≡ true → q x ≡ true) → (xs : List X) → list_any p xs ≡ true → list_any q xs ≡ true
  any_weaker q f [] h = absurd cc
  any_weaker q f (x ∷ xs) h = elim (or_cases (p x) (list_any p xs) h) [ inl a ↦ ap (λ t. t || list_any q xs) (f x a) | inr b ↦ or_second (q x) _ (any_weaker q f xs b) ]

  pub any_first : (xs ys : List X) → list_any p (xs ++ ys) ≡ true → (list_any p xs ≡ true) ⊎ (list_any p ys ≡ true)
  any_first [] ys h = inr h
  any_first (x ∷ xs) ys h = elim (or_cases (p x) (list_any p (xs ++ ys)) h) [
    | inl a ↦ inl (ap (λ t. t || list_any p xs) a)
    | inr b ↦ elim (any_first xs ys b) [ inl c ↦ inl (or_second (p x) _ c) | inr d ↦ inr d ]
  ]

  -- what is not nothing in the sum is of an element that passes
  pub any_of_sum : (f : X → ℕ) → ((x : X) → p x ≡ false → f x ≡ 0) → (xs : List X) → 1 ≤ sum_by f xs → list_any p xs ≡ true
  any_of_sum f none [] h = absurd (let bad : ⊥ = omega arith in bad)
  any_of_sum f none (x ∷ xs) h = go (p x) refl (any_of_sum f none xs)
    where
      go : (t : Bool) → p x ≡ t → (1 ≤ sum_by f xs → list_any p xs ≡ true) → (t || list_any p xs) ≡ true
      go true e rest = refl
      go false e rest = rest (let zero_here = none x e in omega (arith, sum_by-cons f x xs))

  pub any_counted : (xs : List X) → 1 ≤ count_by p xs → list_any p xs ≡ true
  any_counted xs h = any_of_sum (λ x. cond (p x) 1 0) (λ x e. ap (λ t. cond t 1 0) e) xs h

  -- and what passes is part of the sum
  pub sum_of_any : (f : X → ℕ) → ((x : X) → p x ≡ true → 1 ≤ f x) → (xs : List X) → list_any p xs ≡ true → 1 ≤ sum_by f xs
  sum_of_any f some [] h = absurd cc
  sum_of_any f some (x ∷ xs) h = elim (or_cases (p x) (list_any p xs) h) [
    | inl a ↦ (let one_here = some x a in omega (arith, sum_by-cons f x xs))
    | inr b ↦ (let one_later = sum_of_any f some xs b in omega (arith, sum_by-cons f x xs))
  ]

-- an agent's chip in a column
abbrev pub is_in : Name → Column → Name × Column → Bool
is_in a c e = nat_eq (number c) (number e.1) && same_name a e.0

abbrev pub in_column : Name → Column → Chip → Bool
in_column a c chip = list_any (is_in a c) (columns chip)

-- how often an entry counts, by whether the column and the agent are the same
abbrev weight : Bool → Bool → ℕ
weight s t = cond t (cond s 1 0) 0

counts_none : (a : Name) (c : Column) (e : Name × Column) → is_in a c e ≡ false → counts a c e ≡ 0
counts_none a c e h = go (nat_eq (number c) (number e.1)) (same_name a e.0) h
  where
    go : (s t : Bool) → (s && t) ≡ false → weight s t ≡ 0
    go true true h = absurd cc
    go true false h = refl
    go false true h = refl
    go false false h = refl

no_count : (a : Name) (c : Column) (es : List (Name × Column)) → list_any (is_in a c) es ≡ false → sum_by (counts a c) es ≡ 0
no_count a c [] h = refl
no_count a c (e ∷ es) h =
    let both = or_none (is_in a c e) (list_any (is_in a c) es) h in
    omega (arith, sum_by-cons (counts a c) e es, counts_none a c e both.0, no_count a c es both.1)

-- who is counted for an agent in a column has a chip there
pub any_in_column : (a : Name) (c : Column) (chips : List Chip) → 1 ≤ sum_by (counted a c) chips → list_any (in_column a c) chips ≡ true
any_in_column a c chips h = any_of_sum (in_column a c) (counted a c) (λ chip e. no_count a c (columns chip) e) chips h

counts_one : (a : Name) (c : Column) (e : Name × Column) → is_in a c e ≡ true → 1 ≤ counts a c e
counts_one a c e h = go (nat_eq (number c) (number e.1)) (same_name a e.0) h
  where
    go : (s t : Bool) → (s && t) ≡ true → 1 ≤ weight s t
    go true true h = omega arith
    go true false h = absurd cc
    go false true h = absurd cc
    go false false h = absurd cc

pub sum_in_column : (a : Name) (c : Column) (chips : List Chip) → list_any (in_column a c) chips ≡ true → 1 ≤ sum_by (counted a c) chips
sum_in_column a c chips h = sum_of_any (in_column a c) (counted a c) (λ chip e. sum_of_any (is_in a c) (counts a c) (counts_one a c) (columns chip) e) chips h

-- ---- in tables

module _ {A B : Type 0} (f : A → List B) (p : B → Bool) where
  any_flat : (xs : List A) → list_any p (flat_map f xs) ≡ true → list_any (λ x. list_any p (f x)) xs ≡ true
  any_flat [] h = absurd cc
  any_flat (x ∷ xs) h = elim (any_first p (f x) (flat_map f xs) h) [ inl a ↦ ap (λ t. t || list_any (λ x. list_any p (f x)) xs) a | inr b ↦ or_second _ _ (any_flat xs b) ]

first_part : (a b : Bool) → T (a && b) → T a
first_part true b h = tt
first_part false b h = absurd h

last_part : (a b : Bool) → T (a && b) → T b
last_part true b h = h
last_part false b h = absurd h

module _ {X : Type 0} where
  none_below : (q : Name) (es : List (Name × X)) → T (below_all name_cmp q es) → find name_cmp q es ≡ None
  none_below q [] h = refl
  none_below q (e ∷ es) h = go (name_cmp q e.0) h (none_below q es)
    where
      go : (o : Ordering) → T (is_lt o && below_all name_cmp q es) → (T (below_all name_cmp q es) → find name_cmp q es ≡ None) → cond (is_eq o) (Some e.1) (find name_cmp q es) ≡ None
      go Less t rest = rest t
      go Equal t rest = absurd t
      go Greater t rest = absurd t

  -- an entry that passes is found by its name
  any_found : (p : X → Bool) (es : List (Name × X)) → T (is_sorted name_cmp es) → list_any (λ e. p e.1) es ≡ true → (k : Name) × (x : X) × (find name_cmp k es ≡ Some x) × (p x ≡ true)
  any_found p [] s h = absurd cc
  any_found p (e ∷ es) s h = elim (or_cases (p e.1) (list_any (λ e. p e.1) es) h) [
    | inl a ↦ (e.0, e.1, ap (λ t. cond t (Some e.1) (find name_cmp e.0 es)) (same_name-itself e.0), a)
    | inr b ↦ (let r = any_found p es (last_part _ _ s) b in (r.0, r.1, later r.0 r.1 r.2 (same_name r.0 e.0) refl, r.3))
  ]
    where
      later : (k : Name) (x : X) → find name_cmp k es ≡ Some x → (t : Bool) → same_name k e.0 ≡ t → cond t (Some e.1) (find name_cmp k es) ≡ Some x
      later k x g false i = g
      later k x g true i =
          absurd (let none : find name_cmp k es ≡ None = subst (λ (q : Name). find name_cmp q es ≡ None) (sym (same_name-is k e.0 i)) (none_below e.0 es (first_part _ _ s)) in let bad : None ≡ Some x = sym none ∙ g in cc)

  pub any_there : (p : X → Bool) (m : NameMap X) → list_any (λ (e : Name × X). p e.1) (map.entries m) ≡ true → (k : Name) × (x : X) × (map.get m k ≡ Some x) × (p x ≡ true)
  any_there p m h = let r = any_found p (map.entries m) (entries_sorted m) h in (r.0, r.1, get-entries m r.0 ∙ r.2, r.3)

-- what of a table passes is shown under a name
pub any_shown : {X Y : Type 0} (show : X → List Y) (p : Y → Bool) (m : NameMap X) → list_any p (flat_map (λ (e : Name × X). show e.1) (map.entries m)) ≡ true
    → (k : Name) × (x : X) × (map.get m k ≡ Some x) × (list_any p (show x) ≡ true)
any_shown show p m h = any_there (λ x. list_any p (show x)) m (any_flat (λ e. show e.1) p (map.entries m) h)
