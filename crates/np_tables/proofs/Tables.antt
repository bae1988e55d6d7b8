-- Laws of finite maps and sets of names, by equations of names.
use Rattle.std.proofs.Common.{◌≡◌, Bool, true, false, not, cond, ◌||◌, ◌&&◌, ◌⊎◌, inl, inr, Option, None, Some, IsSome, refl, sym, ap, ◌∙◌}
use Rattle.std.specs.Ordering.{nat_cmp, ordering_then, is_eq}
use Rattle.std.specs.declared.cmp.Ordering.{Ordering}
use Rattle.std.specs.declared.cmp.Ordering.TheVariants.{Less, Equal, Greater}
use Rattle.std.specs.Cmp.{IsTotalOrder, nat_cmp_total, tied_itself, eq_by_cmp_equiv}
use Rattle.std.proofs.lemmas.Cmp.{then_total, on_total}
use Rattle.std.specs.FinMap as map
use Rattle.std.specs.FinMap.{IsAntisymmetric, nat_cmp-IsAntisymmetric, get-empty, get-insert, get-remove, same_map}
use Rattle.std.specs.FinSet as set
use Rattle.std.specs.FinSet.{contains-empty, contains-insert, contains-remove, same_set}
use Rattle.np_syntax.specs.declared.value.Name.{Name}
use Rattle.np_tables.specs.Names.{NameMap, NameSet, name_cmp, same_name}

-- names are in one order
pub total : IsTotalOrder name_cmp
total = then_total (on_total (λ a. a.site) nat_cmp_total) (on_total (λ a. a.n) nat_cmp_total)

both_equal : (r s : Ordering) → ordering_then r s ≡ Equal → (r ≡ Equal) × (s ≡ Equal)
both_equal Less s e = absurd cc
both_equal Equal s e = (refl, e)
both_equal Greater s e = absurd cc

-- names that tie are one name
pub exact : IsAntisymmetric name_cmp
exact a b e =
    let both = both_equal (nat_cmp a.site b.site) (nat_cmp a.n b.n) e in
    let s = nat_cmp-IsAntisymmetric a.site b.site both.0 in
    let n = nat_cmp-IsAntisymmetric a.n b.n both.1 in
    λ i. record { site = s i; n = n i }

pub is_equal : (r : Ordering) → is_eq r ≡ true → r ≡ Equal
is_equal Less e = absurd cc
is_equal Equal e = refl
is_equal Greater e = absurd cc

pub same_name-is : (a b : Name) → same_name a b ≡ true → a ≡ b
same_name-is a b e = exact a b (is_equal (name_cmp a b) e)

pub same_name-itself : (a : Name) → same_name a a ≡ true
same_name-itself a = ap is_eq (tied_itself total a)

pub same_name-swap : (a b : Name) → same_name a b ≡ same_name b a
same_name-swap a b = (eq_by_cmp_equiv total).symm a b

-- no name is two names
pub both_names : (j k q : Name) → same_name j k ≡ false → same_name q j ≡ true → same_name q k ≡ true → ⊥
both_names j k q apart s t = let e : j ≡ k = sym (same_name-is q j s) ∙ same_name-is q k t in let h = same_name-itself j in cc (ap (same_name j) e)

module _ {X : Type 0} where
  pub get-none : (q : Name) → map.get (map.empty {X = X} {R = name_cmp}) q ≡ None
  get-none q = get-empty name_cmp q

  pub get-put : (m : NameMap X) (k : Name) (v : X) (q : Name) → map.get (map.insert m k v) q ≡ cond (same_name q k) (Some v) (map.get m q)
  get-put = get-insert total

  pub get-cut : (m : NameMap X) (k q : Name) → map.get (map.remove m k) q ≡ cond (same_name q k) None (map.get m q)
  get-cut = get-remove total

  pub put_here : (m : NameMap X) (k : Name) (v : X) → map.get (map.insert m k v) k ≡ Some v
  put_here m k v = rw (get-put m k v k, same_name-itself k) refl

  pub put_there : (m : NameMap X) (k : Name) (v : X) → IsSome (map.get (map.insert m k v) k)
  put_there m k v = rw (put_here m k v) refl

  pub cut_here : (m : NameMap X) (k : Name) → map.get (map.remove m k) k ≡ None
  cut_here m k = rw (get-cut m k k, same_name-itself k) refl

  put_entry : (t : Bool) (q k : Name) (v x : X) (o : Option X) → same_name q k ≡ t → cond t (Some v) o ≡ Some x → ((q ≡ k) × (x ≡ v)) ⊎ (o ≡ Some x)
  put_entry true q k v x o h e = inl (same_name-is q k h, cc)
  put_entry false q k v x o h e = inr e

  -- an entry of a map with a new pair is that pair or an entry from before
  pub put_cases : (m : NameMap X) (k : Name) (v : X) (q : Name) (x : X) → map.get (map.insert m k v) q ≡ Some x → ((q ≡ k) × (x ≡ v)) ⊎ (map.get m q ≡ Some x)
  put_cases m k v q x e = put_entry (same_name q k) q k v x _ refl (sym (get-put m k v q) ∙ e)

  cut_entry : (t : Bool) (x : X) (o : Option X) → cond t None o ≡ Some x → (t ≡ false) × (o ≡ Some x)
  cut_entry true x o e = absurd cc
  cut_entry false x o e = (refl, e)

  -- an entry of a map without a name is an entry from before, under another name
  pub cut_cases : (m : NameMap X) (k q : Name) (x : X) → map.get (map.remove m k) q ≡ Some x → (same_name q k ≡ false) × (map.get m q ≡ Some x)
  cut_cases m k q x e = cut_entry (same_name q k) x _ (sym (get-cut m k q) ∙ e)

  -- maps are equal where their look-ups are
  pub same_tables : (m n : NameMap X) → ((q : Name) → map.get m q ≡ map.get n q) → m ≡ n
  same_tables = same_map total exact

  kept_some : (t : Bool) (v : X) (o : Option X) → IsSome o → IsSome (cond t (Some v) o)
  kept_some true v o h = refl
  kept_some false v o h = h

  pub kept : (m : NameMap X) (k j : Name) (v : X) → IsSome (map.get m k) → IsSome (map.get (map.insert m j v) k)
  kept m k j v h = rw (get-put m j v k) (kept_some (same_name k j) v (map.get m k) h)

  last_put : (t : Bool) (a b : X) (o : Option X) → cond t (Some b) (cond t (Some a) o) ≡ cond t (Some b) o
  last_put true a b o = refl
  last_put false a b o = refl

  -- of two writes under one name the later one stands
  pub put-put : (m : NameMap X) (k : Name) (a b : X) → map.insert (map.insert m k a) k b ≡ map.insert m k b
  put-put m k a b = same_tables _ _ λ q. rw (get-put (map.insert m k a) k b q, get-put m k a q, get-put m k b q) (last_put (same_name q k) a b _)

  same_put : (t : Bool) (b : X) (o : Option X) → (t ≡ true → o ≡ Some b) → cond t (Some b) o ≡ o
  same_put true b o f = sym (f refl)
  same_put false b o f = refl

  -- a write of what stands there changes nothing
  pub put-same : (m : NameMap X) (k : Name) (b : X) → map.get m k ≡ Some b → map.insert m k b ≡ m
  put-same m k b e = same_tables _ _ λ q. get-put m k b q ∙ same_put (same_name q k) b _ (λ t. ap (map.get m) (same_name-is q k t) ∙ e)

  one_of_two : (s t : Bool) (a b : X) (o : Option X) → (s ≡ true → t ≡ true → ⊥) → cond t (Some b) (cond s (Some a) o) ≡ cond s (Some a) (cond t (Some b) o)
  one_of_two true true a b o apart = absurd (apart refl refl)
  one_of_two true false a b o apart = refl
  one_of_two false true a b o apart = refl
  one_of_two false false a b o apart = refl

  -- two writes under two names, in either order
  pub put-swap : (m : NameMap X) (j k : Name) (a b : X) → same_name j k ≡ false → map.insert (map.insert m j a) k b ≡ map.insert (map.insert m k b) j a
  put-swap m j k a b apart = same_tables _ _ λ q.
      rw (get-put (map.insert m j a) k b q, get-put m j a q, get-put (map.insert m k b) j a q, get-put m k b q) (one_of_two (same_name q j) (same_name q k) a b _ (both_names j k q apart))

  cut_last : (t : Bool) (a : X) (o : Option X) → cond t None (cond t (Some a) o) ≡ cond t None o
  cut_last true a o = refl
  cut_last false a o = refl

  -- a name that was just put is taken out with what stood there before
  pub cut-put : (m : NameMap X) (k : Name) (a : X) → map.remove (map.insert m k a) k ≡ map.remove m k
  cut-put m k a = same_tables _ _ λ q. rw (get-cut (map.insert m k a) k q, get-put m k a q, get-cut m k q) (cut_last (same_name q k) a _)

  cut_none : (t : Bool) (o : Option X) → (t ≡ true → o ≡ None) → cond t None o ≡ o
  cut_none true o f = sym (f refl)
  cut_none false o f = refl

  -- to take out a name that is not there changes nothing
  pub cut_absent : (m : NameMap X) (k : Name) → map.get m k ≡ None → map.remove m k ≡ m
  cut_absent m k e = same_tables _ _ λ q. get-cut m k q ∙ cut_none (same_name q k) _ (λ t. ap (map.get m) (same_name-is q k t) ∙ e)

  -- to take out a name that was just put where it was absent gives the map back
  pub cut-put_absent : (m : NameMap X) (k : Name) (a : X) → map.get m k ≡ None → map.remove (map.insert m k a) k ≡ m
  cut-put_absent m k a e = cut-put m k a ∙ cut_absent m k e

  put_last : (t : Bool) (b : X) (o : Option X) → cond t (Some b) (cond t None o) ≡ cond t (Some b) o
  put_last true b o = refl
  put_last false b o = refl

  -- a write under a name that was just taken out
  pub put-cut : (m : NameMap X) (k : Name) (b : X) → map.insert (map.remove m k) k b ≡ map.insert m k b
  put-cut m k b = same_tables _ _ λ q. rw (get-put (map.remove m k) k b q, get-cut m k q, get-put m k b q) (put_last (same_name q k) b _)

  put_after : (s t : Bool) (a b : X) (o : Option X) → cond t (Some b) (cond s (Some a) (cond t None o)) ≡ cond t (Some b) (cond s (Some a) o)
  put_after s true a b o = refl
  put_after true false a b o = refl
  put_after false false a b o = refl

  -- the same, with a write under another name in between
  pub put-put-cut : (m : NameMap X) (j k : Name) (a b : X) → map.insert (map.insert (map.remove m k) j a) k b ≡ map.insert (map.insert m j a) k b
  put-put-cut m j k a b = same_tables _ _ λ q.
      rw (get-put (map.insert (map.remove m k) j a) k b q, get-put (map.remove m k) j a q, get-cut m k q, get-put (map.insert m j a) k b q, get-put m j a q) (put_after (same_name q j) (same_name q k) a b _)

  cut_or_put : (s t : Bool) (a : X) (o : Option X) → (s ≡ true → t ≡ true → ⊥) → cond t None (cond s (Some a) o) ≡ cond s (Some a) (cond t None o)
  cut_or_put true true a o apart = absurd (apart refl refl)
  cut_or_put true false a o apart = refl
  cut_or_put false true a o apart = refl
  cut_or_put false false a o apart = refl

  -- a name taken out and a write under another, in either order
  pub cut-put_swap : (m : NameMap X) (j k : Name) (a : X) → same_name j k ≡ false → map.remove (map.insert m j a) k ≡ map.insert (map.remove m k) j a
  cut-put_swap m j k a apart = same_tables _ _ λ q.
      rw (get-cut (map.insert m j a) k q, get-put m j a q, get-put (map.remove m k) j a q, get-cut m k q) (cut_or_put (same_name q j) (same_name q k) a _ (both_names j k q apart))

pub contains-none : (q : Name) → set.contains (set.empty {R = name_cmp}) q ≡ false
contains-none q = contains-empty name_cmp q

pub born_insert : (s : NameSet) (k q : Name) → set.contains (set.insert s k) q ≡ (same_name q k || set.contains s q)
born_insert = contains-insert total

pub born_remove : (s : NameSet) (k q : Name) → set.contains (set.remove s k) q ≡ (not (same_name q k) && set.contains s q)
born_remove = contains-remove total

-- sets are equal where their members are
pub same_names : (s t : NameSet) → ((q : Name) → set.contains s q ≡ set.contains t q) → s ≡ t
same_names = same_set total exact

-- a name that was put is a member
pub born_here : (s : NameSet) (k : Name) → set.contains (set.insert s k) k ≡ true
born_here s k = rw (born_insert s k k, same_name-itself k) refl

or_same : (t b : Bool) → (t ≡ true → b ≡ true) → (t || b) ≡ b
or_same true b h = sym (h refl)
or_same false b h = refl

-- a member that is put again changes nothing
pub born_again : (s : NameSet) (k : Name) → set.contains s k ≡ true → set.insert s k ≡ s
born_again s k h = same_names _ _ λ q. rw (born_insert s k q) (or_same (same_name q k) (set.contains s q) λ t. rw (same_name-is q k t) h)

or_swap : (a b c : Bool) → (a || (b || c)) ≡ (b || (a || c))
or_swap true true c = refl
or_swap true false c = refl
or_swap false b c = refl

-- two names put, in either order
pub born_swap : (s : NameSet) (j k : Name) → set.insert (set.insert s j) k ≡ set.insert (set.insert s k) j
born_swap s j k = same_names _ _ λ q.
    rw (born_insert (set.insert s j) k q, born_insert s j q, born_insert (set.insert s k) j q, born_insert s k q) (or_swap (same_name q k) (same_name q j) _)

-- what was taken out and written again, and what was written twice
pub ruleset puts = (put-put, put-same, put-cut, put-put-cut)
