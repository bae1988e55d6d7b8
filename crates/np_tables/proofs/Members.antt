-- A set of names that is stored as a list in some order.
use Rattle.std.proofs.Common.{◌≡◌, Bool, true, false, cond, ◌||◌, ◌&&◌, not, List, [], ◌∷◌, length, slice_get, Option, None, Some, is_some, IsTrue, refl, sym, ap, subst, ◌∙◌, arith}
use Rattle.std.specs.List.{list_any}
use Rattle.std.specs.Map.{keys_of}
use Rattle.std.specs.FinSet as set
use Rattle.std.specs.FinSet.{contains-from_list}
use Rattle.np_syntax.specs.declared.value.Name.{Name}
use Rattle.np_tables.specs.Names.{same_name}
use Rattle.np_tables.specs.Stored.{set_of}
use Rattle.np_tables.proofs.Tables.{total, same_name-swap, same_names, contains-none, born_insert, born_remove, born_here}
use Rattle.np_tables.proofs.Keyed.{alike, alike-same, found}

-- whether the name is in the list
abbrev pub listed : List Name → Name → Bool
listed ks q = list_any (alike q) ks

any-listed : (ks : List Name) (q : Name) → list_any (same_name q) ks ≡ listed ks q
any-listed [] q = refl
any-listed (k ∷ ks) q = rw (alike-same q k) (ap (λ b. same_name q k || b) (any-listed ks q))

pub contains-listed : (ks : List Name) (q : Name) → set.contains (set_of ks) q ≡ listed ks q
contains-listed ks q = contains-from_list total ks q ∙ any-listed ks q

or_cond : (t b : Bool) → cond t true b ≡ (t || b)
or_cond true b = refl
or_cond false b = refl

and_cond : (t b : Bool) → cond t false b ≡ (not t && b)
and_cond true b = refl
and_cond false b = refl

pub put_listed : (ks js : List Name) (k : Name) → ((q : Name) → listed js q ≡ cond (alike k q) true (listed ks q)) → set_of js ≡ set.insert (set_of ks) k
put_listed ks js k h = same_names _ _ λ q.
    rw (contains-listed js q, born_insert (set_of ks) k q, contains-listed ks q, h q, alike-same k q, same_name-swap k q) (or_cond (same_name q k) (listed ks q))

pub cut_listed : (ks js : List Name) (k : Name) → ((q : Name) → listed js q ≡ cond (alike k q) false (listed ks q)) → set_of js ≡ set.remove (set_of ks) k
cut_listed ks js k h = same_names _ _ λ q.
    rw (contains-listed js q, born_remove (set_of ks) k q, contains-listed ks q, h q, alike-same k q, same_name-swap k q) (and_cond (same_name q k) (listed ks q))

true_false : true ≡ false → ⊥
true_false e = cc

module _ {V : Type 0} where
  -- a name is in the list of keys where it has an entry
  pub listed-found : (es : List (Name × V)) (q : Name) → listed (keys_of es) q ≡ is_some (found es q)
  listed-found [] q = refl
  listed-found (e ∷ es) q = ap (λ b. alike q e.0 || b) (listed-found es q) ∙ either (alike q e.0) (found es q)
    where
      either : (t : Bool) (o : Option V) → (t || is_some o) ≡ is_some (cond t (Some e.1) o)
      either true o = refl
      either false o = refl

  pub put_keys : (es fs : List (Name × V)) (k : Name) (v : V) → ((q : Name) → found fs q ≡ cond (alike k q) (Some v) (found es q))
      → set_of (keys_of fs) ≡ set.insert (set_of (keys_of es)) k
  put_keys es fs k v h = put_listed (keys_of es) (keys_of fs) k λ q.
      listed-found fs q ∙ ap is_some (h q) ∙ either (alike k q) (found es q) ∙ ap (cond (alike k q) true) (sym (listed-found es q))
    where
      either : (t : Bool) (o : Option V) → is_some (cond t (Some v) o) ≡ cond t true (is_some o)
      either true o = refl
      either false o = refl

  pub cut_keys : (es fs : List (Name × V)) (k : Name) → ((q : Name) → found fs q ≡ cond (alike k q) None (found es q))
      → set_of (keys_of fs) ≡ set.remove (set_of (keys_of es)) k
  cut_keys es fs k h = cut_listed (keys_of es) (keys_of fs) k λ q.
      listed-found fs q ∙ ap is_some (h q) ∙ either (alike k q) (found es q) ∙ ap (cond (alike k q) false) (sym (listed-found es q))
    where
      either : (t : Bool) (o : Option V) → is_some (cond t None o) ≡ cond t false (is_some o)
      either true o = refl
      either false o = refl

  -- the first of the keys is a member
  pub first_there : (es : List (Name × V)) (q : Name) (v : V) → Some (q, v) ≡ slice_get es 0 → IsTrue (set.contains (set_of (keys_of es)) q)
  first_there [] q v e = absurd cc
  first_there (k ∷ es) q v e = let is : k.0 ≡ q = cc in subst (λ p. IsTrue (set.contains (set_of (keys_of (k ∷ es))) p)) is (born_here (set_of (keys_of es)) k.0)

  -- no entries, no set
  pub empty_of_none : (es : List (Name × V)) → length es ≡ 0 → set_of (keys_of es) ≡ set.empty
  empty_of_none [] e = refl
  empty_of_none (k ∷ es) e = absurd (omega arith)

  pub none_of_empty : (es : List (Name × V)) → set_of (keys_of es) ≡ set.empty → length es ≡ 0
  none_of_empty [] e = refl
  none_of_empty (k ∷ es) e = absurd (true_false (sym (born_here (set_of (keys_of es)) k.0) ∙ ap (λ s. set.contains s k.0) e ∙ contains-none k.0))
