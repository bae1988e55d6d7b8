-- A map of names that is stored as entries in some order, whose keys a derived comparison tells apart.
use Rattle.std.proofs.Common.{◌≡◌, suc, Bool, true, false, cond, ◌&&◌, nat_eq, List, [], ◌∷◌, length, Option, None, Some, IsSome, refl, sym, ap, subst, ◌∙◌, arith}
use Rattle.std.proofs.lemmas.Option.{none-some}
use Rattle.std.specs.Map.{lookup, keys_of}
use Rattle.std.specs.FinMap as map
use Rattle.std.specs.FinMap.{get-from_entries, find}
use Rattle.np_syntax.specs.declared.value.Name.{Name}
use Rattle.np_syntax.proofs.Options.{none_there}
use Rattle.np_tables.specs.Names.{name_cmp, same_name}
use Rattle.np_tables.specs.Stored.{map_of, Stands}
use Rattle.np_tables.proofs.Tables.{total, same_name-is, same_name-itself, same_name-swap, same_tables, get-none, get-put, get-cut, put_here}

-- how the derived comparison of names answers
abbrev pub alike : Name → Name → Bool
alike a b = nat_eq a.site b.site && nat_eq a.n b.n

both_true : (s t : Bool) → (s ≡ true → t ≡ true) → (t ≡ true → s ≡ true) → s ≡ t
both_true true t f g = sym (f refl)
both_true false true f g = g refl
both_true false false f g = refl

alike-is : (a b : Name) → alike a b ≡ true → a ≡ b
alike-is a b e =
    let s : a.site ≡ b.site = grind (arith, e) in
    let n : a.n ≡ b.n = grind (arith, e) in
    λ i. record { site = s i; n = n i }

alike-itself : (a : Name) → alike a a ≡ true
alike-itself a = grind arith

-- the derived comparison answers as the order of names does
pub alike-same : (a b : Name) → alike a b ≡ same_name a b
alike-same a b = both_true _ _ (λ e. subst (λ x. same_name a x ≡ true) (alike-is a b e) (same_name-itself a)) (λ e. subst (λ x. alike a x ≡ true) (same_name-is a b e) (alike-itself a))

module _ {X : Type 0} where
  -- the value of the first entry with the name
  abbrev pub found : List (Name × X) → Name → Option X
  found es q = lookup (alike q) es

  find-found : (es : List (Name × X)) (q : Name) → find name_cmp q es ≡ found es q
  find-found [] q = refl
  find-found (e ∷ es) q = rw (alike-same q e.0) (ap (cond (same_name q e.0) (Some e.1)) (find-found es q))

  pub get-found : (es : List (Name × X)) (q : Name) → map.get (map_of es) q ≡ found es q
  get-found es q = get-from_entries total es q ∙ find-found es q

  pub put_found : (es fs : List (Name × X)) (k : Name) (v : X) → ((q : Name) → found fs q ≡ cond (alike k q) (Some v) (found es q)) → map_of fs ≡ map.insert (map_of es) k v
  put_found es fs k v h = same_tables _ _ λ q. rw (get-found fs q, get-put (map_of es) k v q, get-found es q, h q, alike-same k q, same_name-swap k q) refl

  pub cut_found : (es fs : List (Name × X)) (k : Name) → ((q : Name) → found fs q ≡ cond (alike k q) None (found es q)) → map_of fs ≡ map.remove (map_of es) k
  cut_found es fs k h = same_tables _ _ λ q. rw (get-found fs q, get-cut (map_of es) k q, get-found es q, h q, alike-same k q, same_name-swap k q) refl

  -- a write through what was lent at a name that is there
  pub write_found : (es fs : List (Name × X)) (k : Name) (v x : X) → Some x ≡ found es k → (IsSome (found es k) → (q : Name) → found fs q ≡ cond (alike k q) (Some v) (found es q)) → map_of fs ≡ map.insert (map_of es) k v
  write_found es fs k v x e h = put_found es fs k v (h (subst IsSome e refl))

  -- a name that is found stands among the keys
  pub stands : (es : List (Name × X)) (q : Name) (x : X) → found es q ≡ Some x → Stands (keys_of es) q
  stands [] q x h = absurd (none-some _ h)
  stands (e ∷ es) q x h = first (alike q e.0) refl h (stands es q x)
    where
      first : (t : Bool) → alike q e.0 ≡ t → cond t (Some e.1) (found es q) ≡ Some x → (found es q ≡ Some x → Stands (keys_of es) q) → Stands (e.0 ∷ keys_of es) q
      first true a h f = record { index = 0; within = omega arith; is = λ d. sym (alike-is q e.0 a) }
      first false a h f = let s = f h in record { index = suc s.index; within = omega (arith, s.within); is = s.is }

  -- no entries, no map
  pub empty_of_none : (es : List (Name × X)) → length es ≡ 0 → map_of es ≡ map.empty
  empty_of_none [] e = refl
  empty_of_none (x ∷ es) e = absurd (omega arith)

  pub none_of_empty : (es : List (Name × X)) → map_of es ≡ map.empty → length es ≡ 0
  none_of_empty [] e = refl
  none_of_empty (x ∷ es) e = absurd (none-some _ (sym (get-none x.0) ∙ sym (ap (λ m. map.get m x.0) e) ∙ put_here (map_of es) x.0 x.1))

-- a name that is there is found
pub found_there : {X : Type 0} (es : List (Name × X)) (q : Name) → IsSome (map.get (map_of es) q) → found es q ≡ None → ⊥
found_there es q h e = none_there _ h (get-found es q ∙ e)
