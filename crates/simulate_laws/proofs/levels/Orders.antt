-- Lists of entries in another order: what the things under the marks show does not depend on it.
use Rattle.std.proofs.Common.{◌≡◌, cond, None, Some, List, [], ◌∷◌, refl, sym, ap, subst, ◌∙◌}
use Rattle.std.specs.List.{flat_map}
use Rattle.std.specs.List.Sorted.{IsPermutation}
use Rattle.std.proofs.lemmas.List.Sorted.{IsPermutation-refl, IsPermutation-cons, IsPermutation-middle, IsPermutation-trans}
use Rattle.std.specs.Ordering.{is_eq}
use Rattle.std.specs.declared.cmp.Ordering.{Ordering}
use Rattle.std.specs.declared.cmp.Ordering.TheVariants.{Less, Equal, Greater}
use Rattle.std.specs.FinMap as map
use Rattle.std.specs.FinMap.{entries-insert, find, get-entries, put}
use Rattle.std.specs.FinMap.Entries.{by_order}
use Rattle.np_syntax.specs.declared.value.Name.{Name}
use Rattle.np_syntax.specs.Reordering.{Reordered}
use Rattle.np_syntax.proofs.Reorderings.{reorder-before, reorder-front}
use Rattle.np_tables.specs.Names.{NameMap, name_cmp}
use Rattle.np_tables.proofs.Tables.{total, cut_here, put-cut, put-same}

module _ {A : Type 0} where
  pub permuted : {xs ys : List A} → Reordered xs ys → IsPermutation xs ys
  permuted (Reordered.kept {xs = xs}) = IsPermutation-refl xs
  permuted (Reordered.behind {x = x} {xs = xs} {ys = ys} r) = IsPermutation-cons x xs ys (permuted r)
  permuted (Reordered.swapped {x = x} {y = y} {xs = xs}) = IsPermutation-middle (x ∷ []) y xs
  permuted (Reordered.and_then {xs = xs} {ys = ys} {zs = zs} r s) = IsPermutation-trans xs ys zs (permuted r) (permuted s)

pub flat : {A B : Type 0} (f : A → List B) {xs ys : List A} → Reordered xs ys → Reordered (flat_map f xs) (flat_map f ys)
flat f Reordered.kept = Reordered.kept
flat f (Reordered.behind {x = x} r) = reorder-before (f x) (flat f r)
flat f (Reordered.swapped {x = x} {y = y} {xs = xs}) = reorder-front (f x) (f y) (flat_map f xs)
flat f (Reordered.and_then r s) = Reordered.and_then (flat f r) (flat f s)

module _ {X : Type 0} where
  -- an entry whose name is new
  put_new : (k : Name) (v : X) (es : List (Name × X)) → find name_cmp k es ≡ None → Reordered (put name_cmp k v es) ((k, v) ∷ es)
  put_new k v [] h = Reordered.kept
  put_new k v (e ∷ es) h = go (name_cmp k e.0) refl (put_new k v es)
    where
      go : (o : Ordering) → name_cmp k e.0 ≡ o → (find name_cmp k es ≡ None → Reordered (put name_cmp k v es) ((k, v) ∷ es)) → Reordered (by_order o ((k, v) ∷ e ∷ es) ((e.0, v) ∷ es) (e ∷ put name_cmp k v es)) ((k, v) ∷ e ∷ es)
      go Less i r = Reordered.kept
      go Equal i r = absurd (let some : Some e.1 ≡ None = ap (λ o. cond (is_eq o) (Some e.1) (find name_cmp k es)) (sym i) ∙ h in cc)
      go Greater i r = Reordered.and_then (Reordered.behind (r (ap (λ o. cond (is_eq o) (Some e.1) (find name_cmp k es)) (sym i) ∙ h))) Reordered.swapped

  pub entries_new : (m : NameMap X) (k : Name) (v : X) → map.get m k ≡ None → Reordered (map.entries (map.insert m k v)) ((k, v) ∷ map.entries m)
  entries_new m k v h = subst (λ es. Reordered es ((k, v) ∷ map.entries m)) (sym (entries-insert total m k v)) (put_new k v (map.entries m) (sym (get-entries m k) ∙ h))

  -- an entry that is there, and the others
  pub entries_at : (m : NameMap X) (k : Name) (v : X) → map.get m k ≡ Some v → Reordered (map.entries m) ((k, v) ∷ map.entries (map.remove m k))
  entries_at m k v h =
      subst (λ (t : NameMap X). Reordered (map.entries t) ((k, v) ∷ map.entries (map.remove m k))) (put-cut m k v ∙ put-same m k v h) (entries_new (map.remove m k) k v (cut_here m k))

  -- with another value
  pub entries_put : (m : NameMap X) (k : Name) (v : X) → Reordered (map.entries (map.insert m k v)) ((k, v) ∷ map.entries (map.remove m k))
  entries_put m k v = subst (λ (t : NameMap X). Reordered (map.entries t) ((k, v) ∷ map.entries (map.remove m k))) (put-cut m k v) (entries_new (map.remove m k) k v (cut_here m k))
