-- Maps of names with each value changed.
use Rattle.std.proofs.Common.{◌≡◌, Bool, true, false, cond, List, [], ◌∷◌, Option, None, Some, refl, sym, ap, ◌∙◌, map}
use Rattle.std.specs.Option.{option_map}
use Rattle.std.specs.FinMap as table
use Rattle.std.specs.FinMap.{find, get-from_entries, get-entries}
use Rattle.np_syntax.specs.declared.value.Name.{Name}
use Rattle.np_tables.specs.Names.{NameMap, name_cmp, same_name}
use Rattle.np_tables.specs.Mapped.{mapped}
use Rattle.np_tables.proofs.Tables.{total, same_tables, get-none, get-put, get-cut}

module _ {X Y : Type 0} (f : X → Y) where
  pick : (t : Bool) (x : X) (o : Option X) → cond t (Some (f x)) (option_map f o) ≡ option_map f (cond t (Some x) o)
  pick true x o = refl
  pick false x o = refl

  find-map : (es : List (Name × X)) (q : Name) → find name_cmp q (map (λ e. (e.0, f e.1)) es) ≡ option_map f (find name_cmp q es)
  find-map [] q = refl
  find-map (e ∷ es) q = ap (cond (same_name q e.0) (Some (f e.1))) (find-map es q) ∙ pick (same_name q e.0) e.1 _

  pub get-mapped : (m : NameMap X) (q : Name) → table.get (mapped f m) q ≡ option_map f (table.get m q)
  unfolding mapped
  get-mapped m q = get-from_entries total _ q ∙ find-map (table.entries m) q ∙ ap (option_map f) (sym (get-entries m q))

  pub mapped_there : (m : NameMap X) (q : Name) (x : X) → table.get m q ≡ Some x → table.get (mapped f m) q ≡ Some (f x)
  mapped_there m q x e = get-mapped m q ∙ ap (option_map f) e

  pub mapped-empty : mapped f table.empty ≡ table.empty
  mapped-empty = same_tables _ _ λ q. get-mapped table.empty q ∙ ap (option_map f) (get-none q) ∙ sym (get-none q)

  cut : (t : Bool) (o : Option X) → option_map f (cond t None o) ≡ cond t None (option_map f o)
  cut true o = refl
  cut false o = refl

  pub mapped-put : (m : NameMap X) (k : Name) (v : X) → mapped f (table.insert m k v) ≡ table.insert (mapped f m) k (f v)
  mapped-put m k v = same_tables _ _ λ q.
      get-mapped (table.insert m k v) q ∙ ap (option_map f) (get-put m k v q) ∙ sym (pick (same_name q k) v _) ∙ ap (cond (same_name q k) (Some (f v))) (sym (get-mapped m q)) ∙ sym (get-put (mapped f m) k (f v) q)

  pub mapped-cut : (m : NameMap X) (k : Name) → mapped f (table.remove m k) ≡ table.remove (mapped f m) k
  mapped-cut m k = same_tables _ _ λ q.
      get-mapped (table.remove m k) q ∙ ap (option_map f) (get-cut m k q) ∙ cut (same_name q k) _ ∙ ap (cond (same_name q k) None) (sym (get-mapped m q)) ∙ sym (get-cut (mapped f m) k q)
