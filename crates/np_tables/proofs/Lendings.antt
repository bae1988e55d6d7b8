-- What a table ends as, where one of its values was lent.
use Rattle.std.proofs.Common.{◌≡◌, ℕ, ◌<◌, List, length, Option, None, Some, refl, sym, ap, subst, ◌∙◌}
use Rattle.std.specs.Prelude.{IfSome, position, slice_get}
use Rattle.std.specs.FinMap as map
use Rattle.std.specs.Cmp.{IsEquivalence, eq_by_cmp_equiv}
use Rattle.std.specs.Map.{keys_of, values_of}
use Rattle.std_collections.proofs.HashLookup.{first-lt, Updated-set}
use Rattle.indexmap.specs.IndexMap.{set_value_at}
use Rattle.indexmap.proofs.MapLemmas.{Found-position}
use Rattle.np_tables.proofs.Keyed.{alike, alike-same, get-found, put_found}
use Rattle.np_tables.proofs.Tables.{total}
use Rattle.np_tables.specs.Lent.{IsPlace}
use Rattle.std.specs.Borrow.{MutBor}
use Rattle.std.specs.Option.{ghost_name_of}
use Rattle.np_tables.specs.Names.{NameMap}
use Rattle.np_syntax.specs.declared.value.Name.{Name}
use Rattle.np_tables.specs.Stored.{Stored, map_of}
use borrow.Follows.Closed.{read_of}

-- two ways to say what a lender ends as are one where they agree on each value that was lent, and where none was
pub same_lent : {D W : Type 0} (r : Option (MutBor W)) (F G : W → D) (v u : D) → ((x : MutBor W) → r ≡ Some x → (w : W) → F w ≡ G w) → v ≡ u
    → read_of (ghost_name_of r) F v ≡ read_of (ghost_name_of r) G u
same_lent {D} {W} None F G v u f e = ap (read_of (ghost_name_of {A = W} None) G) e
same_lent (Some x) F G v u f e = λ i. read_of (ghost_name_of (Some x)) (λ w. f x refl w i) (e i)

abbrev pub stored : {X : Type 0} → NameMap X → ℕ → List Name → Stored X
stored m a ks = record { items = m; spare = a; keys = ks }

pub same_stored : {X : Type 0} (m n : NameMap X) (a b : ℕ) (ks js : List Name) → m ≡ n → a ≡ b → ks ≡ js → stored m a ks ≡ stored n b js
same_stored m n a b ks js e f g = λ i. stored (e i) (f i) (g i)

-- the derived comparison of names is an equivalence
pub alike_laws : IsEquivalence alike
alike_laws = subst IsEquivalence (λ i a b. sym (alike-same a b) i) (eq_by_cmp_equiv total)

module _ {X : Type 0} (es : List (Name × X)) (k : Name) (i : ℕ) (place : IsPlace (keys_of es) k i) where
  pub place_within : i < length es
  place_within = first-lt (alike k) es i (Found-position (alike k) es i place).first

  -- a write at the place of a name
  pub set_at : (w : X) → map_of (set_value_at es i w) ≡ map.insert (map_of es) k w
  set_at w = put_found es (set_value_at es i w) k w (Updated-set alike alike_laws (alike k) (alike_laws.congr k) es i w (Found-position (alike k) es i place).first).0

  pub value_at : (w : X) → slice_get (values_of es) i ≡ Some w → Some w ≡ map.get (map_of es) k
  value_at w e = sym (get-found es k ∙ (Found-position (alike k) es i place).value ∙ e)

-- where a name is found there is its place
pub place_found : (names : List Name) (k : Name) (o : Option ℕ) → o ≡ position (alike k) names → IfSome o (IsPlace names k)
place_found names k None e = tt
place_found names k (Some i) e = sym e
