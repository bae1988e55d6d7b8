-- A walk through the keys of a table, by their index.
use Rattle.std.proofs.Common.{◌≡◌, ◌<◌, ◌+◌, ◌⊎◌, inl, inr, ℕ, List, length, Some, arith, sym, subst, ◌∙◌}
use Rattle.std.specs.Prelude.{slice_index_or}
use Rattle.std.proofs.lemmas.List.{get_or_default}
use Rattle.std.specs.FinMap as map
use Rattle.np_syntax.specs.declared.value.Name.{Name}
use Rattle.np_tables.specs.Names.{NameMap}
use Rattle.np_tables.specs.Stored.{Covers}

-- the fact holds of each key before an index
abbrev pub Before : (Name → Type 0) → List Name → ℕ → Type 0
Before P ks i = (k : ℕ) (d : Name) → k < i → P (slice_index_or ks k d)

less_or_same : (k i : ℕ) → k < i + 1 → (k < i) ⊎ (k ≡ i)
less_or_same k i h = grind (arith, h)

-- and of the key at the index
pub one-more : (P : Name → Type 0) (ks : List Name) (i : ℕ) (r : Name) → i < length ks → r ≡ slice_index_or ks i r → P r → Before P ks i → Before P ks (i + 1)
one-more P ks i r within is p before k d h =
    elim (less_or_same k i h) [
      | inl less ↦ before k d less
      | inr same ↦ subst (λ j. P (slice_index_or ks j d)) (sym same) (subst P (is ∙ get_or_default ks i r d within) p)
    ]

-- a walk to the end has met each name of the map
pub everywhere : {X : Type 0} (P : Name → Type 0) (m : NameMap X) (ks : List Name) → Covers m ks → Before P ks (length ks) → (q : Name) (x : X) → map.get m q ≡ Some x → P q
everywhere P m ks covers before q x e = let s = covers q x e in subst P (s.is q) (before s.index q s.within)
