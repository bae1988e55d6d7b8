-- What is written under a mark at both levels, a new mark or an old one.
use Rattle.std.proofs.Common.{◌≡◌, Bool, true, false, cond, Option, None, Some, refl, sym, ap, ◌∙◌}
use Rattle.std.specs.FinMap as map
use Rattle.np_syntax.specs.declared.value.Name.{Name}
use Rattle.np_tables.specs.Names.{NameMap, same_name}
use Rattle.np_tables.proofs.Tables.{cut_absent, get-cut, get-put, same_name-is, same_name-itself}
use Rattle.np_calculus.specs.Changes.{rewritten}
use Rattle.simulate_laws.specs.levels.Mirrors.{Mirrors}
use Rattle.simulate_laws.proofs.levels.Values.{no_value}

module _ {X : Type 0} where
  pub get-rewritten : (t : NameMap X) (m : Name) (o : Option X) (q : Name) → map.get (rewritten t m o) q ≡ cond (same_name q m) o (map.get t q)
  get-rewritten t m (Some x) q = get-put t m x q
  get-rewritten t m None q = get-cut t m q

  pub rewritten_here : (t : NameMap X) (m : Name) (o : Option X) → map.get (rewritten t m o) m ≡ o
  rewritten_here t m o = get-rewritten t m o m ∙ ap (λ s. cond s o (map.get t m)) (same_name-itself m)

  pub rewritten_there : (t : NameMap X) (m : Name) (o : Option X) (q : Name) → same_name q m ≡ false → map.get (rewritten t m o) q ≡ map.get t q
  rewritten_there t m o q f = get-rewritten t m o q ∙ ap (λ s. cond s o (map.get t q)) f

  -- nothing changes where nothing is cut
  pub uncut : (t : NameMap X) (m : Name) → map.get t m ≡ None → t ≡ rewritten t m None
  uncut t m h = sym (cut_absent t m h)

module _ {X : Type 0} (st : Name → Name) where
  -- the only one that has something of those that stand for the same
  abbrev pub IsOnly : (Name → Option X) → Name → Type 0
  IsOnly low m = (q : Name) (y : X) → low q ≡ Some y → st q ≡ st m → q ≡ m

  -- the high level has the same under the mark for which one stands
  pub mirror_at : (low high : Name → Option X) (m : Name) → Mirrors st low high → IsOnly low m → high (st m) ≡ low m
  mirror_at low high m mirrors only = go (low m) (high (st m)) refl refl
    where
      go : (o p : Option X) → low m ≡ o → high (st m) ≡ p → high (st m) ≡ low m
      go (Some x) p l h = mirrors.up m x l ∙ sym l
      go None None l h = h ∙ sym l
      go None (Some y) l h = absurd (let d = mirrors.down (st m) y h in no_value (sym (ap low (only d.0 y d.2 d.1) ∙ l) ∙ d.2))

  -- the same is written at both levels
  pub mirrors_write : (low high low' high' : Name → Option X) (m : Name) (o : Option X) → Mirrors st low high
      → ((q : Name) → low' q ≡ cond (same_name q m) o (low q))
      → ((k : Name) → high' k ≡ cond (same_name k (st m)) o (high k)) → IsOnly low m → Mirrors st low' high'
  mirrors_write low high low' high' m o mirrors l h only =
      record { up = λ q y j. up q y (same_name q m) refl (sym (l q) ∙ j); down = λ k y j. down k y (same_name k (st m)) refl (sym (h k) ∙ j) }
    where
      other : (q : Name) (y : X) → low q ≡ Some y → same_name q m ≡ false → same_name (st q) (st m) ≡ false
      other q y j e = go (same_name (st q) (st m)) refl
        where
          go : (t : Bool) → same_name (st q) (st m) ≡ t → t ≡ false
          go false f = refl
          go true f = absurd (let same : q ≡ m = only q y j (same_name-is (st q) (st m) f) in
              let bad : false ≡ true = sym e ∙ ap (λ z. same_name z m) same ∙ same_name-itself m in cc)

      up : (q : Name) (y : X) (t : Bool) → same_name q m ≡ t → cond t o (low q) ≡ Some y → high' (st q) ≡ Some y
      up q y true e j = h (st q) ∙ ap (λ t. cond t o (high (st q))) (ap (λ z. same_name (st z) (st m)) (same_name-is q m e) ∙ same_name-itself (st m)) ∙ j
      up q y false e j = h (st q) ∙ ap (λ t. cond t o (high (st q))) (other q y j e) ∙ mirrors.up q y j

      down : (k : Name) (y : X) (t : Bool) → same_name k (st m) ≡ t → cond t o (high k) ≡ Some y → (q : Name) × (st q ≡ k) × (low' q ≡ Some y)
      down k y true e j = (m, sym (same_name-is k (st m) e), l m ∙ ap (λ t. cond t o (low m)) (same_name-itself m) ∙ j)
      down k y false e j =
          let d = mirrors.down k y j in
          (d.0, d.1, l d.0 ∙ ap (λ t. cond t o (low d.0)) (apart d.0 d.1 (same_name d.0 m) refl) ∙ d.2)
        where
          apart : (q : Name) → st q ≡ k → (t : Bool) → same_name q m ≡ t → t ≡ false
          apart q at false f = refl
          apart q at true f = absurd (let bad : false ≡ true =
              sym e ∙ ap (λ z. same_name z (st m)) (sym at ∙ ap st (same_name-is q m f)) ∙ same_name-itself (st m) in cc)
