-- How the atoms of a configuration stay filed under their errands, and the marks of atoms and of packets born.
use Rattle.std.proofs.Common.{◌≡◌, Bool, true, false, ◌||◌, inl, inr, Option, None, Some, IsSome, option_map, refl, sym, subst}
use Rattle.std.specs.FinMap as map
use Rattle.std.specs.FinSet as set
use Rattle.np_syntax.proofs.Options.{there-is}
use Rattle.np_configuration.proofs.Common.{Name, Errand, NameMap, NameSet, same_name, get-none, get-mapped, Atom, Packet, IsKept, errand_of}
use Rattle.np_tables.proofs.Tables.{put_cases, cut_cases, born_insert, born_here}
use Rattle.np_tables.proofs.Mapped.{mapped-put, mapped-cut, mapped-empty}

pub is_some_of : {X : Type 0} (o : Option X) (x : X) → o ≡ Some x → IsSome o
is_some_of None x e = cc
is_some_of (Some y) x e = refl

pub none_some : {X : Type 0} (o : Option X) → o ≡ None → IsSome o → ⊥
none_some None e h = cc
none_some (Some a) e h = cc

module _ {work : NameMap Errand} {atoms : NameMap Atom} {packets : NameMap Packet} {born : NameSet} where
  pub kept-put : IsKept work atoms packets born → (m : Name) (a : Atom) → set.contains born m ≡ true
      → IsKept (map.insert work m (errand_of a)) (map.insert atoms m a) packets born
  kept-put k m a known = record {
    filed = rw (k.filed) (sym (mapped-put errand_of atoms m a));
    marked = λ q h. let e = there-is _ h in elim (put_cases atoms m a q e.0 e.1) [ inl same ↦ subst (λ n. set.contains born n ≡ true) (sym same.0) known | inr old ↦ k.marked q (is_some_of _ _ old) ];
    flown = k.flown;
  }

  pub kept-cut : IsKept work atoms packets born → (m : Name) → IsKept (map.remove work m) (map.remove atoms m) packets born
  kept-cut k m = record {
    filed = rw (k.filed) (sym (mapped-cut errand_of atoms m));
    marked = λ q h. let e = there-is _ h in k.marked q (is_some_of _ _ (cut_cases atoms m q e.0 e.1).1);
    flown = k.flown;
  }

  -- a packet leaves under a mark that is born
  pub kept-sent : IsKept work atoms packets born → (m : Name) (p : Packet) → set.contains born m ≡ true → IsKept work atoms (map.insert packets m p) born
  kept-sent k m p known = record {
    filed = k.filed;
    marked = k.marked;
    flown = λ q h. let e = there-is _ h in elim (put_cases packets m p q e.0 e.1) [ inl same ↦ subst (λ n. set.contains born n ≡ true) (sym same.0) known | inr old ↦ k.flown q (is_some_of _ _ old) ];
  }

  pub kept-landed : IsKept work atoms packets born → (m : Name) → IsKept work atoms (map.remove packets m) born
  kept-landed k m = record {
    filed = k.filed;
    marked = k.marked;
    flown = λ q h. let e = there-is _ h in k.flown q (is_some_of _ _ (cut_cases packets m q e.0 e.1).1);
  }

  pub kept-born : IsKept work atoms packets born → (m : Name) → IsKept work atoms packets (set.insert born m)
  kept-born k m = record {
    filed = k.filed;
    marked = λ q h. rw (born_insert born m q, k.marked q h) (or_true (same_name q m));
    flown = λ q h. rw (born_insert born m q, k.flown q h) (or_true (same_name q m));
  }
    where
      or_true : (t : Bool) → (t || true) ≡ true
      or_true true = refl
      or_true false = refl

  pub kept-absent : IsKept work atoms packets born → (m : Name) → set.contains born m ≡ false → map.get work m ≡ None
  kept-absent k m fresh = rw (k.filed, get-mapped errand_of atoms m) (none_of (map.get atoms m) (λ h. true_false (set.contains born m) (k.marked m h) fresh))
    where
      true_false : (b : Bool) → b ≡ true → b ≡ false → ⊥
      true_false b t f = absurd cc

      none_of : (o : Option Atom) → (IsSome o → ⊥) → option_map errand_of o ≡ None
      none_of None h = refl
      none_of (Some a) h = absurd (h refl)

  -- an atom and a packet that stand under a mark have a born mark
  pub kept-mark : IsKept work atoms packets born → (m : Name) (a : Atom) → map.get atoms m ≡ Some a → set.contains born m ≡ true
  kept-mark k m a there = k.marked m (is_some_of _ a there)

  pub kept-flight : IsKept work atoms packets born → (m : Name) (p : Packet) → map.get packets m ≡ Some p → set.contains born m ≡ true
  kept-flight k m p there = k.flown m (is_some_of _ p there)

-- an atom goes on as another one, and a further one stands under a new mark
pub kept-more : {work : NameMap Errand} {atoms : NameMap Atom} {packets : NameMap Packet} {born : NameSet} → IsKept work atoms packets born
    → (m n : Name) (a b more : Atom) → map.get atoms m ≡ Some a
    → IsKept (map.insert (map.insert work n (errand_of more)) m (errand_of b)) (map.insert (map.insert atoms n more) m b) packets (set.insert born n)
kept-more {born = born} k m n a b more there = let grown = kept-born k n in kept-put (kept-put grown n more (born_here born n)) m b (kept-mark grown m a there)

-- nothing stands there
pub kept-none : (born : NameSet) → IsKept map.empty map.empty map.empty born
kept-none born = record { filed = sym (mapped-empty errand_of); marked = λ q h. absurd (none_some _ (get-none q) h); flown = λ q h. absurd (none_some _ (get-none q) h) }
