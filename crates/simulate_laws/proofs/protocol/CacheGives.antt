-- What the rule gives those that stand on it, and what it gives at rest.
use Rattle.std.proofs.Common.{◌≡◌, ◌≤◌, Bool, true, false, List, [], ◌∷◌, refl, sym, ap, subst, arith}
use Rattle.std.specs.List.{Contains, count_by}
use Rattle.std.proofs.lemmas.List.Elements.{All-contains, Contains-append_right}
use Rattle.std.proofs.lemmas.List.Sums.{sum_by-cons}
use Rattle.np_syntax.specs.declared.value.Name.{Name}
use Rattle.np_syntax.proofs.Bools.{and-out}
use Rattle.np_tables.specs.Names.{same_name}
use Rattle.np_tables.proofs.Tables.{same_name-is}
use Rattle.simulate_laws.specs.protocol.Protocol.{one_if}
use Rattle.simulate_laws.specs.protocol.CacheChips.{CacheChip, Hints, is_cache_of, is_hint}
use Rattle.simulate_laws.specs.protocol.CacheLaws.{GivesHints, NobodyWaits}
use Rattle.simulate_laws.specs.protocol.CacheRule.{FindsHints, HasHiddenLock}

-- of what is counted there is one
counted : {X : Type 0} (p : X → Bool) (xs : List X) → 1 ≤ count_by p xs → (x : X) × Contains xs x × (p x ≡ true)
counted p [] h = absurd (let bad : ⊥ = omega arith in bad)
counted {X} p (x ∷ xs) h = go (p x) refl (counted p xs)
  where
    go : (t : Bool) → p x ≡ t → (1 ≤ count_by p xs → (y : X) × Contains xs y × (p y ≡ true)) → (y : X) × Contains (x ∷ xs) y × (p y ≡ true)
    go true e rest = (x, (0, omega arith, refl), e)
    go false e rest =
        let none : one_if (p x) ≡ 0 = ap one_if e in
        let later = rest (omega (arith, none, sum_by-cons (λ y. one_if (p y)) x xs)) in
        (later.0, Contains-append_right (x ∷ []) xs later.0 later.1, later.2)

there : (chips : List CacheChip) (a l : Name) → 1 ≤ count_by (is_hint a l) chips → Contains chips (CacheChip.hint a l)
there chips a l h = let one = counted (is_hint a l) chips h in go one.0 one.1 one.2
  where
    go : (c : CacheChip) → Contains chips c → is_hint a l c ≡ true → Contains chips (CacheChip.hint a l)
    go (CacheChip.cache b m) i e = absurd cc
    go (CacheChip.hint b k) i e =
        let both = and-out (same_name a b) (same_name l k) e in
        let same : CacheChip.hint b k ≡ CacheChip.hint a l = cc (same_name-is a b both.0, same_name-is l k both.1) in
        subst (Contains chips) same i
    go (CacheChip.needs b k) i e = absurd cc

its_cache : (chips : List CacheChip) (a : Name) → 1 ≤ count_by (is_cache_of a) chips → (m : Hints) × Contains chips (CacheChip.cache a m)
its_cache chips a h = let one = counted (is_cache_of a) chips h in go one.0 one.1 one.2
  where
    go : (c : CacheChip) → Contains chips c → is_cache_of a c ≡ true → (m : Hints) × Contains chips (CacheChip.cache a m)
    go (CacheChip.cache b m) i e = (m, subst (λ (q : Name). Contains chips (CacheChip.cache q m)) (sym (same_name-is a b e)) i)
    go (CacheChip.hint b k) i e = absurd cc
    go (CacheChip.needs b k) i e = absurd cc

pub gives-hints : GivesHints
gives-hints w chips p = record {
  caches = λ a h. its_cache chips a (p.caches a h);
  known = λ a x l m i e. there chips a l (All-contains (FindsHints chips) chips (CacheChip.cache a m) p.hints i x l e);
  met = λ a l i. there chips a l (All-contains (FindsHints chips) chips (CacheChip.needs a l) p.hints i);
  hidden = λ a l i. All-contains (HasHiddenLock w) chips (CacheChip.hint a l) p.locks i;
}

pub nobody-waits : NobodyWaits
nobody-waits w chips p none a l i = none a l i ((gives-hints w chips p).met a l i)
