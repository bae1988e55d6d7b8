-- The rule holds of the start, and each step keeps it.
use Rattle.std.proofs.Common.{◌≡◌, ◌+◌, ◌≤◌, ◌⊎◌, inl, inr, Bool, true, false, cond, ◌&&◌, Some, List, [], ◌∷◌, refl, sym, ap, ◌∙◌, arith}
use Rattle.std.specs.List.{All, AllByRecursion, count_by}
use Rattle.std.proofs.lemmas.List.Elements.{All-from_recursion, All-weaker, recursion_from_All}
use Rattle.np_syntax.specs.declared.value.Name.{Name}
use Rattle.np_tables.specs.Names.{same_name}
use Rattle.np_tables.proofs.Tables.{same_name-itself}
use Rattle.simulate_laws.specs.protocol.Protocol.{one_if}
use Rattle.simulate_laws.specs.protocol.Steps.{Step}
use Rattle.simulate_laws.proofs.protocol.Steps.{all_after, all_rest, all_taken, sum_after, sum_before}
use Rattle.simulate_laws.specs.protocol.CacheChips.{CacheChip, is_cache_of, is_hint}
use Rattle.simulate_laws.specs.protocol.CacheLaws.{KeepsRule, StartsByRule}
use Rattle.simulate_laws.specs.protocol.CacheLevels.{IsHidden, Levels, NamesGrow}
use Rattle.simulate_laws.specs.protocol.CacheRule.{FindsHints, HasHiddenLock}
use Rattle.simulate_laws.specs.protocol.CacheSteps.{CacheStep}

itself : (a : Name) → one_if (same_name a a) ≡ 1
itself a = ap one_if (same_name-itself a)

its_hint : (a l : Name) → one_if (same_name a a && same_name l l) ≡ 1
its_hint a l = rw (same_name-itself a) (itself l)

pub starts-by-rule : StartsByRule
starts-by-rule w main m alone none = record {
  caches = λ a is. rw (alone a is) (omega (arith, itself main));
  hints = All-from_recursion (FindsHints (CacheChip.cache main m ∷ [])) (CacheChip.cache main m ∷ []) (λ x l h. absurd (let no = none x in cc), tt);
  locks = All-from_recursion (HasHiddenLock w) (CacheChip.cache main m ∷ []) (tt, tt);
}

-- ---- steps of any kind

-- what each chip that is left keeps, and each that is given has, each has afterwards
module _ (P Q : CacheChip → Type 0) (keeps : (c : CacheChip) → P c → Q c) where
  all_keep : (chips : List CacheChip) → AllByRecursion P chips → AllByRecursion Q chips
  all_keep [] h = tt
  all_keep (c ∷ cs) h = (keeps c h.0, all_keep cs h.1)

  afterwards : {before after take give : List CacheChip} → Step before after take give → (AllByRecursion P take → AllByRecursion Q give)
      → All P before → All Q after
  afterwards {take = take} {give = give} step new h =
      all_after step Q (All-from_recursion Q give (new (recursion_from_All P take (all_taken step P h)))) (All-weaker P Q keeps step.rest (all_rest step P h))

module _ {before after take give : List CacheChip} (step : Step before after take give) (p : CacheChip → Bool) where
  no_fewer : count_by p take ≤ count_by p give → count_by p before ≤ count_by p after
  no_fewer h = omega (arith, sum_before step (λ c. one_if (p c)), sum_after step (λ c. one_if (p c)))

  given : count_by p give ≤ count_by p after
  given = omega (arith, sum_after step (λ c. one_if (p c)))

-- ---- the steps that there are

-- a name that the infrastructure has for itself stays so
stays_hidden : {w next : Levels} → NamesGrow w next → (l : Name) → IsHidden w l → IsHidden next l
stays_hidden {w} {next} grow l h = (grow.stay l h.0, go (next.high l) refl)
  where
    go : (t : Bool) → next.high l ≡ t → t ≡ false
    go false e = refl
    go true e = absurd (let new = grow.new l h.1 e in let old = h.0 in cc)

hides : {w next : Levels} → NamesGrow w next → (c : CacheChip) → HasHiddenLock w c → HasHiddenLock next c
hides grow (CacheChip.hint a l) h = stays_hidden grow l h
hides grow _ h = tt

module _ {w next : Levels} where
  hidden_given : {take give : List CacheChip} → NamesGrow w next → CacheStep w next take give → AllByRecursion (HasHiddenLock w) take
      → AllByRecursion (HasHiddenLock next) give
  hidden_given {take} grow (CacheStep.still s) h = all_keep (HasHiddenLock w) (HasHiddenLock next) (hides grow) take h
  hidden_given grow (CacheStep.asks s x is) h = (tt, (tt, tt))
  hidden_given grow (CacheStep.takes {l = l} s) h = (stays_hidden grow l h.0, tt)
  hidden_given grow (CacheStep.adds s own x is) h = (tt, (own, tt))
  hidden_given grow (CacheStep.creates s is) h = (tt, tt)

  -- who takes a hint or a cache gives one
  hints_given : {take give : List CacheChip} → CacheStep w next take give → (a l : Name) → count_by (is_hint a l) take ≤ count_by (is_hint a l) give
  hints_given (CacheStep.still s) a l = omega arith
  hints_given _ a l = omega arith

  caches_given : {take give : List CacheChip} → CacheStep w next take give → (a : Name) → count_by (is_cache_of a) take ≤ count_by (is_cache_of a) give
  caches_given (CacheStep.still s) a = omega arith
  caches_given _ a = omega arith

  -- an agent was there before, or is given a cache
  agents : {take give : List CacheChip} → CacheStep w next take give → (a : Name) → next.is_agent a ≡ true
      → (w.is_agent a ≡ true) ⊎ (1 ≤ count_by (is_cache_of a) give)
  agents (CacheStep.still s) a h = inl (sym (s a) ∙ h)
  agents (CacheStep.asks s x is) a h = inl (sym (s a) ∙ h)
  agents (CacheStep.takes s) a h = inl (sym (s a) ∙ h)
  agents (CacheStep.adds s own x is) a h = inl (sym (s a) ∙ h)
  agents (CacheStep.creates {b = b} s is) a h = go (same_name a b) (sym (s a) ∙ h)
    where
      go : (t : Bool) → cond t true (w.is_agent a) ≡ true → (w.is_agent a ≡ true) ⊎ (1 ≤ 0 + one_if t)
      go true e = inr (omega arith)
      go false e = inl e

module _ (before after : List CacheChip) (more : (a l : Name) → count_by (is_hint a l) before ≤ count_by (is_hint a l) after) where
  still_finds : (c : CacheChip) → FindsHints before c → FindsHints after c
  still_finds (CacheChip.cache a m) h = λ x l e. omega (arith, more a l, h x l e)
  still_finds (CacheChip.hint a l) h = tt
  still_finds (CacheChip.needs a l) h = omega (arith, more a l, h)

  given_finds : {w next : Levels} {take give : List CacheChip} → CacheStep w next take give
      → ((a l : Name) → count_by (is_hint a l) give ≤ count_by (is_hint a l) after)
      → AllByRecursion (FindsHints before) take → AllByRecursion (FindsHints after) give
  given_finds {take = take} (CacheStep.still s) new h = all_keep (FindsHints before) (FindsHints after) still_finds take h
  given_finds (CacheStep.asks {a = a} {l = l} {m = m} s x is) new h =
      (still_finds (CacheChip.needs a l) (h.0 x l is), (still_finds (CacheChip.cache a m) h.0, tt))
  given_finds (CacheStep.takes s) new h = (tt, tt)
  given_finds (CacheStep.adds {a = a} {l = l} {m = m} s own x is) new h = (λ y k e. go y k (same_name y x) (sym (is y) ∙ e), (tt, tt))
    where
      go : (y k : Name) (t : Bool) → cond t (Some l) (m y) ≡ Some k → 1 ≤ count_by (is_hint a k) after
      go y k true e = rw (let same : k ≡ l = cc in same) (omega (arith, new a l, its_hint a l))
      go y k false e = still_finds (CacheChip.cache a m) h.0 y k e
  given_finds (CacheStep.creates s is) new h = (λ x l e. absurd (let no = is x in cc), tt)

pub keeps-rule : KeepsRule
keeps-rule w next before after take give grow kind step p = record {
  caches = λ a h. elim (agents kind a h) [
    | inl old ↦ omega (arith, p.caches a old, no_fewer step (is_cache_of a) (caches_given kind a))
    | inr new ↦ omega (arith, new, given step (is_cache_of a))
  ];
  hints = afterwards (FindsHints before) (FindsHints after) (still_finds before after more) step
      (given_finds before after more kind (λ a l. given step (is_hint a l))) p.hints;
  locks = afterwards (HasHiddenLock w) (HasHiddenLock next) (hides grow) step (hidden_given grow kind) p.locks;
}
  where
    more : (a l : Name) → count_by (is_hint a l) before ≤ count_by (is_hint a l) after
    more a l = no_fewer step (is_hint a l) (hints_given kind a l)
