-- The caches' rule: what always holds of what stands about (docs/TRANSLATION.md, "Translation and daemon").
use Rattle.std.specs.Prelude.{◌≡◌, ◌≤◌, true, Some, List}
use Rattle.std.specs.List.{All, count_by}
use Rattle.np_syntax.specs.declared.value.Name.{Name}
use Rattle.simulate_laws.specs.protocol.CacheChips.{CacheChip, is_cache_of, is_hint}
use Rattle.simulate_laws.specs.protocol.CacheLevels.{IsHidden, Levels}

-- each hint that is in a cache, or that somebody waits for, is there in the same agent
abbrev pub FindsHints : List CacheChip → CacheChip → Type 0
FindsHints chips (CacheChip.cache a m) = (x l : Name) → m x ≡ Some l → 1 ≤ count_by (is_hint a l) chips
FindsHints chips (CacheChip.hint a l) = Unit {0}
FindsHints chips (CacheChip.needs a l) = 1 ≤ count_by (is_hint a l) chips

-- the lock of a hint is hidden
abbrev pub HasHiddenLock : Levels → CacheChip → Type 0
HasHiddenLock w (CacheChip.hint a l) = IsHidden w l
HasHiddenLock w _ = Unit {0}

-- the rule of the chips that stand about
pub record CacheRule (w : Levels) (chips : List CacheChip) : Type 0 where
  -- each agent has a cache: so at rest no post waits for one
  pub caches : (a : Name) → w.is_agent a ≡ true → 1 ≤ count_by (is_cache_of a) chips
  -- whoever needs a hint finds one: so at rest nobody waits for one
  pub hints : All (FindsHints chips) chips
  -- the lock of each hint is hidden: so the source takes no hint, and nothing of the source is taken for one
  pub locks : All (HasHiddenLock w) chips
