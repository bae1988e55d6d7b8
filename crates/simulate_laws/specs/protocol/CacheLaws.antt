-- What the laws of the caches' rule say.
use Rattle.std.specs.Prelude.{◌≡◌, true, None, Some, List, [], ◌∷◌}
use Rattle.std.specs.List.{Contains}
use Rattle.np_syntax.specs.declared.value.Name.{Name}
use Rattle.simulate_laws.specs.protocol.Steps.{Step}
use Rattle.simulate_laws.specs.protocol.CacheChips.{CacheChip, Hints}
use Rattle.simulate_laws.specs.protocol.CacheLevels.{IsHidden, Levels, NamesGrow}
use Rattle.simulate_laws.specs.protocol.CacheRule.{CacheRule}
use Rattle.simulate_laws.specs.protocol.CacheSteps.{CacheStep}

-- a step keeps the rule, whatever names are born
abbrev pub KeepsRule : Type 0
KeepsRule = (w next : Levels) (before after take give : List CacheChip) → NamesGrow w next → CacheStep w next take give
    → Step before after take give
    → CacheRule w before → CacheRule next after

-- the rule holds where there is main alone, with an empty cache
abbrev pub StartsByRule : Type 0
StartsByRule = (w : Levels) (main : Name) (m : Hints) → ((q : Name) → w.is_agent q ≡ true → q ≡ main) → ((q : Name) → m q ≡ None)
    → CacheRule w (CacheChip.cache main m ∷ [])

-- what the rule gives those that stand on it
pub record HasHints (w : Levels) (chips : List CacheChip) : Type 0 where
  -- each agent has a cache
  pub caches : (a : Name) → w.is_agent a ≡ true → (m : Hints) × Contains chips (CacheChip.cache a m)
  -- a hint that is in a cache is there
  pub known : (a x l : Name) (m : Hints) → Contains chips (CacheChip.cache a m) → m x ≡ Some l → Contains chips (CacheChip.hint a l)
  -- who waits for a hint stands beside it
  pub met : (a l : Name) → Contains chips (CacheChip.needs a l) → Contains chips (CacheChip.hint a l)
  -- the lock of a hint is hidden
  pub hidden : (a l : Name) → Contains chips (CacheChip.hint a l) → IsHidden w l

-- the rule gives this
abbrev pub GivesHints : Type 0
GivesHints = (w : Levels) (chips : List CacheChip) → CacheRule w chips → HasHints w chips

-- nobody waits beside the hint that is waited for: the low level goes on where somebody does
abbrev pub NoneMeet : List CacheChip → Type 0
NoneMeet chips = (a l : Name) → Contains chips (CacheChip.needs a l) → Contains chips (CacheChip.hint a l) → ⊥

-- at rest, where that is so, nobody waits for a hint
abbrev pub NobodyWaits : Type 0
NobodyWaits = (w : Levels) (chips : List CacheChip) → CacheRule w chips → NoneMeet chips → (a l : Name)
    → Contains chips (CacheChip.needs a l) → ⊥
