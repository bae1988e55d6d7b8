-- The steps that there are: what each takes and gives, and what becomes of the agents (docs/TRANSLATION.md, "Translation and daemon").
use Rattle.std.specs.Prelude.{◌≡◌, None, Some, List, [], ◌∷◌}
use Rattle.np_syntax.specs.declared.value.Name.{Name}
use Rattle.simulate_laws.specs.protocol.Scenes.{changed}
use Rattle.simulate_laws.specs.protocol.CacheChips.{CacheChip, Hints}
use Rattle.simulate_laws.specs.protocol.CacheLevels.{IsHidden, Levels, OneMore, SameAgents}

-- a step, with what is seen of the levels before and after it, the chips that it takes, and those that it gives
pub data CacheStep (w next : Levels) : List CacheChip → List CacheChip → Type 0 where
  -- nothing changes; a cache or a hint may be handed on
  still : {chips : List CacheChip} → SameAgents w next → CacheStep w next chips chips
  -- somebody finds a hint in a cache, and waits for it
  asks : {a l : Name} {m : Hints} → SameAgents w next → (x : Name) → m x ≡ Some l
      → CacheStep w next (CacheChip.cache a m ∷ []) (CacheChip.needs a l ∷ CacheChip.cache a m ∷ [])
  -- who waits for a hint takes it, and gives one back under its lock
  takes : {a l : Name} → SameAgents w next → CacheStep w next (CacheChip.hint a l ∷ CacheChip.needs a l ∷ []) (CacheChip.hint a l ∷ [])
  -- a hint of an agent is put into a cache, under a hidden lock
  adds : {a l : Name} {m n : Hints} → SameAgents w next → IsHidden next l → (x : Name) → ((q : Name) → n q ≡ changed m x (Some l) q)
      → CacheStep w next (CacheChip.cache a m ∷ []) (CacheChip.cache a n ∷ CacheChip.hint a l ∷ [])
  -- an agent is made, with an empty cache
  creates : {b : Name} {n : Hints} → OneMore w b next → ((q : Name) → n q ≡ None) → CacheStep w next [] (CacheChip.cache b n ∷ [])
