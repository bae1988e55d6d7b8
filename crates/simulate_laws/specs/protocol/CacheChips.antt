-- What stands about as far as agents' caches go, whatever process it is in (docs/TRANSLATION.md, "Translation and daemon").
use Rattle.std.specs.Prelude.{Bool, false, ◌&&◌, Option}
use Rattle.np_syntax.specs.declared.value.Name.{Name}
use Rattle.np_tables.specs.Names.{same_name}

-- the hints of a cache, by look-ups: the lock of each, by the agent that it is of
abbrev pub Hints : Type 0
Hints = Name → Option Name

-- what an atom shows of a cache
pub data CacheChip : Type 0 where
  -- an agent's cache, free or in use, with its hints
  cache : Name → Hints → CacheChip
  -- a hint in an agent, by its lock, which is free
  hint : Name → Name → CacheChip
  -- somebody in an agent who waits for the hint with this lock
  needs : Name → Name → CacheChip

-- it is a cache of the agent
abbrev pub is_cache_of : Name → CacheChip → Bool
is_cache_of a (CacheChip.cache b m) = same_name a b
is_cache_of a _ = false

-- it is the hint with this lock in the agent
abbrev pub is_hint : Name → Name → CacheChip → Bool
is_hint a l (CacheChip.hint b k) = same_name a b && same_name l k
is_hint a l _ = false
