-- The two infrastructures (docs/TRANSLATION.md, "Translation and daemon").

-- a daemon alone, or a daemon and a cache in each agent
pub data Infrastructure : Type 0 where
  central : Infrastructure
  cached : Infrastructure
