-- What the caches' rule sees of the two levels, and what events make of it (docs/TRANSLATION.md, "Translation and daemon").
use Rattle.std.specs.Prelude.{◌≡◌, Bool, true, false}
use Rattle.np_syntax.specs.declared.value.Name.{Name}
use Rattle.simulate_laws.specs.protocol.Scenes.{changed}

-- which agents there are, and which names are born at the low level and at the high level
pub record Levels : Type 0 where
  pub is_agent : Name → Bool
  pub low : Name → Bool
  pub high : Name → Bool

-- a hidden name, which the infrastructure has for itself: it is born at the low level, and not at the high level
abbrev pub IsHidden : Levels → Name → Type 0
IsHidden w l = (w.low l ≡ true) × (w.high l ≡ false)

-- what each event makes of the names: those that are born stay so, and one that comes to the high level is new to the low level
pub record NamesGrow (w next : Levels) : Type 0 where
  pub stay : (q : Name) → w.low q ≡ true → next.low q ≡ true
  pub new : (q : Name) → w.high q ≡ false → next.high q ≡ true → w.low q ≡ false

-- there are the same agents
abbrev pub SameAgents : Levels → Levels → Type 0
SameAgents w next = (q : Name) → next.is_agent q ≡ w.is_agent q

-- there is one agent more
abbrev pub OneMore : Levels → Name → Levels → Type 0
OneMore w b next = (q : Name) → next.is_agent q ≡ changed w.is_agent b true q
