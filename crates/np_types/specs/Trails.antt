-- What binders had before, and how it is put back: a name is bound in its own part of a program alone (docs/LANGUAGE.md, "Scope" and
-- "Types").
use Rattle.std.specs.Prelude.{ℕ, Option, None, Some, IsSome, List, [], ◌∷◌}
use Rattle.std.specs.FinMap as map
use Rattle.np_syntax.specs.declared.types.Ty.{Ty}
use Rattle.np_types.specs.Least.{Types}

-- the types with what a binder had before
abbrev pub restored : Types → ℕ → Option Ty → Types
restored env binder None = map.remove env binder
restored env binder (Some t) = map.insert env binder t

-- the types with what each binder of a trail had before, the newest, which is the last, put back first
abbrev pub rewound : List (ℕ × Option Ty) → Types → Types
rewound [] env = env
rewound (s ∷ newer) env = restored (rewound newer env) s.0 s.1

-- each binder of a trail has a type when its turn comes
abbrev pub Held : List (ℕ × Option Ty) → Types → Type 0
Held [] env = Unit {0}
Held (s ∷ newer) env = Held newer env × IsSome (map.get (rewound newer env) s.0)
