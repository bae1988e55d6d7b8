-- What the checks in code answer: the value or the first fault (docs/LANGUAGE.md, "Types"). Want of memory may be answered in the place of
-- either.
use Rattle.std.specs.Prelude.{◌≡◌, ℕ, Option, Result, Ok, Err, List}
use Rattle.np_syntax.specs.declared.types.Ty.{Ty}
use Rattle.np_types.specs.declared.fault.LeastFail.{LeastFail}
use Rattle.np_types.specs.declared.fault.LeastFail.TheVariants as fail
use Rattle.np_types.specs.Checks.{Check}
use Rattle.np_types.specs.Least.{Types}
use Rattle.np_types.specs.Trails.{rewound, Held}

abbrev pub Failed : {A : Type 0} → LeastFail → Check A → Type 0
Failed (fail.Fault f) o = o ≡ Err f
Failed fail.Memory o = Unit {0}

abbrev pub Told : {A : Type 0} → Result A LeastFail → Check A → Type 0
Told (Ok a) o = o ≡ Ok a
Told (Err e) o = Failed e o

-- an answer that leaves the types of binders changed
abbrev pub ToldTypes : {A : Type 0} → Result A LeastFail → Types → Check Types → Type 0
ToldTypes (Ok a) env o = o ≡ Ok env
ToldTypes (Err e) env o = Failed e o

-- the trail leads back from the types that a pattern leaves to those before it
pub record LeadsBack (trail : List (ℕ × Option Ty)) (new old : Types) : Type 0 where
  pub held : Held trail new
  pub same : rewound trail new ≡ old

-- what a trail leads back to, it leads back to from what is added to both
pub record LeadsOn (trail : List (ℕ × Option Ty)) (env : Types) (trail_new : List (ℕ × Option Ty)) (env_new : Types) : Type 0 where
  pub on : (before : Types) → LeadsBack trail env before → LeadsBack trail_new env_new before
