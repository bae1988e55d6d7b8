-- Low programs: the channels of the infrastructure (docs/LANGUAGE.md, "Types").
use Rattle.std.specs.Prelude.{◌≡◌, ℕ, Some, Ok, List, [], ◌∷◌, length}
use Rattle.std.specs.FinMap as map
use Rattle.np_syntax.specs.declared.types.Cap.TheVariants as cap
use Rattle.np_syntax.specs.declared.types.Ty.{Ty}
use Rattle.np_syntax.specs.declared.types.Ty as ty
use Rattle.np_syntax.specs.declared.program.LowProgram.{LowProgram}
use Rattle.np_syntax.specs.declared.event.Event.{Event}
use Rattle.np_types.specs.Worlds.{World}
use Rattle.np_calculus.specs.Config.{Config}
use Rattle.np_calculus.specs.Reductions.{run}
use Rattle.np_calculus.specs.Starts.{own, start_low}
use Rattle.np_calculus.specs.Well.{WellAlong}
use Rattle.np_check.specs.Faults.{check}
use Rattle.np_safety.specs.Channels.{Channels, world}
use Rattle.np_safety.specs.Typed.{Typed, TypedAlong}

abbrev pub pair : Ty → Ty → Ty
pair s t = ty.Tuple (s ∷ t ∷ [])

-- what the infrastructure's channels carry, by their numbers: register, migrating, migrated, message, deliver, ack, dack,
-- currentloc, lock, here, cache, where and found
abbrev pub carried : List (ℕ × Ty)
carried =
    (2, pair ty.Agent ty.Site) ∷ (3, ty.Agent) ∷ (4, pair ty.Agent ty.Site) ∷ (5, pair ty.Agent ty.Letter) ∷ (6, pair ty.Letter ty.Site)
    ∷ (7, ty.Tuple []) ∷ (8, pair ty.Agent ty.Site)
    ∷ (9, ty.Site) ∷ (10, ty.Places) ∷ (13, ty.Site) ∷ (14, ty.Places) ∷ (15, pair ty.Agent ty.Agent) ∷ (16, pair ty.Agent ty.Site) ∷ []

-- channels of a program of n sites, of the capability ^
abbrev pub channels_of : ℕ → List (ℕ × Ty) → Channels
channels_of n [] = map.empty
channels_of n (e ∷ es) = map.insert (channels_of n es) (own n e.0) (cap.Both, e.1)

abbrev pub infrastructure : ℕ → Channels
infrastructure n = channels_of n carried

-- the program's sites, and the infrastructure's channels
abbrev pub low_world : LowProgram → World
low_world q = world (length q.sites) (infrastructure (length q.sites))

-- neither main's process nor the daemon's has a fault
pub record IsFaultless (q : LowProgram) : Type 0 where
  pub main : check (low_world q) q.main map.empty ≡ Ok tt
  pub daemon : check (low_world q) q.daemon map.empty ≡ Ok tt

-- a low program without a fault is typed at its start
abbrev pub LowStartsTyped : Type 0
LowStartsTyped = (q : LowProgram) → IsFaultless q → Typed (low_world q) (start_low q)

-- every run of such a program is typed throughout, and meets no value of a wrong type
abbrev pub LowWellTyped : Type 0
LowWellTyped = (q : LowProgram) → IsFaultless q → (events : List Event) (d : Config) → run (start_low q) events ≡ Some d
    → TypedAlong (start_low q) (infrastructure (length q.sites)) events × WellAlong (start_low q) events
