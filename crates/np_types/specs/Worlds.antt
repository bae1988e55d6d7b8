-- The least type of a value (docs/LANGUAGE.md, "Types").
use Rattle.std.specs.Prelude.{ℕ, Bool, true, false, ◌&&◌, Option, None, Some, List, [], ◌∷◌}
use Rattle.np_syntax.specs.declared.value.Name.{Name}
use Rattle.np_syntax.specs.declared.value.Value.{Value, Value-F, fold-Value}
use Rattle.np_syntax.specs.declared.types.Cap.{Cap}
use Rattle.np_syntax.specs.declared.types.Cap.TheVariants as cap
use Rattle.np_syntax.specs.declared.types.Ty.{Ty, out-Ty}
use Rattle.np_syntax.specs.declared.types.Ty as ty
use Rattle.np_syntax.specs.Options.{◌>>=◌, ◌>>◌, need, all_some}
use Rattle.np_subtyping.specs.Sub.{writes, sub, is_site}

-- what the types of values rest on: which numbers are sites, and the type of each channel
pub record World : Type 0 where
  pub site : ℕ → Bool
  pub chan : Name → Option (Cap × Ty)

-- the world in which each number is a site, and no channel has a type
abbrev pub bare : World
bare = record { site = λ s. true; chan = λ c. None }

-- the type of lock channels: ^Site
abbrev pub is_lock : Cap → Ty → Bool
is_lock cap.Both t = is_site (out-Ty t)
is_lock _ t = false

abbrev pub is_lock_chan : Option (Cap × Ty) → Bool
is_lock_chan (Some k) = is_lock k.0 k.1
is_lock_chan None = false

-- each channel of a map of places has the type of lock channels
abbrev pub all_locks : World → List (Name × Name) → Bool
all_locks w [] = true
all_locks w (p ∷ ps) = is_lock_chan (w.chan p.1) && all_locks w ps

abbrev pub kind_step : World → Value-F (Option Ty) → Option Ty
kind_step w (Value-F.Int i) = Some ty.Int
kind_step w (Value-F.Truth b) = Some ty.Bool
kind_step w (Value-F.Str s) = Some ty.Str
kind_step w (Value-F.Site s) = do
  need (w.site s)
  Some ty.Site
kind_step w (Value-F.Agent a) = Some ty.Agent
kind_step w (Value-F.Chan c) = do
  k ← w.chan c
  Some (ty.Chan k.0 k.1)
kind_step w (Value-F.Tuple os) = do
  ts ← all_some os
  Some (ty.Tuple ts)
kind_step w (Value-F.Letter c o) = do
  k ← w.chan c
  t ← o
  need (writes k.0 && sub t k.1)
  Some ty.Letter
kind_step w (Value-F.Places ps) = do
  need (all_locks w ps)
  Some ty.Places

-- the least type of a value, or none
unfoldable pub kind : World → Value → Option Ty
kind w = fold-Value (Option Ty) (kind_step w)

abbrev pub kinds : World → List Value → Option (List Ty)
kinds w [] = Some []
kinds w (v ∷ vs) = do
  t ← kind w v
  ts ← kinds w vs
  Some (t ∷ ts)
