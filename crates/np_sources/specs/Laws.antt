-- A source is taken so far or refused, and refused in one way alone (docs/COMMANDS.md, "Reports and refusals").
use Rattle.std.specs.Prelude.{◌≡◌, ℕ, ◌⊎◌, List}
use Rattle.np_syntax.specs.declared.event.Event.{Event}
use Rattle.np_syntax.specs.declared.program.LowProgram.{LowProgram}
use Rattle.np_words.specs.declared.modes.Infrastructure.{Infrastructure}
use Rattle.np_verdict.specs.Lines.{status_of}
use Rattle.np_verdict.specs.declared.refusal.Refusal.{Refusal}
use Rattle.np_verdict.specs.declared.refusal.Refusal.TheVariants.{Usage, TooLong, TooManyEvents}
use Rattle.np_verdict.specs.declared.statuses.TheConstants.{BAD_HISTORY, BAD_SOURCE}
use Rattle.np_sources.specs.Reaches.{CanGoOn, CannotGoOn, FaultyTo, IsLowOf, Reach, TakenTo}

pub record HaveOneAnswer : Type 0 where
  -- a source has one low program of each infrastructure
  pub same_low : (infrastructure : Infrastructure) (bytes : List ℕ) (low other : LowProgram) → IsLowOf infrastructure bytes low
      → IsLowOf infrastructure bytes other → low ≡ other
  -- no source is both taken so far and refused
  pub not_both : (reach : Reach) (bytes : List ℕ) (refusal : Refusal) → TakenTo reach bytes → FaultyTo reach bytes refusal → ⊥
  -- a source is refused in one way
  pub same_fault : (reach : Reach) (bytes : List ℕ) (a b : Refusal) → FaultyTo reach bytes a → FaultyTo reach bytes b → a ≡ b
  -- two refusals are of no source that was read
  pub not_long : (reach : Reach) (bytes : List ℕ) → FaultyTo reach bytes TooLong → ⊥
  pub not_usage : (reach : Reach) (bytes : List ℕ) → FaultyTo reach bytes Usage → ⊥
  -- the status of the others is that of a bad source
  pub status : (reach : Reach) (bytes : List ℕ) (refusal : Refusal) → FaultyTo reach bytes refusal → status_of refusal ≡ BAD_SOURCE
  -- a run goes on from saved events, or is refused in one way
  pub goes_on : (budget : ℕ) (low : LowProgram) (events : List Event) (refusal : Refusal) → CanGoOn budget low events
      → CannotGoOn budget low events refusal → ⊥
  pub same_stop : (budget : ℕ) (low : LowProgram) (events : List Event) (a b : Refusal) → CannotGoOn budget low events a
      → CannotGoOn budget low events b → a ≡ b
  -- with the status of a bad history, but for too many events
  pub stop_status : (budget : ℕ) (low : LowProgram) (events : List Event) (refusal : Refusal) → CannotGoOn budget low events refusal
      → (refusal ≡ TooManyEvents) ⊎ (status_of refusal ≡ BAD_HISTORY)
