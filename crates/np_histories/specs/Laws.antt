-- A history is read or refused, replayed or refused, and refused in one way alone (docs/COMMANDS.md, "Reports and refusals").
use Rattle.std.specs.Prelude.{◌≡◌, ℕ, List}
use Rattle.np_syntax.specs.declared.event.Event.{Event}
use Rattle.np_syntax.specs.declared.program.LowProgram.{LowProgram}
use Rattle.np_verdict.specs.Lines.{status_of}
use Rattle.np_verdict.specs.declared.refusal.Refusal.{Refusal}
use Rattle.np_verdict.specs.declared.statuses.TheConstants.{BAD_HISTORY}
use Rattle.np_words.specs.declared.planning.View.{View}
use Rattle.np_histories.specs.Histories.{HasEvents, HasRun, HasNoEvents, IsFaulty, IsRead}

pub record HaveOneAnswer : Type 0 where
  -- the text alone
  pub not_both : (bytes : List ℕ) (refusal : Refusal) → HasEvents bytes → HasNoEvents bytes refusal → ⊥
  pub same_fault : (bytes : List ℕ) (a b : Refusal) → HasNoEvents bytes a → HasNoEvents bytes b → a ≡ b
  pub status : (bytes : List ℕ) (refusal : Refusal) → HasNoEvents bytes refusal → status_of refusal ≡ BAD_HISTORY
  pub same_events : (bytes : List ℕ) (a b : List Event) → IsRead bytes a → IsRead bytes b → a ≡ b
  -- its replay
  pub run_not_both : (low : LowProgram) (shown : View) (bytes : List ℕ) (refusal : Refusal) → HasRun low shown bytes
      → IsFaulty low shown bytes refusal → ⊥
  pub same_run_fault : (low : LowProgram) (shown : View) (bytes : List ℕ) (a b : Refusal) → IsFaulty low shown bytes a
      → IsFaulty low shown bytes b → a ≡ b
  pub run_status : (low : LowProgram) (shown : View) (bytes : List ℕ) (refusal : Refusal) → IsFaulty low shown bytes refusal
      → status_of refusal ≡ BAD_HISTORY
