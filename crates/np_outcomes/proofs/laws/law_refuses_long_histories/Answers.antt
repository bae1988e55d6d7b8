use Rattle.std.proofs.Common.{ℕ, ◌<◌, List, length, arith, inl, inr, subst}
use Rattle.np_verdict.specs.declared.refusal.Refusal.{Refusal}
use Rattle.np_verdict.specs.declared.refusal.Refusal.TheVariants.{HistoryTooLong}
use Rattle.np_histories.specs.declared.limits.TheConstants.{LONGEST_HISTORY}
use Rattle.np_sources.specs.Laws as source_laws
use Rattle.np_run.specs.Answers.{Call, IsRefused}
use Rattle.np_outcomes.specs.Laws.{Follows, Purpose}
use Rattle.np_answers.specs.declared.answer.Answer.{Answer}
use Rattle.np_outcomes.proofs.Outcomes.{Outcome, outcome}
use Rattle.np_outcomes.proofs.Histories.{SaysHistory, stands_says, made_accepts, not_long}
use Rattle.np_outcomes.proofs.laws.law_refuses_long_histories.Goals as goal

module _ (sources : source_laws.HaveOneAnswer) where
  -- of a history that is too long no other refusal says anything
  long : (call : Call) (answer : Answer) (purpose : Purpose) (bytes : List ℕ) (refusal : Refusal) → LONGEST_HISTORY < length bytes → SaysHistory purpose bytes refusal
      → IsRefused call answer refusal → IsRefused call answer HistoryTooLong
  long call answer purpose bytes refusal l (inl s) is = subst (λ (x : Refusal). IsRefused call answer x) s.0 is
  long call answer purpose bytes refusal l (inr s) is = let short = s.0 in absurd (omega arith)

  -- what says that it is too long
  is_long : (purpose : Purpose) (bytes : List ℕ) → SaysHistory purpose bytes HistoryTooLong → LONGEST_HISTORY < length bytes
  is_long purpose bytes (inl s) = s.1
  is_long purpose bytes (inr s) = absurd (not_long purpose bytes s.1)

  by_outcome : (call : Call) (answer : Answer) (purpose : Purpose) (bytes : List ℕ) → Follows call purpose bytes → LONGEST_HISTORY < length bytes → Outcome call answer
      → IsRefused call answer HistoryTooLong
  by_outcome call answer purpose bytes f l (Outcome.made text h) =
      let short = (made_accepts sources call purpose bytes answer.kept answer.high text f h).0 in absurd (omega arith)
  by_outcome call answer purpose bytes f l (Outcome.refused refusal e s) = long call answer purpose bytes refusal l (stands_says sources call purpose bytes refusal f s.stands) s

pub returns : goal.returns
returns c = λ call answer purpose bytes h f err some. (
  λ is. is_long c.law_one_answer.ensures purpose bytes (stands_says c.law_one_answer.ensures call purpose bytes HistoryTooLong f is.stands),
  λ l. by_outcome c.law_one_answer.ensures call answer purpose bytes f l (outcome call answer h err some),
)
