use Rattle.std.proofs.Common.{ℕ, ◌<◌, List, length, arith, inl, inr, subst}
use Rattle.np_syntax.specs.declared.limits.TheConstants.{LONGEST_SOURCE}
use Rattle.np_words.specs.declared.planning.Plan.{Plan}
use Rattle.np_sources.specs.Reaches.{Reach}
use Rattle.np_verdict.specs.declared.refusal.Refusal.{Refusal}
use Rattle.np_verdict.specs.declared.refusal.Refusal.TheVariants.{TooLong}
use Rattle.np_sources.specs.Laws as source_laws
use Rattle.np_histories.specs.Laws as history_laws
use Rattle.np_run.specs.Answers.{Call, IsRefused}
use Rattle.np_outcomes.specs.Laws.{Reads}
use Rattle.np_answers.specs.declared.answer.Answer.{Answer}
use Rattle.np_outcomes.proofs.Outcomes.{Outcome, outcome}
use Rattle.np_outcomes.proofs.Sources.{Cause, IsOfHistory, stands_cause, made_accepts}
use Rattle.np_outcomes.proofs.laws.law_refuses_long.Goals as goal

module _ (sources : source_laws.HaveOneAnswer) (histories : history_laws.HaveOneAnswer) where
  -- of a source that is too long no other refusal says anything
  long : (call : Call) (answer : Answer) (asked : Plan) (reach : Reach) (bytes : List ℕ) (refusal : Refusal) → LONGEST_SOURCE < length bytes
      → Cause asked reach bytes refusal → IsRefused call answer refusal → IsRefused call answer TooLong
  long call answer asked reach bytes refusal l (Cause.of_source (inl s)) is = subst (λ (x : Refusal). IsRefused call answer x) s.0 is
  long call answer asked reach bytes refusal l (Cause.of_source (inr s)) is = let short = s.0 in absurd (omega arith)
  long call answer asked reach bytes refusal l (Cause.of_later r small accepted of) is = absurd (omega arith)

  not_later : IsOfHistory TooLong → ⊥
  not_later (inl e) = cc
  not_later (inr (inl e)) = omega (arith, e)
  not_later (inr (inr e)) = cc

  -- what says that it is too long
  is_long : (asked : Plan) (reach : Reach) (bytes : List ℕ) → Cause asked reach bytes TooLong → LONGEST_SOURCE < length bytes
  is_long asked reach bytes (Cause.of_source (inl s)) = s.1
  is_long asked reach bytes (Cause.of_source (inr s)) = absurd (sources.not_long reach bytes s.1)
  is_long asked reach bytes (Cause.of_later r small accepted of) = absurd (not_later of)

  by_outcome : (call : Call) (answer : Answer) (asked : Plan) (reach : Reach) (bytes : List ℕ) → Reads call asked reach bytes → LONGEST_SOURCE < length bytes → Outcome call answer
      → IsRefused call answer TooLong
  by_outcome call answer asked reach bytes r l (Outcome.made text h) =
      let short = (made_accepts call asked reach bytes answer.kept answer.high text r h).0 in absurd (omega arith)
  by_outcome call answer asked reach bytes r l (Outcome.refused refusal e s) =
      long call answer asked reach bytes refusal l (stands_cause sources histories call asked reach bytes refusal r s.stands) s

pub returns : goal.returns
returns c = λ call answer asked reach bytes h r err some. (
  λ is.
      let cause = stands_cause c.law_one_answer.ensures c.law_one_answer-2.ensures call asked reach bytes TooLong r is.stands in
      is_long c.law_one_answer.ensures c.law_one_answer-2.ensures asked reach bytes cause,
  λ l. by_outcome c.law_one_answer.ensures c.law_one_answer-2.ensures call answer asked reach bytes r l (outcome call answer h err some),
)
