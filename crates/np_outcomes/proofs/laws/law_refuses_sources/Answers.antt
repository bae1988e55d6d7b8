use Rattle.std.proofs.Common.{ℕ, ◌≤◌, ◌⊎◌, List, length, inl, inr, subst}
use Rattle.np_syntax.specs.declared.limits.TheConstants.{LONGEST_SOURCE}
use Rattle.np_words.specs.declared.planning.Plan.{Plan}
use Rattle.np_verdict.specs.declared.refusal.Refusal.{Refusal}
use Rattle.np_sources.specs.Reaches.{Reach, FaultyTo}
use Rattle.np_sources.specs.Laws as source_laws
use Rattle.np_histories.specs.Laws as history_laws
use Rattle.np_run.specs.Answers.{Call, IsRefused}
use Rattle.np_outcomes.specs.Laws.{Reads, Replays}
use Rattle.np_answers.specs.declared.answer.Answer.{Answer}
use Rattle.np_outcomes.proofs.Outcomes.{Outcome, outcome}
use Rattle.np_outcomes.proofs.Sources.{Cause, stands_cause, says_faulty, made_accepts}
use Rattle.np_outcomes.proofs.laws.law_refuses_sources.Goals as goal

module _ (sources : source_laws.HaveOneAnswer) (histories : history_laws.HaveOneAnswer) where
  -- a refusal is the one of the source, or the source is accepted
  by_cause : (asked : Plan) (reach : Reach) (bytes : List ℕ) (refusal : Refusal) → length bytes ≤ LONGEST_SOURCE → Cause asked reach bytes refusal
      → FaultyTo reach bytes refusal ⊎ Replays asked bytes
  by_cause asked reach bytes refusal short (Cause.of_source s) = inl (says_faulty reach bytes refusal short s)
  by_cause asked reach bytes refusal short (Cause.of_later r small accepted of) = inr r

  first : (asked : Plan) (reach : Reach) (bytes : List ℕ) (refusal other : Refusal) → length bytes ≤ LONGEST_SOURCE → FaultyTo reach bytes refusal → Cause asked reach bytes other
      → FaultyTo reach bytes other
  first asked reach bytes refusal other short f (Cause.of_source s) = says_faulty reach bytes other short s
  first asked reach bytes refusal other short f (Cause.of_later r small accepted of) = absurd (sources.not_both reach bytes refusal accepted f)

  by_outcome : (call : Call) (answer : Answer) (asked : Plan) (reach : Reach) (bytes : List ℕ) (refusal : Refusal) → Reads call asked reach bytes → length bytes ≤ LONGEST_SOURCE
      → FaultyTo reach bytes refusal → Outcome call answer → IsRefused call answer refusal
  by_outcome call answer asked reach bytes refusal r short f (Outcome.made text h) =
      absurd (sources.not_both reach bytes refusal (made_accepts call asked reach bytes answer.kept answer.high text r h).1 f)
  by_outcome call answer asked reach bytes refusal r short f (Outcome.refused other e s) =
      let wrong : FaultyTo reach bytes other = first asked reach bytes refusal other short f (stands_cause sources histories call asked reach bytes other r s.stands) in
      subst (λ (x : Refusal). IsRefused call answer x) (sources.same_fault reach bytes other refusal wrong f) s

pub returns : goal.returns
returns c = λ call answer asked reach bytes refusal h r err some short. (
  λ f. by_outcome c.law_one_answer.ensures c.law_one_answer-2.ensures call answer asked reach bytes refusal r short f (outcome call answer h err some),
  λ is. by_cause c.law_one_answer.ensures c.law_one_answer-2.ensures asked reach bytes refusal short (stands_cause c.law_one_answer.ensures c.law_one_answer-2.ensures call asked reach bytes refusal r is.stands),
)
