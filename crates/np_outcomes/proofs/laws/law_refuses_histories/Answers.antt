use Rattle.std.proofs.Common.{ℕ, ◌≤◌, List, length, subst}
use Rattle.np_verdict.specs.declared.refusal.Refusal.{Refusal}
use Rattle.np_histories.specs.declared.limits.TheConstants.{LONGEST_HISTORY}
use Rattle.np_sources.specs.Laws as source_laws
use Rattle.np_histories.specs.Laws as history_laws
use Rattle.np_run.specs.Answers.{Call, IsRefused}
use Rattle.np_outcomes.specs.Laws.{FaultyHistory, Follows, Purpose}
use Rattle.np_answers.specs.declared.answer.Answer.{Answer}
use Rattle.np_outcomes.proofs.Outcomes.{Outcome, outcome}
use Rattle.np_outcomes.proofs.Histories.{stands_says, says_faulty_history, made_accepts, not_both, same_fault}
use Rattle.np_outcomes.proofs.laws.law_refuses_histories.Goals as goal

module _ (sources : source_laws.HaveOneAnswer) (histories : history_laws.HaveOneAnswer) where
  by_outcome : (call : Call) (answer : Answer) (purpose : Purpose) (bytes : List ℕ) (refusal : Refusal) → Follows call purpose bytes → length bytes ≤ LONGEST_HISTORY
      → FaultyHistory purpose bytes refusal → Outcome call answer → IsRefused call answer refusal
  by_outcome call answer purpose bytes refusal f short wrong (Outcome.made text h) =
      absurd (not_both sources histories purpose bytes refusal (made_accepts sources call purpose bytes answer.kept answer.high text f h).1 wrong)
  by_outcome call answer purpose bytes refusal f short wrong (Outcome.refused other e s) =
      let first : FaultyHistory purpose bytes other = says_faulty_history purpose bytes other short (stands_says sources call purpose bytes other f s.stands) in
      subst (λ (x : Refusal). IsRefused call answer x) (same_fault sources histories purpose bytes other refusal first wrong) s

pub returns : goal.returns
returns c = λ call answer purpose bytes refusal h f err some short. (
  λ is. says_faulty_history purpose bytes refusal short (stands_says c.law_one_answer.ensures call purpose bytes refusal f is.stands),
  λ wrong. by_outcome c.law_one_answer.ensures c.law_one_answer-2.ensures call answer purpose bytes refusal f short wrong (outcome call answer h err some),
)
