use Rattle.std.proofs.Common.{◌≡◌, ℕ, ◌≤◌, List, length, subst, ap, ◌∙◌}
use Rattle.np_verdict.specs.Lines.{status_of}
use Rattle.np_verdict.specs.declared.refusal.Refusal.{Refusal}
use Rattle.np_histories.specs.declared.limits.TheConstants.{LONGEST_HISTORY}
use Rattle.np_modes.specs.Causes.{Stands}
use Rattle.np_sources.specs.Laws as source_laws
use Rattle.np_histories.specs.Laws as history_laws
use Rattle.np_run.specs.Answers.{Call, IsRefused}
use Rattle.np_outcomes.specs.Laws.{FaultyHistory, Follows, RefusesAlone, Purpose}
use Rattle.np_answers.specs.declared.answer.Answer.{Answer}
use Rattle.np_outcomes.proofs.Outcomes.{Outcome, outcome}
use Rattle.np_outcomes.proofs.Histories.{stands_says, says_faulty_history, made_accepts, not_both, same_fault, fault_status}
use Rattle.np_outcomes.proofs.laws.law_refuses_histories_once.Goals as goal

module _ (sources : source_laws.HaveOneAnswer) (histories : history_laws.HaveOneAnswer) where
  module _ (call : Call) (purpose : Purpose) (bytes : List ℕ) (f : Follows call purpose bytes) (short : length bytes ≤ LONGEST_HISTORY) where
    -- what has its cause is what is wrong with the history
    only : (refusal : Refusal) → FaultyHistory purpose bytes refusal → (other : Refusal) → Stands call.words call.texts other → other ≡ refusal
    only refusal wrong other s = same_fault sources histories purpose bytes other refusal (says_faulty_history purpose bytes other short (stands_says sources call purpose bytes other f s)) wrong

    alone : (answer : Answer) (refusal : Refusal) → FaultyHistory purpose bytes refusal → Outcome call answer → RefusesAlone (status_of refusal) call answer refusal
    alone answer refusal wrong (Outcome.made text h) = absurd (not_both sources histories purpose bytes refusal (made_accepts sources call purpose bytes answer.kept answer.high text f h).1 wrong)
    alone answer refusal wrong (Outcome.refused other e s) =
        let same : other ≡ refusal = only refusal wrong other s.stands in
        record {
          is = e ∙ ap status_of same;
          refused = subst (λ (x : Refusal). IsRefused call answer x) same s;
          only = only refusal wrong;
        }

pub returns : goal.returns
returns c = λ call answer purpose bytes refusal h f err some short wrong. (
  alone c.law_one_answer.ensures c.law_one_answer-2.ensures call purpose bytes f short answer refusal wrong (outcome call answer h err some),
  fault_status c.law_one_answer.ensures c.law_one_answer-2.ensures purpose bytes refusal wrong,
)
