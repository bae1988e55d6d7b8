use Rattle.std.proofs.Common.{◌≡◌, ◌⊎◌, ℕ, ◌≤◌, List, length, arith, inl, inr, subst, sym, ap, ◌∙◌}
use Rattle.np_syntax.specs.declared.limits.TheConstants.{LONGEST_SOURCE}
use Rattle.np_words.specs.declared.planning.Plan.{Plan}
use Rattle.np_verdict.specs.Lines.{status_of}
use Rattle.np_verdict.specs.declared.refusal.Refusal.{Refusal}
use Rattle.np_verdict.specs.declared.statuses.TheConstants.{BAD_SOURCE}
use Rattle.np_sources.specs.Reaches.{Reach, TakenTo}
use Rattle.np_modes.specs.Causes.{Stands}
use Rattle.np_sources.specs.Laws as source_laws
use Rattle.np_histories.specs.Laws as history_laws
use Rattle.np_run.specs.Answers.{Call, IsRefused}
use Rattle.np_outcomes.specs.Laws.{FailsWith, Reads, RefusesAlone}
use Rattle.np_answers.specs.declared.answer.Answer.{Answer}
use Rattle.np_outcomes.proofs.Outcomes.{Outcome, outcome}
use Rattle.np_outcomes.proofs.Sources.{Cause, stands_cause, made_accepts}
use Rattle.np_outcomes.proofs.laws.law_refuses_once.Goals as goal

module _ (sources : source_laws.HaveOneAnswer) (histories : history_laws.HaveOneAnswer) where
  module _ (call : Call) (asked : Plan) (reach : Reach) (bytes : List ℕ) (r : Reads call asked reach bytes) where
    by_cause : (refusal other : Refusal) → FailsWith reach bytes refusal → Cause asked reach bytes other → other ≡ refusal
    by_cause refusal other (inl long) (Cause.of_source (inl s)) = s.0 ∙ sym long.0
    by_cause refusal other (inl long) (Cause.of_source (inr s)) = let more = long.1 in let short = s.0 in absurd (omega arith)
    by_cause refusal other (inl long) (Cause.of_later later small accepted of) = let more = long.1 in absurd (omega arith)
    by_cause refusal other (inr f) (Cause.of_source (inl s)) = let short = f.0 in let more = s.1 in absurd (omega arith)
    by_cause refusal other (inr f) (Cause.of_source (inr s)) = sources.same_fault reach bytes other refusal s.1 f.1
    by_cause refusal other (inr f) (Cause.of_later later small accepted of) = absurd (sources.not_both reach bytes refusal accepted f.1)

    -- what has its cause is what is wrong with the source
    only : (refusal : Refusal) → FailsWith reach bytes refusal → (other : Refusal) → Stands call.words call.texts other → other ≡ refusal
    only refusal f other s = by_cause refusal other f (stands_cause sources histories call asked reach bytes other r s)

    -- of what is wrong nothing is made
    not_made : (refusal : Refusal) → FailsWith reach bytes refusal → (length bytes ≤ LONGEST_SOURCE) × TakenTo reach bytes → ⊥
    not_made refusal (inl long) accepted = let more = long.1 in let short = accepted.0 in omega arith
    not_made refusal (inr f) accepted = sources.not_both reach bytes refusal accepted.1 f.1

    status : (refusal : Refusal) → FailsWith reach bytes refusal → status_of refusal ≡ BAD_SOURCE
    status refusal (inl long) = ap status_of long.0
    status refusal (inr f) = sources.status reach bytes refusal f.1

    alone : (answer : Answer) (refusal : Refusal) → FailsWith reach bytes refusal → Outcome call answer → RefusesAlone BAD_SOURCE call answer refusal
    alone answer refusal f (Outcome.made text h) =
        absurd (not_made refusal f (made_accepts call asked reach bytes answer.kept answer.high text r h))
    alone answer refusal f (Outcome.refused other e s) =
        let same : other ≡ refusal = only refusal f other s.stands in
        record {
          is = e ∙ ap status_of same ∙ status refusal f;
          refused = subst (λ (x : Refusal). IsRefused call answer x) same s;
          only = only refusal f;
        }

pub returns : goal.returns
returns c = λ call answer asked reach bytes refusal h r err some f. alone c.law_one_answer.ensures c.law_one_answer-2.ensures call asked reach bytes r answer refusal f (outcome call answer h err some)
