use Rattle.std.proofs.Common.{◌≡◌, ℕ, ◌<◌, List, Some, inl, inr, subst, arith}
use Rattle.np_words.specs.Plans.{plan}
use Rattle.np_words.specs.declared.planning.Plan.{Plan}
use Rattle.np_words.specs.declared.planning.Plan.TheVariants as plans
use Rattle.np_verdict.specs.declared.refusal.Refusal.{Refusal}
use Rattle.np_verdict.specs.declared.refusal.Refusal.TheVariants.{HistoryTooLong}
use Rattle.np_histories.specs.declared.limits.TheConstants.{LONGEST_HISTORY}
use Rattle.np_modes.specs.Readings.{Reading}
use Rattle.np_modes.specs.Causes.{Does, RefusesHistory}
use Rattle.np_run.specs.Answers.{Call, IsRefused}
use Rattle.np_answers.specs.declared.answer.Answer.{Answer}
use Rattle.np_outcomes.proofs.Outcomes.{Outcome, outcome, one, refused_plan}
use Rattle.np_outcomes.proofs.laws.law_counts_long_histories.Goals as goal

-- what is refused as too long has more than a history may have
counted : (texts : Reading) (history : List ℕ) → RefusesHistory texts history HistoryTooLong → LONGEST_HISTORY < texts.taken
counted texts history (inl (inl f)) = let is = f.0 in cc
counted texts history (inl (inr l)) = l.1.taken
counted texts history (inr s) = let is = s.faulty.is in cc

-- of so much no other refusal has its cause
long : (texts : Reading) (history : List ℕ) (refusal : Refusal) → LONGEST_HISTORY < texts.taken → RefusesHistory texts history refusal → refusal ≡ HistoryTooLong
long texts history refusal l (inl (inl f)) = let few = f.1.few in absurd (omega (arith, l, few))
long texts history refusal l (inl (inr u)) = u.0
long texts history refusal l (inr s) = let short = s.read.text.short in let all = s.read.taken in absurd (omega (arith, l, short, all))

by_outcome : (call : Call) (answer : Answer) (history : List ℕ) → plan call.words ≡ Some (plans.Upgrade history) → LONGEST_HISTORY < call.texts.taken
    → Outcome call answer → IsRefused call answer HistoryTooLong
by_outcome call answer history p l (Outcome.made text h) =
    let does = subst (λ (q : Plan). Does call.texts q answer.kept answer.high text) (one h.asked (plans.Upgrade history) _ h.planned p) h.does in
    let short = does.read.text.short in let all = does.read.taken in absurd (omega (arith, l, short, all))
by_outcome call answer history p l (Outcome.refused refusal e s) =
    subst (λ (x : Refusal). IsRefused call answer x) (long call.texts history refusal l (refused_plan call (plans.Upgrade history) refusal p s.stands)) s

pub returns : goal.returns
returns c = λ call answer history h p err some. (
  λ is. counted call.texts history (refused_plan call (plans.Upgrade history) HistoryTooLong p is.stands),
  λ l. by_outcome call answer history p l (outcome call answer h err some),
)
