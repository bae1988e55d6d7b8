use Rattle.std.proofs.Common.{◌≡◌, ℕ, ◌<◌, ◌⊎◌, List, Some, inl, inr, subst, arith}
use Rattle.np_syntax.specs.declared.limits.TheConstants.{LONGEST_SOURCE}
use Rattle.np_words.specs.Plans.{plan}
use Rattle.np_words.specs.declared.planning.Plan.{Plan}
use Rattle.np_words.specs.declared.planning.Plan.TheVariants as plans
use Rattle.np_words.specs.declared.planning.Task.{Task}
use Rattle.np_sources.specs.Reaches.{Reach, reach_of}
use Rattle.np_verdict.specs.declared.refusal.Refusal.{Refusal}
use Rattle.np_verdict.specs.declared.refusal.Refusal.TheVariants.{TooLong}
use Rattle.np_modes.specs.Readings.{Reading, IsUnread}
use Rattle.np_modes.specs.Causes.{Does, IsFaultySource}
use Rattle.np_sources.specs.Laws as source_laws
use Rattle.np_run.specs.Answers.{Call, IsRefused}
use Rattle.np_answers.specs.declared.answer.Answer.{Answer}
use Rattle.np_outcomes.proofs.Outcomes.{Outcome, outcome, one, refused_plan}
use Rattle.np_outcomes.proofs.laws.law_counts_long.Goals as goal

module _ (sources : source_laws.HaveOneAnswer) where
  -- what is refused as too long has more than a source may have
  counted : (texts : Reading) (file : List ℕ) (reach : Reach) → IsUnread texts file LONGEST_SOURCE TooLong TooLong ⊎ IsFaultySource texts file reach TooLong → LONGEST_SOURCE < texts.taken
  counted texts file reach (inl (inl f)) = let is = f.0 in cc
  counted texts file reach (inl (inr l)) = l.1.taken
  counted texts file reach (inr s) = absurd (sources.not_long reach s.bytes s.faulty)

  -- of so much no other refusal has its cause
  long : (texts : Reading) (file : List ℕ) (reach : Reach) (refusal : Refusal) → LONGEST_SOURCE < texts.taken
      → IsUnread texts file LONGEST_SOURCE TooLong refusal ⊎ IsFaultySource texts file reach refusal → refusal ≡ TooLong
  long texts file reach refusal l (inl (inl f)) = let few = f.1.few in absurd (omega (arith, l, few))
  long texts file reach refusal l (inl (inr u)) = u.0
  long texts file reach refusal l (inr s) = let short = s.read.text.short in let all = s.read.taken in absurd (omega (arith, l, short, all))

  by_outcome : (call : Call) (answer : Answer) (file : List ℕ) (task : Task) → plan call.words ≡ Some (plans.Source file task) → LONGEST_SOURCE < call.texts.taken
      → Outcome call answer → IsRefused call answer TooLong
  by_outcome call answer file task p l (Outcome.made text h) =
      let does = subst (λ (q : Plan). Does call.texts q answer.kept answer.high text) (one h.asked (plans.Source file task) _ h.planned p) h.does in
      let short = does.read.text.short in let all = does.read.taken in absurd (omega (arith, l, short, all))
  by_outcome call answer file task p l (Outcome.refused refusal e s) =
      let r = refused_plan call (plans.Source file task) refusal p s.stands in
      subst (λ (x : Refusal). IsRefused call answer x) (long call.texts file (reach_of task) refusal l r.cause) s

pub returns : goal.returns
returns c = λ call answer file task h p err some. (
  λ is. let r = refused_plan call (plans.Source file task) TooLong p is.stands in counted c.law_one_answer.ensures call.texts file (reach_of task) r.cause,
  λ l. by_outcome c.law_one_answer.ensures call answer file task p l (outcome call answer h err some),
)
