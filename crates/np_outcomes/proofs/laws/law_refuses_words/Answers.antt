use Rattle.std.proofs.Common.{◌≡◌, ℕ, List, ◌⊎◌, inl, inr, None, arith}
use Rattle.np_syntax.specs.declared.limits.TheConstants.{LONGEST_SOURCE}
use Rattle.np_syntax.specs.declared.program.LowProgram.{LowProgram}
use Rattle.np_words.specs.Plans.{plan}
use Rattle.np_words.specs.declared.planning.Plan.{Plan}
use Rattle.np_words.specs.declared.planning.View.{View}
use Rattle.np_words.specs.declared.planning.Plan.TheVariants as plans
use Rattle.np_sources.specs.Reaches.{Reach, reach_of}
use Rattle.np_verdict.specs.Lines.{status_of}
use Rattle.np_verdict.specs.declared.refusal.Refusal.{Refusal}
use Rattle.np_verdict.specs.declared.refusal.Refusal.TheVariants.{Usage, TooLong}
use Rattle.np_generate.specs.Generated.{generated}
use Rattle.np_sources.specs.declared.limits.TheConstants.{LOAD_BUDGET}
use Rattle.np_modes.specs.Readings.{Reading, IsUnread}
use Rattle.np_modes.specs.Causes.{IsFaultySource, RefusesHistory, RefusesRun, RefusesSaved, RefusesPlan, Stands}
use Rattle.np_sources.specs.Laws as source_laws
use Rattle.np_histories.specs.Laws as history_laws
use Rattle.np_run.specs.Answers.{Call}
use Rattle.np_answers.specs.declared.answer.Answer.{Answer}
use Rattle.np_outcomes.proofs.Outcomes.{Outcome, outcome}
use Rattle.np_outcomes.proofs.Sources.{unfit_status}
use Rattle.np_outcomes.proofs.laws.law_refuses_words.Goals as goal

module _ (sources : source_laws.HaveOneAnswer) (histories : history_laws.HaveOneAnswer) where
  -- where the words ask for nothing that the program does, usage alone stands
  usage_stands : (call : Call) (status : ℕ) (refusal : Refusal) → plan call.words ≡ None → status ≡ status_of refusal → Stands call.words call.texts refusal → status ≡ 2
  usage_stands call status refusal p e (Stands.words none) = e
  usage_stands call status refusal p e (Stands.asked asked planned refused) = cc

  -- usage is no refusal of what is asked for

  of_source : (texts : Reading) (file : List ℕ) (reach : Reach) → IsUnread texts file LONGEST_SOURCE TooLong Usage ⊎ IsFaultySource texts file reach Usage → ⊥
  of_source texts file reach (inl (inl u)) = let is = u.0 in cc
  of_source texts file reach (inl (inr u)) = let is = u.0 in cc
  of_source texts file reach (inr s) = sources.not_usage reach s.bytes s.faulty

  of_run : (texts : Reading) (history : List ℕ) (low : LowProgram) (view : View) → RefusesRun texts history low view Usage → ⊥
  of_run texts history low view (inl (inl u)) = let is = u.0 in cc
  of_run texts history low view (inl (inr u)) = let is = u.0 in cc
  of_run texts history low view (inr s) = let is = histories.run_status low view s.bytes Usage s.faulty in omega (arith, is)

  of_saved : (texts : Reading) (saved : List ℕ) (low : LowProgram) (budget : ℕ) → RefusesSaved texts saved low budget Usage → ⊥
  of_saved texts saved low budget (inl (inl u)) = let is = u.0 in cc
  of_saved texts saved low budget (inl (inr u)) = let is = u.0 in cc
  of_saved texts saved low budget (inr s) = elim (unfit_status sources histories budget low s.bytes Usage s.unfit) [ inl many ↦ cc | inr seven ↦ omega (arith, seven) ]

  of_history : (texts : Reading) (history : List ℕ) → RefusesHistory texts history Usage → ⊥
  of_history texts history (inl (inl u)) = let is = u.0 in cc
  of_history texts history (inl (inr u)) = let is = u.0 in cc
  of_history texts history (inr s) = let is = histories.status s.bytes Usage s.faulty in omega (arith, is)

  of_plan : (texts : Reading) (asked : Plan) → RefusesPlan texts asked Usage → ⊥
  of_plan texts (plans.Source file task) r = of_source texts file (reach_of task) r.cause
  of_plan texts (plans.Replay source history infra view) (inl r) = of_source texts source (Reach.low infra) r.cause
  of_plan texts (plans.Replay source history infra view) (inr r) = of_run texts history r.low view r.run
  of_plan texts (plans.Resume source saved budget history high serial links infra) (inl r) = of_source texts source (Reach.low infra) r.cause
  of_plan texts (plans.Resume source saved budget history high serial links infra) (inr r) = of_saved texts saved r.low budget r.run
  of_plan texts (plans.Upgrade history) r = of_history texts history r
  of_plan texts (plans.Generate agents) r = r
  of_plan texts (plans.Load agents serial links infra) r = sources.not_usage (Reach.sites infra LOAD_BUDGET) (generated agents) r.faulty

  -- usage stands where the words ask for nothing that the program does
  unplanned_words : (call : Call) → Stands call.words call.texts Usage → plan call.words ≡ None
  unplanned_words call (Stands.words none) = none
  unplanned_words call (Stands.asked asked planned refused) = absurd (of_plan call.texts asked refused)

  unplanned : (call : Call) (answer : Answer) → plan call.words ≡ None → Outcome call answer → answer.status ≡ 2
  unplanned call answer p (Outcome.made text h) = let q = h.planned in cc
  unplanned call answer p (Outcome.refused refusal e s) = usage_stands call answer.status refusal p e s.stands

pub returns : goal.returns
returns c = λ call answer h err some. (
  λ e. unplanned_words c.law_one_answer.ensures c.law_one_answer-2.ensures call (h.usage e).stands,
  λ p. unplanned c.law_one_answer.ensures c.law_one_answer-2.ensures call answer p (outcome call answer h err some),
)
