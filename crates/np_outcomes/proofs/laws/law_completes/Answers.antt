use Rattle.std.proofs.Common.{ℕ, ◌≤◌, List, length, inl, inr, subst, arith}
use Rattle.np_syntax.specs.declared.limits.TheConstants.{LONGEST_SOURCE}
use Rattle.np_syntax.specs.declared.program.LowProgram.{LowProgram}
use Rattle.np_words.specs.declared.planning.Plan.{Plan}
use Rattle.np_words.specs.declared.planning.Plan.TheVariants as plans
use Rattle.np_sources.specs.Reaches.{Reach, TakenTo, reach_of}
use Rattle.np_verdict.specs.declared.refusal.Refusal.{Refusal}
use Rattle.np_verdict.specs.declared.refusal.Refusal.TheVariants.{Usage, ReadFault}
use Rattle.np_generate.specs.Generated.{generated}
use Rattle.np_sources.specs.declared.limits.TheConstants.{LOAD_BUDGET}
use Rattle.np_histories.specs.declared.limits.TheConstants.{LONGEST_HISTORY}
use Rattle.np_modes.specs.Causes.{RefusesPlan, Stands}
use Rattle.np_sources.specs.Laws as source_laws
use Rattle.np_histories.specs.Laws as history_laws
use Rattle.np_run.specs.Answers.{Call}
use Rattle.np_outcomes.specs.Laws.{Accepts, FailsWith, Purpose}
use Rattle.np_outcomes.proofs.Outcomes.{refused_plan}
use Rattle.np_outcomes.proofs.Sources.{source_says}
use Rattle.np_outcomes.proofs.Histories as history
use Rattle.np_outcomes.proofs.laws.law_completes.Goals as goal

module _ (sources : source_laws.HaveOneAnswer) (histories : history_laws.HaveOneAnswer) where
  -- no refusal says anything of an accepted source
  of_source : (reach : Reach) (bytes : List ℕ) (refusal : Refusal) → length bytes ≤ LONGEST_SOURCE → TakenTo reach bytes → FailsWith reach bytes refusal → ⊥
  of_source reach bytes refusal short a (inl s) = let long = s.1 in omega arith
  of_source reach bytes refusal short a (inr s) = sources.not_both reach bytes refusal a s.1

  -- and none of an accepted history
  of_history : (purpose : Purpose) (bytes : List ℕ) (refusal : Refusal) → length bytes ≤ LONGEST_HISTORY → history.AcceptedHistory purpose bytes → history.SaysHistory purpose bytes refusal → ⊥
  of_history purpose bytes refusal short a (inl s) = let long = s.1 in omega arith
  of_history purpose bytes refusal short a (inr s) = history.not_both sources histories purpose bytes refusal a s.1

  of_plan : (call : Call) (asked : Plan) (refusal : Refusal) → Accepts call asked → RefusesPlan call.texts asked refusal → ⊥
  of_plan call (plans.Source file task) refusal a r = of_source (reach_of task) a.bytes refusal a.short a.accepted (source_says call file (reach_of task) a.bytes refusal a.told r)
  of_plan call (plans.Replay source h infra view) refusal a (inl r) =
      of_source (Reach.low infra) a.bytes refusal a.short (a.low, a.lowered) (source_says call source (Reach.low infra) a.bytes refusal a.told r)
  of_plan call (plans.Replay source h infra view) refusal a (inr r) =
      of_history (Purpose.replay a.low view) a.run refusal a.short_run a.replays
      (subst (λ (low : LowProgram). history.SaysHistory (Purpose.replay low view) a.run refusal)
      (history.same_low sources infra call source a.bytes a.low r.low a.told a.lowered r.lowered)
      (history.run_says call h r.low view a.run refusal a.told_run r.run))
  of_plan call (plans.Resume source h budget shows high serial links infra) refusal a (inl r) =
      of_source (Reach.low infra) a.bytes refusal a.short (a.low, a.lowered) (source_says call source (Reach.low infra) a.bytes refusal a.told r)
  of_plan call (plans.Resume source h budget shows high serial links infra) refusal a (inr r) =
      of_history (Purpose.resume a.low budget) a.run refusal a.short_run a.fit
      (subst (λ (low : LowProgram). history.SaysHistory (Purpose.resume low budget) a.run refusal)
      (history.same_low sources infra call source a.bytes a.low r.low a.told a.lowered r.lowered)
      (history.saved_says call h r.low budget a.run refusal a.told_run r.run))
  of_plan call (plans.Upgrade h) refusal a r = of_history Purpose.events a.bytes refusal a.short a.accepted (history.history_says call h a.bytes refusal a.told r)
  of_plan call (plans.Generate agents) refusal a r = r
  of_plan call (plans.Load agents serial links infra) refusal a r = sources.not_both (Reach.sites infra LOAD_BUDGET) (generated agents) refusal a r.faulty

pub returns : goal.returns
returns c = λ call answer asked h planned a no_out no_err.
    let none = λ (refusal : Refusal) (s : Stands call.words call.texts refusal). of_plan c.law_one_answer.ensures c.law_one_answer-2.ensures call asked refusal a (refused_plan call asked refusal planned s) in
    elim (h.status) [
      | inl e ↦ inl e
      | inr rest ↦ elim rest [
        | inl e ↦ inr (inl e)
        | inr rest ↦ elim rest [
          | inl e ↦ absurd (none Usage (h.usage e).stands)
          | inr rest ↦ elim rest [
            | inl e ↦ let s = h.source e in absurd (none s.refusal s.refused.stands)
            | inr rest ↦ elim rest [
              | inl e ↦ absurd (none ReadFault (h.read e).stands)
              | inr rest ↦ elim rest [
                | inl e ↦ elim (h.write e) [ inl s ↦ absurd (no_out s.rose) | inr s ↦ absurd (none s.refusal s.stands) ]
                | inr rest ↦ elim rest [
                  | inl e ↦ inr (inr e)
                  | inr e ↦ let s = h.history e in absurd (none s.refusal s.refused.stands)
                ]
              ]
            ]
          ]
        ]
      ]
    ]
