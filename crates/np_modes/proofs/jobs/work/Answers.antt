use Rattle.std.proofs.Common.{◌≡◌, ◌≢◌, ℕ, List, Some, Result, Ok, Err, IfErr}
use Rattle.np_words.specs.Plans.{plan}
use Rattle.np_words.specs.declared.planning.Plan.{Plan}
use Rattle.np_verdict.specs.declared.refusal.Refusal.{Refusal}
use Rattle.np_verdict.specs.declared.refusal.Refusal.TheVariants.{Memory}
use Rattle.np_sources.specs.declared.job.Job.{Job}
use Rattle.np_modes.specs.Readings.{Reading}
use Rattle.np_modes.specs.Causes.{RefusesPlan, Stands}
use Rattle.np_modes.proofs.jobs.work.Goals as goal

-- what is refused of a plan stands
stands : (words : List (List ℕ)) (texts : Reading) (p : Plan) → plan words ≡ Some p → (r : Result Job Refusal)
    → IfErr r (λ refusal. refusal ≢ Memory → RefusesPlan texts p refusal)
    → IfErr r (λ refusal. refusal ≢ Memory → Stands words texts refusal)
stands words texts p planned (Ok job) h = tt
stands words texts p planned (Err e) h = λ some. Stands.asked p planned (h some)

pub returns-in-Ok-clause-refused : goal.returns-in-Ok-clause-refused
returns-in-Ok-clause-refused g c = stands _ _ c.in-Ok.plan c.in-Ok.ensures.plans c.done.result c.done.ensures.refused

pub returns-in-Err-Usage-clause-refused : goal.returns-in-Err-Usage-clause-refused
returns-in-Err-Usage-clause-refused g c = λ _. Stands.words (rw c.in-Err-Usage.field-0-is at c.in-Err-Usage.ensures.plans)
