-- What is made of a generated source, or refused of it.
use Rattle.std.proofs.Common.{◌≢◌, ℕ, ◌≤◌, length, Result, Ok, Err, IfOk, IfErr}
use Rattle.np_syntax.specs.declared.limits.TheConstants.{LONGEST_SOURCE}
use Rattle.np_generate.specs.Generated.{generated}
use Rattle.np_verdict.specs.declared.refusal.Refusal.{Refusal}
use Rattle.np_verdict.specs.declared.refusal.Refusal.TheVariants.{Memory}
use Rattle.np_words.specs.declared.modes.Infrastructure.{Infrastructure}
use Rattle.np_sources.specs.declared.job.Job.{Job}
use Rattle.np_sources.specs.declared.limits.TheConstants.{LOAD_BUDGET}
use Rattle.np_sources.specs.Reaches.{Reach, FaultyTo}
use Rattle.np_sources.specs.Makes.{DoesLoad}
use Rattle.np_modes.specs.Causes.{OfLoad, RefusesLoad}

pub load_made : (infrastructure : Infrastructure) (agents : ℕ) (r : Result Job Refusal) → length (generated agents) ≤ LONGEST_SOURCE
    → IfOk r (λ job. DoesLoad infrastructure agents job.kept job.high job.text) → IfOk r (λ job. OfLoad infrastructure agents job.kept job.high job.text)
load_made infrastructure agents (Ok job) short does = record { short = short; does = does }
load_made infrastructure agents (Err e) short does = tt

pub load_refused : (infrastructure : Infrastructure) (agents : ℕ) (r : Result Job Refusal) → length (generated agents) ≤ LONGEST_SOURCE
    → IfErr r (λ refusal. refusal ≢ Memory → FaultyTo (Reach.sites infrastructure LOAD_BUDGET) (generated agents) refusal)
    → IfErr r (λ refusal. refusal ≢ Memory → RefusesLoad infrastructure agents refusal)
load_refused infrastructure agents (Ok job) short h = tt
load_refused infrastructure agents (Err e) short h = λ some. record { short = short; faulty = h some }
