use Rattle.std.proofs.Common.{◌≡◌, ◌≢◌, ◌≤◌, ℕ, List, length, IfErr, sym, subst, ◌∙◌}
use Rattle.np_syntax.specs.declared.limits.TheConstants.{LONGEST_SOURCE}
use Rattle.np_generate.specs.Generated.{generated}
use Rattle.np_verdict.specs.declared.refusal.Refusal.TheVariants.{Memory}
use Rattle.np_sources.specs.declared.limits.TheConstants.{LOAD_BUDGET}
use Rattle.np_sources.specs.Reaches.{Reach, FaultyTo}
use Rattle.np_sources.proofs.Promises.{refused_absent}
use Rattle.np_sources.proofs.Short.{short}
use Rattle.np_sources.proofs.loads.load_of.Goals as goal

pub job_on_sites-requires-clause-short : goal.job_on_sites-requires-clause-short
job_on_sites-requires-clause-short g c κs within =
    let is : c.as_slice.result.now ≡ generated c.args.agents = c.as_slice.ensures ∙ c.in-Ok.ensures in
    subst (λ (b : List ℕ). length b ≤ LONGEST_SOURCE) (sym is) (short c.args.agents c.requires.within)

pub returns-in-Ok-clause-short : goal.returns-in-Ok-clause-short
returns-in-Ok-clause-short g c = short c.args.agents c.requires.within

pub returns-in-Ok-clause-refused : goal.returns-in-Ok-clause-refused
returns-in-Ok-clause-refused g c =
    let is : c.as_slice.result.now ≡ generated c.args.agents = c.as_slice.ensures ∙ c.in-Ok.ensures in
    let made = c.job_on_sites in
    subst (λ (b : List ℕ). IfErr made.result (λ refusal. refusal ≢ Memory → FaultyTo (Reach.sites c.args.infrastructure LOAD_BUDGET) b refusal)) is
    (refused_absent (Reach.sites c.args.infrastructure LOAD_BUDGET) c.as_slice.result.now made.result made.ensures.refused)

pub returns-in-Err-clause-short : goal.returns-in-Err-clause-short
returns-in-Err-clause-short g c = short c.args.agents c.requires.within
