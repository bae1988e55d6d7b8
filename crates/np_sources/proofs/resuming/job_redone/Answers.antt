use Rattle.std.proofs.Common.{◌≡◌, Option, IsSome, Some, IfSome, Ok, subst}
use Rattle.np_calculus.specs.Reductions.{run}
use Rattle.np_calculus.specs.Starts.{start_low}
use Rattle.run_merge.specs.Merged.{past}
use Rattle.run_save.specs.following.Following.{IsResumed}
use Rattle.np_on_sites.specs.declared.record.Record.{Record}
use Rattle.np_sources.specs.Makes.{RunsOnSites}
use Rattle.np_sources.specs.Reaches.{CanGoOn}
use Rattle.np_sources.proofs.Promises.{keeps_resumed, read_off}
use Rattle.np_sources.proofs.resuming.job_redone.Goals as goal

-- what is said of what there is, of what is there
its : {X : Type 0} (P : X → Type 0) (o : Option X) (x : X) → o ≡ Some x → IfSome o P → P x
its P o x is h = subst (λ o. IfSome o P) is h

pub job_of_kept-requires-clause-run : goal.job_of_kept-requires-clause-run
job_of_kept-requires-clause-run g c =
    let infrastructure = c.args.course.infrastructure in let budget = c.args.course.budget in
    let p = c.args.checked.now in let low = c.args.low.now in let kept = c.in-Some.kept in
    read_off c.law_source_runs.ensures.sites infrastructure budget p low kept
    (its (RunsOnSites infrastructure budget p low) c.in_ok-kept.field-0 kept c.in-Some.is c.in_ok-kept.ensures.made)

pub returns-in-Ok-clause-made : goal.returns-in-Ok-clause-made
returns-in-Ok-clause-made g c =
    let e = c.in-Ok.ensures in let k = c.in_ok-kept.ensures in let is = c.in-Some.is in let o = c.in_ok-kept.field-0 in
    let infrastructure = c.args.course.infrastructure in let budget = c.args.course.budget in
    let p = c.args.checked.now in let low = c.args.low.now in let events = c.args.events.now in let kept = c.in-Some.kept in
    keeps_resumed infrastructure c.args.shown p kept c.law_source_runs.ensures.sites budget low c.args._bytes.now events c.requires.typed c.requires.free
    (its (RunsOnSites infrastructure budget p low) o kept is k.made)
    (its (λ _. IsSome (run (start_low low) events)) o kept is k.run)
    (its (λ _. CanGoOn budget low events) o kept is k.can)
    (its (λ (x : Record). IsResumed events (past x.histories)) o kept is k.resumed)
    (Ok c.in-Ok.job) e.kept e.high e.text e.shown
