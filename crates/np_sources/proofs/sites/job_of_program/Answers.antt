use Rattle.np_on_sites.specs.ByInfrastructure.{low_by}
use Rattle.np_sources.proofs.Promises.{keeps_run, only_memory, read_off}
use Rattle.np_sources.proofs.sites.job_of_program.Goals as goal

pub job_of_kept-requires-clause-run : goal.job_of_kept-requires-clause-run
job_of_kept-requires-clause-run g c = read_off c.law_source_runs.ensures.sites _ _ _ _ _ c.in_ok-kept.ensures.made

pub returns-clause-made : goal.returns-clause-made
returns-clause-made g c =
    let e = c.job_of_kept.ensures in let course = c.args.course in let p = c.args.checked.now in
    keeps_run course.infrastructure c.args.shown p c.in_ok-kept.kept course.budget (low_by course.infrastructure p) c.in_ok-kept.ensures.made
    c.job_of_kept.result e.kept e.high e.text e.shown

pub returns-clause-refused : goal.returns-clause-refused
returns-clause-refused g c = only_memory _ c.job_of_kept.result c.job_of_kept.ensures.refused
