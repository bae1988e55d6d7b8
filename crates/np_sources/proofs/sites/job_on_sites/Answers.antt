use Rattle.np_sources.proofs.Promises.{kept_of, refused_of, residual}
use Rattle.np_sources.proofs.sites.job_on_sites.Goals as goal

pub returns-in_err-checked-clause-refused : goal.returns-in_err-checked-clause-refused
returns-in_err-checked-clause-refused g c = residual c.from_residual.result c.in_err-checked.field-0.0 _ c.from_residual.ensures c.in_err-checked.ensures.refused

pub returns-clause-made : goal.returns-clause-made
returns-clause-made g c =
    let course = c.args.course in let checked = c.in_ok-checked in
    kept_of c.law_source_runs.ensures.sites course.infrastructure course.budget c.args.shown c.args.bytes.now checked.checked checked.ensures.found checked.ensures.free
    c.job_of_program-made.result c.job_of_program-made.ensures.made

pub returns-clause-refused : goal.returns-clause-refused
returns-clause-refused g c =
    let course = c.args.course in let checked = c.in_ok-checked in
    refused_of course.infrastructure course.budget _ c.args.bytes.now checked.checked checked.ensures.found checked.ensures.free
    c.job_of_program-made.result c.job_of_program-made.ensures.refused
