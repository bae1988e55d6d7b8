use Rattle.np_sources.proofs.Promises.{free_for, refused_first}
use Rattle.np_sources.proofs.sites.checked_to_run.Goals as goal

pub returns-clause-free : goal.returns-clause-free
returns-clause-free c = free_for _ _ c.high_of.ensures c.checked_for.result c.checked_for.ensures.free

pub returns-clause-refused : goal.returns-clause-refused
returns-clause-refused c =
    let course = c.args._course in refused_first course.infrastructure course.budget _ _ c.args.bytes.now c.high_of.ensures c.checked_for.result c.checked_for.ensures.refused
