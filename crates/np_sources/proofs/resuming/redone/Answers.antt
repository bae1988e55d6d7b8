use Rattle.np_sources.proofs.Going.{never_goes_on}
use Rattle.np_sources.proofs.resuming.redone.Goals as goal

pub redo_on_sites-requires-clause-safe : goal.redo_on_sites-requires-clause-safe
redo_on_sites-requires-clause-safe g c κs within =
    c.law_low_runs_safely.ensures c.args.course.infrastructure c.args._checked.now c.args.low.now c.requires.compiled.accepted c.requires.compiled.is

pub returns-in-Ok-clause-never : goal.returns-in-Ok-clause-never
returns-in-Ok-clause-never g c = never_goes_on _ _ _ c.in-Ok.made c.in-Ok.ensures.never
