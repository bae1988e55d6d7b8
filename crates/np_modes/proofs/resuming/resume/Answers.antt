use Rattle.std.proofs.Common.{inl}
use Rattle.np_modes.proofs.Later.{resume_made, resume_refused}
use Rattle.np_modes.proofs.resuming.resume.Goals as goal

pub returns-in-Ok-clause-made : goal.returns-in-Ok-clause-made
returns-in-Ok-clause-made g c =
    let course = c.args.course in
    resume_made _ _ _ _ _ _ _ _ _ _ c.read_source.ensures.held c.read_source.ensures.later c.args.source.now c.args.saved.now course.infrastructure course.budget _
    c.in-Ok.source.bytes c.in-Ok.ensures.read c.resume_source-made.result c.resume_source-made.ensures.made

pub returns-in-Ok-clause-refused : goal.returns-in-Ok-clause-refused
returns-in-Ok-clause-refused g c =
    let course = c.args.course in
    resume_refused _ _ _ _ _ _ _ _ _ _ c.read_source.ensures.held c.read_source.ensures.later c.args.source.now c.args.saved.now course.infrastructure course.budget
    c.in-Ok.source.bytes c.in-Ok.source.checked c.in-Ok.source.low c.in-Ok.ensures.read c.in-Ok.ensures.typed c.in-Ok.ensures.compiled c.resume_source-made.result c.resume_source-made.ensures.refused

pub returns-in-Err-clause-refused : goal.returns-in-Err-clause-refused
returns-in-Err-clause-refused g c = λ some. inl (c.in-Err.ensures.refused some)
