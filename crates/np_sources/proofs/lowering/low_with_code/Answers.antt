use Rattle.np_sources.proofs.Kept.{few_sites, is_compiled, runs_well, too_many}
use Rattle.np_sources.proofs.lowering.low_with_code.Goals as goal

pub coded-requires : goal.coded-requires
coded-requires c = few_sites c.in-Ok.low c.in-Ok.ensures.runs

pub returns-in-Ok-clause-made : goal.returns-in-Ok-clause-made
returns-in-Ok-clause-made c =
    let made = c.coded in
    is_compiled c.args.infrastructure c.args.checked.now c.in-Ok.low c.translated.ensures.accepted c.in-Ok.ensures.gives made.result made.ensures.same made.ensures.few

pub returns-in-Ok-clause-runs : goal.returns-in-Ok-clause-runs
returns-in-Ok-clause-runs c = runs_well c.in-Ok.low c.in-Ok.ensures.runs c.coded.result c.coded.ensures.same

pub returns-in-Ok-clause-refused : goal.returns-in-Ok-clause-refused
returns-in-Ok-clause-refused c = too_many c.args.infrastructure c.args.checked.now c.in-Ok.low c.in-Ok.ensures.gives c.coded.result c.coded.ensures.refused
