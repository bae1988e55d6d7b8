use Rattle.np_sources.proofs.Kept.{low_of_source, too_large}
use Rattle.np_sources.proofs.lowering.low_of.Goals as goal

pub returns-clause-made : goal.returns-clause-made
returns-clause-made c = low_of_source c.args.infrastructure _ c.in_ok-checked.checked c.in_ok-checked.ensures.found c.low_alone-made.result c.low_alone-made.ensures.made

pub returns-clause-refused : goal.returns-clause-refused
returns-clause-refused c = too_large c.args.infrastructure _ c.in_ok-checked.checked c.in_ok-checked.ensures.found c.low_alone-made.result c.low_alone-made.ensures.refused
