use Rattle.std.proofs.Common.{◌+◌, ◌-◌, arith, length}
use Rattle.std.proofs.lemmas.Grind.{common_steps}
use Rattle.source_places.proofs.Walks.{begun-none, begun-step}
use Rattle.source_places.proofs.place.column_in.Goals as goal

pub loop-preserved : goal.loop-preserved
loop-preserved c =
    let step = begun-step (length c.args.line.now) c.loop.index c.loop.left c.loop.rest.now c.loop-test.true in
    grind (arith, common_steps, step)

pub returns : goal.returns
returns c =
    let none = begun-none (length c.args.line.now) c.loop.index c.loop.left c.loop.rest.now c.loop-test.false in
    grind (arith, common_steps, none)
