use Rattle.std.proofs.Common.{◌≡◌, None, Some, subst, sym}
use Rattle.look_sources.specs.Looked.{IsMade}
use Rattle.look_sources.proofs.runs.in_turn.Goals as goal

pub returns-in-Ok : goal.returns-in-Ok
returns-in-Ok c =
    subst (IsMade c.args.low.now c.args.budget None) (sym c.kept.ensures)
    (record { last = c.in-Ok.run'.last; goes = c.in-Ok.ensures; drawn = λ n same. absurd (let e : None ≡ Some n = same in cc) })
