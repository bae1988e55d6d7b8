use Rattle.std.proofs.Common.{ℕ, Some, subst, sym}
use Rattle.np_syntax.proofs.Options.{done}
use Rattle.np_calculus.specs.Starts.{start_low}
use Rattle.run_choices.specs.InTurn.{IsDrawn}
use Rattle.look_sources.specs.Looked.{IsMade}
use Rattle.look_sources.proofs.runs.seeded.Goals as goal

pub returns-in-Ok : goal.returns-in-Ok
returns-in-Ok c =
    let low = c.args.low.now in
    let is = c.in-Ok.ensures in
    subst (IsMade low c.args.budget (Some c.args.seed)) (sym c.kept.ensures) (record {
      last = c.in-Ok.run'.last;
      goes = is.run;
      drawn = λ n same. subst (λ (s : ℕ). IsDrawn (start_low low) s c.in-Ok.run'.events) (sym (done same)) is.drawn;
    })
