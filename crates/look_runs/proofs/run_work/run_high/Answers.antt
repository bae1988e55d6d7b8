use Rattle.std.proofs.Common.{subst, sym}
use Rattle.np_syntax.specs.declared.program.Program.{Program}
use Rattle.np_calculus.specs.Runs.{RunsWell}
use Rattle.np_calculus.specs.Starts.{start_high}
use Rattle.look_runs.specs.Seeded.{IsHighRun}
use Rattle.look_runs.proofs.run_work.run_high.Goals as goal

pub run_seeded-requires : goal.run_seeded-requires
run_seeded-requires c =
    let of = c.program.ensures in
    subst (λ (p : Program). RunsWell (start_high p) p.at) (sym of.value) (c.law_runs_well.ensures _ of.accepted)

pub returns-in-Ok : goal.returns-in-Ok
returns-in-Ok c =
    subst (λ (p : Program). IsHighRun p c.args.way c.in-Ok.run') c.program.ensures.value (record { goes = c.in-Ok.ensures.run; drawn = c.in-Ok.ensures.drawn })
