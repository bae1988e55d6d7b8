use Rattle.std.proofs.Common.{refl, subst, sym}
use Rattle.np_syntax.specs.declared.program.Program.{Program}
use Rattle.np_calculus.specs.Runs.{RunsWell}
use Rattle.np_calculus.specs.Starts.{start_high}
use Rattle.np_serial.specs.Serial.{IsSerialRun}
use Rattle.run_choices.specs.Runs.{AreChosen}
use Rattle.look_pictures.specs.Looks.{IsViewedAlone}
use Rattle.look_pictures.proofs.pictures.alone.Goals as goal

pub run_seeded-requires : goal.run_seeded-requires
run_seeded-requires c =
    let of = c.program.ensures in
    subst (λ (p : Program). RunsWell (start_high p) p.at) (sym of.value) (c.law_runs_well.ensures _ of.accepted)

pub returns-in_ok-text-in-Ok : goal.returns-in_ok-text-in-Ok
returns-in_ok-text-in-Ok c =
    let of = c.program.ensures in
    let run = c.in-Ok.run' in
    let view = c.args.wanted.now.view in
    record {
      p = c.args.checked.now;
      accepted = of.accepted;
      run = run;
      goes = subst (λ (p : Program). IsSerialRun (start_high p) c.args.wanted.now.budget run.events run.last run.end) of.value c.in-Ok.ensures.run;
      drawn = subst (λ (p : Program). AreChosen (start_high p) c.args.seed run.events) of.value c.in-Ok.ensures.drawn;
      viewed = subst (λ events. IsViewedAlone view events c.in_ok-text-in-Ok.text) c.as_slice.ensures c.in_ok-text-in-Ok.ensures;
      ends = refl;
    }
