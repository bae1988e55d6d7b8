use Rattle.std.proofs.Common.{sym, subst}
use Rattle.std.proofs.lemmas.Result.{IfOk-weaker}
use Rattle.np_syntax.specs.declared.program.Program.{Program}
use Rattle.np_calculus.specs.Runs.{RunsWell}
use Rattle.np_calculus.specs.Starts.{start_high}
use Rattle.np_serial.specs.Serial.{IsSerialRun}
use Rattle.np_sources.specs.declared.job.MadeRun.{MadeRun}
use Rattle.np_sources.specs.Makes.{HasRun, IsReportOf, IsRunOf}
use Rattle.np_sources.proofs.runs.run.Goals as goal

pub run_serial-requires : goal.run_serial-requires
run_serial-requires c =
    let of = c.program.ensures in
    subst (λ (p : Program). RunsWell (start_high p) p.at) (sym of.value) (c.law_runs_well.ensures _ of.accepted)

pub with_report-requires-clause-run : goal.with_report-requires-clause-run
with_report-requires-clause-run c =
    let made = c.in-Ok.made in
    subst (λ (p : Program). HasRun p made.events made.last) c.program.ensures.value c.in-Ok.ensures.reaches

pub returns-in-Ok : goal.returns-in-Ok
returns-in-Ok c =
    let made = c.in-Ok.made in
    let p = c.args.checked.now in
    let high = c.args.high in
    let budget = c.args.budget in
    let ran = subst (λ (q : Program). IsSerialRun (start_high q) budget made.events made.last made.end) c.program.ensures.value c.in-Ok.ensures in
    IfOk-weaker c.with_report.result _ (λ both. IsRunOf budget high p both.0 both.1)
    (λ both is. record {
      last = made.last;
      run = subst (λ (m : MadeRun). IsSerialRun (start_high p) budget m.events made.last m.end) (sym is.0) ran;
      report = subst (λ (m : MadeRun). IsReportOf high p m.events made.last m.end both.1) (sym is.0) is.1;
    }) c.with_report.ensures
