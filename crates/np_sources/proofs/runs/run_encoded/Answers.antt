use Rattle.std.proofs.Common.{◌≡◌, [], sym, subst}
use Rattle.std.proofs.lemmas.Result.{IfOk-weaker}
use Rattle.np_calculus.specs.Starts.{start_low}
use Rattle.np_serial.specs.Serial.{IsSerialRun}
use Rattle.np_verdict.specs.Report.{report_text}
use Rattle.np_sources.specs.declared.job.MadeRun.{MadeRun}
use Rattle.np_sources.specs.Makes.{IsLowRunOf}
use Rattle.np_sources.proofs.runs.run_encoded.Goals as goal

pub returns-in-Ok : goal.returns-in-Ok
returns-in-Ok c =
    let made = c.in-Ok.made in
    let low = c.args.low.now in
    let budget = c.args.budget in
    IfOk-weaker c.with_low_report.result _ (λ both. IsLowRunOf budget low both.0 both.1)
    (λ both is. record {
      last = made.last;
      run = subst (λ (m : MadeRun). IsSerialRun (start_low low) budget m.events made.last m.end) (sym is.0) c.in-Ok.ensures;
      report = subst (λ (m : MadeRun). both.1 ≡ report_text low.sites made.last.said [] m.end) (sym is.0) is.1;
    }) c.with_low_report.ensures
