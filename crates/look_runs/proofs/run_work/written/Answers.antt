use Rattle.std.proofs.Common.{refl, ap, ◌∙◌}
use Rattle.np_syntax.specs.declared.program.Program.{Program}
use Rattle.np_calculus.specs.Config.{Config}
use Rattle.np_verdict.specs.Report.{report_text}
use Rattle.look_runs.proofs.run_work.written.Goals as goal

pub returns : goal.returns
returns c = record {
  run = c.args.run.now;
  goes = c.requires;
  ends = refl;
  between = c.args.between.now;
  text =
      c.in_ok-text.ensures
      ∙ ap (λ (p : Program). report_text p.sites c.said-said.result.now c.args.between.now c.args.run.now.end) c.program.ensures.value
      ∙ ap (λ said. report_text c.args.checked.now.sites said c.args.between.now c.args.run.now.end) (c.said-said.ensures ∙ ap (λ (d : Config). d.said) c.get.ensures);
}
