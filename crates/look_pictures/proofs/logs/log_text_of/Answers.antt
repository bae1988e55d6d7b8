use Rattle.std.proofs.Common.{ap, ◌∙◌}
use Rattle.shiviz_log.specs.Logs.{log}
use Rattle.look_pictures.proofs.logs.log_text_of.Goals as goal

pub returns-in-Ok : goal.returns-in-Ok
returns-in-Ok c = record {
  steps = c.in_ok-followed.followed.steps;
  of = c.in_ok-followed.ensures;
  is = c.in-Ok.ensures ∙ ap (λ l. log l c.as_slice-2.result.now) c.as_slice.ensures ∙ ap (log c.args.low.now.sites) c.as_slice-2.ensures;
}
