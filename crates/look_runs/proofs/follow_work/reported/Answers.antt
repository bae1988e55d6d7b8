use Rattle.std.proofs.Common.{ap, length, ◌∙◌}
use Rattle.np_syntax.specs.declared.program.Program.{Program}
use Rattle.np_verdict.specs.Report.{replay_text}
use Rattle.look_runs.proofs.follow_work.reported.Goals as goal

pub returns-in-Ok-clause-follows : goal.returns-in-Ok-clause-follows
returns-in-Ok-clause-follows c = record {
  last = c.args.last.now;
  reaches = c.requires;
  says =
      c.in-Ok.ensures
      ∙ ap (λ (p : Program). replay_text p.sites c.said.result.now (length c.args.events.now)) c.program.ensures.value
      ∙ ap (λ said. replay_text c.args.checked.now.sites said (length c.args.events.now)) c.said.ensures;
}
