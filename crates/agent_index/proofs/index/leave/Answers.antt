use Rattle.std.proofs.Common.{sym}
use Rattle.agent_index.proofs.InSteps.{step-cut, step-none}
use Rattle.agent_index.proofs.index.leave.Goals as goal

pub returns-in-Some-clause-step : goal.returns-in-Some-clause-step
returns-in-Some-clause-step g c =
    let kept = c.in-Some.field-0.now in
    step-cut c.args.entries.now.items c.args.lanes.now.lanes c.requires c.leave.new.self.lanes c.args.mark kept.0 kept.1 (sym c.in-Some.ensures) c.leave.ensures.lines

pub returns-in_default-clause-step : goal.returns-in_default-clause-step
returns-in_default-clause-step g c = step-none c.args.entries.now.items c.args.lanes.now.lanes c.requires c.args.mark (sym c.in_default.ensures)
