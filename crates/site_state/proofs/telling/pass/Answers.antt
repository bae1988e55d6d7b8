use Rattle.site_state.proofs.Tellings.{away_row}
use Rattle.site_state.proofs.telling.pass.Goals as goal

pub returns-clause-row : goal.returns-clause-row
returns-clause-row c = away_row c.args.code.now c.args.agent.now c.local.new.self c.args.r c.args.r.actor c.in_ok-local.field-0 c.in_ok-local.ensures.row
