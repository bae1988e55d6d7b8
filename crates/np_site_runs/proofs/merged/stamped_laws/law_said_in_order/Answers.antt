use Rattle.np_site_runs.proofs.merged.Saying.{said_in_order}
use Rattle.np_site_runs.proofs.merged.stamped_laws.law_said_in_order.Goals as goal

pub returns : goal.returns
returns c = said_in_order
