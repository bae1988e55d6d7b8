use Rattle.np_site_runs.proofs.Making.{made_in_spread}
use Rattle.np_site_runs.proofs.holding_laws.law_names_made.Goals as goal

pub returns : goal.returns
returns c = made_in_spread
