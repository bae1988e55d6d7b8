use Rattle.np_site_runs.proofs.merged.Linking.{links_lead}
use Rattle.np_site_runs.proofs.merged.stamped_laws.law_links.Goals as goal

pub returns : goal.returns
returns c = links_lead
