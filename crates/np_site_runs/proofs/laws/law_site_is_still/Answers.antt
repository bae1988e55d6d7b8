use Rattle.np_site_runs.proofs.Acting.{only_sites_can, site_is_still}
use Rattle.np_site_runs.proofs.laws.law_site_is_still.Goals as goal

pub returns-clause-still : goal.returns-clause-still
returns-clause-still c = site_is_still

pub returns-clause-sites : goal.returns-clause-sites
returns-clause-sites c = only_sites_can
