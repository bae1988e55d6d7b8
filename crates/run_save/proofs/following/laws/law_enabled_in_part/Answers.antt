use Rattle.run_save.proofs.following.Parts.{enabled_in_part, event_is_of_site}
use Rattle.run_save.proofs.following.laws.law_enabled_in_part.Goals as goal

pub returns-clause-site : goal.returns-clause-site
returns-clause-site c = event_is_of_site

pub returns-clause-part : goal.returns-clause-part
returns-clause-part c = enabled_in_part
