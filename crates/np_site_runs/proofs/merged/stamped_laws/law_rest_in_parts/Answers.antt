use Rattle.np_site_runs.proofs.merged.Resting.{can_in_parts, idle_in_parts}
use Rattle.np_site_runs.proofs.merged.stamped_laws.law_rest_in_parts.Goals as goal

pub returns-clause-can : goal.returns-clause-can
returns-clause-can c = can_in_parts

pub returns-clause-idle : goal.returns-clause-idle
returns-clause-idle c = idle_in_parts
