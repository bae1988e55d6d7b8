use Rattle.std.proofs.Common.{length}
use Rattle.std.specs.FinMap as table
use Rattle.np_check.proofs.Resolved.{same_check, for_channels}
use Rattle.np_check.proofs.laws.law_resolved.Goals as goal

pub returns-clause-sites : goal.returns-clause-sites
returns-clause-sites c program w sound sites = λ i. same_check (length program.sites) w sites sound.main i table.empty

pub returns-clause-nodes : goal.returns-clause-nodes
returns-clause-nodes c = for_channels
