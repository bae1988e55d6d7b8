use Rattle.std.proofs.Common.{arith}
use Rattle.std.proofs.lemmas.Grind.{common_steps}
use Rattle.np_parse.proofs.Sites.{sites_refused, sites_ended, sites_unended, sites_stuck, sites_step, name_takes}
use Rattle.np_parse.proofs.programs.sites.Goals as goal

pub returns-then-ends : goal.returns-then-ends
returns-then-ends c = grind (arith, common_steps, sites_refused, sites_ended, sites_unended, sites_stuck, sites_step, name_takes)

pub returns-in_err-site : goal.returns-in_err-site
returns-in_err-site c = grind (arith, common_steps, sites_refused, sites_ended, sites_unended, sites_stuck, sites_step, name_takes)

pub sites-smaller : goal.sites-smaller
sites-smaller c = grind (arith, common_steps, sites_refused, sites_ended, sites_unended, sites_stuck, sites_step, name_takes)

pub returns-in_err-take : goal.returns-in_err-take
returns-in_err-take c = grind (arith, common_steps, sites_refused, sites_ended, sites_unended, sites_stuck, sites_step, name_takes)

pub sites-preserved : goal.sites-preserved
sites-preserved c = grind (arith, common_steps, sites_refused, sites_ended, sites_unended, sites_stuck, sites_step, name_takes)

pub returns-in_err-peek : goal.returns-in_err-peek
returns-in_err-peek c = grind (arith, common_steps, sites_refused, sites_ended, sites_unended, sites_stuck, sites_step, name_takes)
