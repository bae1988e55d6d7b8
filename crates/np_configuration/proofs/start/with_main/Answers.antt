use Rattle.std.proofs.lemmas.Grind.{common_steps}
use Rattle.std.proofs.Common.{true, subst, sym, ◌≡◌, arith}
use Rattle.std.specs.FinSet as set
use Rattle.np_configuration.proofs.Common.{Config, main_mark}
use Rattle.np_calculus.proofs.OwnNames.{mark-born}
use Rattle.np_configuration.proofs.start.with_main.Goals as goal

pub add_agent-requires : goal.add_agent-requires
add_agent-requires c = subst (λ (d : Config). set.contains d.born (main_mark c.args.sites) ≡ true) (sym c.in_ok-start.ensures) (mark-born c.args.sites)

pub returns-in-Ok : goal.returns-in-Ok
returns-in-Ok c = grind (arith, common_steps)
