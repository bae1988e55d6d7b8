use Rattle.std.proofs.Common.{true, refl, subst, sym, ◌≡◌}
use Rattle.std.specs.FinSet as set
use Rattle.np_configuration.proofs.Common.{Config}
use Rattle.np_calculus.specs.Starts.{start_low, daemon_mark}
use Rattle.np_calculus.proofs.OwnNames.{daemon_mark-born}
use Rattle.np_configuration.proofs.start.start_low.Goals as goal

pub add_agent-requires : goal.add_agent-requires
add_agent-requires c = subst (λ (d : Config). set.contains d.born (daemon_mark c.len-sites.result) ≡ true) (sym c.in_ok-start.ensures) (daemon_mark-born c.len-sites.result)

pub returns-in-Ok : goal.returns-in-Ok
unfolding start_low
returns-in-Ok c = rw (c.in-Ok.ensures, c.in_ok-start.ensures, c.len-sites.ensures) refl
