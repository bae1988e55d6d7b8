use Rattle.std.proofs.Common.{ℕ, length, subst}
use Rattle.site_state.specs.Standings.{IsNew}
use Rattle.np_calculus.specs.Starts.{daemon_agent, main_agent}
use Rattle.crew_ends.proofs.First.{agents_apart, first_is, none_there, still_free}
use Rattle.crew_ends.proofs.starting.first_site.Goals as goal

pub settle_main-requires-clause-free : goal.settle_main-requires-clause-free
settle_main-requires-clause-free c = none_there c.in_ok-site.site (main_agent (length c.args.code.now.sites)) c.in_ok-site.ensures.agents

pub settle_daemon-requires-clause-free : goal.settle_daemon-requires-clause-free
settle_daemon-requires-clause-free c =
    let n = length c.args.code.now.sites in
    still_free c.args.code.now _ (main_agent n) _ (daemon_agent n) c.args.code.now.main c.in_ok-site.site c.settle_main.new.site c.in_ok-settle_main.ensures c.in_ok-site.ensures.agents (agents_apart n)

pub returns : goal.returns
returns c =
    first_is c.args.code.now c.args.budget c.args.number c.in_ok-site.site c.settle_main.new.site c.settle_daemon.new.site
    (subst (λ (n : ℕ). IsNew c.args.number n c.args.budget c.in_ok-site.site) c.sites.ensures c.in_ok-site.ensures) c.in_ok-settle_main.ensures
    c.in_ok-settle_daemon.ensures c.requires.number.0
