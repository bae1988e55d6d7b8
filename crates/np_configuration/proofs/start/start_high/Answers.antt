use Rattle.std.proofs.Common.{subst, ◌≡◌}
use Rattle.std.specs.Prelude.{IfOk}
use Rattle.np_configuration.proofs.Common.{main_mark}
use Rattle.np_calculus.specs.Starts.{start_high, main_agent, names_alone, with_agent}
use Rattle.np_configuration.proofs.start.start_high.Goals as goal

pub returns : goal.returns
unfolding start_high
returns c = subst (λ n. IfOk c.with_main.result (λ d. d ≡ with_agent (names_alone n) (main_agent n) c.args.p.now.at (main_mark n) c.args.p.now.main)) c.len-sites.ensures c.with_main.ensures
