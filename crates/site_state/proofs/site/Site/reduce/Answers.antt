use Rattle.std.proofs.Common.{◌≡◌, Some, refl, sym}
use Rattle.std.proofs.lemmas.Result.{on_ok_weaker, on_err_weaker}
use Rattle.std.specs.FinMap as map
use Rattle.site_state.proofs.Done.{same_quiet}
use Rattle.site_state.proofs.Lines.{lines_same}
use Rattle.site_state.proofs.Seats.{keeps_with, quiet_with, same_again}
use Rattle.site_state.proofs.site.Site.reduce.Goals as goal

pub returns-clause-ok : goal.returns-clause-ok
returns-clause-ok c =
    let stood : map.get c.self.inside.agents.agents c.args.name ≡ Some c.in-Some.agent.now = sym c.in-Some.ensures.agent in
    let code = c.args.code.now in
    rw (← c.self.view_is) (on_ok_weaker c.go_on.result (λ goes. record {
      before = c.in-Some.agent.now;
      after = c.go_on.new.agent;
      stood = stood;
      goes = goes;
      agents = refl;
      quiet = λ q. same_quiet code _ _ refl refl (quiet_with code c.self.inside.agents c.args.name c.go_on.new.agent (same_quiet code _ _ refl refl q));
      same = record { site = refl; next = refl; clock = refl; history = refl };
      outgoing = lines_same _;
    }) c.go_on.ensures.ok)

pub returns-clause-err : goal.returns-clause-err
returns-clause-err c =
    let stood : map.get c.self.inside.agents.agents c.args.name ≡ Some c.in-Some.agent.now = sym c.in-Some.ensures.agent in
    let code = c.args.code.now in
    rw (← c.self.view_is) (on_err_weaker c.go_on.result (λ same. record {
      same = record { site = refl; agents = same_again _ _ c.args.name _ _ stood refl same; next = refl; clock = refl; history = refl; outgoing = lines_same _ };
      quiet = λ q. same_quiet code _ _ refl refl (quiet_with code c.self.inside.agents c.args.name c.go_on.new.agent (same_quiet code _ _ refl refl q));
    }) c.go_on.ensures.err)

pub invariant_of-self : goal.invariant_of-self
invariant_of-self c =
    let inv = c.self.invariant in
    let keeps = keeps_with c.self.inside.agents c.args.name c.in-Some.agent.now c.go_on.new.agent (sym c.in-Some.ensures.agent) c.go_on.ensures.name in
    (record { site = inv.0.site; budget = inv.0.budget; named = keeps.named inv.0.named; names = inv.0.names; clock = inv.0.clock; last = inv.0.last }, inv.1)
