use Rattle.std.proofs.Common.{◌≡◌, true, Some, refl, sym, subst}
use Rattle.std.specs.FinMap as map
use Rattle.agent_pool.specs.Moves.{LocalLeaves}
use Rattle.site_state.proofs.Rows.{met_told}
use Rattle.site_state.proofs.Seats.{keeps_with, same_again}
use Rattle.site_state.proofs.Sites.{on_any}
use Rattle.site_state.proofs.telling.tell_in.Goals as goal

pub local-requires : goal.local-requires
local-requires c =
    let stood : map.get c.args.agents.now.agents c.args.name ≡ Some c.in-Some.agent.now = sym c.in-Some.ensures.agent in
    met_told c.args.code.now c.args.agents.now.agents c.args.name c.args.r c.requires.kind c.requires.can c.in-Some.agent.now stood c.args.mark

pub returns-clause-ok : goal.returns-clause-ok
returns-clause-ok c = record {
  before = c.in-Some.agent.now;
  after = c.local.new.self;
  stood = sym c.in-Some.ensures.agent;
  told = subst (λ o. LocalLeaves c.args.code.now c.in-Some.agent.now c.local.new.self c.args.r c.args.mark true o) c.in-Some-2.is c.in_ok-packet.ensures.row;
  spare = c.in_ok-packet.ensures.spare;
  agents = refl;
}

pub returns-clause-keeps : goal.returns-clause-keeps
returns-clause-keeps c = keeps_with c.args.agents.now c.args.name c.in-Some.agent.now c.local.new.self (sym c.in-Some.ensures.agent) c.local.ensures.name

pub returns-in_err-packet-clause-err : goal.returns-in_err-packet-clause-err
returns-in_err-packet-clause-err c = on_any c.from_residual.result (same_again _ _ c.args.name _ _ (sym c.in-Some.ensures.agent) refl c.in_err-packet.ensures.err)

pub returns-in_err-packet-clause-keeps : goal.returns-in_err-packet-clause-keeps
returns-in_err-packet-clause-keeps c = keeps_with c.args.agents.now c.args.name c.in-Some.agent.now c.local.new.self (sym c.in-Some.ensures.agent) c.local.ensures.name
