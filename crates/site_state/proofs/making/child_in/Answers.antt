use Rattle.std.proofs.Common.{◌≡◌, Some, sym, ap, ◌∙◌}
use Rattle.std.specs.FinMap as map
use Rattle.np_syntax.specs.declared.event.Kind.TheVariants as kind
use Rattle.site_state.proofs.Rows.{met_here}
use Rattle.site_state.proofs.Done.{keeps_after}
use Rattle.site_state.proofs.Seats.{keeps_with, same_again}
use Rattle.site_state.proofs.Sites.{on_any}
use Rattle.site_state.proofs.making.child_in.Goals as goal

pub child-requires : goal.child-requires
child-requires c =
    let stood : map.get c.args.agents.now.agents c.args.name ≡ Some c.in-Some.agent.now = ap (λ m. map.get m c.args.name) (sym c.in_ok-reserve.ensures.agents) ∙ sym c.in-Some.ensures.agent in
    met_here c.args.code.now c.args.agents.now.agents c.args.name c.args.r kind.Agent c.requires.kind c.requires.can c.in-Some.agent.now stood c.args.child c.args.mark

pub returns-clause-ok : goal.returns-clause-ok
returns-clause-ok c =
    let stood : map.get c.args.agents.now.agents c.args.name ≡ Some c.in-Some.agent.now = ap (λ m. map.get m c.args.name) (sym c.in_ok-reserve.ensures.agents) ∙ sym c.in-Some.ensures.agent in
    record {
      before = c.in-Some.agent.now;
      after = c.child.new.self;
      born = c.in_ok-born.born;
      stood = stood;
      births = c.in_ok-born.ensures.row;
      agents = c.settle.ensures.agents ∙ (λ i. map.insert (map.insert (c.in_ok-reserve.ensures.agents i) c.args.name c.child.new.self) (c.in_ok-born.ensures.row.name i) c.in_ok-born.born);
    }

pub returns-clause-keeps : goal.returns-clause-keeps
returns-clause-keeps c =
    let with = keeps_with c.reserve.new.self c.args.name c.in-Some.agent.now c.child.new.self (sym c.in-Some.ensures.agent) c.child.ensures.name in
    keeps_after _ _ _ c.in_ok-reserve.ensures.agents c.in_ok-reserve.ensures.quiet (λ h. c.settle.ensures.keeps.named (with.named h)) (λ code h. c.settle.ensures.keeps.quiet code (with.quiet code h))

pub returns-in_err-born-clause-err : goal.returns-in_err-born-clause-err
returns-in_err-born-clause-err c =
    let stood : map.get c.args.agents.now.agents c.args.name ≡ Some c.in-Some.agent.now = ap (λ m. map.get m c.args.name) (sym c.in_ok-reserve.ensures.agents) ∙ sym c.in-Some.ensures.agent in
    on_any c.from_residual-in_err-born.result (same_again _ _ c.args.name _ _ stood (ap (λ m. map.insert m c.args.name c.child.new.self) c.in_ok-reserve.ensures.agents) c.in_err-born.ensures.err)

pub returns-in_err-born-clause-keeps : goal.returns-in_err-born-clause-keeps
returns-in_err-born-clause-keeps c =
    let with = keeps_with c.reserve.new.self c.args.name c.in-Some.agent.now c.child.new.self (sym c.in-Some.ensures.agent) c.child.ensures.name in
    keeps_after _ _ _ c.in_ok-reserve.ensures.agents c.in_ok-reserve.ensures.quiet with.named with.quiet
