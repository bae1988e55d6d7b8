use Rattle.std.proofs.Common.{◌≡◌, Some, sym, ap, ◌∙◌}
use Rattle.std.specs.FinMap as map
use Rattle.np_syntax.specs.declared.event.Kind.TheVariants as kind
use Rattle.site_state.proofs.Done.{keeps_after}
use Rattle.site_state.proofs.Rows.{met_here}
use Rattle.site_state.proofs.Seats.{absent_again, back_again, same_again}
use Rattle.site_state.proofs.leaving.depart_in.Goals as goal

pub depart-requires : goal.depart-requires
depart-requires c =
    let stood : map.get c.args.agents.now.agents c.args.name ≡ Some c.in-Some.agent = ap (λ m. map.get m c.args.name) (sym c.in_ok-reserve.ensures.agents) ∙ sym c.in-Some.ensures.agent in
    met_here c.args.code.now c.args.agents.now.agents c.args.name c.args.r kind.Depart c.requires.kind c.requires.can c.in-Some.agent stood c.args.name c.args.name

pub put-requires-clause-absent : goal.put-requires-clause-absent
put-requires-clause-absent c =
    let stood : map.get c.args.agents.now.agents c.args.name ≡ Some c.in-Some.agent = ap (λ m. map.get m c.args.name) (sym c.in_ok-reserve.ensures.agents) ∙ sym c.in-Some.ensures.agent in
    absent_again _ _ c.args.name _ c.take.ensures.agents (c.depart.ensures.name ∙ c.requires.named.each _ _ stood)

pub returns-in-Ok-clause-ok : goal.returns-in-Ok-clause-ok
returns-in-Ok-clause-ok c =
    let stood : map.get c.args.agents.now.agents c.args.name ≡ Some c.in-Some.agent = ap (λ m. map.get m c.args.name) (sym c.in_ok-reserve.ensures.agents) ∙ sym c.in-Some.ensures.agent in
    record {
      before = c.in-Some.agent;
      stood = stood;
      named = c.requires.named.each _ _ stood;
      still_named = c.depart.ensures.name ∙ c.requires.named.each _ _ stood;
      goes = c.in-Ok.ensures.row;
      agents = c.take.ensures.agents ∙ ap (λ m. map.remove m c.args.name) c.in_ok-reserve.ensures.agents;
    }

pub returns-in-Ok-clause-keeps : goal.returns-in-Ok-clause-keeps
returns-in-Ok-clause-keeps c = keeps_after _ _ _ c.in_ok-reserve.ensures.agents c.in_ok-reserve.ensures.quiet c.take.ensures.named c.take.ensures.still

pub returns-in-Err-clause-err : goal.returns-in-Err-clause-err
returns-in-Err-clause-err c =
    let stood : map.get c.args.agents.now.agents c.args.name ≡ Some c.in-Some.agent = ap (λ m. map.get m c.args.name) (sym c.in_ok-reserve.ensures.agents) ∙ sym c.in-Some.ensures.agent in
    same_again _ _ c.args.name _ _ stood (back_again _ _ _ _ c.args.name _ _ c.in_ok-reserve.ensures.agents c.take.ensures.agents (c.depart.ensures.name ∙ c.requires.named.each _ _ stood) c.put.ensures.agents) c.in-Err.ensures.err

pub returns-in-Err-clause-keeps : goal.returns-in-Err-clause-keeps
returns-in-Err-clause-keeps c =
    keeps_after _ _ _ c.in_ok-reserve.ensures.agents c.in_ok-reserve.ensures.quiet (λ h. c.put.ensures.named (c.take.ensures.named h)) (λ code h. c.put.ensures.still code (c.take.ensures.still code h))
