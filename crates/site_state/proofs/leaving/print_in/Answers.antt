use Rattle.std.proofs.Common.{◌≡◌, Some, refl, sym}
use Rattle.std.proofs.lemmas.Result.{IfOk-weaker, on_err_weaker}
use Rattle.std.specs.FinMap as map
use Rattle.np_syntax.specs.declared.event.Kind.TheVariants as kind
use Rattle.site_state.proofs.Rows.{met_here}
use Rattle.site_state.proofs.Seats.{keeps_with, same_again}
use Rattle.site_state.proofs.leaving.print_in.Goals as goal

pub print-requires : goal.print-requires
print-requires c =
    let stood : map.get c.args.agents.now.agents c.args.name ≡ Some c.in-Some.agent.now = sym c.in-Some.ensures.agent in
    met_here c.args.code.now c.args.agents.now.agents c.args.name c.args.r kind.Print c.requires.kind c.requires.can c.in-Some.agent.now stood c.args.name c.args.name

pub returns-clause-ok : goal.returns-clause-ok
returns-clause-ok c =
    let stood : map.get c.args.agents.now.agents c.args.name ≡ Some c.in-Some.agent.now = sym c.in-Some.ensures.agent in
    IfOk-weaker c.print.result _ _ (λ value goes. record { before = c.in-Some.agent.now; after = c.print.new.self; stood = stood; goes = goes; agents = refl }) c.print.ensures.row

pub returns-clause-err : goal.returns-clause-err
returns-clause-err c =
    let stood : map.get c.args.agents.now.agents c.args.name ≡ Some c.in-Some.agent.now = sym c.in-Some.ensures.agent in
    on_err_weaker c.print.result (same_again _ _ c.args.name _ _ stood refl) c.print.ensures.err

pub returns-clause-keeps : goal.returns-clause-keeps
returns-clause-keeps c = keeps_with _ c.args.name c.in-Some.agent.now _ (sym c.in-Some.ensures.agent) c.print.ensures.name
