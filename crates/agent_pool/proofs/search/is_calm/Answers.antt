use Rattle.std.proofs.Common.{◌≡◌, sym, ◌∙◌}
use Rattle.agent_pool.specs.Held.{atom_of, wait_of}
use Rattle.agent_pool.proofs.Calms.{calm-of, none-begun}
use Rattle.agent_pool.proofs.search.is_calm.Goals as goal

pub returns-in-Acts : goal.returns-in-Acts
returns-in-Acts c = λ t.
    let filed : c.in-Some-wait.wait ≡ wait_of c.args.code.now.processes c.in-Some.held.now = c.same.ensures.0 c.if-not-same.false ∙ c.wait_of.ensures in
    calm-of c.args.code.now c.args.atoms.now.items c.args.mark c.in-Some.held.now c.in-Some-wait.wait c.in-Some.ensures (sym c.in-Some-wait.is ∙ c.wait.ensures)
    (none-begun _ c.args.mark (atom_of c.args.code.now.processes c.args.mark c.in-Some.held.now) c.alone.result (c.alone.ensures.is c.args.mark) (sym c.is_some.ensures ∙ c.if-is_some.false))
    filed (λ chan e. absurd (let x = sym c.in-Acts.is ∙ e in cc))
