use Rattle.std.proofs.lemmas.Grind.{common_steps}
use Rattle.std.proofs.Common.{◌≡◌, true, false, ◌&&◌, sym, ap, ◌∙◌, arith}
use Rattle.std.specs.Prelude.{is_some}
use Rattle.np_tables.specs.Names.{same_name}
use Rattle.np_tables.proofs.Keyed.{alike-same}
use Rattle.np_eval.specs.Eval.{bind}
use Rattle.agent_pool.proofs.Outputs.{sends-given, outputs}
use Rattle.agent_pool.proofs.Offers.{offers}
use Rattle.agent_pool.proofs.begins.offers.Goals as goal

pub returns-then-eq-2 : goal.returns-then-eq-2
returns-then-eq-2 c = λ agent env.
    let same : same_name c.args.chan c.in-Given.on ≡ true = sym (alike-same c.args.chan c.in-Given.on) ∙ sym c.eq-in-Given.ensures ∙ c.if-eq-2.true in
    rw (c.in-Given.is, sends-given c.args.code.now.processes agent c.in-Given.on c.in-Given.value c.in-Given.field-2)
    (c.matches.ensures env ∙ ap (λ t. t && is_some (bind c.args.pat.now c.in-Given.value env)) (sym same))

pub returns-else-eq-2 : goal.returns-else-eq-2
returns-else-eq-2 c = λ agent env.
    let other : same_name c.args.chan c.in-Given.on ≡ false = sym (alike-same c.args.chan c.in-Given.on) ∙ sym c.eq-in-Given.ensures ∙ c.if-eq-2.false in
    rw (c.in-Given.is, sends-given c.args.code.now.processes agent c.in-Given.on c.in-Given.value c.in-Given.field-2)
    (c.if-eq-2.false ∙ ap (λ t. t && is_some (bind c.args.pat.now c.in-Given.value env)) (sym other))

pub returns-then-eq : goal.returns-then-eq
returns-then-eq c = grind (arith, common_steps, outputs, offers)
