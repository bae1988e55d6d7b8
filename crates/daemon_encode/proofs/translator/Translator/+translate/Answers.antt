use Rattle.std.proofs.Common.{◌+◌, ap, sym, ◌∙◌, arith}
use Rattle.std.proofs.lemmas.Grind.{common_steps}
use Rattle.infrastructure_texts.specs.Pieces.{variable}
use Rattle.daemon_encode.specs.Encoded.{translated}
use Rattle.daemon_encode.proofs.Forms.{form-agent, form-if, form-iflocal, form-inp, form-let, form-lookup, form-migrate, form-new, form-par, form-rep}
use Rattle.daemon_encode.proofs.Numbers.{between_fit, first_fits, form_fits, left_fits, numbers-go-on, own_form_fits, right_fits, second_fits}
use Rattle.daemon_encode.proofs.Sizes.{form_size, size-agent, size-form, size-if, size-iflocal, size-inp, size-let, size-lookup, size-migrate, size-new, size-par, size-rep}
use Rattle.daemon_encode.proofs.translator.Translator.+translate.Goals as goal

pub child-overflow_add-next : goal.child-overflow_add-next
child-overflow_add-next t c = omega (arith, numbers-go-on c.args.self.sites c.args.p.now (variable c.args.child) (c.args.next + 1))

pub rest-overflow_add-letter : goal.rest-overflow_add-letter
rest-overflow_add-letter t c = omega (arith, numbers-go-on c.args.self.sites c.args.p.now c.args.agent.now (c.args.letter + 2))

pub translate-form-requires : goal.translate-form-requires
translate-form-requires t c = let last = own_form_fits c.args.self.sites c.args.p.now c.get.result.now c.args.agent.now c.args.next c.get.ensures c.requires in
    let weight = size-form c.args.p.now ∙ ap form_size (sym c.get.ensures) in
    grind (arith, common_steps)

pub form-translate-requires-in-New : goal.form-translate-requires-in-New
form-translate-requires-in-New t c =
    let fits = form_fits c.args.self.sites c.args.form.now _ c.args.tag c.args.at c.args.agent.now c.args.next _ c.in-New.is (form-new c.args.self.sites c.args.tag c.args.at c.args.agent.now c.args.next c.in-New.chan c.in-New.ty c.in-New.body) c.requires in
    let weight = ap form_size c.in-New.is ∙ size-new c.in-New.chan c.in-New.ty c.in-New.body in
    grind (arith, common_steps)

pub form-translate-requires-in-Inp : goal.form-translate-requires-in-Inp
form-translate-requires-in-Inp t c =
    let fits = form_fits c.args.self.sites c.args.form.now _ c.args.tag c.args.at c.args.agent.now c.args.next _ c.in-Inp.is (form-inp c.args.self.sites c.args.tag c.args.at c.args.agent.now c.args.next c.in-Inp.chan c.in-Inp.names c.in-Inp.body) c.requires in
    let weight = ap form_size c.in-Inp.is ∙ size-inp c.in-Inp.chan c.in-Inp.names c.in-Inp.body in
    grind (arith, common_steps)

pub form-translate-requires-in-Rep : goal.form-translate-requires-in-Rep
form-translate-requires-in-Rep t c =
    let fits = form_fits c.args.self.sites c.args.form.now _ c.args.tag c.args.at c.args.agent.now c.args.next _ c.in-Rep.is (form-rep c.args.self.sites c.args.tag c.args.at c.args.agent.now c.args.next c.in-Rep.chan c.in-Rep.names c.in-Rep.body) c.requires in
    let weight = ap form_size c.in-Rep.is ∙ size-rep c.in-Rep.chan c.in-Rep.names c.in-Rep.body in
    grind (arith, common_steps)

pub form-translate-requires-in-Migrate : goal.form-translate-requires-in-Migrate
form-translate-requires-in-Migrate t c =
    let fits = form_fits c.args.self.sites c.args.form.now _ c.args.tag c.args.at c.args.agent.now c.args.next _ c.in-Migrate.is (form-migrate c.args.self.sites c.args.tag c.args.at c.args.agent.now c.args.next c.in-Migrate.to c.in-Migrate.body) c.requires in
    let weight = ap form_size c.in-Migrate.is ∙ size-migrate c.in-Migrate.to c.in-Migrate.body in
    grind (arith, common_steps)

pub form-translate-requires-in-Let : goal.form-translate-requires-in-Let
form-translate-requires-in-Let t c =
    let fits = form_fits c.args.self.sites c.args.form.now _ c.args.tag c.args.at c.args.agent.now c.args.next _ c.in-Let.is (form-let c.args.self.sites c.args.tag c.args.at c.args.agent.now c.args.next c.in-Let.names c.in-Let.value c.in-Let.body) c.requires in
    let weight = ap form_size c.in-Let.is ∙ size-let c.in-Let.names c.in-Let.value c.in-Let.body in
    grind (arith, common_steps)

pub form-translate-requires : goal.form-translate-requires
form-translate-requires t c =
    let fits = form_fits c.args.self.sites c.args.form.now _ c.args.tag c.args.at c.args.agent.now c.args.next _ c.in-Par.is (form-par c.args.self.sites c.args.tag c.args.at c.args.agent.now c.args.next c.in-Par.left c.in-Par.right) c.requires in
    let last = left_fits c.args.self.sites c.in-Par.right c.args.agent.now (translated c.args.self.sites c.in-Par.left c.args.agent.now c.args.next).next fits in
    let weight = ap form_size c.in-Par.is ∙ size-par c.in-Par.left c.in-Par.right in
    grind (arith, common_steps)

pub form-translate-requires-in-Par : goal.form-translate-requires-in-Par
form-translate-requires-in-Par t c =
    let fits = form_fits c.args.self.sites c.args.form.now _ c.args.tag c.args.at c.args.agent.now c.args.next _ c.in-Par.is (form-par c.args.self.sites c.args.tag c.args.at c.args.agent.now c.args.next c.in-Par.left c.in-Par.right) c.requires in
    let last = right_fits c.args.self.sites c.in-Par.right c.args.agent.now c.in_ok-left-in-Par.left (translated c.args.self.sites c.in-Par.left c.args.agent.now c.args.next) c.in_ok-left-in-Par.ensures fits in
    let weight = ap form_size c.in-Par.is ∙ size-par c.in-Par.left c.in-Par.right in
    grind (arith, common_steps)

pub form-translate-requires-in-IfLocal : goal.form-translate-requires-in-IfLocal
form-translate-requires-in-IfLocal t c =
    let fits = form_fits c.args.self.sites c.args.form.now _ c.args.tag c.args.at c.args.agent.now c.args.next _ c.in-IfLocal.is (form-iflocal c.args.self.sites c.args.tag c.args.at c.args.agent.now c.args.next c.in-IfLocal.to c.in-IfLocal.chan c.in-IfLocal.value c.in-IfLocal.met c.in-IfLocal.unmet) c.requires in
    let last = left_fits c.args.self.sites c.in-IfLocal.unmet c.args.agent.now (translated c.args.self.sites c.in-IfLocal.met c.args.agent.now c.args.next).next fits in
    let weight = ap form_size c.in-IfLocal.is ∙ size-iflocal c.in-IfLocal.to c.in-IfLocal.chan c.in-IfLocal.value c.in-IfLocal.met c.in-IfLocal.unmet in
    grind (arith, common_steps)

pub form-translate-requires-in-IfLocal-2 : goal.form-translate-requires-in-IfLocal-2
form-translate-requires-in-IfLocal-2 t c =
    let fits = form_fits c.args.self.sites c.args.form.now _ c.args.tag c.args.at c.args.agent.now c.args.next _ c.in-IfLocal.is (form-iflocal c.args.self.sites c.args.tag c.args.at c.args.agent.now c.args.next c.in-IfLocal.to c.in-IfLocal.chan c.in-IfLocal.value c.in-IfLocal.met c.in-IfLocal.unmet) c.requires in
    let last = right_fits c.args.self.sites c.in-IfLocal.unmet c.args.agent.now c.in_ok-met-in-IfLocal.met (translated c.args.self.sites c.in-IfLocal.met c.args.agent.now c.args.next) c.in_ok-met-in-IfLocal.ensures fits in
    let weight = ap form_size c.in-IfLocal.is ∙ size-iflocal c.in-IfLocal.to c.in-IfLocal.chan c.in-IfLocal.value c.in-IfLocal.met c.in-IfLocal.unmet in
    grind (arith, common_steps)

pub form-translate-requires-in-If : goal.form-translate-requires-in-If
form-translate-requires-in-If t c =
    let fits = form_fits c.args.self.sites c.args.form.now _ c.args.tag c.args.at c.args.agent.now c.args.next _ c.in-If.is (form-if c.args.self.sites c.args.tag c.args.at c.args.agent.now c.args.next c.in-If.test c.in-If.met c.in-If.unmet) c.requires in
    let last = left_fits c.args.self.sites c.in-If.unmet c.args.agent.now (translated c.args.self.sites c.in-If.met c.args.agent.now c.args.next).next fits in
    let weight = ap form_size c.in-If.is ∙ size-if c.in-If.test c.in-If.met c.in-If.unmet in
    grind (arith, common_steps)

pub form-translate-requires-in-If-2 : goal.form-translate-requires-in-If-2
form-translate-requires-in-If-2 t c =
    let fits = form_fits c.args.self.sites c.args.form.now _ c.args.tag c.args.at c.args.agent.now c.args.next _ c.in-If.is (form-if c.args.self.sites c.args.tag c.args.at c.args.agent.now c.args.next c.in-If.test c.in-If.met c.in-If.unmet) c.requires in
    let last = right_fits c.args.self.sites c.in-If.unmet c.args.agent.now c.in_ok-met-in-If.met (translated c.args.self.sites c.in-If.met c.args.agent.now c.args.next) c.in_ok-met-in-If.ensures fits in
    let weight = ap form_size c.in-If.is ∙ size-if c.in-If.test c.in-If.met c.in-If.unmet in
    grind (arith, common_steps)

pub form-translate-requires-in-Lookup : goal.form-translate-requires-in-Lookup
form-translate-requires-in-Lookup t c =
    let fits = form_fits c.args.self.sites c.args.form.now _ c.args.tag c.args.at c.args.agent.now c.args.next _ c.in-Lookup.is (form-lookup c.args.self.sites c.args.tag c.args.at c.args.agent.now c.args.next c.in-Lookup.who c.in-Lookup.places c.in-Lookup.found c.in-Lookup.met c.in-Lookup.unmet) c.requires in
    let last = left_fits c.args.self.sites c.in-Lookup.unmet c.args.agent.now (translated c.args.self.sites c.in-Lookup.met c.args.agent.now c.args.next).next fits in
    let weight = ap form_size c.in-Lookup.is ∙ size-lookup c.in-Lookup.who c.in-Lookup.places c.in-Lookup.found c.in-Lookup.met c.in-Lookup.unmet in
    grind (arith, common_steps)

pub form-translate-requires-in-Lookup-2 : goal.form-translate-requires-in-Lookup-2
form-translate-requires-in-Lookup-2 t c =
    let fits = form_fits c.args.self.sites c.args.form.now _ c.args.tag c.args.at c.args.agent.now c.args.next _ c.in-Lookup.is (form-lookup c.args.self.sites c.args.tag c.args.at c.args.agent.now c.args.next c.in-Lookup.who c.in-Lookup.places c.in-Lookup.found c.in-Lookup.met c.in-Lookup.unmet) c.requires in
    let last = right_fits c.args.self.sites c.in-Lookup.unmet c.args.agent.now c.in_ok-met-in-Lookup.met (translated c.args.self.sites c.in-Lookup.met c.args.agent.now c.args.next) c.in_ok-met-in-Lookup.ensures fits in
    let weight = ap form_size c.in-Lookup.is ∙ size-lookup c.in-Lookup.who c.in-Lookup.places c.in-Lookup.found c.in-Lookup.met c.in-Lookup.unmet in
    grind (arith, common_steps)

pub form-child-requires : goal.form-child-requires
form-child-requires t c =
    let fits = form_fits c.args.self.sites c.args.form.now _ c.args.tag c.args.at c.args.agent.now c.args.next _ c.in-Agent.is (form-agent c.args.self.sites c.args.tag c.args.at c.args.agent.now c.args.next c.in-Agent.child c.in-Agent.body c.in-Agent.rest) c.requires in
    let last = first_fits c.args.self.sites c.in-Agent.rest c.args.agent.now (translated c.args.self.sites c.in-Agent.body (variable c.in-Agent.child) (c.args.next + 1)).next 2 fits in
    let weight = ap form_size c.in-Agent.is ∙ size-agent c.in-Agent.child c.in-Agent.body c.in-Agent.rest in
    grind (arith, common_steps)

pub form-rest-requires : goal.form-rest-requires
form-rest-requires t c =
    let fits = form_fits c.args.self.sites c.args.form.now _ c.args.tag c.args.at c.args.agent.now c.args.next _ c.in-Agent.is (form-agent c.args.self.sites c.args.tag c.args.at c.args.agent.now c.args.next c.in-Agent.child c.in-Agent.body c.in-Agent.rest) c.requires in
    let last = second_fits c.args.self.sites c.in-Agent.rest c.args.agent.now 2 c.in_ok-body-in-Agent.body (translated c.args.self.sites c.in-Agent.body (variable c.in-Agent.child) (c.args.next + 1)) c.in_ok-body-in-Agent.ensures fits in
    let weight = ap form_size c.in-Agent.is ∙ size-agent c.in-Agent.child c.in-Agent.body c.in-Agent.rest in
    grind (arith, common_steps)

pub form-creation-requires : goal.form-creation-requires
form-creation-requires t c =
    let fits = form_fits c.args.self.sites c.args.form.now _ c.args.tag c.args.at c.args.agent.now c.args.next _ c.in-Agent.is (form-agent c.args.self.sites c.args.tag c.args.at c.args.agent.now c.args.next c.in-Agent.child c.in-Agent.body c.in-Agent.rest) c.requires in
    omega (arith, between_fit c.args.self.sites c.in-Agent.rest c.args.agent.now 2 c.in_ok-body-in-Agent.body (translated c.args.self.sites c.in-Agent.body (variable c.in-Agent.child) (c.args.next + 1)) c.in_ok-body-in-Agent.ensures fits)
