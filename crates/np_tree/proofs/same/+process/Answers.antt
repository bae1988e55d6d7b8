use Rattle.std.proofs.Common.{arith, rules}
use Rattle.std.proofs.lemmas.Grind.{common_steps}
use Rattle.np_tree.proofs.Parts.{alike, both, fails, under, par, new, inp, rep, agent, migrate, iflocal, test, bind}
use Rattle.np_tree.proofs.same.+process.Goals as goal

pub same_form-returns-then-same_proc : goal.same_form-returns-then-same_proc
same_form-returns-then-same_proc t c =
    let is = c.in-Par-Par in
    both (par _ _ _ _ _ _ is.is-0 is.is-1) (c.same_proc.ensures.0 (search rules)) c.same_proc-then-same_proc.ensures

pub same_form-returns-else-same_proc : goal.same_form-returns-else-same_proc
same_form-returns-else-same_proc t c =
    let is = c.in-Par-Par in
    fails (par _ _ _ _ _ _ is.is-0 is.is-1) c.same_proc.ensures (search rules)

pub same_form-returns-then-same_channel : goal.same_form-returns-then-same_channel
same_form-returns-then-same_channel t c =
    let is = c.in-New-New in
    both (new _ _ _ _ _ _ _ _ is.is-0 is.is-1) (c.same_channel.ensures.0 (search rules)) c.same_proc-then-same_channel.ensures

pub same_form-returns-then-same_taking : goal.same_form-returns-then-same_taking
same_form-returns-then-same_taking t c =
    let is = c.in-Inp-Inp in
    both (inp _ _ _ _ _ _ _ _ is.is-0 is.is-1) (c.same_taking.ensures.0 (search rules)) c.same_proc-then-same_taking.ensures

pub same_form-returns-then-same_taking-2 : goal.same_form-returns-then-same_taking-2
same_form-returns-then-same_taking-2 t c =
    let is = c.in-Rep-Rep in
    both (rep _ _ _ _ _ _ _ _ is.is-0 is.is-1) (c.same_taking-in-Rep-Rep.ensures.0 (search rules)) c.same_proc-then-same_taking-2.ensures

pub same_form-returns-then-same_proc-2 : goal.same_form-returns-then-same_proc-2
same_form-returns-then-same_proc-2 t c =
    let is = c.in-Agent-Agent in
    both (under (agent _ _ _ _ _ _ _ _ is.is-0 is.is-1) (c.same_ident.ensures.0 (search rules))) (c.same_proc-then-same_ident.ensures.0 (search rules)) c.same_proc-then-same_proc-2.ensures

pub same_form-returns-else-same_proc-2 : goal.same_form-returns-else-same_proc-2
same_form-returns-else-same_proc-2 t c =
    let is = c.in-Agent-Agent in
    fails (under (agent _ _ _ _ _ _ _ _ is.is-0 is.is-1) (c.same_ident.ensures.0 (search rules))) c.same_proc-then-same_ident.ensures (search rules)

pub same_form-returns-then-same_expr : goal.same_form-returns-then-same_expr
same_form-returns-then-same_expr t c =
    let is = c.in-Migrate-Migrate in
    both (migrate _ _ _ _ _ _ is.is-0 is.is-1) (c.same_expr.ensures.0 (search rules)) c.same_proc-then-same_expr.ensures

pub same_form-returns-then-same_proc-3 : goal.same_form-returns-then-same_proc-3
same_form-returns-then-same_proc-3 t c =
    let is = c.in-IfLocal-IfLocal in
    both (under (iflocal _ _ _ _ _ _ _ _ _ _ _ _ is.is-0 is.is-1) (c.same_errand.ensures.0 (search rules))) (c.same_proc-then-same_errand.ensures.0 (search rules)) c.same_proc-then-same_proc-3.ensures

pub same_form-returns-else-same_proc-3 : goal.same_form-returns-else-same_proc-3
same_form-returns-else-same_proc-3 t c =
    let is = c.in-IfLocal-IfLocal in
    fails (under (iflocal _ _ _ _ _ _ _ _ _ _ _ _ is.is-0 is.is-1) (c.same_errand.ensures.0 (search rules))) c.same_proc-then-same_errand.ensures (search rules)

pub same_form-returns-then-same_proc-4 : goal.same_form-returns-then-same_proc-4
same_form-returns-then-same_proc-4 t c =
    let is = c.in-If-If in
    both (under (test _ _ _ _ _ _ _ _ is.is-0 is.is-1) (c.same_expr-in-If-If.ensures.0 (search rules))) (c.same_proc-then-same_expr-3.ensures.0 (search rules)) c.same_proc-then-same_proc-4.ensures

pub same_form-returns-else-same_proc-4 : goal.same_form-returns-else-same_proc-4
same_form-returns-else-same_proc-4 t c =
    let is = c.in-If-If in
    fails (under (test _ _ _ _ _ _ _ _ is.is-0 is.is-1) (c.same_expr-in-If-If.ensures.0 (search rules))) c.same_proc-then-same_expr-3.ensures (search rules)

pub same_form-returns-then-same_binding : goal.same_form-returns-then-same_binding
same_form-returns-then-same_binding t c =
    let is = c.in-Let-Let in
    both (bind _ _ _ _ _ _ _ _ is.is-0 is.is-1) (c.same_binding.ensures.0 (search rules)) c.same_proc-then-same_binding.ensures

pub same_form-returns-in_default : goal.same_form-returns-in_default
same_form-returns-in_default t c = (λ h. search rules, λ h. let same = alike c.args.a.now c.args.b.now h in grind (arith, common_steps))

pub same_form-returns-in_default-2 : goal.same_form-returns-in_default-2
same_form-returns-in_default-2 t c = (λ h. search rules, λ h. let same = alike c.args.a.now c.args.b.now h in grind (arith, common_steps))

pub same_form-returns-in_default-3 : goal.same_form-returns-in_default-3
same_form-returns-in_default-3 t c = (λ h. search rules, λ h. let same = alike c.args.a.now c.args.b.now h in grind (arith, common_steps))

pub same_form-returns-in_default-4 : goal.same_form-returns-in_default-4
same_form-returns-in_default-4 t c = (λ h. search rules, λ h. let same = alike c.args.a.now c.args.b.now h in grind (arith, common_steps))

pub same_form-returns-in_default-5 : goal.same_form-returns-in_default-5
same_form-returns-in_default-5 t c = (λ h. search rules, λ h. let same = alike c.args.a.now c.args.b.now h in grind (arith, common_steps))

pub same_form-returns-in_default-6 : goal.same_form-returns-in_default-6
same_form-returns-in_default-6 t c = (λ h. search rules, λ h. let same = alike c.args.a.now c.args.b.now h in grind (arith, common_steps))

pub same_form-returns-in_default-7 : goal.same_form-returns-in_default-7
same_form-returns-in_default-7 t c = (λ h. search rules, λ h. let same = alike c.args.a.now c.args.b.now h in grind (arith, common_steps))

pub same_form-returns-in_default-8 : goal.same_form-returns-in_default-8
same_form-returns-in_default-8 t c = (λ h. search rules, λ h. let same = alike c.args.a.now c.args.b.now h in grind (arith, common_steps))

pub same_form-returns-in_default-9 : goal.same_form-returns-in_default-9
same_form-returns-in_default-9 t c = (λ h. search rules, λ h. let same = alike c.args.a.now c.args.b.now h in grind (arith, common_steps))

pub same_form-returns-in_default-10 : goal.same_form-returns-in_default-10
same_form-returns-in_default-10 t c = (λ h. search rules, λ h. let same = alike c.args.a.now c.args.b.now h in grind (arith, common_steps))

pub same_form-returns-in_default-11 : goal.same_form-returns-in_default-11
same_form-returns-in_default-11 t c = (λ h. search rules, λ h. let same = alike c.args.a.now c.args.b.now h in grind (arith, common_steps))

pub same_form-returns-in_default-12 : goal.same_form-returns-in_default-12
same_form-returns-in_default-12 t c = (λ h. search rules, λ h. let same = alike c.args.a.now c.args.b.now h in grind (arith, common_steps))

pub same_form-returns-in_default-13 : goal.same_form-returns-in_default-13
same_form-returns-in_default-13 t c = (λ h. search rules, λ h. let same = alike c.args.a.now c.args.b.now h in grind (arith, common_steps))

pub same_form-returns-in_default-14 : goal.same_form-returns-in_default-14
same_form-returns-in_default-14 t c = (λ h. search rules, λ h. let same = alike c.args.a.now c.args.b.now h in grind (arith, common_steps))
