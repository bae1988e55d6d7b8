use Rattle.std.proofs.lemmas.Grind.{common_steps}
use Rattle.std.proofs.Common.{◌≤◌, length, sym, subst, arith}
use Rattle.np_scope.proofs.Leaving.{longer, back_out}
use Rattle.np_scope.proofs.resolver.Resolver.+process.Goals as goal

pub under-leave_to-requires : goal.under-leave_to-requires
under-leave_to-requires t c =
    subst (λ s. c.len-depth.result ≤ length s) (sym c.in_ok-body.ensures.scope)
    (longer c.args.names.now c.args.scope.now c.pat.new.scope c.args.next.binder c.in_ok-names.binder c.len-depth.result c.in_ok-names.names c.in_ok-names.ensures.bound c.len-depth.ensures)

pub under-returns-clause-scope : goal.under-returns-clause-scope
under-returns-clause-scope t c =
    back_out c.args.names.now c.args.scope.now c.pat.new.scope c.proc.new.scope c.leave_to.new.self c.args.next.binder c.in_ok-names.binder c.len-depth.result c.in_ok-names.names
    c.in_ok-names.ensures.bound c.len-depth.ensures c.in_ok-body.ensures.scope c.leave_to.ensures

pub proc_form-returns-in-Agent-clause-behind : goal.proc_form-returns-in-Agent-clause-behind
proc_form-returns-in-Agent-clause-behind t c = grind (arith, common_steps)

pub proc_form-returns-in-Let-clause-behind : goal.proc_form-returns-in-Let-clause-behind
proc_form-returns-in-Let-clause-behind t c = grind (arith, common_steps)

pub proc_form-returns-in-Print-clause-scope : goal.proc_form-returns-in-Print-clause-scope
proc_form-returns-in-Print-clause-scope t c = grind (arith, common_steps)

pub proc_form-returns-in-Post-clause-scope : goal.proc_form-returns-in-Post-clause-scope
proc_form-returns-in-Post-clause-scope t c = grind (arith, common_steps)

pub proc_form-returns-in-Send-clause-scope : goal.proc_form-returns-in-Send-clause-scope
proc_form-returns-in-Send-clause-scope t c = grind (arith, common_steps)

pub proc_form-returns-in-Inp-clause-behind : goal.proc_form-returns-in-Inp-clause-behind
proc_form-returns-in-Inp-clause-behind t c = grind (arith, common_steps)

pub proc_form-returns-in-Par-clause-behind : goal.proc_form-returns-in-Par-clause-behind
proc_form-returns-in-Par-clause-behind t c = grind (arith, common_steps)

pub proc_form-returns-in-Migrate-clause-behind : goal.proc_form-returns-in-Migrate-clause-behind
proc_form-returns-in-Migrate-clause-behind t c = grind (arith, common_steps)

pub proc_form-returns-in-IfLocal-clause-behind : goal.proc_form-returns-in-IfLocal-clause-behind
proc_form-returns-in-IfLocal-clause-behind t c = grind (arith, common_steps)

pub proc_form-returns-in-Rep-clause-behind : goal.proc_form-returns-in-Rep-clause-behind
proc_form-returns-in-Rep-clause-behind t c = grind (arith, common_steps)

pub proc_form-returns-in-If-clause-behind : goal.proc_form-returns-in-If-clause-behind
proc_form-returns-in-If-clause-behind t c = grind (arith, common_steps)

pub proc_form-returns-in-New-clause-behind : goal.proc_form-returns-in-New-clause-behind
proc_form-returns-in-New-clause-behind t c = grind (arith, common_steps)

pub proc_form-returns-in-Out-clause-scope : goal.proc_form-returns-in-Out-clause-scope
proc_form-returns-in-Out-clause-scope t c = grind (arith, common_steps)
