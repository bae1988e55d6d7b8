use Rattle.std.proofs.Common.{subst, ◌<◌}
use Rattle.np_scope.proofs.Leaving.{one_less}
use Rattle.np_scope.proofs.scope.Scope.leave_to.Goals as goal

pub loop-self-preserved : goal.loop-self-preserved
loop-self-preserved c =
    one_less c.args.depth c.args.self.now c.loop-self.self c.leave.new.self (subst (λ n. c.args.depth < n) c.len.ensures c.loop-self-test.true) c.loop-self.invariant.1
    c.loop-self.invariant.2 c.leave.ensures
