use Rattle.std.proofs.Common.{sym, ◌∙◌}
use Rattle.np_eval.proofs.Pairs.{found-here, found-older, found-nowhere}
use Rattle.np_eval.proofs.frame.Frame.get.Goals as goal

pub returns-then-pair-binder : goal.returns-then-pair-binder
returns-then-pair-binder c =
    sym (found-here c.loop-rest.rest.now c.in-Some.shared c.deref-pair.result.now c.args.binder c.in-Some.is c.deref-pair.ensures c.if-pair-binder.true)
    ∙ c.loop-rest.invariant

pub loop-rest-preserved : goal.loop-rest-preserved
loop-rest-preserved c =
    sym (found-older c.loop-rest.rest.now c.in-Some.shared c.deref-pair.result.now c.args.binder c.in-Some.is c.deref-pair.ensures c.if-pair-binder.false)
    ∙ c.loop-rest.invariant

pub returns : goal.returns
returns c = sym (found-nowhere c.loop-rest.rest.now c.args.binder c.in_default.is) ∙ c.loop-rest.invariant
