use Rattle.std.proofs.lemmas.Grind.{common_steps}
use Rattle.std.proofs.Common.{◌∙◌, arith}
use Rattle.np_scope.proofs.Entering.{entered}
use Rattle.np_scope.proofs.scope.Scope.enter.Goals as goal

pub invariant_of-self-in-Ok-insert : goal.invariant_of-self-in-Ok-insert
invariant_of-self-in-Ok-insert c =
    rw c.in-Ok.ensures.items (entered _ _ _ _ c.self.invariant (c.copied-hidden.ensures ∙ c.get.ensures.value)
    (λ name. c.in-Ok-insert.ensures.updates.0 (record { ref_ptr = c.args.name.ref_ptr; now = name })))

pub returns-in-Ok-insert : goal.returns-in-Ok-insert
returns-in-Ok-insert c = grind (arith, common_steps)

pub invariant_of-self-in-Err-insert : goal.invariant_of-self-in-Err-insert
invariant_of-self-in-Err-insert c = grind (arith, common_steps)
