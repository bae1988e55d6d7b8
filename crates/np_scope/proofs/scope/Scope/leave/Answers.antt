use Rattle.std.proofs.lemmas.Grind.{common_steps}
use Rattle.std.proofs.Common.{◌++◌, ap, ◌∙◌, arith}
use Rattle.std.specs.Prelude.{option_to_list}
use Rattle.np_scope.proofs.Entering.{left, there}
use Rattle.np_scope.proofs.scope.Scope.leave.Goals as goal

pub invariant_of-self-in_default-hidden : goal.invariant_of-self-in_default-hidden
invariant_of-self-in_default-hidden c =
    left _ _ _ _ c.in-Some.entry _ c.self.invariant (c.pop.ensures.items ∙ ap (λ o. c.pop.new.self.items ++ option_to_list o) c.in-Some.is) c.in_default-hidden.is
    (λ name. c.remove.ensures.updates.0 (record { ref_ptr = c.in-Some.entry.name.ref_ptr; now = name }))

pub unreachable-requires : goal.unreachable-requires
unreachable-requires c =
    there _ _ _ c.in-Some.entry c.self.invariant (c.pop.ensures.items ∙ ap (λ o. c.pop.new.self.items ++ option_to_list o) c.in-Some.is) c.in-Err.ensures.absent

pub invariant_of-self-2 : goal.invariant_of-self-2
invariant_of-self-2 c =
    left _ _ _ _ c.in-Some.entry _ c.self.invariant (c.pop.ensures.items ∙ ap (λ o. c.pop.new.self.items ++ option_to_list o) c.in-Some.is) c.in-Some-hidden.is
    (λ name. c.in-Ok.ensures.updates.0 (record { ref_ptr = c.in-Some.entry.name.ref_ptr; now = name }))

pub returns-in_default-hidden : goal.returns-in_default-hidden
returns-in_default-hidden c = grind (arith, common_steps)

pub returns : goal.returns
returns c = grind (arith, common_steps)
