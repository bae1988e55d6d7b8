use Rattle.std.proofs.Common.{◌≡◌, map, take}
use Rattle.np_syntax.specs.Printed.{value_text}
use Rattle.run_steps.proofs.following.printed_texts.Given as goal

-- the texts so far
abbrev pub invariant-loop-value : goal.invariant-loop-value
invariant-loop-value l = l.texts ≡ map (λ item. value_text l.sites item.1) (take l.value-index l.said)
