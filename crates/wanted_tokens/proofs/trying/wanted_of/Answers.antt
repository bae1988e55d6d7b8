use Rattle.std.proofs.Common.{refl, subst, sym}
use Rattle.wanted_tokens.specs.Wanted.{Chosen}
use Rattle.wanted_tokens.proofs.Choices.{last, next}
use Rattle.wanted_tokens.proofs.trying.wanted_of.Goals as goal

pub loop-kind-init : goal.loop-kind-init
loop-kind-init c = subst (λ chosen. Chosen c.args.bytes.now c.args.at _ chosen) (sym c.new-wanted.ensures) Chosen.none

pub loop-kind-preserved : goal.loop-kind-preserved
loop-kind-preserved c =
    next c.args.bytes.now c.args.at c.args.kinds.now c.loop-kind.kind-index _ _ c.loop-kind.wanted c.add_if.new.wanted c.in_ok-goes.goes c.loop-kind-test.true refl
    c.in_ok-add_if.ensures c.in_ok-goes.ensures c.loop-kind.invariant

pub returns : goal.returns
returns c = last c.args.bytes.now c.args.at c.args.kinds.now c.loop-kind.kind-index c.loop-kind.wanted c.loop-kind-test.false c.loop-kind.invariant
