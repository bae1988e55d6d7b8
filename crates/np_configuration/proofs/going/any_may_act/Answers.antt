use Rattle.std.proofs.lemmas.Grind.{common_steps}
use Rattle.std.proofs.Common.{arith}
use Rattle.np_configuration.proofs.Common.{MayAct}
use Rattle.np_configuration.proofs.Goings.{none_covered}
use Rattle.np_configuration.proofs.going.any_may_act.Goals as goal

pub returns : goal.returns
returns c = (
  λ e. absurd cc,
  λ found. absurd (none_covered (MayAct c.args.atoms.now.items c.args.places.now.items) c.args.atoms.now.items c.args.atoms.now.keys c.len-at-end.ensures.covers
      (λ k d h. c.loop-at.invariant k d (omega (arith, h, c.loop-at.auto.at-end, c.loop-at-test.false, c.len-at-end.ensures.len))) found.0 found.1.atom found.1.there found.1),
)

pub loop-at-preserved : goal.loop-at-preserved
loop-at-preserved c = grind (arith, common_steps)

pub returns-then-may_act : goal.returns-then-may_act
returns-then-may_act c = grind (arith, common_steps)
