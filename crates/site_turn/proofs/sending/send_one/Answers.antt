use Rattle.std.proofs.lemmas.Grind.{common_steps}
use Rattle.std.proofs.Common.{refl, inl, arith}
use Rattle.site_turn.proofs.Events.{same_refl, sends_refl}
use Rattle.site_turn.proofs.Steps.{turned_refl}
use Rattle.site_turn.proofs.sending.send_one.Goals as goal

pub returns-then-has_none_for-clause-turned : goal.returns-then-has_none_for-clause-turned
returns-then-has_none_for-clause-turned g c = turned_refl _

pub returns-then-has_none_for-clause-only : goal.returns-then-has_none_for-clause-only
returns-then-has_none_for-clause-only g c = sends_refl _

pub returns-then-has_none_for-clause-no : goal.returns-then-has_none_for-clause-no
returns-then-has_none_for-clause-no g c = λ e. record { why = inl (c.if-has_none_for.ensures.0 refl); site = same_refl _; sent = λ k. refl; room = λ k. refl }

pub returns-then-has_none_for-clause-yes : goal.returns-then-has_none_for-clause-yes
returns-then-has_none_for-clause-yes g c = grind (arith, common_steps)
