use Rattle.std.proofs.Common.{ℕ, arith, subst, sym, inl, inr, refl}
use Rattle.std.proofs.lemmas.Bool.Decides.{eqb_tells}
use Rattle.crew_ends.specs.Quiet.{IsOver}
use Rattle.crew_ends.proofs.quiet.are_over.Goals as goal

pub loop-i-preserved : goal.loop-i-preserved
loop-i-preserved g c = λ k h.
    elim (eqb_tells k c.loop-i.i) [
      | inl w ↦ subst (λ (m : ℕ). IsOver c.args.code.now c.args.budget c.args.seats.now m) (sym w.1) (c.if-not-is_over.ensures.yes refl)
      | inr w ↦ c.loop-i.invariant k (omega arith)
    ]

pub returns-then-not-is_over-clause-no : goal.returns-then-not-is_over-clause-no
returns-then-not-is_over-clause-no g c = λ e over. c.if-not-is_over.ensures.no refl (over.each c.loop-i.i (omega arith))

pub returns-clause-yes : goal.returns-clause-yes
returns-clause-yes g c = λ e. record { each = λ i h. c.loop-i.invariant i (omega arith) }
