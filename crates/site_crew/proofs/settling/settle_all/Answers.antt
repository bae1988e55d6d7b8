use Rattle.std.proofs.Common.{◌≡◌, ℕ, length, arith, subst, sym, inl, inr}
use Rattle.std.proofs.lemmas.Bool.Decides.{eqb_tells}
use Rattle.site_crew.specs.Links.{AreSettledBelow, IsSettledTo}
use Rattle.site_crew.proofs.Pairs.{all_still_refl, all_still_trans, linked_after, settled_none}
use Rattle.site_crew.proofs.settling.settle_all.Goals as goal

pub loop-to-init : goal.loop-to-init
loop-to-init g c = record { still = all_still_refl _; linked = c.requires; below = settled_none _ }

pub settle_to-requires-clause-linked : goal.settle_to-requires-clause-linked
settle_to-requires-clause-linked g c κs within = c.loop-to.invariant.linked

pub settle_to-requires-clause-to : goal.settle_to-requires-clause-to
settle_to-requires-clause-to g c κs within = omega (arith, c.loop-to.invariant.still.count)

pub loop-to-preserved : goal.loop-to-preserved
loop-to-preserved g c =
    let i = c.loop-to.invariant in let p = c.settle_to.ensures in
    record {
      still = all_still_trans i.still p.still;
      linked = linked_after i.linked p.still;
      below = record {
        each = λ k h. elim (eqb_tells k c.loop-to.to) [
          | inl w ↦ subst (λ (m : ℕ). IsSettledTo g.P.Port c.settle_to.new.seats m) (sym w.1) p.here
          | inr w ↦ p.others k w.1 (i.below.each k (omega arith))
        ];
      };
    }

pub returns : goal.returns
returns g c =
    let i = c.loop-to.invariant in
    let e : c.loop-to.to ≡ length c.loop-to.seats = omega (arith, i.still.count) in
    record { still = i.still; settled = subst (λ (m : ℕ). AreSettledBelow g.P.Port c.loop-to.seats m) e i.below }
