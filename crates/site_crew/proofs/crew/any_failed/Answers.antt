use Rattle.std.proofs.Common.{◌≡◌, ◌<◌, ℕ, Some, false, get_or, length, arith, subst, inl, inr}
use Rattle.std.specs.Prelude.{slice_get}
use Rattle.std.proofs.lemmas.Bool.Decides.{eqb_tells}
use Rattle.std.proofs.lemmas.Option.{get_or_from_slice_get, slice_get_within}
use Rattle.site_turn.specs.declared.seat.Seat.{Seat}
use Rattle.site_crew.proofs.crew.any_failed.Goals as goal

pub loop-i-init : goal.loop-i-init
loop-i-init g c = λ k s at h. absurd (omega arith)

pub loop-i-preserved : goal.loop-i-preserved
loop-i-preserved g c = λ k s at h.
    elim (eqb_tells k c.loop-i.i) [
      | inl w ↦
          let x = c.index-seats-i.result in
          let same : get_or c.args.seats.now c.loop-i.i x ≡ s = get_or_from_slice_get c.args.seats.now c.loop-i.i s x (subst (λ (m : ℕ). slice_get c.args.seats.now m ≡ Some s) w.1 at) in
          subst (λ (v : Seat _). v.failed ≡ false) same c.if-seats-i.false
      | inr w ↦ c.loop-i.invariant k s at (omega arith)
    ]

pub returns-clause-none : goal.returns-clause-none
returns-clause-none g c = λ e.
    record { each = λ i s at. let h : i < length c.args.seats.now = slice_get_within c.args.seats.now i s at in c.loop-i.invariant i s at (omega arith) }
