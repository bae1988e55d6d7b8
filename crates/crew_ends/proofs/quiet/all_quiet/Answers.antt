use Rattle.std.proofs.Common.{◌≡◌, ◌<◌, ℕ, Some, get_or, length, arith, subst, inl, inr, refl, ◌∙◌}
use Rattle.std.specs.Prelude.{slice_get}
use Rattle.std.proofs.lemmas.Bool.Decides.{eqb_tells}
use Rattle.std.proofs.lemmas.Option.{get_or_from_slice_get, slice_get_within}
use Rattle.site_turn.specs.declared.seat.Seat.{Seat}
use Rattle.crew_ends.specs.Quiet.{IsQuietSeat}
use Rattle.crew_ends.proofs.Overs.{not_quiet}
use Rattle.crew_ends.proofs.quiet.all_quiet.Goals as goal

pub loop-i-preserved : goal.loop-i-preserved
loop-i-preserved g c = λ k s at h.
    elim (eqb_tells k c.loop-i.i) [
      | inl w ↦
          let x = c.index-seats-i.result in
          let same : get_or c.args.seats.now c.loop-i.i x ≡ s = get_or_from_slice_get c.args.seats.now c.loop-i.i s x (subst (λ (m : ℕ). slice_get c.args.seats.now m ≡ Some s) w.1 at) in
          subst (λ (v : Seat _). IsQuietSeat c.args.code.now v) (c.index-seats-i.is ∙ same) (c.if-not-is_quiet.ensures.yes refl)
      | inr w ↦ c.loop-i.invariant k s at (omega arith)
    ]

pub returns-clause-yes : goal.returns-clause-yes
returns-clause-yes g c = λ e.
    record { each = λ i s at. let h : i < length c.args.seats.now = slice_get_within c.args.seats.now i s at in c.loop-i.invariant i s at (omega arith) }

pub returns-then-not-is_quiet-clause-no : goal.returns-then-not-is_quiet-clause-no
returns-then-not-is_quiet-clause-no g c = λ _. not_quiet c.args.code.now c.args.seats.now c.loop-i.i c.index-seats-i.result c.loop-i-test.true c.index-seats-i.is (c.if-not-is_quiet.ensures.no refl)
