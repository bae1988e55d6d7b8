use Rattle.std.proofs.Common.{◌≡◌, ◌<◌, ℕ, [], true, false, Some, get_or, length, arith, subst, inl, inr, refl}
use Rattle.std.specs.Prelude.{slice_get}
use Rattle.std.proofs.lemmas.Bool.Decides.{eqb_tells}
use Rattle.std.proofs.lemmas.Option.{get_or_from_slice_get, slice_get-get_or, slice_get_within}
use Rattle.site_state.specs.Lines.{queue_at}
use Rattle.site_turn.specs.declared.seat.Seat.{Seat}
use Rattle.crew_ends.proofs.quiet.none_sends.Goals as goal

pub loop-k-preserved : goal.loop-k-preserved
loop-k-preserved g c = λ j s at h.
    elim (eqb_tells j c.loop-k.k) [
      | inl w ↦
          let x = c.index-seats-k.result in
          let same : get_or c.args.seats.now c.loop-k.k x ≡ s = get_or_from_slice_get c.args.seats.now c.loop-k.k s x (subst (λ (m : ℕ). slice_get c.args.seats.now m ≡ Some s) w.1 at) in
          subst (λ (v : Seat _). queue_at v.site.outgoing c.args.to ≡ []) same (c.if-not-has_none_for.ensures.0 refl)
      | inr w ↦ c.loop-k.invariant j s at (omega arith)
    ]

pub returns-then-not-has_none_for-clause-no : goal.returns-then-not-has_none_for-clause-no
returns-then-not-has_none_for-clause-no g c = λ e none.
    let at = slice_get-get_or c.args.seats.now c.loop-k.k c.index-seats-k.result (omega arith) in
    let sent : false ≡ true = c.if-not-has_none_for.ensures.1 (none.each c.loop-k.k _ at) in absurd cc

pub returns-clause-yes : goal.returns-clause-yes
returns-clause-yes g c = λ e.
    record { each = λ i s at. let h : i < length c.args.seats.now = slice_get_within c.args.seats.now i s at in c.loop-k.invariant i s at (omega arith) }
