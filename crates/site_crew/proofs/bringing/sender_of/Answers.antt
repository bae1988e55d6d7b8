use Rattle.std.proofs.Common.{◌≡◌, ◌<◌, ◌∙◌, Some, length, ap, arith, subst, sym, inl, inr}
use Rattle.std.specs.Prelude.{slice_get}
use Rattle.std.proofs.lemmas.Bool.Decides.{eqb_tells}
use Rattle.std.proofs.lemmas.Option.{slice_get_within, slice_get-get_or}
use Rattle.np_syntax.proofs.Options.{some_is}
use Rattle.site_turn.specs.declared.seat.Seat.{Seat}
use Rattle.site_crew.specs.Bringing.{HasDue}
use Rattle.site_crew.proofs.bringing.sender_of.Goals as goal

pub loop-from-init : goal.loop-from-init
loop-from-init g c = λ k s less at due. omega arith

pub loop-from-preserved : goal.loop-from-preserved
loop-from-preserved g c = λ k s less at due.
    let xs = c.args.seats.now in let i = c.loop-from.from in let x = c.index-seats-from.result in
    let within : i < length xs = omega arith in
    let here : slice_get xs i ≡ Some x = slice_get-get_or xs i x within ∙ ap Some (sym c.index-seats-from.is) in
    elim (eqb_tells k i) [
      | inl w ↦
          let same : x ≡ s = some_is (slice_get xs i) x s here (subst (λ m. slice_get xs m ≡ Some s) w.1 at) in
          c.has_due.ensures.no c.if-has_due.false (subst (λ (v : Seat _). HasDue c.args.event v) (sym same) due)
      | inr w ↦ c.loop-from.invariant k s (omega arith) at due
    ]

pub returns-then-has_due : goal.returns-then-has_due
returns-then-has_due g c =
    let xs = c.args.seats.now in let i = c.loop-from.from in let x = c.index-seats-from.result in
    let within : i < length xs = omega arith in
    let here : slice_get xs i ≡ Some x = slice_get-get_or xs i x within ∙ ap Some (sym c.index-seats-from.is) in
    record { seat = x; at = here; due = c.has_due.ensures.yes c.if-has_due.true }

pub returns : goal.returns
returns g c = record {
  none = λ i s at due. c.loop-from.invariant i s (let less : i < length c.args.seats.now = slice_get_within c.args.seats.now i s at in omega arith) at due;
}
