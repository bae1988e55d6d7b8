use Rattle.std.proofs.Common.{◌≡◌, ◌<◌, ◌∙◌, Some, get_or, length, sym, subst, ap, inl, inr}
use borrow.Author.Rules.{scaled_Fits}
use Rattle.std.specs.Prelude.{slice_get}
use Rattle.std.proofs.lemmas.Option.{slice_get-get_or}
use Rattle.np_syntax.proofs.Options.{some_is}
use Rattle.site_state.specs.Lines.{queue_at}
use Rattle.site_state.specs.Standings.{Standing}
use Rattle.site_turn.specs.declared.seat.Seat.{Seat}
use Rattle.site_crew.proofs.Brought.{but_paired, have_sent}
use Rattle.site_crew.proofs.Clearing.{clear_still, none_known}
use Rattle.site_crew.proofs.Goings.{seat_seated}
use Rattle.site_crew.proofs.Pairs.{still_of_pair}
use Rattle.site_crew.proofs.Redoing.{rest_of_settled, rest_of_still, stand_sent}
use Rattle.site_crew.proofs.Replacing.{all_rest_trans, but_none, one_rests, stand_settled}
use Rattle.site_crew.proofs.bringing.send_from.Goals as goal

pub settle_pair-requires-clause-linked : goal.settle_pair-requires-clause-linked
settle_pair-requires-clause-linked g c κs within = c.requires.stand.seats.linked

pub offset_bounds-seats-from : goal.offset_bounds-seats-from
offset_bounds-seats-from g c = scaled_Fits _ _ _ c.requires.from (search (c.well_formed))

pub bounds-seats-from : goal.bounds-seats-from
bounds-seats-from g c = subst (λ m. c.args.from < m) (sym c.settle_pair.ensures.settled.count) c.requires.from

pub put_first-sent-requires-clause-seated : goal.put_first-sent-requires-clause-seated
put_first-sent-requires-clause-seated g c κs within =
    let ps = c.settle_pair.new.seats in let i = c.args.from in
    let less : i < length ps = subst (λ m. i < m) (sym c.settle_pair.ensures.settled.count) c.requires.from in
    let mid = but_paired (but_none c.requires.stand c.args.to) c.settle_pair.ensures.settled in
    seat_seated i mid.seats (slice_get-get_or ps i c.index-seats-from.result less)

pub put_first-sent-requires-clause-to : goal.put_first-sent-requires-clause-to
put_first-sent-requires-clause-to g c κs within = subst (λ m. c.args.to < m) c.requires.stand.seats.count c.requires.to

pub settle_to-requires-clause-linked : goal.settle_to-requires-clause-linked
settle_to-requires-clause-linked g c κs within =
    let ps = c.settle_pair.new.seats in let i = c.args.from in
    let less : i < length ps = subst (λ m. i < m) (sym c.settle_pair.ensures.settled.count) c.requires.from in
    let mid = but_paired (but_none c.requires.stand c.args.to) c.settle_pair.ensures.settled in
    (stand_sent i mid (slice_get-get_or ps i c.index-seats-from.result less) (c.put_first-sent.ensures.moves i) c.put_first-sent.ensures.rests).seats.linked

pub settle_to-requires-clause-to : goal.settle_to-requires-clause-to
settle_to-requires-clause-to g c κs within =
    let ps = c.settle_pair.new.seats in let i = c.args.from in
    let less : i < length ps = subst (λ m. i < m) (sym c.settle_pair.ensures.settled.count) c.requires.from in
    let rest = one_rests 0 ps i _ c.put_first-sent.new.seat (slice_get-get_or ps i c.index-seats-from.result less) c.put_first-sent.ensures.rests in
    subst (λ m. c.args.to < m) (sym (rest.count ∙ c.settle_pair.ensures.settled.count)) c.requires.to

pub returns-clause-stand : goal.returns-clause-stand
returns-clause-stand g c =
    let ps = c.settle_pair.new.seats in let i = c.args.from in
    let less : i < length ps = subst (λ m. i < m) (sym c.settle_pair.ensures.settled.count) c.requires.from in
    let mid = but_paired (but_none c.requires.stand c.args.to) c.settle_pair.ensures.settled in
    stand_settled (stand_sent i mid (slice_get-get_or ps i c.index-seats-from.result less) (c.put_first-sent.ensures.moves i) c.put_first-sent.ensures.rests) c.settle_to.ensures

pub returns-clause-rest : goal.returns-clause-rest
returns-clause-rest g c =
    let ps = c.settle_pair.new.seats in let i = c.args.from in
    let less : i < length ps = subst (λ m. i < m) (sym c.settle_pair.ensures.settled.count) c.requires.from in
    let rest = one_rests 0 ps i _ c.put_first-sent.new.seat (slice_get-get_or ps i c.index-seats-from.result less) c.put_first-sent.ensures.rests in
    all_rest_trans (rest_of_still (still_of_pair c.settle_pair.ensures.settled)) (all_rest_trans rest (rest_of_settled c.settle_to.ensures))

pub returns-clause-yes : goal.returns-clause-yes
returns-clause-yes g c = λ yes.
    let ps = c.settle_pair.new.seats in let i = c.args.from in
    let less : i < length ps = subst (λ m. i < m) (sym c.settle_pair.ensures.settled.count) c.requires.from in
    have_sent (still_of_pair c.settle_pair.ensures.settled) (slice_get-get_or ps i c.index-seats-from.result less) (c.put_first-sent.ensures.moves i) (c.put_first-sent.ensures.yes yes)
    c.settle_to.ensures.still

pub returns-clause-no : goal.returns-clause-no
returns-clause-no g c = λ no clear s at.
    let ps = c.settle_pair.new.seats in let i = c.args.from in
    let less : i < length ps = subst (λ m. i < m) (sym c.settle_pair.ensures.settled.count) c.requires.from in
    let a = get_or ps i c.index-seats-from.result in
    let at_a : slice_get ps i ≡ Some a = slice_get-get_or ps i c.index-seats-from.result less in
    let still = still_of_pair c.settle_pair.ensures.settled in
    let b = still.each i a at_a in
    let same : b.before ≡ s = some_is (slice_get c.args.seats.now i) b.before s b.was at in
    elim (c.put_first-sent.ensures.no no) [
      | inl none ↦ ap (λ (v : Seat _). queue_at v.site.outgoing c.args.to) (sym same) ∙ ap (λ (v : Standing). queue_at v.outgoing c.args.to) (sym b.still.site_same) ∙ none
      | inr full ↦
          let to : c.args.to < length ps = subst (λ m. c.args.to < m) (sym c.settle_pair.ensures.settled.count) c.requires.to in
          let t = get_or ps c.args.to a in
          let at_t : slice_get ps c.args.to ≡ Some t = slice_get-get_or ps c.args.to a to in
          absurd (c.settle_pair.ensures.free a t at_a at_t (none_known (clear_still still clear) i c.args.to c.settle_pair.ensures.settled.settled a t at_a at_t) full)
    ]
