use Rattle.std.proofs.Common.{◌++◌, ◌∷◌, [], map, ap, ap₂, sym, ◌∙◌}
use Rattle.std.proofs.lemmas.List.{map-append}
use Rattle.stamp_history.specs.Histories.{Stored}
use Rattle.site_turn.specs.declared.seat.Seat.{Seat}
use Rattle.site_crew.specs.Seats.{histories}
use Rattle.crew_ends.proofs.First.{whole_end, whole_more}
use Rattle.site_crew.proofs.crew.histories_of.Goals as goal

pub loop-seat-preserved : goal.loop-seat-preserved
loop-seat-preserved g c =
    let i = c.loop-seat.invariant in
    let y = c.loop-seat.yielded in
    record {
      whole = whole_more y c.loop-seat.seat-iterator.rest.items c.next.new.self.rest.items c.in-Some.seat i.whole c.in-Some.ensures.steps.0;
      out = ap (map (λ (h : Stored). h.history)) c.in_ok-add.ensures ∙ map-append (λ (h : Stored). h.history) c.loop-seat.out (c.history_of-history.result ∷ [])
          ∙ ap₂ (λ xs x. xs ++ x ∷ []) i.out c.history_of-history.ensures ∙ sym (map-append (λ (s : Seat _). s.site.history) y (c.in-Some.seat ∷ []));
    }

pub returns : goal.returns
returns g c =
    let i = c.loop-seat.invariant in
    i.out ∙ ap histories (whole_end c.loop-seat.yielded c.loop-seat.seat-iterator.rest.items i.whole (sym c.loop-seat.seat-iterator.rest.ok.0 ∙ c.in-None.ensures.steps.0))
