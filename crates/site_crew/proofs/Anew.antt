-- The seats of a crew that has made no event come to be others.
use Rattle.std.proofs.Common.{◌≡◌, ◌<◌, ℕ, List, [], ◌∷◌, ◌++◌, length, count_by, get_or, Some, refl, sym, ap, subst, subst₂, ◌∙◌, arith}
use Rattle.std.specs.Prelude.{slice_get}
use Rattle.std.proofs.lemmas.Option.{slice_get-get_or}
use Rattle.np_syntax.specs.declared.value.Value.{Value}
use Rattle.stamp_history.specs.Histories.{IsHistory, Recorded, is_print}
use Rattle.site_links.specs.declared.port.Port as Port
use Rattle.np_code.specs.Programs.{ProgramTable}
use Rattle.agent_move.specs.declared.item.Item.{Item}
use Rattle.site_turn.specs.declared.seat.Seat.{Seat}
use Rattle.site_turn.specs.Turns.{HistoryGrows}
use Rattle.site_crew.specs.Seats.{AllGrow, Stand, event_count, histories}
use Rattle.site_crew.proofs.Crewing.{at_place}
use Rattle.site_crew.proofs.Doing.{none_of}
use Rattle.site_crew.proofs.Whole.{long-histories}

none-said : (h : Recorded) → h.events ≡ [] → IsHistory h → h.said ≡ []
none-said h none is = empty h.said (is.one_each ∙ ap (count_by is_print) none)
  where
    empty : (vs : List Value) → length vs ≡ 0 → vs ≡ []
    empty [] e = refl
    empty (v ∷ vs) e = absurd (omega arith)

-- a history of which nothing is known grows from an empty one of the same site
grows-first : (a b : Recorded) → b.site ≡ a.site → b.budget ≡ a.budget → a.events ≡ [] → a.said ≡ [] → HistoryGrows a b
grows-first a b site budget none quiet = record {
  site = site;
  budget = budget;
  events = record { rest = b.events; is = ap (λ l. l ++ b.events) (sym none) };
  said = record { rest = b.said; is = ap (λ l. l ++ b.said) (sym quiet) };
}

some-seat : {P : Type 0} (xs : List (Seat P)) (i : ℕ) → i < length xs → Seat P
some-seat [] i less = absurd (omega arith)
some-seat (x ∷ xs) i less = x

module _ {P R : Type 0} {g : Port.Ghosts P R Item} {code : ProgramTable} where
  pub grow_anew : {most : ℕ} {xs ys : List (Seat P)} → Stand g code most xs → event_count (histories xs) ≡ 0 → Stand g code most ys → AllGrow (histories xs) (histories ys)
  grow_anew {most} {xs} {ys} old none new =
      let long : length ys ≡ length xs = new.seats.count ∙ sym old.seats.count in record {
        count = long-histories ys ∙ long ∙ sym (long-histories xs);
        each = λ i d less.
            let lx : i < length xs = subst (λ (m : ℕ). i < m) (long-histories xs) less in
            let ly : i < length ys = subst (λ (m : ℕ). i < m) (sym long) lx in
            let a : Seat P = get_or xs i (some-seat xs i lx) in
            let b : Seat P = get_or ys i (some-seat ys i ly) in
            let at_a : slice_get xs i ≡ Some a = slice_get-get_or xs i (some-seat xs i lx) lx in
            let at_b : slice_get ys i ≡ Some b = slice_get-get_or ys i (some-seat ys i ly) ly in
            let s = old.seats.each i a at_a in
            let t = new.seats.each i b at_b in
            let empty : a.site.history.events ≡ [] = none_of xs none i a at_a in
            subst₂ (λ (x y : Recorded). HistoryGrows x y) (sym (at_place xs i a d at_a)) (sym (at_place ys i b d at_b))
            (grows-first a.site.history b.site.history (t.owner ∙ sym s.owner) (sym t.placed.budget ∙ t.budget ∙ sym s.budget ∙ s.placed.budget) empty
            (none-said a.site.history empty (old.whole.each i a at_a)));
      }
