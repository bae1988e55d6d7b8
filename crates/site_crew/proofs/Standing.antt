-- A crew stands at the low start, and after each round.
use Rattle.std.proofs.Common.{◌≡◌, ◌<◌, inl, ℕ, List, [], ◌++◌, length, get_or, Option, Some, IfSome, refl, sym, ap, subst, subst₂, ◌∙◌, arith}
use Rattle.std.specs.Prelude.{slice_get}
use Rattle.std.proofs.lemmas.Option.{slice_get_within, slice_get-get_or}
use Rattle.std.specs.List.{AllByRecursion}
use Rattle.stamp_history.specs.Histories.{IsHistory, Recorded, without_events}
use Rattle.site_links.specs.Words.{Begins, IsFullMake, IsUnused}
use Rattle.site_links.specs.declared.port.Port as Port
use Rattle.site_links.proofs.Kept.{Begins-empty}
use Rattle.np_site_runs.specs.Holdings.{Holding}
use Rattle.np_site_runs.specs.Accounts.{IsAccount, came_on}
use Rattle.np_site_runs.specs.Starting.{start_holding}
use Rattle.np_site_runs.proofs.Accounts.{account_starts}
use Rattle.np_code.specs.Programs.{ProgramTable, program}
use Rattle.agent_move.specs.declared.item.Item.{Item}
use Rattle.site_state.specs.Lines.{queue_at}
use Rattle.site_state.specs.Standings.{Standing}
use Rattle.site_turn.specs.declared.seat.Seat.{Seat}
use Rattle.site_turn.specs.Turns.{IsStrange, Kept, came_from, shown}
use Rattle.site_crew.specs.Links.{AllStill, AreSettled}
use Rattle.crew_ends.specs.Starts.{AreFirst, IsFirst}
use Rattle.site_crew.specs.Clocks.{AreSteady}
use Rattle.site_crew.specs.Seats.{AllGrow, AllTurned, AreFresh, AreSeats, AreWhole, Stand, histories}
use Rattle.site_crew.proofs.Clocks.{steady_again}
use Rattle.site_turn.specs.Steady.{IsOneMore}
use Rattle.np_syntax.proofs.Options.{some_is}
use Rattle.site_crew.proofs.Pairs.{linked_after}
use Rattle.site_crew.proofs.Goings.{seat_still, seats_turned, turned_at}

no_history : (k limit : ℕ) → IsHistory (without_events k limit)
no_history k limit = record { within = omega arith; rising = tt; one_each = refl }

module _ {P R : Type 0} {g : Port.Ghosts P R Item} {code : ProgramTable} where
  first_kept : {limit k : ℕ} {p : P} {s : Seat P} → IsFirst code limit k p s → IsUnused (length code.sites) (g.sent p) (g.got p) (g.known p) (g.room p) → Kept g code (start_holding (program code) k) s
  first_kept {limit} {k} {p} {s} is unused = record {
    deeds = [];
    came = [];
    account = subst₂ (λ (m : ℕ) (e : Holding). IsAccount (length code.sites) m (start_holding (program code) k) [] e []) (sym is.site.number) (sym is.site.holding)
        (account_starts (length code.sites) k (start_holding (program code) k) refl);
    clock = let zero : s.site.clock ≡ 0 = is.site.clock in omega arith;
    events = ap (λ h. h.events) is.site.history;
    from = 0;
    within = subst (λ (o : Option Item). IfSome o (λ x. 0 < length code.sites)) (sym is.aside) tt;
    got = λ i. ap (λ q. shown code (g.got q i)) is.port ∙ ap (shown code) (unused.got_none i) ∙ ap (λ o. came_on i ([] ++ came_from code 0 o)) (sym is.aside);
    put = λ t. ap (λ q. shown code (g.sent q t ++ queue_at s.site.outgoing t)) is.port ∙ ap (λ l. shown code (l ++ queue_at s.site.outgoing t)) (unused.sent_none t)
        ∙ ap (shown code) (is.site.outgoing.queues t);
  }

  pub stand_first : {limit : ℕ} {ports : List P} {xs : List (Seat P)} → IsFullMake g.site g.among g.linked (length code.sites) ports
      → ((i : ℕ) (p : P) → slice_get ports i ≡ Some p → IsUnused (length code.sites) (g.sent p) (g.got p) (g.known p) (g.room p)) → AreFirst code limit ports xs → Stand g code limit xs
  stand_first {limit} {ports} {xs} make unused first = record {
    seats = record {
      count = first.count ∙ make.count;
      each = λ k s at.
          let e = first.each k s at in let p = make.places k e.0 e.1 in record {
            number = e.2.site.number;
            owner = ap (λ h. h.site) e.2.site.history;
            placed = record {
              number = ap g.site e.2.port ∙ p.0 ∙ sym e.2.site.number;
              among = ap g.among e.2.port ∙ p.1;
              lines = e.2.site.outgoing.sites;
              budget = e.2.budget ∙ sym (ap (λ h. h.budget) e.2.site.history);
            };
            quiet = e.2.site.quiet;
            kept = first_kept e.2 (unused k e.0 e.1);
            budget = e.2.budget;
            aside = λ ok. subst (λ (o : Option Item). IfSome o (IsStrange s.site.site)) (sym e.2.aside) tt;
          };
      linked = record {
        placed = λ i s at. let e = first.each i s at in let p = make.places i e.0 e.1 in (ap g.site e.2.port ∙ p.0, ap g.among e.2.port ∙ (p.1 ∙ sym make.count ∙ sym first.count));
        linked = λ i j s t at to.
            let e = first.each i s at in let f = first.each j t to in
            ∣ subst (λ (p : P). g.linked p t.port) (sym e.2.port) (subst (λ (p : P). g.linked e.0 p) (sym f.2.port) (make.pairs i j e.0 f.0 e.1 f.1)) ∣₁;
      };
    };
    settled = record {
      each = λ j h. record {
        settled = λ i s t at to.
            let e = first.each i s at in let f = first.each j t to in
            let less : j < length code.sites = subst (λ (m : ℕ). j < m) (first.count ∙ make.count) (slice_get_within xs j t to) in record {
              all = rw (e.2.port, f.2.port, (unused j f.0 f.1).got_none i, (unused j f.0 f.1).known_none i, (unused i e.0 e.1).sent_none j) refl;
              free = rw (e.2.port, (unused i e.0 e.1).all_free j less) (omega arith);
            };
        told = λ s at.
            let e = first.each j s at in
            record { none = λ h k lt. ap (λ q. g.known q k) e.2.port ∙ (unused j e.0 e.1).known_none k; some = λ none. e.2.waits };
      };
    };
    whole = record { each = λ i s at. let e = first.each i s at in subst IsHistory (sym e.2.site.history) (no_history i limit) };
    fresh = record { clocks = λ none i s at. let e = first.each i s at in e.2.site.clock };
    steady = record {
      set = 0;
      enough = omega arith;
      each = λ i s at.
          let e = first.each i s at in
          let zero : s.site.clock ≡ 0 = e.2.site.clock in
          record {
            clock = inl (omega arith);
            each = subst (λ (h : Recorded). AllByRecursion (λ x. IsOneMore g code 0 s x.stamp) h.events) (sym e.2.site.history) tt;
          };
    };
  }

  -- turns in which no site makes an event leave each clock at 0
  pub fresh_again : {xs ys zs : List (Seat P)} → AreFresh xs → AllTurned g code xs ys → AllStill g ys zs → AreFresh zs
  fresh_again {xs} {ys} {zs} fresh turned still = record {
    clocks = λ none i s at.
        let b = still.each i s at in
        let a = turned_at turned i b.before b.was in
        let site : s.site ≡ b.before.site = b.still.site_same in
        let empty : b.before.site.history.events ≡ [] = ap (λ (v : Standing). v.history.events) (sym site) ∙ none i s at in
        let was : a.0.site.history.events ≡ [] = Begins-empty a.0.site.history.events (subst (λ es. Begins es a.0.site.history.events) empty a.2.history.events) in
        let first : a.0.site.clock ≡ 0 = fresh.clocks (λ k x there. none-before none k x there) i a.0 a.1 in
        ap (λ (v : Standing). v.clock) site ∙ a.2.clock (empty ∙ sym was) ∙ first;
  }
    where
      none-before : ((i : ℕ) (s : Seat P) → slice_get zs i ≡ Some s → s.site.history.events ≡ []) → (k : ℕ) (x : Seat P) → slice_get xs k ≡ Some x → x.site.history.events ≡ []
      none-before none k x there =
          let low : k < length xs = slice_get_within xs k x there in
          let less : k < length zs = omega (arith, still.count, turned.count) in
          let z : Seat P = get_or zs k x in
          let at : slice_get zs k ≡ Some z = slice_get-get_or zs k x less in
          let b = still.each k z at in
          let a = turned_at turned k b.before b.was in
          let same : x ≡ a.0 = some_is (slice_get xs k) x a.0 there a.1 in
          let empty : b.before.site.history.events ≡ [] = ap (λ (v : Standing). v.history.events) (sym b.still.site_same) ∙ none k z at in
          ap (λ (v : Seat P). v.site.history.events) same ∙ Begins-empty a.0.site.history.events (subst (λ es. Begins es a.0.site.history.events) empty a.2.history.events)

  -- after turns, once the links are settled again
  pub stand_again : {limit : ℕ} {xs ys zs : List (Seat P)} → AreSeats g code limit xs → AreFresh xs → AreSteady g code xs → AllGrow (histories xs) (histories zs)
      → AllTurned g code xs ys → AllStill g ys zs → AreSettled g zs → AreWhole zs → Stand g code limit zs
  stand_again {limit} {xs} {ys} {zs} seats fresh steady grow turned still settled whole =
      let after = seats_turned seats turned in record {
        seats = record {
          count = still.count ∙ after.count;
          each = λ i s at. let b = still.each i s at in seat_still b.still (after.each i b.before b.was);
          linked = linked_after after.linked still;
        };
        settled = settled;
        whole = whole;
        fresh = fresh_again fresh turned still;
        steady = steady_again steady grow (turned_at turned) still;
      }
