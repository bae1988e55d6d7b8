-- A round: turns, and the links settled.
use Rattle.std.proofs.Common.{◌≡◌, ◌≢◌, ℕ, ◌+◌, ◌<◌, ◌≤◌, inl, inr, Bool, List, length, set, get_or, refl, sym, ◌∙◌, ap, subst, arith, Some, length-set}
use Rattle.std.specs.Prelude.{slice_get, All}
use Rattle.std.proofs.lemmas.List.{get_or-set_same, get_or-set_other}
use Rattle.std.proofs.lemmas.Bool.Decides.{eqb_tells}
use Rattle.std.proofs.lemmas.Option.{slice_get_within, slice_get-get_or, get_or_from_slice_get}
use Rattle.std.proofs.Math.Logic.{∥∥₁_map}
use Rattle.site_links.specs.declared.port.Port as Port
use Rattle.np_syntax.proofs.Options.{some_is}
use Rattle.site_links.proofs.Kept.{linked_still}
use Rattle.np_code.specs.Programs.{ProgramTable, program}
use Rattle.np_site_runs.specs.Starting.{start_holding}
use Rattle.agent_move.specs.declared.item.Item.{Item}
use Rattle.site_state.specs.Standings.{IsQuiet, Standing, holding_of}
use Rattle.site_turn.specs.declared.seat.Seat.{Seat}
use Rattle.site_turn.specs.Turns.{Seated, TookTurn, Turned}
use Rattle.site_turn.proofs.Steps as steps
use Rattle.site_crew.specs.Links.{Still}
use Rattle.site_crew.specs.Seats.{AllTurned, AreSeats, IsSeat}

pub all_of : {T : Type 0} (Q : T → Type 0) (xs : List T) → ((i : ℕ) (c : T) → slice_get xs i ≡ Some c → Q c) → All Q xs
all_of Q xs h = λ i d lt. h i (get_or xs i d) (slice_get-get_or xs i d lt)

pub serial_rest : {P : Type 0} (xs ys : List (Seat P)) (i : ℕ) (c : Seat P)
    → ((k : ℕ) (d : Seat P) → i ≤ k → k < length ys → get_or ys k d ≡ get_or xs k d)
    → (k : ℕ) (d : Seat P) → i + 1 ≤ k → k < length (set ys i c) → get_or (set ys i c) k d ≡ get_or xs k d
serial_rest xs ys i c rest k d le lt =
    let ne : k ≢ i = omega arith in
    get_or-set_other ys i k c d ne ∙ rest k d (omega arith) (omega (arith, length-set ys i c))

module _ {P R : Type 0} {g : Port.Ghosts P R Item} {code : ProgramTable} where
  -- one more turn of a row
  pub serial_done : (walks : Bool) (xs ys : List (Seat P)) (i : ℕ) (r c : Seat P) → i < length ys
      → ((k : ℕ) (d : Seat P) → k < i → TookTurn g code walks (get_or xs k d) (get_or ys k d))
      → ((k : ℕ) (d : Seat P) → i ≤ k → k < length ys → get_or ys k d ≡ get_or xs k d)
      → TookTurn g code walks (get_or ys i r) c → (k : ℕ) (d : Seat P) → k < i + 1 → TookTurn g code walks (get_or xs k d) (get_or (set ys i c) k d)
  serial_done walks xs ys i r c h done rest t k d lt =
      elim (eqb_tells k i) [
        | inl w ↦
            let a : get_or ys i d ≡ get_or ys i r = get_or_from_slice_get ys i (get_or ys i r) d (slice_get-get_or ys i r h) in
            let e : get_or ys i r ≡ get_or xs i d = sym a ∙ rest i d (omega arith) h in
            rw (w.1, get_or-set_same ys i c d h) (subst (λ (o : Seat P). TookTurn g code walks o c) e t)
        | inr w ↦ rw (get_or-set_other ys i k c d w.1) (done k d (omega arith))
      ]

  -- the seat that a turn had before
  pub turned_at : {xs ys : List (Seat P)} → AllTurned g code xs ys → (k : ℕ) (c : Seat P) → slice_get ys k ≡ Some c → (b : Seat P) × (slice_get xs k ≡ Some b) × Turned g code b c
  turned_at {xs} {ys} t k c h =
      let lt : k < length ys = slice_get_within ys k c h in
      let lx : k < length xs = omega (arith, t.count) in
      let e : get_or ys k c ≡ c = get_or_from_slice_get ys k c c h in
      (get_or xs k c, slice_get-get_or xs k c lx, subst (λ (o : Seat P). Turned g code (get_or xs k c) o) e (t.each k c lx))

  -- the seat in a place of those of a crew
  pub seat_seated : {budget : ℕ} (i : ℕ) {xs : List (Seat P)} {s : Seat P} → AreSeats g code budget xs → slice_get xs i ≡ Some s → Seated g code s
  seat_seated {budget} i {xs} {s} seats at =
      let h = seats.each i s at in record { placed = h.placed; own = seats.linked.linked i i s s at at; quiet = h.quiet; start = start_holding (program code) i; kept = h.kept }

  pub all_seated : {budget : ℕ} {xs : List (Seat P)} → AreSeats g code budget xs → All (λ s. Seated g code s) xs
  all_seated {budget} {xs} h = all_of (λ s. Seated g code s) xs (λ i c at. seat_seated i h at)

  pub seats_turned : {budget : ℕ} {xs ys : List (Seat P)} → AreSeats g code budget xs → AllTurned g code xs ys → AreSeats g code budget ys
  seats_turned {budget} {xs} {ys} h t = record {
    count = t.count ∙ h.count;
    each = λ i c at.
        let b = turned_at t i c at in let old = h.each i b.0 b.1 in record {
          number = b.2.number ∙ old.number;
          owner = b.2.history.site ∙ old.owner;
          placed = (steps.seated_after b.2 (seat_seated i h b.1)).placed;
          quiet = b.2.quiet old.quiet;
          kept = b.2.kept (start_holding (program code) i) old.kept;
          budget = b.2.budget ∙ old.budget;
          aside = b.2.aside old.aside;
        };
    linked = record {
      placed = λ i c at. let b = turned_at t i c at in let p = h.linked.placed i b.0 b.1 in (b.2.keeps.others.site_same ∙ p.0, b.2.keeps.others.among_same ∙ (p.1 ∙ sym t.count));
      linked = λ i j c d at to.
          let b = turned_at t i c at in let e = turned_at t j d to in
          elim (eqb_tells i j) [
            | inl w ↦
                let there : slice_get ys i ≡ Some d = subst (λ (m : ℕ). slice_get ys m ≡ Some d) (sym w.1) to in
                subst (λ (o : Seat P). ∥ g.linked c.port o.port ∥₁) (some_is (slice_get ys i) c d at there) (∥∥₁_map (h.linked.linked i i b.0 b.0 b.1 b.1) b.2.keeps.own)
            | inr w ↦
                let apart : g.site b.0.port ≢ g.site e.0.port = λ same. w.1 (sym (h.linked.placed i b.0 b.1).0 ∙ (same ∙ (h.linked.placed j e.0 e.1).0)) in
                ∥∥₁_map (h.linked.linked i j b.0 e.0 b.1 e.1) (linked_still apart b.2.keeps e.2.keeps)
          ];
    };
  }

  -- the links of a seat were settled
  kept_settled : {a b : Seat P} → Still g a b → steps.Still g code a b
  kept_settled {a} {b} s = record {
    number = ap (λ (v : Standing). v.site) s.site_same;
    holding = ap (holding_of code) s.site_same;
    clock = ap (λ (v : Standing). v.clock) s.site_same;
    history = ap (λ (v : Standing). v.history) s.site_same;
    aside = s.aside_same;
    got = s.got_same;
    put = λ t. rw (s.sent_same t, s.site_same) refl;
  }

  pub seat_still : {budget i : ℕ} {a b : Seat P} → Still g a b → IsSeat g code budget i a → IsSeat g code budget i b
  seat_still {budget} {i} {a} {b} s h = record {
    number = ap (λ (v : Standing). v.site) s.site_same ∙ h.number;
    owner = ap (λ (v : Standing). v.history.site) s.site_same ∙ h.owner;
    placed = record {
      number = s.number ∙ (h.placed.number ∙ sym (ap (λ (v : Standing). v.site) s.site_same));
      among = s.among ∙ h.placed.among;
      lines = ap (λ (v : Standing). length v.outgoing) s.site_same ∙ h.placed.lines;
      budget = s.budget_same ∙ (h.placed.budget ∙ sym (ap (λ (v : Standing). v.history.budget) s.site_same));
    };
    quiet = subst (λ (v : Standing). IsQuiet code v) (sym s.site_same) h.quiet;
    kept = steps.kept_still (kept_settled s) (start_holding (program code) i) h.kept;
    budget = s.budget_same ∙ h.budget;
    aside = rw (s.failed_same, s.aside_same, s.site_same) h.aside;
  }
