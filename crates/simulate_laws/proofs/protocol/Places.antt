-- The rules that change a place, and the note of a new site.
use Rattle.std.proofs.Common.{◌≡◌, ◌+◌, ◌≤◌, ◌⊎◌, inl, inr, ℕ, Bool, true, false, cond, Some, List, [], ◌∷◌, refl, sym, ap, ◌∙◌, arith}
use Rattle.std.specs.List.{sum_by, count_by}
use Rattle.std.proofs.lemmas.List.Elements.{recursion_from_All, All-weaker}
use Rattle.np_syntax.specs.declared.value.Name.{Name}
use Rattle.np_tables.specs.Names.{same_name}
use Rattle.np_tables.proofs.Tables.{same_name-is, same_name-itself}
use Rattle.simulate_laws.specs.protocol.Chips.{Chip, counted, is_of_locks, is_lock, has_lock, takes_for, does}
use Rattle.simulate_laws.specs.protocol.Columns.{Column, times}
use Rattle.simulate_laws.specs.protocol.Phases.{Phase, line, is_present, is_registered, is_moving}
use Rattle.simulate_laws.specs.protocol.Protocol.{IsTrueOf, Protocol, one_if}
use Rattle.simulate_laws.specs.protocol.Scenes.{Whereabouts, Scene, is_there, changed, with_place}
use Rattle.simulate_laws.specs.protocol.Steps.{Step}
use Rattle.simulate_laws.proofs.protocol.Kept.{same_rows, one_row, two_rows, phase_of, phase_of_second, rest_in_line, same_sum, no_fewer, carry, all_true}
use Rattle.simulate_laws.proofs.protocol.Moves.{Then, apart_by, lock_of, only-zero}
use Rattle.simulate_laws.proofs.protocol.Phases.{moved, alike, next_here, next_other, still_reporting, was_reporting}
use Rattle.simulate_laws.proofs.protocol.Steps.{sum_before, sum_after, all_taken, all_rest, all_rest_weighed}
use Rattle.simulate_laws.proofs.protocol.Tallies.{only}

module _ {X : Type 0} (f : Name → X) (a : Name) (x : X) where
  changed_here : changed f a x a ≡ x
  changed_here = rw (same_name-itself a) refl

  -- a value that the name does not have stays
  changed_kept : (y : X) → (f a ≡ y → ⊥) → (q : Name) → f q ≡ y → changed f a x q ≡ y
  changed_kept y other q e = go (same_name q a) refl
    where
      go : (t : Bool) → same_name q a ≡ t → cond t x (f q) ≡ y
      go true s = absurd (other (sym (ap f (same_name-is q a s)) ∙ e))
      go false s = e

  -- a part that both values have
  changed_alike : {Y : Type 0} (g : X → Y) → g x ≡ g (f a) → (q : Name) → g (changed f a x q) ≡ g (f q)
  changed_alike g same q = go (same_name q a) refl
    where
      go : (t : Bool) → same_name q a ≡ t → g (cond t x (f q)) ≡ g (f q)
      go true s = same ∙ sym (ap g (ap f (same_name-is q a s)))
      go false s = refl

absent_is : (p : Phase) → is_present p ≡ false → p ≡ Phase.absent
absent_is Phase.absent h = refl
absent_is _ h = absurd cc

module _ (w : Scene) (phase : Name → Phase) {before after : List Chip} where
  pub arrives : (a : Name) (t : ℕ) → w.place a ≡ Whereabouts.under_way t → Step before after [] [] → Protocol w phase before → Then (with_place w a (Whereabouts.at t)) after
  arrives a t comes step p = (
    phase,
    record {
      rows = same_rows step phase p.rows λ x c. refl;
      placed = λ x. there x ∙ p.placed x;
      registered = p.registered;
      apart = p.apart;
      one_map = same_sum step (λ ch. one_if (is_of_locks ch)) refl ∙ p.one_map;
      one_lock = λ x. ap (λ n. n + one_if (is_moving (phase x))) (same_sum step (λ ch. one_if (has_lock (w.lock x) x ch)) refl) ∙ p.one_lock x;
      travels = λ x u r. on_way x u (same_name x a) refl (p.travels x u r);
      letters = λ x h. let more = no_fewer step (λ ch. one_if (takes_for x ch)) refl in omega (arith, more, p.letters x (sym (there x) ∙ h));
      services = λ k always. let more = no_fewer step (λ ch. one_if (does k ch)) refl in omega (arith, more, p.services k always);
      true_chips = all_true step v phase tt
          (All-weaker (IsTrueOf w phase) (IsTrueOf v phase) (λ ch. carry w v phase phase place (λ x l h. h) (λ x u r. r) ch (λ is x. refl)) step.rest (all_rest step (IsTrueOf w phase) p.true_chips));
    },
  )
    where
      v : Scene
      v = with_place w a (Whereabouts.at t)

      there : (x : Name) → is_there (changed w.place a (Whereabouts.at t) x) ≡ is_there (w.place x)
      there = changed_alike w.place a (Whereabouts.at t) is_there (sym (ap is_there comes))

      place : (x : Name) (s : ℕ) → w.place x ≡ Whereabouts.at s → changed w.place a (Whereabouts.at t) x ≡ Whereabouts.at s
      place x s h = changed_kept w.place a (Whereabouts.at t) (Whereabouts.at s) (λ e. let bad : Whereabouts.under_way t ≡ Whereabouts.at s = sym comes ∙ e in cc) x h

      on_way : (x : Name) (u : ℕ) (b : Bool) → same_name x a ≡ b → (w.place x ≡ Whereabouts.at u) ⊎ (w.place x ≡ Whereabouts.under_way u)
          → (cond b (Whereabouts.at t) (w.place x) ≡ Whereabouts.at u) ⊎ (cond b (Whereabouts.at t) (w.place x) ≡ Whereabouts.under_way u)
      on_way x u false s h = h
      on_way x u true s (inl h) = absurd (let bad : Whereabouts.under_way t ≡ Whereabouts.at u = sym comes ∙ sym (ap w.place (same_name-is x a s)) ∙ h in cc)
      on_way x u true s (inr h) = inl (let same : Whereabouts.under_way t ≡ Whereabouts.under_way u = sym comes ∙ sym (ap w.place (same_name-is x a s)) ∙ h in let e : t ≡ u = cc in ap Whereabouts.at e)

  pub creates : (a b : Name) (s : ℕ) → w.place b ≡ Whereabouts.nowhere
      → Step before after (Chip.maker a s ∷ []) (Chip.registration b s ∷ Chip.child b a s ∷ Chip.waiter a s ∷ Chip.takes_letters b ∷ []) → Protocol w phase before → Then (with_place w b (Whereabouts.at s)) after
  creates a b s new step p = (
    then,
    record {
      rows = two_rows step phase p.rows b a Phase.absent Phase.registering Phase.creating Phase.parent [] (Column.registration ∷ Column.child ∷ []) (Column.maker ∷ []) (Column.owed ∷ Column.waiter ∷ []) none still refl refl refl refl;
      placed = λ x. placed x (same_name x b) refl ∙ sym (alike middle a Phase.creating Phase.parent still is_present refl x);
      registered = λ x. p.registered x ∙ sym (alike middle a Phase.creating Phase.parent still is_registered refl x ∙ alike phase b Phase.absent Phase.registering none is_registered refl x);
      apart = p.apart;
      one_map = same_sum step (λ ch. one_if (is_of_locks ch)) refl ∙ p.one_map;
      one_lock = λ x.
          let m : one_if (is_moving (then x)) ≡ one_if (is_moving (phase x)) = ap one_if (alike middle a Phase.creating Phase.parent still is_moving refl x ∙ alike phase b Phase.absent Phase.registering none is_moving refl x) in
          let r : one_if (is_registered (then x)) ≡ one_if (is_registered (phase x)) =
          ap one_if (alike middle a Phase.creating Phase.parent still is_registered refl x ∙ alike phase b Phase.absent Phase.registering none is_registered refl x) in
          let n : count_by (has_lock (w.lock x) x) after ≡ count_by (has_lock (w.lock x) x) before = same_sum step (λ ch. one_if (has_lock (w.lock x) x ch)) refl in
          omega (arith, p.one_lock x);
      travels = λ x u r. on_way x u (p.travels x u (was_reporting phase b Phase.absent Phase.registering none refl x u (was_reporting middle a Phase.creating Phase.parent still refl x u r)));
      letters = λ x h. taken_in x (same_name x b) refl h;
      services = λ k always. let more = no_fewer step (λ ch. one_if (does k ch)) refl in omega (arith, more, p.services k always);
      true_chips = all_true step v then (here, ((here, parent_here), (inl parent_here, (tt, tt))))
          (All-weaker (IsTrueOf w phase) (IsTrueOf v then) (λ ch. carry w v phase then place (λ x l h. h) reports ch (λ is x. refl)) step.rest (all_rest step (IsTrueOf w phase) p.true_chips));
    },
  )
    where
      v : Scene
      v = with_place w b (Whereabouts.at s)

      none : phase b ≡ Phase.absent
      none = absent_is (phase b) (sym (p.placed b) ∙ ap is_there new)

      making : phase a ≡ Phase.creating
      making = phase_of_second step phase p.rows b a Phase.creating [] (Column.maker ∷ []) refl refl refl

      middle : Name → Phase
      middle = changed phase b Phase.registering

      still : middle a ≡ Phase.creating
      still = next_other phase b Phase.absent Phase.registering none a (apart_by phase a b Phase.creating Phase.absent making none refl) ∙ making

      then : Name → Phase
      then = changed middle a Phase.parent

      here : changed w.place b (Whereabouts.at s) b ≡ Whereabouts.at s
      here = changed_here w.place b (Whereabouts.at s)

      place : (x : Name) (u : ℕ) → w.place x ≡ Whereabouts.at u → changed w.place b (Whereabouts.at s) x ≡ Whereabouts.at u
      place x u h = changed_kept w.place b (Whereabouts.at s) (Whereabouts.at u) (λ e. let bad : Whereabouts.nowhere ≡ Whereabouts.at u = sym new ∙ e in cc) x h

      parent_here : changed w.place b (Whereabouts.at s) a ≡ Whereabouts.at s
      parent_here = place a s (recursion_from_All (IsTrueOf w phase) (Chip.maker a s ∷ []) (all_taken step (IsTrueOf w phase) p.true_chips)).0

      reports : (x : Name) (t : ℕ) → phase x ≡ Phase.reporting t → then x ≡ Phase.reporting t
      reports x t r = still_reporting middle a Phase.creating Phase.parent still refl x t (still_reporting phase b Phase.absent Phase.registering none refl x t r)

      placed : (x : Name) (t : Bool) → same_name x b ≡ t → is_there (cond t (Whereabouts.at s) (w.place x)) ≡ is_present (cond t Phase.registering (phase x))
      placed x true e = refl
      placed x false e = p.placed x

      on_way : (x : Name) (u : ℕ) → (w.place x ≡ Whereabouts.at u) ⊎ (w.place x ≡ Whereabouts.under_way u)
          → (changed w.place b (Whereabouts.at s) x ≡ Whereabouts.at u) ⊎ (changed w.place b (Whereabouts.at s) x ≡ Whereabouts.under_way u)
      on_way x u (inl h) = inl (place x u h)
      on_way x u (inr h) = inr (changed_kept w.place b (Whereabouts.at s) (Whereabouts.under_way u) (λ e. let bad : Whereabouts.nowhere ≡ Whereabouts.under_way u = sym new ∙ e in cc) x h)

      taken_in : (x : Name) (t : Bool) → same_name x b ≡ t → is_there (cond t (Whereabouts.at s) (w.place x)) ≡ true → 1 ≤ count_by (takes_for x) after
      taken_in x true e h =
          let one : 0 + one_if (same_name x b) ≡ 1 = ap (λ t. 0 + one_if t) e in
          omega (arith, sum_after step (λ ch. one_if (takes_for x ch)))
      taken_in x false e h = let more = no_fewer step (λ ch. one_if (takes_for x ch)) refl in omega (arith, more, p.letters x h)

-- a chip counts for its own agent
counts_one : (a : Name) → 1 ≤ 0 + one_if (same_name a a)
counts_one a = let e : one_if (same_name a a) ≡ 1 = ap one_if (same_name-itself a) in omega arith

module _ (w : Scene) (phase : Name → Phase) {before after : List Chip} where
  pub departs : (a : Name) (t : ℕ) → Step before after (Chip.leaver a ∷ []) (Chip.waiter a t ∷ Chip.report a t false ∷ []) → Protocol w phase before
      → Then (with_place w a (Whereabouts.under_way t)) after
  departs a t step p = (
    then,
    record {
      rows = one_row step phase p.rows a Phase.granted (Phase.reporting t) (Column.leaver ∷ []) (Column.waiter ∷ Column.report ∷ []) was refl refl refl;
      placed = λ x. there x ∙ p.placed x ∙ sym (alike phase a Phase.granted (Phase.reporting t) was is_present refl x);
      registered = λ x. p.registered x ∙ sym (alike phase a Phase.granted (Phase.reporting t) was is_registered refl x);
      apart = p.apart;
      one_map = same_sum step (λ ch. one_if (is_of_locks ch)) refl ∙ p.one_map;
      one_lock = λ x.
          let m : one_if (is_moving (then x)) ≡ one_if (is_moving (phase x)) = ap one_if (alike phase a Phase.granted (Phase.reporting t) was is_moving refl x) in
          let r : one_if (is_registered (then x)) ≡ one_if (is_registered (phase x)) = ap one_if (alike phase a Phase.granted (Phase.reporting t) was is_registered refl x) in
          let n : count_by (has_lock (w.lock x) x) after ≡ count_by (has_lock (w.lock x) x) before = same_sum step (λ ch. one_if (has_lock (w.lock x) x ch)) refl in
          omega (arith, p.one_lock x);
      travels = λ x u r. on_way x u (same_name x a) refl r (p.travels x u);
      letters = λ x h. let more = no_fewer step (λ ch. one_if (takes_for x ch)) refl in omega (arith, more, p.letters x (sym (there x) ∙ h));
      services = λ k always. let more = no_fewer step (λ ch. one_if (does k ch)) refl in omega (arith, more, p.services k always);
      true_chips = all_true step v then (inr left, ((left, λ e. absurd cc), tt))
          (All-weaker (λ ch. IsTrueOf w phase ch × ((f : Chip → ℕ) → f ch ≤ sum_by f step.rest)) (IsTrueOf v then) (λ ch h. stays ch h.0 h.1) step.rest (all_rest_weighed step (IsTrueOf w phase) p.true_chips));
    },
  )
    where
      v : Scene
      v = with_place w a (Whereabouts.under_way t)

      was : phase a ≡ Phase.granted
      was = phase_of step phase p.rows a Phase.granted (Column.leaver ∷ []) refl refl refl

      then : Name → Phase
      then = changed phase a (Phase.reporting t)

      left : then a ≡ Phase.reporting t
      left = next_here phase a Phase.granted (Phase.reporting t) was

      there : (x : Name) → is_there (changed w.place a (Whereabouts.under_way t) x) ≡ is_there (w.place x)
      there = changed_alike w.place a (Whereabouts.under_way t) is_there (sym (p.placed a ∙ ap is_present was))

      on_way : (x : Name) (u : ℕ) (b : Bool) → same_name x a ≡ b → cond b (Phase.reporting t) (phase x) ≡ Phase.reporting u
          → (phase x ≡ Phase.reporting u → (w.place x ≡ Whereabouts.at u) ⊎ (w.place x ≡ Whereabouts.under_way u))
          → (cond b (Whereabouts.under_way t) (w.place x) ≡ Whereabouts.at u) ⊎ (cond b (Whereabouts.under_way t) (w.place x) ≡ Whereabouts.under_way u)
      on_way x u false s r h = h r
      on_way x u true s r h = inr (let e : t ≡ u = cc in ap Whereabouts.under_way e)

      -- who counts in a column that an agent that leaves has not is another agent
      other : (x : Name) (c : Column) → times c (line Phase.granted) ≡ 0 → 1 ≤ sum_by (counted x c) step.rest → same_name x a ≡ false
      other x c none some = go (same_name x a) refl
        where
          go : (b : Bool) → same_name x a ≡ b → b ≡ false
          go false e = refl
          go true e =
              let here : times c (line (phase x)) ≡ times c (line Phase.granted) = ap (λ q. times c (line q)) (ap phase (same_name-is x a e) ∙ was) in
              absurd (let bad : ⊥ = omega (arith, rest_in_line step phase p.rows x c) in bad)

      still : (x : Name) → same_name x a ≡ false → (y : Whereabouts) → w.place x ≡ y → changed w.place a (Whereabouts.under_way t) x ≡ y
      still x e y h = rw e h

      still_reports : (x : Name) → same_name x a ≡ false → (s : ℕ) → phase x ≡ Phase.reporting s → then x ≡ Phase.reporting s
      still_reports x e s h = rw e h

      -- its lock is out for its move
      not_out : (x : Name) → 1 ≤ sum_by (λ ch. one_if (has_lock (w.lock x) x ch)) step.rest → same_name x a ≡ false
      not_out x some = go (same_name x a) refl
        where
          go : (b : Bool) → same_name x a ≡ b → b ≡ false
          go false e = refl
          go true e =
              let here : phase x ≡ Phase.granted = ap phase (same_name-is x a e) ∙ was in
              let m : one_if (is_moving (phase x)) ≡ 1 = ap (λ q. one_if (is_moving q)) here in
              let r : one_if (is_registered (phase x)) ≡ 1 = ap (λ q. one_if (is_registered q)) here in
              absurd (let bad : ⊥ = omega (arith, p.one_lock x, sum_before step (λ ch. one_if (has_lock (w.lock x) x ch))) in bad)

      stays : (ch : Chip) → IsTrueOf w phase ch → ((f : Chip → ℕ) → f ch ≤ sum_by f step.rest) → IsTrueOf v then ch
      stays (Chip.token x s) h f = still x (other x Column.token refl (omega (arith, f (counted x Column.token), counts_one x))) _ h
      stays (Chip.maker x s) h f = still x (other x Column.maker refl (omega (arith, f (counted x Column.maker), counts_one x))) _ h
      stays (Chip.waiter x s) (inl h) f = inl (still x (other x Column.waiter refl (omega (arith, f (counted x Column.waiter), counts_one x))) _ h)
      stays (Chip.waiter x s) (inr h) f = inr (still_reports x (other x Column.waiter refl (omega (arith, f (counted x Column.waiter), counts_one x))) s h)
      stays (Chip.child x y s) h f =
          (still x (other x Column.child refl (omega (arith, f (counted x Column.child), counts_one x))) _ h.0, still y (other y Column.owed refl (omega (arith, f (counted y Column.owed), counts_one y))) _ h.1)
      stays (Chip.registration x s) h f = still x (other x Column.registration refl (omega (arith, f (counted x Column.registration), counts_one x))) _ h
      stays (Chip.ack_sent x s) h f = still x (other x Column.ack refl (omega (arith, f (counted x Column.ack), counts_one x))) _ h
      stays (Chip.report x s sent) h f =
          let e = other x Column.report refl (omega (arith, f (counted x Column.report), counts_one x)) in
          (still_reports x e s h.0, λ i. still x e _ (h.1 i))
      stays (Chip.delivery x s) h f = still x (not_out x (omega (arith, f (λ ch. one_if (has_lock (w.lock x) x ch)), counts_one x))) _ h
      stays (Chip.free l s) h f =
          let its : one_if (has_lock (w.lock h.0) h.0 (Chip.free l s)) ≡ 1 = ap (λ o. one_if (is_lock o l)) h.1 ∙ ap one_if (same_name-itself l) in
          (h.0, h.1, still h.0 (not_out h.0 (omega (arith, f (λ ch. one_if (has_lock (w.lock h.0) h.0 ch))))) _ h.2)
      stays (Chip.locks m) h f = h
      stays (Chip.wants x l) h f = h
      stays (Chip.knows x) h f = h
      stays _ h f = tt

  pub notes : (a l : Name) (t : ℕ) → w.lock a ≡ Some l → Step before after (Chip.report a t true ∷ []) (Chip.ack_sent a t ∷ Chip.free l t ∷ []) → Protocol w phase before → Then w after
  notes a l t has step p = (
    then,
    record {
      rows = one_row step phase p.rows a (Phase.reporting t) Phase.finishing (Column.report ∷ []) (Column.ack ∷ []) was refl refl refl;
      placed = λ x. p.placed x ∙ sym (alike phase a (Phase.reporting t) Phase.finishing was is_present refl x);
      registered = λ x. p.registered x ∙ sym (alike phase a (Phase.reporting t) Phase.finishing was is_registered refl x);
      apart = p.apart;
      one_map = same_sum step (λ ch. one_if (is_of_locks ch)) refl ∙ p.one_map;
      one_lock = λ x.
          let f = λ (ch : Chip). one_if (has_lock (w.lock x) x ch) in
          let lock : one_if (is_lock (w.lock x) l) ≡ one_if (same_name x a) = ap one_if (lock_of w p.apart a l has x) in
          let r : one_if (is_registered (then x)) ≡ one_if (is_registered (phase x)) = ap one_if (alike phase a (Phase.reporting t) Phase.finishing was is_registered refl x) in
          let m : one_if (is_moving (then x)) + one_if (same_name x a) ≡ one_if (is_moving (phase x)) + only (same_name x a) 0 = moved phase a (Phase.reporting t) Phase.finishing was (λ q. one_if (is_moving q)) x in
          omega (arith, p.one_lock x, sum_before step f, sum_after step f, only-zero (same_name x a));
      travels = λ x u r. p.travels x u (was_reporting phase a (Phase.reporting t) Phase.finishing was refl x u r);
      letters = λ x h. let more = no_fewer step (λ ch. one_if (takes_for x ch)) refl in omega (arith, more, p.letters x h);
      services = λ k always. let more = no_fewer step (λ ch. one_if (does k ch)) refl in omega (arith, more, p.services k always);
      true_chips = all_true step w then (here, ((a, has, here), tt))
          (All-weaker (λ ch. IsTrueOf w phase ch × ((f : Chip → ℕ) → f ch ≤ sum_by f step.rest)) (IsTrueOf w then) (λ ch h. stays ch h.0 h.1) step.rest (all_rest_weighed step (IsTrueOf w phase) p.true_chips));
    },
  )
    where
      told : (phase a ≡ Phase.reporting t) × (true ≡ true → w.place a ≡ Whereabouts.at t)
      told = (recursion_from_All (IsTrueOf w phase) (Chip.report a t true ∷ []) (all_taken step (IsTrueOf w phase) p.true_chips)).0

      was : phase a ≡ Phase.reporting t
      was = told.0

      here : w.place a ≡ Whereabouts.at t
      here = told.1 refl

      then : Name → Phase
      then = changed phase a Phase.finishing

      waits : (x : Name) (s : ℕ) (b : Bool) → same_name x a ≡ b → phase x ≡ Phase.reporting s → (w.place x ≡ Whereabouts.at s) ⊎ (cond b Phase.finishing (phase x) ≡ Phase.reporting s)
      waits x s true e h =
          let both : Phase.reporting t ≡ Phase.reporting s = sym was ∙ sym (ap phase (same_name-is x a e)) ∙ h in
          let same : t ≡ s = cc in
          inl (ap w.place (same_name-is x a e) ∙ here ∙ ap Whereabouts.at same)
      waits x s false e h = inr h

      -- its one report is taken
      reports : (x : Name) (s : ℕ) (b : Bool) → same_name x a ≡ b → 1 ≤ sum_by (counted x Column.report) step.rest → phase x ≡ Phase.reporting s → cond b Phase.finishing (phase x) ≡ Phase.reporting s
      reports x s true e some h =
          let one : 0 + (0 + one_if (same_name x a)) ≡ 1 = ap (λ t. 0 + (0 + one_if t)) e in
          let line_of : times Column.report (line (phase x)) ≡ 1 = ap (λ q. times Column.report (line q)) h in
          absurd (let bad : ⊥ = omega (arith, p.rows x Column.report, sum_before step (counted x Column.report)) in bad)
      reports x s false e some h = h

      stays : (ch : Chip) → IsTrueOf w phase ch → ((f : Chip → ℕ) → f ch ≤ sum_by f step.rest) → IsTrueOf w then ch
      stays (Chip.waiter x s) (inl h) f = inl h
      stays (Chip.waiter x s) (inr h) f = waits x s (same_name x a) refl h
      stays (Chip.report x s sent) h f = (reports x s (same_name x a) refl (omega (arith, f (counted x Column.report), counts_one x)) h.0, h.1)
      stays _ h f = h
