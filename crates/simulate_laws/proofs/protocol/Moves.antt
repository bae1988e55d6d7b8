-- The rules that leave places and the map as they are, but for the note of a new site.
use Rattle.std.proofs.Common.{◌≡◌, ◌+◌, ◌⊎◌, inl, inr, ℕ, Bool, true, false, Option, None, Some, List, [], ◌∷◌, nat_eq, eq-eqb, refl, sym, ap, ◌∙◌, arith}
use Rattle.std.specs.List.{All, AllByRecursion, sum_by, count_by}
use Rattle.std.proofs.lemmas.List.Elements.{recursion_from_All, All-weaker}
use Rattle.std.proofs.lemmas.List.Sums.{sum_by-cons}
use Rattle.np_syntax.specs.declared.value.Name.{Name}
use Rattle.np_tables.specs.Names.{same_name}
use Rattle.np_tables.proofs.Tables.{same_name-is, same_name-itself}
use Rattle.simulate_laws.specs.protocol.Chips.{Chip, Service, counted, is_of_locks, is_lock, has_lock, takes_for, does}
use Rattle.simulate_laws.specs.protocol.Columns.{Column}
use Rattle.simulate_laws.specs.protocol.Phases.{Phase, is_present, is_registered, is_moving}
use Rattle.simulate_laws.specs.protocol.Protocol.{IsTrueOf, Protocol, one_if}
use Rattle.simulate_laws.specs.protocol.Rules.{IsKnowledge, IsLearnt}
use Rattle.simulate_laws.specs.protocol.Scenes.{Whereabouts, Scene, changed}
use Rattle.simulate_laws.specs.protocol.Steps.{Step}
use Rattle.simulate_laws.proofs.protocol.Kept.{Rows, same_rows, one_row, two_rows, phase_of, phase_of_first, phase_of_second, same_sum, no_fewer, carry, all_true}
use Rattle.simulate_laws.proofs.protocol.Phases.{index, tells_none, moved, alike, next_other, still_reporting, was_reporting}
use Rattle.simulate_laws.proofs.protocol.Steps.{sum_before, sum_after, all_taken, all_rest}
use Rattle.simulate_laws.proofs.protocol.Tallies.{only}

-- the phases go on without an agent that comes, is registered or leaves
record GoesOn (phase then : Name → Phase) : Type 0 where
  present : (x : Name) → is_present (then x) ≡ is_present (phase x)
  registered : (x : Name) → is_registered (then x) ≡ is_registered (phase x)
  reports : (x : Name) (t : ℕ) → phase x ≡ Phase.reporting t → then x ≡ Phase.reporting t
  reported : (x : Name) (t : ℕ) → then x ≡ Phase.reporting t → phase x ≡ Phase.reporting t

same_phases : (phase : Name → Phase) → GoesOn phase phase
same_phases phase = record { present = λ x. refl; registered = λ x. refl; reports = λ x t r. r; reported = λ x t r. r }

goes : (phase : Name → Phase) (a : Name) (p q : Phase) → phase a ≡ p → is_present p ≡ is_present q → is_registered p ≡ is_registered q → tells_none p ≡ true → tells_none q ≡ true
    → GoesOn phase (changed phase a q)
goes phase a p q was present registered none none_then = record {
  present = alike phase a p q was is_present present;
  registered = alike phase a p q was is_registered registered;
  reports = still_reporting phase a p q was none;
  reported = was_reporting phase a p q was none_then;
}

goes_twice : {phase then last : Name → Phase} → GoesOn phase then → GoesOn then last → GoesOn phase last
goes_twice g h = record {
  present = λ x. h.present x ∙ g.present x;
  registered = λ x. h.registered x ∙ g.registered x;
  reports = λ x t r. h.reports x t (g.reports x t r);
  reported = λ x t r. g.reported x t (h.reported x t r);
}

-- no map, letter server or service comes or goes
record IsQuiet (take give : List Chip) : Type 0 where
  maps : count_by is_of_locks take ≡ count_by is_of_locks give
  letters : (a : Name) → count_by (takes_for a) take ≡ 0
  services : (k : Service) → count_by (does k) take ≡ 0

module _ (w : Scene) (phase : Name → Phase) {before after take give : List Chip} (step : Step before after take give) (p : Protocol w phase before) where
  -- the locks, as long as they are with whom they were
  abbrev Locked : (Name → Phase) → Type 0
  Locked then = (a : Name) → count_by (has_lock (w.lock a) a) after + one_if (is_moving (then a)) ≡ one_if (is_registered (then a))

  same_locks : (then : Name → Phase) → GoesOn phase then → ((x : Name) → is_moving (then x) ≡ is_moving (phase x))
      → ((x : Name) → count_by (has_lock (w.lock x) x) take ≡ count_by (has_lock (w.lock x) x) give) → Locked then
  same_locks then g moving same x =
      let m : one_if (is_moving (then x)) ≡ one_if (is_moving (phase x)) = ap one_if (moving x) in
      let r : one_if (is_registered (then x)) ≡ one_if (is_registered (phase x)) = ap one_if (g.registered x) in
      let n : count_by (has_lock (w.lock x) x) after ≡ count_by (has_lock (w.lock x) x) before = same_sum step (λ ch. one_if (has_lock (w.lock x) x ch)) (same x) in
      omega (arith, p.one_lock x)

  goes_on : (then : Name → Phase) → GoesOn phase then → Rows then after → Locked then → IsQuiet take give → AllByRecursion (IsTrueOf w then) give → Protocol w then after
  goes_on then g rows locked quiet given = record {
    rows = rows;
    placed = λ x. p.placed x ∙ sym (g.present x);
    registered = λ x. p.registered x ∙ sym (g.registered x);
    apart = p.apart;
    one_map = same_sum step (λ ch. one_if (is_of_locks ch)) quiet.maps ∙ p.one_map;
    one_lock = locked;
    travels = λ x t r. p.travels x t (g.reported x t r);
    letters = λ x there. let more = no_fewer step (λ ch. one_if (takes_for x ch)) (quiet.letters x) in omega (arith, more, p.letters x there);
    services = λ k always. let more = no_fewer step (λ ch. one_if (does k ch)) (quiet.services k) in omega (arith, more, p.services k always);
    true_chips = all_true step w then given
        (All-weaker (IsTrueOf w phase) (IsTrueOf w then) (λ ch. carry w w phase then (λ x s h. h) (λ x l h. h) g.reports ch (λ is x. refl)) step.rest (all_rest step (IsTrueOf w phase) p.true_chips));
  }

  -- what was taken
  taken : AllByRecursion (IsTrueOf w phase) take
  taken = recursion_from_All (IsTrueOf w phase) take (all_taken step (IsTrueOf w phase) p.true_chips)

-- ---- the agents' own rules

abbrev pub Then : Scene → List Chip → Type 0
Then w after = (then : Name → Phase) × Protocol w then after

module _ (w : Scene) (phase : Name → Phase) {before after : List Chip} where
  pub begins_move : (a : Name) (s : ℕ) → Step before after (Chip.token a s ∷ []) (Chip.mover a ∷ Chip.request a ∷ []) → Protocol w phase before → Then w after
  begins_move a s step p =
      let was : phase a ≡ Phase.resting = phase_of step phase p.rows a Phase.resting (Column.token ∷ []) refl refl refl in
      let g = goes phase a Phase.resting Phase.asking was refl refl refl refl in (
        changed phase a Phase.asking,
        goes_on w phase step p _ g
            (one_row step phase p.rows a Phase.resting Phase.asking (Column.token ∷ []) (Column.mover ∷ Column.request ∷ []) was refl refl refl)
            (same_locks w phase step p _ g (alike phase a Phase.resting Phase.asking was is_moving refl) (λ x. refl))
            (record { maps = refl; letters = λ x. refl; services = λ k. refl })
            (tt, (tt, tt)),
      )

  pub begins_creation : (a : Name) (s : ℕ) → Step before after (Chip.token a s ∷ []) (Chip.maker a s ∷ []) → Protocol w phase before → Then w after
  begins_creation a s step p =
      let was : phase a ≡ Phase.resting = phase_of step phase p.rows a Phase.resting (Column.token ∷ []) refl refl refl in
      let g = goes phase a Phase.resting Phase.creating was refl refl refl refl in (
        changed phase a Phase.creating,
        goes_on w phase step p _ g
            (one_row step phase p.rows a Phase.resting Phase.creating (Column.token ∷ []) (Column.maker ∷ []) was refl refl refl)
            (same_locks w phase step p _ g (alike phase a Phase.resting Phase.creating was is_moving refl) (λ x. refl))
            (record { maps = refl; letters = λ x. refl; services = λ k. refl })
            ((taken w phase step p).0, tt),
      )

  pub comes : (a : Name) (s : ℕ) → Step before after (Chip.ack_sent a s ∷ []) (Chip.ack_here a ∷ []) → Protocol w phase before → Then w after
  comes a s step p = (
    phase,
    goes_on w phase step p _ (same_phases phase) (same_rows step phase p.rows λ x c. refl) (same_locks w phase step p _ (same_phases phase) (λ x. refl) (λ x. refl))
        (record { maps = refl; letters = λ x. refl; services = λ k. refl })
        (tt, tt),
  )

  pub is_granted : (a : Name) → Step before after (Chip.mover a ∷ Chip.ack_here a ∷ []) (Chip.leaver a ∷ []) → Protocol w phase before → Then w after
  is_granted a step p =
      let was : phase a ≡ Phase.granting = phase_of step phase p.rows a Phase.granting (Column.mover ∷ Column.ack ∷ []) refl refl refl in
      let g = goes phase a Phase.granting Phase.granted was refl refl refl refl in (
        changed phase a Phase.granted,
        goes_on w phase step p _ g
            (one_row step phase p.rows a Phase.granting Phase.granted (Column.mover ∷ Column.ack ∷ []) (Column.leaver ∷ []) was refl refl refl)
            (same_locks w phase step p _ g (alike phase a Phase.granting Phase.granted was is_moving refl) (λ x. refl))
            (record { maps = refl; letters = λ x. refl; services = λ k. refl })
            (tt, tt),
      )

  pub finishes : (a : Name) (s : ℕ) → Step before after (Chip.waiter a s ∷ Chip.ack_here a ∷ []) (Chip.token a s ∷ []) → Protocol w phase before → Then w after
  finishes a s step p =
      let was : phase a ≡ Phase.finishing = phase_of step phase p.rows a Phase.finishing (Column.waiter ∷ Column.ack ∷ []) refl refl refl in
      let g = goes phase a Phase.finishing Phase.resting was refl refl refl refl in (
        changed phase a Phase.resting,
        goes_on w phase step p _ g
            (one_row step phase p.rows a Phase.finishing Phase.resting (Column.waiter ∷ Column.ack ∷ []) (Column.token ∷ []) was refl refl refl)
            (same_locks w phase step p _ g (alike phase a Phase.finishing Phase.resting was is_moving refl) (λ x. refl))
            (record { maps = refl; letters = λ x. refl; services = λ k. refl })
            (there was (taken w phase step p).0, tt),
      )
    where
      there : phase a ≡ Phase.finishing → (w.place a ≡ Whereabouts.at s) ⊎ (phase a ≡ Phase.reporting s) → w.place a ≡ Whereabouts.at s
      there was (inl h) = h
      there was (inr r) = absurd (let e : Phase.finishing ≡ Phase.reporting s = sym was ∙ r in cc)

-- two agents in phases that differ
pub apart_by : (phase : Name → Phase) (a b : Name) (p q : Phase) → phase a ≡ p → phase b ≡ q → nat_eq (index p) (index q) ≡ false → same_name a b ≡ false
apart_by phase a b p q at_a at_b differ = go (same_name a b) refl
  where
    go : (t : Bool) → same_name a b ≡ t → t ≡ false
    go false e = refl
    go true e = absurd (
        let one : p ≡ q = sym at_a ∙ ap phase (same_name-is a b e) ∙ at_b in
        let same : nat_eq (index q) (index q) ≡ true = eq-eqb (index q) (index q) refl in
        let d : nat_eq (index q) (index q) ≡ false = ap (λ r. nat_eq (index r) (index q)) (sym one) ∙ differ in
        cc)

-- the lock of an agent is no other's
pub lock_of : (w : Scene) → ((a b l : Name) → w.lock a ≡ Some l → w.lock b ≡ Some l → a ≡ b) → (a l : Name) → w.lock a ≡ Some l → (x : Name) → is_lock (w.lock x) l ≡ same_name x a
lock_of w one a l has x = go (w.lock x) (same_name x a) refl refl
  where
    other : (k : Name) (t : Bool) → same_name k l ≡ t → w.lock x ≡ Some k → same_name x a ≡ false → t ≡ false
    other k false s e d = refl
    other k true s e d = absurd (let same : x ≡ a = one x a l (e ∙ ap Some (same_name-is k l s)) has in let itself : same_name x a ≡ true = ap (λ y. same_name y a) same ∙ same_name-itself a in cc)

    go : (o : Option Name) (t : Bool) → w.lock x ≡ o → same_name x a ≡ t → is_lock o l ≡ t
    go o true e s = let here : o ≡ Some l = sym e ∙ ap w.lock (same_name-is x a s) ∙ has in ap (λ p. is_lock p l) here ∙ same_name-itself l
    go None false e s = refl
    go (Some k) false e s = other k (same_name k l) refl e s

pub only-zero : (t : Bool) → only t 0 ≡ 0
only-zero true = refl
only-zero false = refl

module _ (w : Scene) (phase : Name → Phase) {before after : List Chip} where
  pub starts : (b a : Name) (s : ℕ) → Step before after (Chip.ack_here b ∷ Chip.child b a s ∷ []) (Chip.token b s ∷ Chip.ack_sent a s ∷ []) → Protocol w phase before → Then w after
  starts b a s step p =
      let was : phase b ≡ Phase.starting = phase_of_first step phase p.rows b a Phase.starting (Column.ack ∷ Column.child ∷ []) (Column.owed ∷ []) refl refl refl in
      let parent : phase a ≡ Phase.parent = phase_of_second step phase p.rows b a Phase.parent (Column.ack ∷ Column.child ∷ []) (Column.owed ∷ []) refl refl refl in
      let still : changed phase b Phase.resting a ≡ Phase.parent = next_other phase b Phase.starting Phase.resting was a (apart_by phase a b Phase.parent Phase.starting parent was refl) ∙ parent in
      let g = goes phase b Phase.starting Phase.resting was refl refl refl refl in
      let h = goes (changed phase b Phase.resting) a Phase.parent Phase.finishing still refl refl refl refl in
      let child = (taken w phase step p).1.0 in (
        changed (changed phase b Phase.resting) a Phase.finishing,
        goes_on w phase step p _ (goes_twice g h)
            (two_rows step phase p.rows b a Phase.starting Phase.resting Phase.parent Phase.finishing (Column.ack ∷ Column.child ∷ []) (Column.token ∷ []) (Column.owed ∷ []) (Column.ack ∷ []) was still refl refl refl refl)
            (same_locks w phase step p _ (goes_twice g h)
            (λ x. alike (changed phase b Phase.resting) a Phase.parent Phase.finishing still is_moving refl x ∙ alike phase b Phase.starting Phase.resting was is_moving refl x) (λ x. refl))
            (record { maps = refl; letters = λ x. refl; services = λ k. refl })
            (child.0, (child.1, tt)),
      )

  pub grants : (a l : Name) (s : ℕ) → Step before after (Chip.request a ∷ Chip.wants a l ∷ Chip.free l s ∷ []) (Chip.ack_sent a s ∷ []) → Protocol w phase before → Then w after
  grants a l s step p =
      let was : phase a ≡ Phase.asking = phase_of step phase p.rows a Phase.asking (Column.request ∷ []) refl refl refl in
      let g = goes phase a Phase.asking Phase.granting was refl refl refl refl in
      let has : w.lock a ≡ Some l = (taken w phase step p).1.0 in
      let free = (taken w phase step p).1.1.0 in (
        changed phase a Phase.granting,
        goes_on w phase step p _ g
            (one_row step phase p.rows a Phase.asking Phase.granting (Column.request ∷ []) (Column.ack ∷ []) was refl refl refl)
            (λ x. let f = λ (ch : Chip). one_if (has_lock (w.lock x) x ch) in
            let lock : one_if (is_lock (w.lock x) l) ≡ one_if (same_name x a) = ap one_if (lock_of w p.apart a l has x) in
            let r : one_if (is_registered (changed phase a Phase.granting x)) ≡ one_if (is_registered (phase x)) = ap one_if (g.registered x) in
            let m : one_if (is_moving (changed phase a Phase.granting x)) + only (same_name x a) 0 ≡ one_if (is_moving (phase x)) + one_if (same_name x a) =
            moved phase a Phase.asking Phase.granting was (λ q. one_if (is_moving q)) x in
            omega (arith, p.one_lock x, sum_before step f, sum_after step f, only-zero (same_name x a)))
            (record { maps = refl; letters = λ x. refl; services = λ k. refl })
            (ap w.place (p.apart a free.0 l has free.1) ∙ free.2, tt),
      )

  pub reports : (a : Name) (s t : ℕ) → w.place a ≡ Whereabouts.at s → Step before after (Chip.report a t false ∷ []) (Chip.report a t true ∷ []) → Protocol w phase before → Then w after
  reports a s t here step p =
      let told = (taken w phase step p).0 in (
        phase,
        goes_on w phase step p _ (same_phases phase) (same_rows step phase p.rows λ x c. refl) (same_locks w phase step p _ (same_phases phase) (λ x. refl) (λ x. refl))
            (record { maps = refl; letters = λ x. refl; services = λ k. refl })
            ((told.0, λ e. there (p.travels a t told.0)), tt),
      )
    where
      there : (w.place a ≡ Whereabouts.at t) ⊎ (w.place a ≡ Whereabouts.under_way t) → w.place a ≡ Whereabouts.at t
      there (inl h) = h
      there (inr h) = absurd (let e : Whereabouts.at s ≡ Whereabouts.under_way t = sym here ∙ h in cc)

  pub delivers : (b l : Name) (s : ℕ) → Step before after (Chip.wants b l ∷ Chip.free l s ∷ []) (Chip.delivery b s ∷ []) → Protocol w phase before → Then w after
  delivers b l s step p =
      let has : w.lock b ≡ Some l = (taken w phase step p).0 in
      let free = (taken w phase step p).1.0 in (
        phase,
        goes_on w phase step p _ (same_phases phase) (same_rows step phase p.rows λ x c. refl)
            (same_locks w phase step p _ (same_phases phase) (λ x. refl) (λ x. ap (λ t. 0 + one_if t) (lock_of w p.apart b l has x)))
            (record { maps = refl; letters = λ x. refl; services = λ k. refl })
            (ap w.place (p.apart b free.0 l has free.1) ∙ free.2, tt),
      )

  pub delivered : (b l : Name) (s : ℕ) → w.lock b ≡ Some l → Step before after (Chip.delivery b s ∷ []) (Chip.free l s ∷ []) → Protocol w phase before → Then w after
  delivered b l s has step p = (
    phase,
    goes_on w phase step p _ (same_phases phase) (same_rows step phase p.rows λ x c. refl)
        (same_locks w phase step p _ (same_phases phase) (λ x. refl) (λ x. ap (λ t. 0 + one_if t) (sym (lock_of w p.apart b l has x))))
        (record { maps = refl; letters = λ x. refl; services = λ k. refl })
        ((b, has, (taken w phase step p).0), tt),
  )

-- ---- what is known

-- knowledge weighs nothing
none_of : (f : Chip → ℕ) → ((b l : Name) → f (Chip.wants b l) ≡ 0) → ((b : Name) → f (Chip.knows b) ≡ 0) → (chips : List Chip) → AllByRecursion IsKnowledge chips → sum_by f chips ≡ 0
none_of f wants knows [] h = refl
none_of f wants knows (ch ∷ chips) h = let first : f ch ≡ 0 = one ch h.0 in omega (arith, sum_by-cons f ch chips, none_of f wants knows chips h.1)
  where
    one : (ch : Chip) → IsKnowledge ch → f ch ≡ 0
    one (Chip.wants b l) k = wants b l
    one (Chip.knows b) k = knows b
    one _ k = absurd k

learnt-known : (w : Scene) (ch : Chip) → IsLearnt w ch → IsKnowledge ch
learnt-known w (Chip.wants b l) h = tt
learnt-known w (Chip.knows b) h = tt
learnt-known w _ h = absurd h

learnt-true : (w : Scene) (phase : Name → Phase) (ch : Chip) → IsLearnt w ch → IsTrueOf w phase ch
learnt-true w phase (Chip.wants b l) h = h
learnt-true w phase (Chip.knows b) h = h
learnt-true w phase _ h = absurd h

module _ (w : Scene) (phase : Name → Phase) {before after take give : List Chip} where
  pub knows : All IsKnowledge take → All (IsLearnt w) give → Step before after take give → Protocol w phase before → Then w after
  knows lost learnt step p =
      let taken = recursion_from_All IsKnowledge take lost in
      let given = recursion_from_All IsKnowledge give (All-weaker (IsLearnt w) IsKnowledge (learnt-known w) give learnt) in
      let light = λ (f : Chip → ℕ) (x : (b l : Name) → f (Chip.wants b l) ≡ 0) (y : (b : Name) → f (Chip.knows b) ≡ 0). none_of f x y take taken ∙ sym (none_of f x y give given) in (
        phase,
        goes_on w phase step p _ (same_phases phase) (same_rows step phase p.rows λ x c. light (counted x c) (λ b l. refl) (λ b. refl))
            (same_locks w phase step p _ (same_phases phase) (λ x. refl) (λ x. light (λ ch. one_if (has_lock (w.lock x) x ch)) (λ b l. refl) (λ b. refl)))
            (record {
              maps = light (λ ch. one_if (is_of_locks ch)) (λ b l. refl) (λ b. refl);
              letters = λ x. none_of (λ ch. one_if (takes_for x ch)) (λ b l. refl) (λ b. refl) take taken;
              services = λ k. none_of (λ ch. one_if (does k ch)) (λ b l. refl) (λ b. refl) take taken;
            })
            (recursion_from_All (IsTrueOf w phase) give (All-weaker (IsLearnt w) (IsTrueOf w phase) (learnt-true w phase) give learnt)),
      )
