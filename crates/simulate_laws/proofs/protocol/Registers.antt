-- The rule that enters a new agent in the daemon's map.
use Rattle.std.proofs.Common.{◌≡◌, ◌+◌, ◌≤◌, ℕ, Bool, true, false, cond, Option, None, Some, List, [], ◌∷◌, is_some, refl, sym, ap, ◌∙◌, arith}
use Rattle.std.specs.List.{All, sum_by}
use Rattle.std.proofs.lemmas.List.Elements.{recursion_from_All, All-head, All-tail, All-weaker}
use Rattle.std.proofs.lemmas.List.Sums.{sum_by-cons}
use Rattle.np_syntax.specs.declared.value.Name.{Name}
use Rattle.np_tables.specs.Names.{same_name}
use Rattle.np_tables.proofs.Tables.{same_name-is, same_name-itself}
use Rattle.simulate_laws.specs.protocol.Chips.{Chip, is_of_locks, is_lock, has_lock, takes_for, does}
use Rattle.simulate_laws.specs.protocol.Columns.{Column}
use Rattle.simulate_laws.specs.protocol.Phases.{Phase, is_present, is_registered, is_moving}
use Rattle.simulate_laws.specs.protocol.Protocol.{IsTrueOf, Protocol, one_if}
use Rattle.simulate_laws.specs.protocol.Scenes.{Locks, Whereabouts, Scene, changed, with_lock}
use Rattle.simulate_laws.specs.protocol.Steps.{Step}
use Rattle.simulate_laws.proofs.protocol.Kept.{one_row, phase_of, same_sum, no_fewer, carry, all_true}
use Rattle.simulate_laws.proofs.protocol.Moves.{Then, only-zero}
use Rattle.simulate_laws.proofs.protocol.Phases.{moved, alike, still_reporting, was_reporting}
use Rattle.simulate_laws.proofs.protocol.Steps.{sum_before, sum_after, all_taken, all_rest, all_rest_weighed}
use Rattle.simulate_laws.proofs.protocol.Tallies.{only}

-- things that weigh alike
sum-alike : {A : Type 0} (f g : A → ℕ) (xs : List A) → All (λ x. f x ≡ g x) xs → sum_by f xs ≡ sum_by g xs
sum-alike f g [] h = refl
sum-alike f g (x ∷ xs) h =
    let first : f x ≡ g x = All-head (λ x. f x ≡ g x) x xs h in
    omega (arith, sum_by-cons f x xs, sum_by-cons g x xs, sum-alike f g xs (All-tail (λ x. f x ≡ g x) x xs h))

no_lock : (o : Option Name) → is_some o ≡ false → o ≡ None
no_lock None h = refl
no_lock (Some l) h = absurd cc

module _ (w : Scene) (phase : Name → Phase) {before after : List Chip} where
  pub registers : (b l : Name) (s : ℕ) (m n : Locks) → ((a : Name) → w.lock a ≡ Some l → ⊥) → ((a : Name) → n a ≡ (with_lock w b l).lock a)
      → Step before after (Chip.registration b s ∷ Chip.locks m ∷ []) (Chip.ack_sent b s ∷ Chip.locks n ∷ Chip.free l s ∷ []) → Protocol w phase before → Then (with_lock w b l) after
  registers b l s m n new map step p = (
    then,
    record {
      rows = one_row step phase p.rows b Phase.registering Phase.starting (Column.registration ∷ []) (Column.ack ∷ []) was refl refl refl;
      placed = λ x. p.placed x ∙ sym (alike phase b Phase.registering Phase.starting was is_present refl x);
      registered = λ x. has_one x (same_name x b);
      apart = λ x y k h i. apart x y k (same_name x b) (same_name y b) refl refl h i;
      one_map = same_sum step (λ ch. one_if (is_of_locks ch)) refl ∙ p.one_map;
      one_lock = λ x.
          let f = λ (ch : Chip). one_if (has_lock (w.lock x) x ch) in
          let g = λ (ch : Chip). one_if (has_lock (v.lock x) x ch) in
          let rest : sum_by g step.rest ≡ sum_by f step.rest = sum-alike g f step.rest (All-weaker (IsTrueOf w phase) (λ ch. g ch ≡ f ch) (same_lock x) step.rest (all_rest step (IsTrueOf w phase) p.true_chips)) in
          let lock : one_if (is_lock (v.lock x) l) ≡ one_if (same_name x b) = ap one_if (new_lock x (same_name x b) refl) in
          let i : one_if (is_moving (then x)) ≡ one_if (is_moving (phase x)) = ap one_if (alike phase b Phase.registering Phase.starting was is_moving refl x) in
          let r : one_if (is_registered (then x)) + only (same_name x b) 0 ≡ one_if (is_registered (phase x)) + one_if (same_name x b) =
          moved phase b Phase.registering Phase.starting was (λ q. one_if (is_registered q)) x in
          omega (arith, p.one_lock x, sum_before step f, sum_after step g, only-zero (same_name x b));
      travels = λ x u r. p.travels x u (was_reporting phase b Phase.registering Phase.starting was refl x u r);
      letters = λ x h. let more = no_fewer step (λ ch. one_if (takes_for x ch)) refl in omega (arith, more, p.letters x h);
      services = λ k always. let more = no_fewer step (λ ch. one_if (does k ch)) refl in omega (arith, more, p.services k always);
      true_chips = all_true step v then (here, (map, ((b, entered, here), tt)))
          (All-weaker (λ ch. IsTrueOf w phase ch × ((f : Chip → ℕ) → f ch ≤ sum_by f step.rest)) (IsTrueOf v then)
          (λ ch h. carry w v phase then (λ x u i. i) (λ x k i. kept x k (same_name x b) refl i) (still_reporting phase b Phase.registering Phase.starting was refl) ch (λ is x. absurd (one_map ch is h.1)) h.0)
          step.rest (all_rest_weighed step (IsTrueOf w phase) p.true_chips));
    },
  )
    where
      v : Scene
      v = with_lock w b l

      was : phase b ≡ Phase.registering
      was = phase_of step phase p.rows b Phase.registering (Column.registration ∷ []) refl refl refl

      then : Name → Phase
      then = changed phase b Phase.starting

      here : w.place b ≡ Whereabouts.at s
      here = (recursion_from_All (IsTrueOf w phase) (Chip.registration b s ∷ Chip.locks m ∷ []) (all_taken step (IsTrueOf w phase) p.true_chips)).0

      none : w.lock b ≡ None
      none = no_lock (w.lock b) (p.registered b ∙ ap is_registered was)

      entered : v.lock b ≡ Some l
      entered = rw (same_name-itself b) refl

      has_one : (x : Name) (t : Bool) → is_some (cond t (Some l) (w.lock x)) ≡ is_registered (cond t Phase.starting (phase x))
      has_one x true = refl
      has_one x false = p.registered x

      apart : (x y k : Name) (t u : Bool) → same_name x b ≡ t → same_name y b ≡ u → cond t (Some l) (w.lock x) ≡ Some k → cond u (Some l) (w.lock y) ≡ Some k → x ≡ y
      apart x y k true true e f h i = same_name-is x b e ∙ sym (same_name-is y b f)
      apart x y k true false e f h i = absurd (new y (i ∙ sym h))
      apart x y k false true e f h i = absurd (new x (h ∙ sym i))
      apart x y k false false e f h i = p.apart x y k h i

      -- the lock of an agent that has one is no new one
      old_lock : (o : Option Name) (x : Name) → w.lock x ≡ o → is_lock o l ≡ false
      old_lock None x e = refl
      old_lock (Some k) x e = go (same_name k l) refl
        where
          go : (t : Bool) → same_name k l ≡ t → t ≡ false
          go false d = refl
          go true d = absurd (new x (e ∙ ap Some (same_name-is k l d)))

      new_lock : (x : Name) (t : Bool) → same_name x b ≡ t → is_lock (cond t (Some l) (w.lock x)) l ≡ t
      new_lock x true e = same_name-itself l
      new_lock x false e = old_lock (w.lock x) x refl

      free_lock : (x k : Name) (t : Bool) → same_name x b ≡ t → (a : Name) → w.lock a ≡ Some k → one_if (is_lock (cond t (Some l) (w.lock x)) k) ≡ one_if (is_lock (w.lock x) k)
      free_lock x k false e a h = refl
      free_lock x k true e a h = ap one_if (go (same_name l k) refl) ∙ sym (ap (λ o. one_if (is_lock o k)) (ap w.lock (same_name-is x b e) ∙ none))
        where
          go : (t : Bool) → same_name l k ≡ t → t ≡ false
          go false d = refl
          go true d = absurd (new a (h ∙ ap Some (sym (same_name-is l k d))))

      same_lock : (x : Name) (ch : Chip) → IsTrueOf w phase ch → one_if (has_lock (v.lock x) x ch) ≡ one_if (has_lock (w.lock x) x ch)
      same_lock x (Chip.free k u) h = free_lock x k (same_name x b) refl h.0 h.1
      same_lock x _ h = refl

      kept : (x k : Name) (t : Bool) → same_name x b ≡ t → w.lock x ≡ Some k → cond t (Some l) (w.lock x) ≡ Some k
      kept x k true e h = absurd (let bad : None ≡ Some k = sym none ∙ sym (ap w.lock (same_name-is x b e)) ∙ h in cc)
      kept x k false e h = h

      -- the one map is taken
      one_map : (ch : Chip) → is_of_locks ch ≡ true → ((f : Chip → ℕ) → f ch ≤ sum_by f step.rest) → ⊥
      one_map ch is f = let one : one_if (is_of_locks ch) ≡ 1 = ap one_if is in omega (arith, f (λ ch. one_if (is_of_locks ch)), p.one_map, sum_before step (λ ch. one_if (is_of_locks ch)))
