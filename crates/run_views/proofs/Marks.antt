-- Marking the places of a past.
use Rattle.std.proofs.Common.{◌≡◌, ◌⊎◌, inl, inr, ⊎_elim, ℕ, zero, suc, ◌+◌, ◌<◌, ◌≤◌, Bool, true, false, cond, List, [], ◌∷◌, ◌++◌}
use Rattle.std.proofs.Common.{length, get_or, drop, set, replicate, slice_get, Option, None, Some, refl, ap, sym, subst, ◌∙◌, arith, length-set, append_assoc, append-nil, drop-cons, add-one}
use Rattle.std.proofs.lemmas.Bool.{cases_order}
use Rattle.std.proofs.lemmas.List.{get_or-set_same, get_or-set_other}
use Rattle.std.proofs.lemmas.Option.{slice_get_within, slice_get-get_or}
use Rattle.np_syntax.specs.declared.event.Event.{Event}
use Rattle.run_views.specs.Index.{IsOneOf}
use Rattle.run_views.specs.Past.{IsCause, IsPast, Trace, picked}
use Rattle.run_views.specs.declared.causing.Causes.{Causes}
use Rattle.run_views.specs.Causes.{AreBefore, AreCauses, AreMarked, is_marked, places_of, with_mark, with_marks}

-- ---- one mark, and several

pub marked-within : (ms : List Bool) (j : ℕ) → is_marked ms j ≡ true → j < length ms
marked-within [] j h = absurd cc
marked-within (m ∷ ms) zero h = omega arith
marked-within (m ∷ ms) (suc j) h = let below : j < length ms = marked-within ms j h in omega arith

same-or : (m k : ℕ) → (m ≡ k) ⊎ (m ≡ k → ⊥)
same-or m k = ⊎_elim (λ is. inl is) (λ rest. ⊎_elim (λ less. inr (λ is. absurd (omega arith))) (λ less. inr (λ is. absurd (omega arith))) rest) (cases_order m k)

one-cases : (ms : List Bool) (o : Option ℕ) (m : ℕ) → is_marked (with_mark ms o) m ≡ true → (is_marked ms m ≡ true) ⊎ (o ≡ Some m)
one-cases ms None m h = inl h
one-cases ms (Some k) m h = ⊎_elim (λ is. inr (ap Some (sym is))) (λ far. inl (sym (get_or-set_other ms k m true false far) ∙ h)) (same-or m k)

one-keeps : (ms : List Bool) (o : Option ℕ) (m : ℕ) → is_marked ms m ≡ true → is_marked (with_mark ms o) m ≡ true
one-keeps ms None m h = h
one-keeps ms (Some k) m h = ⊎_elim
    (λ is. subst (λ m. is_marked (set ms k true) m ≡ true) (sym is) (get_or-set_same ms k true false (subst (λ m. m < length ms) is (marked-within ms m h))))
    (λ far. get_or-set_other ms k m true false far ∙ h)
    (same-or m k)

pub one-length : (ms : List Bool) (o : Option ℕ) → length (with_mark ms o) ≡ length ms
one-length ms None = refl
one-length ms (Some k) = length-set ms k true

pub marks-length : (ms : List Bool) (os : List (Option ℕ)) → length (with_marks ms os) ≡ length ms
marks-length ms [] = refl
marks-length ms (o ∷ os) = marks-length (with_mark ms o) os ∙ one-length ms o

marks-cases : (ms : List Bool) (os : List (Option ℕ)) (m : ℕ) → is_marked (with_marks ms os) m ≡ true → (is_marked ms m ≡ true) ⊎ IsOneOf m os
marks-cases ms [] m h = inl h
marks-cases ms (o ∷ os) m h = ⊎_elim (λ h. ⊎_elim (λ h. inl h) (λ is. inr (inl is)) (one-cases ms o m h)) (λ later. inr (inr later)) (marks-cases (with_mark ms o) os m h)

marks-keep : (ms : List Bool) (os : List (Option ℕ)) (m : ℕ) → is_marked ms m ≡ true → is_marked (with_marks ms os) m ≡ true
marks-keep ms [] m h = h
marks-keep ms (o ∷ os) m h = marks-keep (with_mark ms o) os m (one-keeps ms o m h)

marks-put : (ms : List Bool) (os : List (Option ℕ)) (k : ℕ) → k < length ms → IsOneOf k os → is_marked (with_marks ms os) k ≡ true
marks-put ms [] k less h = absurd h
marks-put ms (o ∷ os) k less (inl is) = marks-keep (with_mark ms o) os k (ap (λ o. is_marked (with_mark ms o) k) is ∙ get_or-set_same ms k true false less)
marks-put ms (o ∷ os) k less (inr h) = marks-put (with_mark ms o) os k (subst (λ n. k < n) (sym (one-length ms o)) less) h

-- ---- going back

only-last : (n m : ℕ) → is_marked (replicate n false ++ true ∷ []) m ≡ true → m ≡ n
only-last zero zero h = refl
only-last zero (suc m) h = absurd cc
only-last (suc n) zero h = absurd cc
only-last (suc n) (suc m) h = ap suc (only-last n m h)

last-on : (n : ℕ) → is_marked (replicate n false ++ true ∷ []) n ≡ true
last-on zero = refl
last-on (suc n) = last-on n

last-length : (n : ℕ) → length (replicate n false ++ true ∷ []) ≡ n + 1
last-length zero = refl
last-length (suc n) = let more = last-length n in omega arith

pub first-marked : (found : List Causes) (i : ℕ) → length found ≡ i + 1 → AreMarked found i (length found) (replicate i false ++ true ∷ [])
first-marked found i count = record {
  count = last-length i ∙ sym count;
  has = last-on i;
  causes = λ j k c from on is one. let less : j < length found = slice_get_within found j c is in absurd (omega arith);
  least = λ others o j on. ap others (only-last i j on) ∙ o.has;
}

module _ (found : List Causes) (before : AreBefore found) (i j : ℕ) (ms : List Bool) (h : AreMarked found i (j + 1) ms) where
  -- a place with a mark, the causes of which are marked now
  pub step-marked : (c : Causes) → is_marked ms j ≡ true → slice_get found j ≡ Some c → AreMarked found i j (with_marks ms (places_of c))
  step-marked c on is = record {
    count = marks-length ms (places_of c) ∙ h.count;
    has = marks-keep ms (places_of c) i h.has;
    causes = λ m k d from marked at one. ⊎_elim
        (λ old. again m k d from old at one)
        (λ new. absurd (let less : m < j = before j m c is new in omega arith))
        (marks-cases ms (places_of c) m marked);
    least = λ others o m marked. ⊎_elim (λ old. h.least others o m old) (λ new. o.causes j m c (h.least others o j on) is new) (marks-cases ms (places_of c) m marked);
  }
    where
      below : (k : ℕ) → IsOneOf k (places_of c) → k < length ms
      below k one = let less : k < j = before j k c is one in let in_found : j < length found = slice_get_within found j c is in let same = h.count in omega arith

      again : (m k : ℕ) (d : Causes) → j ≤ m → is_marked ms m ≡ true → slice_get found m ≡ Some d → IsOneOf k (places_of d) → is_marked (with_marks ms (places_of c)) k ≡ true
      again m k d from old at one = ⊎_elim
          (λ same. let this : c ≡ d = some-is (sym is ∙ ap (slice_get found) same ∙ at) in marks-put ms (places_of c) k (below k (subst (λ d. IsOneOf k (places_of d)) (sym this) one)) (subst (λ d. IsOneOf k (places_of d)) (sym this) one))
          (λ rest. ⊎_elim (λ less. marks-keep ms (places_of c) k (h.causes m k d (omega arith) old at one)) (λ less. absurd (omega arith)) rest)
          (cases_order j m)
        where
          some-is : {a b : Causes} → Some a ≡ Some b → a ≡ b
          some-is e = cc

-- a cause of a place has a mark of its own
pub marks-below : (found : List Causes) (before : AreBefore found) (ms : List Bool) (j : ℕ) (z : Causes) → length ms ≡ length found → j < length found
    → (k : ℕ) → IsOneOf k (places_of (get_or found j z)) → k < length ms
marks-below found before ms j z same below k one =
    let less : k < j = before j k (get_or found j z) (slice_get-get_or found j z below) one in omega (arith, same, below)

-- ---- what is marked at the end is the past

pub are-before : (ts : List Trace) (n : ℕ) (found : List Causes) → AreCauses ts n found → AreBefore found
are-before ts n found a j k c is one = ((a.each j c is k).0 one).last.before

pub marked-past : (ts : List Trace) (i : ℕ) (found : List Causes) (ms : List Bool) → AreCauses ts (i + 1) found → AreMarked found i 0 ms → IsPast ts i (is_marked ms)
marked-past ts i found ms a h = record {
  closed = record { has = h.has; causes = closed };
  least = λ others o j on. h.least others (record { has = o.has; causes = λ j k c on is one. o.causes j k on ((a.each j c is k).0 one) }) j on;
}
  where
    closed : (j k : ℕ) → is_marked ms j ≡ true → IsCause ts k j → is_marked ms k ≡ true
    closed j k on cause =
        let less : j < length ms = marked-within ms j on in
        let in_found : j < length found = subst (λ n. j < n) h.count less in
        let none : Causes = record { actor = None; other = None; agent = None; asked = None } in
        let is = slice_get-get_or found j none in_found in
        h.causes j k (get_or found j none) (omega arith) on is ((a.each j (get_or found j none) is k).1 cause)

-- ---- the events at the marked places

pub none-picked : {X : Type 0} (places : ℕ → Bool) (j : ℕ) (xs : List X) → ((m : ℕ) → j ≤ m → places m ≡ false) → picked places j xs ≡ []
none-picked places j [] f = refl
none-picked places j (x ∷ xs) f = ap (λ b. cond b (x ∷ picked places (suc j) xs) (picked places (suc j) xs)) (f j (omega arith)) ∙ none-picked places (suc j) xs (λ m from. f m (omega arith))

pub none-marked : (ms : List Bool) (m : ℕ) → length ms ≤ m → is_marked ms m ≡ false
none-marked [] m over = refl
none-marked (b ∷ ms) zero over = absurd (omega (arith, over))
none-marked (b ∷ ms) (suc m) over = none-marked ms m (omega (arith, over))

pub picked-end : (ms : List Bool) (j : ℕ) (made xs all : List Event) → length ms ≤ j → made ++ picked (is_marked ms) j xs ≡ all → made ≡ all
picked-end ms j made xs all over h =
    sym (append-nil made) ∙ ap (λ l. made ++ l) (sym (none-picked (is_marked ms) j xs (λ m from. none-marked ms m (omega (arith, over, from))))) ∙ h

picked-here : (places : ℕ → Bool) (j : ℕ) (xs : List Event) (z : Event) → j < length xs
    → picked places j (drop j xs) ≡ cond (places j) (get_or xs j z ∷ picked places (j + 1) (drop (j + 1) xs)) (picked places (j + 1) (drop (j + 1) xs))
picked-here places j xs z below =
    ap (picked places j) (drop-cons xs j z below)
    ∙ ap (λ n. cond (places j) (get_or xs j z ∷ picked places n (drop n xs)) (picked places n (drop n xs))) (sym (add-one j))

pub picked-on : (ms : List Bool) (j : ℕ) (made xs all : List Event) (z : Event) → j < length xs → is_marked ms j ≡ true → made ++ picked (is_marked ms) j (drop j xs) ≡ all
    → (made ++ get_or xs j z ∷ []) ++ picked (is_marked ms) (j + 1) (drop (j + 1) xs) ≡ all
picked-on ms j made xs all z below on h =
    let rest : List Event = picked (is_marked ms) (j + 1) (drop (j + 1) xs) in
    append_assoc made (get_or xs j z ∷ []) rest
    ∙ ap (λ l. made ++ l) (sym (picked-here (is_marked ms) j xs z below ∙ ap (λ b. cond b (get_or xs j z ∷ rest) rest) on)) ∙ h

an-event : (xs : List Event) (j : ℕ) → j < length xs → Event
an-event [] j below = absurd (omega (arith, below))
an-event (x ∷ xs) j below = x

pub picked-off : (ms : List Bool) (j : ℕ) (made xs all : List Event) → j < length xs → is_marked ms j ≡ false → made ++ picked (is_marked ms) j (drop j xs) ≡ all
    → made ++ picked (is_marked ms) (j + 1) (drop (j + 1) xs) ≡ all
picked-off ms j made xs all below off h =
    let z : Event = an-event xs j below in
    let rest : List Event = picked (is_marked ms) (j + 1) (drop (j + 1) xs) in
    ap (λ l. made ++ l) (sym (picked-here (is_marked ms) j xs z below ∙ ap (λ b. cond b (get_or xs j z ∷ rest) rest) off)) ∙ h
