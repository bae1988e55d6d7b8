-- Items of a list by their places, and the next event of the same actor.
use Rattle.std.proofs.Common.{◌≡◌, ◌≢◌, ℕ, ◌+◌, ◌-◌, ◌<◌, ◌≤◌, inl, inr, List, [], ◌∷◌, length, drop, Option, Some, None, refl, sym, ap, ◌∙◌, zero, suc, Bor, get_or, false, true, arith}
use Rattle.std.specs.Prelude.{slice_get, IsTrue, is_some}
use Rattle.std.specs.Slice.{IsItemAt}
use Rattle.std.proofs.lemmas.Option.{same_Some, slice_get_read, slice_get_within, slice_get-get_or}
use Rattle.std.proofs.Math.Nat.{eq-or-lt_of_le}
use Rattle.np_syntax.specs.declared.event.Event.{Event}
use Rattle.np_example_files.specs.Changes.{AreAlike, HasNoNextOfActor, HasNoNextUnlike, IsNextOfActor, IsNextUnlike}

pub get-drop : {X : Type 0} (xs : List X) (n i k : ℕ) → n + i ≡ k → slice_get (drop n xs) i ≡ slice_get xs k
get-drop xs zero i k e = let same : i ≡ k = omega arith in ap (slice_get xs) same
get-drop [] (suc n) i k e = refl
get-drop (x ∷ xs) (suc n) i zero e = absurd (omega arith)
get-drop (x ∷ xs) (suc n) i (suc k) e = let same : n + i ≡ k = omega arith in get-drop xs n i k same

pub item : {X : Type 0} (xs : List X) (i : ℕ) (x : Bor X) → IsItemAt xs i (Some x) → slice_get xs i ≡ Some x.now
item xs i x h = slice_get_read xs (length xs) i x.now refl h.3.0 h.1

-- no event of so many behind a place has the actor of the event there
abbrev pub NonePassed : List Event → ℕ → ℕ → Type 0
NonePassed events place ahead = (event : Event) → slice_get events place ≡ Some event
    → (k : ℕ) (passed : Event) → k < ahead → slice_get (drop (place + 1) events) k ≡ Some passed → passed.actor ≢ event.actor

pub next_found : (events : List Event) (place ahead : ℕ) (event next : Event) → slice_get events place ≡ Some event
    → slice_get (drop (place + 1) events) ahead ≡ Some next → next.actor ≡ event.actor → NonePassed events place ahead → IsNextOfActor events place (place + 1 + ahead)
next_found events place ahead event next here there same none = record {
  event = event;
  next = next;
  event_at = here;
  next_at = sym (get-drop events (place + 1) ahead (place + 1 + ahead) refl) ∙ there;
  behind = omega arith;
  same = same;
  first = λ k passed after before is.
      let split : (place + 1) + (k - (place + 1)) ≡ k = omega arith in
      let less : k - (place + 1) < ahead = omega arith in
      none event here (k - (place + 1)) passed less (get-drop events (place + 1) (k - (place + 1)) k split ∙ is);
}

pub none_found : (events : List Event) (place n : ℕ) → NonePassed events place n → n ≡ length (drop (place + 1) events) → HasNoNextOfActor events place
none_found events place n none long event here k later after is =
    let split : (place + 1) + (k - (place + 1)) ≡ k = omega arith in
    let there : slice_get (drop (place + 1) events) (k - (place + 1)) ≡ Some later = get-drop events (place + 1) (k - (place + 1)) k split ∙ is in
    let within : k - (place + 1) < length (drop (place + 1) events) = slice_get_within (drop (place + 1) events) (k - (place + 1)) later there in
    let less : k - (place + 1) < n = omega arith in
    none event here (k - (place + 1)) later less there

-- the same, where the events behind the place are a list of their own
pub next_there : (events rest : List Event) (place ahead : ℕ) (event d : Event) → rest ≡ drop (place + 1) events → slice_get events place ≡ Some event → ahead < length rest
    → (get_or rest ahead d).actor ≡ event.actor → NonePassed events place ahead → IsNextOfActor events place (place + 1 + ahead)
next_there events rest place ahead event d e here less same none =
    next_found events place ahead event (get_or rest ahead d) here (ap (λ (xs : List Event). slice_get xs ahead) (sym e) ∙ slice_get-get_or rest ahead d less) same none

pub one_more : (events rest : List Event) (place ahead : ℕ) (event d : Event) → rest ≡ drop (place + 1) events → slice_get events place ≡ Some event → ahead < length rest
    → ((get_or rest ahead d).actor ≡ event.actor → ⊥) → NonePassed events place ahead → NonePassed events place (ahead + 1)
one_more events rest place ahead event d e here less other none = λ mine is k passed below there.
    let same : event ≡ mine = same_Some event mine (sym here ∙ is) in
    let le : k ≤ ahead = omega arith in
    elim (eq-or-lt_of_le le) [
      | inl at ↦
          let found : passed ≡ get_or rest ahead d =
          same_Some passed (get_or rest ahead d) (sym there ∙ ap (λ (xs : List Event). slice_get xs k) (sym e) ∙ ap (slice_get rest) at ∙ slice_get-get_or rest ahead d less) in
          λ again. other (ap (λ (x : Event). x.actor) (sym found) ∙ again ∙ ap (λ (x : Event). x.actor) (sym same))
      | inr before ↦ none mine is k passed before there
    ]

-- an event has one next of the same actor
not-later : (events : List Event) (place n m : ℕ) (a : IsNextOfActor events place n) (b : IsNextOfActor events place m) → n < m → ⊥
not-later events place n m a b less =
    let same : a.event ≡ b.event = same_Some a.event b.event (sym a.event_at ∙ b.event_at) in
    b.first n a.next a.behind less a.next_at (a.same ∙ ap (λ (e : Event). e.actor) same)

one_next : (events : List Event) (place n m : ℕ) (a : IsNextOfActor events place n) (b : IsNextOfActor events place m) → n ≡ m
one_next events place n m a b =
    let not-less = not-later events place n m a b in
    let not-more = not-later events place m n b a in
    omega (arith, not-less, not-more)

pub alike_next : (events : List Event) (place n : ℕ) (one other : Event) → IsNextOfActor events place n → slice_get events place ≡ Some one
    → slice_get events n ≡ Some other → AreAlike one other → HasNoNextUnlike events place
alike_next events place n one other a here there alike later next =
    let place-same : n ≡ later = one_next events place n later a next in
    let first : one ≡ next.event = same_Some one next.event (sym here ∙ next.event_at) in
    let second : other ≡ next.next = same_Some other next.next (sym there ∙ ap (slice_get events) place-same ∙ next.next_at) in
    (sym (ap (λ (e : Event). e.kind) first) ∙ alike.0 ∙ ap (λ (e : Event). e.kind) second, sym (ap (λ (e : Event). e.tag) first) ∙ alike.1 ∙ ap (λ (e : Event). e.tag) second)

pub unlike_next : (events : List Event) (place n : ℕ) (one other : Event) → IsNextOfActor events place n → slice_get events place ≡ Some one
    → slice_get events n ≡ Some other → (AreAlike one other → ⊥) → IsNextUnlike events place n
unlike_next events place n one other a here there unlike =
    let first : one ≡ a.event = same_Some one a.event (sym here ∙ a.event_at) in
    let second : other ≡ a.next = same_Some other a.next (sym there ∙ a.next_at) in
    record {
      next = a;
      unlike = λ alike. unlike (
        ap (λ (e : Event). e.kind) first ∙ alike.0 ∙ sym (ap (λ (e : Event). e.kind) second),
        ap (λ (e : Event). e.tag) first ∙ alike.1 ∙ sym (ap (λ (e : Event). e.tag) second),
      );
    }

-- what a test that failed would show does not hold
pub refuted : {P : Type 0} → (P → IsTrue false) → P → ⊥
refuted fails p = let e : false ≡ true = fails p in cc

pub full : (o : Option ℕ) → is_some o ≡ true → o ≡ None → ⊥
full None some none = let e : false ≡ true = some in cc
full (Some x) some none = cc
