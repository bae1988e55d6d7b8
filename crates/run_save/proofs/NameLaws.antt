-- The names that a site makes, and how many they are.
use Rattle.std.proofs.Common.{◌≡◌, ℕ, ◌+◌, Bool, true, false, cond, nat_eq, List, [], ◌∷◌, ◌++◌, length, refl, sym, ap, subst, ◌∙◌, arith}
use Rattle.std.proofs.lemmas.List.{append-nil, length-append}
use Rattle.std.proofs.lemmas.List.Concat.{flat_map-append}
use Rattle.indexmap.specs.IndexMap.{IndexMap}
use Rattle.np_syntax.specs.declared.value.Name.{Name}
use Rattle.np_syntax.specs.declared.event.Event.{Event}
use Rattle.run_save.specs.Ours.{AreNext, names_by, names_of}
use Rattle.run_save.specs.Notes.{CountsMore, count_of}

at-number : (s : ℕ) (xs : List Name) {m n : ℕ} → m ≡ n → AreNext s m xs → AreNext s n xs
at-number s xs e h = subst (λ k. AreNext s k xs) e h

pub next-both : (s n : ℕ) (xs ys : List Name) → AreNext s n xs → AreNext s (n + length xs) ys → AreNext s n (xs ++ ys)
next-both s n [] ys h k = at-number s ys (omega arith) k
next-both s n (x ∷ xs) ys h k = (h.0, next-both s (n + 1) xs ys h.1 (at-number s ys (omega arith) k))

pub next-front : (s n : ℕ) (xs ys : List Name) → AreNext s n (xs ++ ys) → AreNext s n xs
next-front s n [] ys h = tt
next-front s n (x ∷ xs) ys h = (h.0, next-front s (n + 1) xs ys h.1)

pub next-back : (s n : ℕ) (xs ys : List Name) → AreNext s n (xs ++ ys) → AreNext s (n + length xs) ys
next-back s n [] ys h = at-number s ys (omega arith) h
next-back s n (x ∷ xs) ys h = at-number s ys (omega arith) (next-back s (n + 1) xs ys h.1)

-- ---- the names of one event more

names_by-more : (s : ℕ) (events : List Event) (e : Event) → names_by s (events ++ e ∷ []) ≡ names_by s events ++ cond (nat_eq e.site s) (names_of e.made) []
names_by-more s events e =
    flat_map-append (λ (x : Event). cond (nat_eq x.site s) (names_of x.made) []) events (e ∷ [])
    ∙ ap (λ z. names_by s events ++ z) (append-nil (cond (nat_eq e.site s) (names_of e.made) []))

names_by-here : (events : List Event) (e : Event) → names_by e.site (events ++ e ∷ []) ≡ names_by e.site events ++ names_of e.made
names_by-here events e =
    let itself : nat_eq e.site e.site ≡ true = grind arith in
    names_by-more e.site events e ∙ ap (λ b. names_by e.site events ++ cond b (names_of e.made) []) itself

names_by-other : (s : ℕ) (events : List Event) (e : Event) → nat_eq e.site s ≡ false → names_by s (events ++ e ∷ []) ≡ names_by s events
names_by-other s events e h = names_by-more s events e ∙ ap (λ b. names_by s events ++ cond b (names_of e.made) []) h ∙ append-nil (names_by s events)

site-is : (a b : ℕ) → nat_eq a b ≡ true → a ≡ b
site-is a b e = grind (arith, e)

module _ (events : List Event) (e : Event) where
  -- each site but the event's has the names that it had
  each-site : (P : ℕ → List Name → Type 0) → P e.site (names_by e.site events ++ names_of e.made) → ((s : ℕ) → P s (names_by s events)) → (s : ℕ) → P s (names_by s (events ++ e ∷ []))
  each-site P here others s = go (nat_eq e.site s) refl
    where
      go : (b : Bool) → nat_eq e.site s ≡ b → P s (names_by s (events ++ e ∷ []))
      go true h = subst (λ z. P z (names_by z (events ++ e ∷ []))) (site-is e.site s h) (subst (P e.site) (sym (names_by-here events e)) here)
      go false h = subst (P s) (sym (names_by-other s events e h)) (others s)

  pub names-more : ((s : ℕ) → AreNext s 0 (names_by s events)) → AreNext e.site (length (names_by e.site events)) (names_of e.made) → (s : ℕ) → AreNext s 0 (names_by s (events ++ e ∷ []))
  names-more before next =
      each-site (λ s names. AreNext s 0 names) (next-both e.site 0 (names_by e.site events) (names_of e.made) (before e.site) (at-number e.site (names_of e.made) (omega arith) next)) before

  pub names-not : ((s : ℕ) → AreNext s 0 (names_by s (events ++ e ∷ []))) → AreNext e.site (length (names_by e.site events)) (names_of e.made)
  names-not after =
      at-number e.site (names_of e.made) (omega arith) (next-back e.site 0 (names_by e.site events) (names_of e.made) (subst (AreNext e.site 0) (names_by-here events e) (after e.site)))

  pub counts-more : {S : Type 0} (old new : IndexMap ℕ ℕ S) → ((s : ℕ) → count_of old s ≡ length (names_by s events)) → CountsMore old new e.site (length (names_of e.made))
      → (s : ℕ) → count_of new s ≡ length (names_by s (events ++ e ∷ []))
  counts-more old new before counts s = go (nat_eq e.site s) refl
    where
      here : count_of new e.site ≡ length (names_by e.site (events ++ e ∷ []))
      here =
          let itself : nat_eq e.site e.site ≡ true = grind arith in
          counts.at e.site ∙ ap (λ b. cond b (count_of old e.site + length (names_of e.made)) (count_of old e.site)) itself
          ∙ ap (λ n. n + length (names_of e.made)) (before e.site) ∙ sym (length-append (names_by e.site events) (names_of e.made)) ∙ ap length (sym (names_by-here events e))

      go : (b : Bool) → nat_eq e.site s ≡ b → count_of new s ≡ length (names_by s (events ++ e ∷ []))
      go true h = subst (λ z. count_of new z ≡ length (names_by z (events ++ e ∷ []))) (site-is e.site s h) here
      go false h =
          counts.at s ∙ ap (λ b. cond b (count_of old e.site + length (names_of e.made)) (count_of old s)) h ∙ before s ∙ ap length (sym (names_by-other s events e h))

-- the names of the first events are the first names
pub names-prefix : (s : ℕ) (events later : List Event) → AreNext s 0 (names_by s (events ++ later)) → AreNext s 0 (names_by s events)
names-prefix s events later h =
    next-front s 0 (names_by s events) (names_by s later) (subst (AreNext s 0) (flat_map-append (λ (x : Event). cond (nat_eq x.site s) (names_of x.made) []) events later) h)
