-- Runs that are ours, and one event more.
use Rattle.std.proofs.Common.{◌≡◌, ℕ, ◌+◌, ◌<◌, ◌≤◌, Bool, true, false, MatchOption, Option, None, Some, IsNone, IsSome, IfSome, ◌↔◌, List, [], ◌∷◌, ◌++◌, length, take, drop, get_or, ◌⊎◌, inl, inr, refl, sym, ap, subst, ◌∙◌, arith}
use Rattle.std.specs.Option.{option_map_or}
use Rattle.std.proofs.lemmas.Bool.{cases_lt}
use Rattle.std.proofs.lemmas.List.{take-append-drop, take-append-le, take-take, take_all, take_more, length-append, length-take}
use Rattle.np_syntax.specs.Options.{◌>>=◌}
use Rattle.np_syntax.proofs.Options.{none_there, then}
use Rattle.np_syntax.specs.declared.event.Event.{Event}
use Rattle.np_calculus.specs.Config.{Config}
use Rattle.np_calculus.specs.Reductions.{apply, run}
use Rattle.np_calculus.proofs.Runs.{none-behind, one-more}
use Rattle.run_save.specs.declared.notes.Notes.{Notes}
use Rattle.run_save.specs.Travels.{IsFirstInFirstOut, Travels, none_yet, travels, travels_along, travels_on}
use Rattle.run_save.specs.Ours.{AreNext, IsOursFrom, StopsBeingOurs, names_by, names_of}
use Rattle.run_save.specs.Notes.{AreNoted, CountsMore, IsNoted, IsTold, count_of}
use Rattle.run_save.proofs.LinkLaws.{told-order}
use Rattle.run_save.proofs.NameLaws.{counts-more, names-more, names-not, names-prefix}

-- ---- one event behind a run

pub travels-more : (t : Travels) (c : Config) (events : List Event) (e : Event) (before after : Config) → run c events ≡ Some before → apply before e ≡ Some after
    → travels_along t c (events ++ e ∷ []) ≡ travels_on e.kind (travels_along t c events) after e
travels-more t c [] e before after reaches enabled =
    let same : before ≡ c = cc in
    ap (λ o. option_map_or (λ (x : Config). travels_on e.kind t x e) o t) (subst (λ x. apply x e ≡ Some after) same enabled)
travels-more t c (f ∷ events) e before after reaches enabled =
    then (apply c f) (λ x. run x events) reaches (λ x first rest.
    ap (λ o. option_map_or (λ (z : Config). travels_along (travels_on f.kind t z f) z (events ++ e ∷ [])) o t) first
    ∙ travels-more (travels_on f.kind t x f) x events e before after rest enabled
    ∙ ap (λ o. travels_on e.kind (option_map_or (λ (z : Config). travels_along (travels_on f.kind t z f) z events) o t) after e) (sym first))

-- ---- the first events of a list

pub order-more : (start : Config) (events : List Event) (e : Event) → ((k : ℕ) → IsFirstInFirstOut (travels start (take k events))) → IsFirstInFirstOut (travels start (events ++ e ∷ []))
    → (k : ℕ) → IsFirstInFirstOut (travels start (take k (events ++ e ∷ [])))
order-more start events e before whole k = go (cases_lt (length events) k)
  where
    go : (length events < k) ⊎ (k ≤ length events) → IsFirstInFirstOut (travels start (take k (events ++ e ∷ [])))
    go (inl over) = subst (λ es. IsFirstInFirstOut (travels start es)) (sym (take_all k (events ++ e ∷ []) (omega (arith, length-append events (e ∷ []))))) whole
    go (inr within) = subst (λ es. IsFirstInFirstOut (travels start es)) (sym (take-append-le k events (e ∷ []) within)) (before k)

pub order-whole : (start : Config) (events : List Event) → ((k : ℕ) → IsFirstInFirstOut (travels start (take k events))) → IsFirstInFirstOut (travels start events)
order-whole start events each = subst (λ es. IsFirstInFirstOut (travels start es)) (take_all (length events) events (omega arith)) (each (length events))

pub prefix-ours : (start : Config) (events : List Event) (j : ℕ) → IsOursFrom start events → IsOursFrom start (take j events)
prefix-ours start events j ours = record {
  names = λ s. names-prefix s (take j events) (drop j events) (subst (λ es. AreNext s 0 (names_by s es)) (sym (take-append-drop j events)) (ours.names s));
  order = λ k. go k (cases_lt j k);
}
  where
    go : (k : ℕ) → (j < k) ⊎ (k ≤ j) → IsFirstInFirstOut (travels start (take k (take j events)))
    go k (inl over) = subst (λ es. IsFirstInFirstOut (travels start es)) (sym (take_all k (take j events) (short k over))) (ours.order j)
      where
        short : (k : ℕ) → j < k → length (take j events) ≤ k
        short k over = omega (arith, length-take j events)
    go k (inr within) = subst (λ es. IsFirstInFirstOut (travels start es)) (sym (take-take k j events within)) (ours.order k)

-- ---- one event more is noted

module _ (old new : Notes) (start before after : Config) (events : List Event) (e : Event) (noted : AreNoted old start events) (reaches : run start events ≡ Some before)
    (enabled : apply before e ≡ Some after) (ours : IsOursFrom start events) where
  pub not-next : (AreNext e.site (count_of old.made e.site) (names_of e.made) → ⊥) → IsOursFrom start (events ++ e ∷ []) → ⊥
  not-next other whole = other (subst (λ n. AreNext e.site n (names_of e.made)) (sym (noted.counts e.site)) (names-not events e whole.names))

  met-noted : (met : Bool) → AreNext e.site (count_of old.made e.site) (names_of e.made) → CountsMore old.made new.made e.site (length (names_of e.made))
      → IsTold met new.links (travels start (events ++ e ∷ [])) → IsNoted met new start (events ++ e ∷ [])
  met-noted true next counts told = (
    record { counts = counts-more events e old.made new.made noted.counts counts; links = told },
    record {
      names = names-more events e ours.names (subst (λ n. AreNext e.site n (names_of e.made)) (noted.counts e.site) next);
      order = order-more start events e ours.order (told-order new.links (travels start (events ++ e ∷ [])) told);
    },
  )
  met-noted false next counts told = λ whole. told (order-whole start (events ++ e ∷ []) whole.order)

  pub noted-more : (met : Bool) → AreNext e.site (count_of old.made e.site) (names_of e.made) → CountsMore old.made new.made e.site (length (names_of e.made))
      → IsTold met new.links (travels_on e.kind (travels start events) after e) → IsNoted met new start (events ++ e ∷ [])
  noted-more met next counts told = met-noted met next counts (subst (IsTold met new.links) (sym (travels-more none_yet start events e before after reaches enabled)) told)

-- ---- along a list

-- each event of a run is enabled in its turn
pub never-refused : (start : Config) (events : List Event) (index : ℕ) (e : Event) (c : Config) → IsSome (run start events) → index < length events → run start (take index events) ≡ Some c
    → apply c (get_or events index e) ≡ None → ⊥
never-refused start events index e c runs inside reaches refused = none_there (run start events) runs whole
  where
    stops : run start (take (index + 1) events) ≡ None
    stops = one-more start events index e c inside reaches ∙ ap (λ o. o >>= λ x. Some x) refused

    whole : run start events ≡ None
    whole = ap (run start) (sym (take-append-drop (index + 1) events)) ∙ none-behind start (take (index + 1) events) (drop (index + 1) events) stops

-- with the event at this place the events are no longer ours
pub stops-here : (start : Config) (events : List Event) (index : ℕ) (e : Event) → index < length events → IsOursFrom start (take index events)
    → (IsOursFrom start (take index events ++ get_or events index e ∷ []) → ⊥) → StopsBeingOurs start events index
stops-here start events index e inside ours not = record {
  within = inside;
  before = λ k order. subst (IsOursFrom start) (take-take k index events order) (prefix-ours start (take index events) k ours);
  not = λ whole. not (subst (IsOursFrom start) (take_more events index e inside) whole);
}

pub not-ours : (start : Config) (events : List Event) (index : ℕ) → StopsBeingOurs start events index → IsOursFrom start events → ⊥
not-ours start events index stops whole = stops.not (prefix-ours start events (index + 1) whole)

pub nothing-ours : (start : Config) → IsOursFrom start []
nothing-ours start = record { names = λ s. tt; order = λ k. subst (λ es. IsFirstInFirstOut (travels start es)) (sym (take_all k [] (omega arith))) none }
  where
    none : IsFirstInFirstOut none_yet
    none = record { links = λ l. ([], refl); sent = refl }

-- what the answer for the event at this place says of the events up to it
module _ (start : Config) (events : List Event) (index : ℕ) (e : Event) (inside : index < length events) where
  pub stops-at : (met : Bool) (notes : Notes) → met ≡ false → IsOursFrom start (take index events) → IsNoted met notes start (take index events ++ get_or events index e ∷ [])
      → StopsBeingOurs start events index
  stops-at true notes fails ours noted = absurd cc
  stops-at false notes fails ours noted = stops-here start events index e inside ours noted

  pub met-at : (met : Bool) (notes : Notes) → met ≡ true → IsNoted met notes start (take index events ++ get_or events index e ∷ [])
      → AreNoted notes start (take (index + 1) events) × IsOursFrom start (take (index + 1) events)
  met-at true notes holds noted = subst (λ es. AreNoted notes start es × IsOursFrom start es) (sym (take_more events index e inside)) noted
  met-at false notes holds noted = absurd cc

-- ---- the answer for all the events

module _ (start : Config) (events : List Event) where
  pub none-exactly : (until : Option ℕ) → MatchOption until (IsOursFrom start events) (StopsBeingOurs start events) → IsNone until ↔ IsOursFrom start events
  none-exactly None ours = (λ none. ours, λ whole. refl)
  none-exactly (Some index) stops = (λ none. absurd cc, λ whole. absurd (not-ours start events index stops whole))

  pub stops-until : (until : Option ℕ) → MatchOption until (IsOursFrom start events) (StopsBeingOurs start events) → IfSome until (StopsBeingOurs start events)
  stops-until None ours = tt
  stops-until (Some index) stops = stops
