-- One event more behind a run that is ours.
use Rattle.std.proofs.Common.{◌≡◌, ◌↔◌, ℕ, Bool, true, false, cond, Option, None, Some, List, [], ◌∷◌, ◌++◌, refl, sym, ap, subst, ◌∙◌}
use Rattle.std.proofs.lemmas.List.{append_assoc}
use Rattle.np_syntax.specs.declared.event.Event.{Event}
use Rattle.np_syntax.specs.declared.event.Kind.{Kind}
use Rattle.np_syntax.specs.declared.event.Kind.TheVariants as kind
use Rattle.np_calculus.specs.Config.{Config}
use Rattle.np_calculus.specs.Reductions.{apply, run}
use Rattle.run_save.specs.declared.trips.Item.{Item}
use Rattle.run_save.specs.declared.trips.Item.TheVariants as item
use Rattle.run_save.specs.declared.trips.Link.{Link}
use Rattle.run_save.specs.declared.trips.Trip.{Trip}
use Rattle.run_save.specs.Travels.{IsFirstInFirstOut, Travels, departure, none_yet, on_link, puts, same_link, sender, sending, takes, travels, travels_on}
use Rattle.run_save.specs.Ours.{GoesOn, IsOursFrom, IsPutFirst, TakesPutFirst}
use Rattle.run_save.proofs.LinkLaws.{on_link-here, on_link-more, on_link-other, same_link-is, stray-taken, takes-from}
use Rattle.run_save.proofs.NameLaws.{names-more, names-not}
use Rattle.run_save.proofs.RunLaws.{order-more, order-whole, travels-more}

-- what is put stays behind what waits
put-order : (t : Travels) (o : Option Trip) → IsFirstInFirstOut t → IsFirstInFirstOut (puts t o)
put-order t None order = order
put-order t (Some trip) order = record {
  links = λ l. let left = order.links l in (
    left.0 ++ cond (same_link trip.link l) (trip.item ∷ []) [],
    on_link-more l t.put trip ∙ ap (λ z. z ++ cond (same_link trip.link l) (trip.item ∷ []) []) left.1
        ∙ append_assoc (on_link l t.taken) left.0 (cond (same_link trip.link l) (trip.item ∷ []) []),
  );
  sent = order.sent;
}

module _ (t : Travels) (x : Item) (site : ℕ) where
  abbrev trip_from : ℕ → Trip
  trip_from from = record { item = x; link = record { from = from; to = site } }

  first-of-order : IsFirstInFirstOut (takes t x site) → IsPutFirst t x site
  first-of-order order = go (sender t.put x) refl
    where
      go : (o : Option ℕ) → sender t.put x ≡ o → IsPutFirst t x site
      go None none = absurd (stray-taken t x site none order)
      go (Some from) is =
          let taken : IsFirstInFirstOut (record t { taken = t.taken ++ trip_from from ∷ [] }) = subst IsFirstInFirstOut (takes-from t x site from is) order in
          let left = taken.links (trip_from from).link in
          record {
            from = from;
            sent = is;
            later = left.0;
            first = left.1 ∙ ap (λ z. z ++ left.0) (on_link-here t.taken (trip_from from)) ∙ append_assoc (on_link (trip_from from).link t.taken) (x ∷ []) left.0;
          }

  order-of-first : IsFirstInFirstOut t → IsPutFirst t x site → IsFirstInFirstOut (takes t x site)
  order-of-first order put = subst IsFirstInFirstOut (sym (takes-from t x site put.from put.sent)) (record { links = with-trip; sent = order.sent })
    where
      trip : Trip
      trip = trip_from put.from

      here : on_link trip.link t.put ≡ on_link trip.link (t.taken ++ trip ∷ []) ++ put.later
      here = put.first ∙ sym (append_assoc (on_link trip.link t.taken) (x ∷ []) put.later) ∙ ap (λ z. z ++ put.later) (sym (on_link-here t.taken trip))

      with-trip : (l : Link) → (rest : List Item) × (on_link l t.put ≡ on_link l (t.taken ++ trip ∷ []) ++ rest)
      with-trip l = at (same_link trip.link l) refl
        where
          at : (b : Bool) → same_link trip.link l ≡ b → (rest : List Item) × (on_link l t.put ≡ on_link l (t.taken ++ trip ∷ []) ++ rest)
          at true h = (put.later, subst (λ m. on_link m t.put ≡ on_link m (t.taken ++ trip ∷ []) ++ put.later) (same_link-is trip.link l h) here)
          at false h = ((order.links l).0, (order.links l).1 ∙ ap (λ z. z ++ (order.links l).0) (sym (on_link-other l t.taken trip h)))

-- ---- the kinds

first-at : (k : Kind) (t : Travels) (after : Config) (e : Event) → IsFirstInFirstOut (travels_on k t after e) → TakesPutFirst k t e
first-at kind.Arrive t after e order = first-of-order t (item.Agent e.actor) e.site order
first-at kind.Land t after e order = first-of-order t (item.Packet e.actor) e.site order
first-at kind.Depart t after e order = tt
first-at kind.Send t after e order = tt
first-at kind.Stop t after e order = tt
first-at kind.Fork t after e order = tt
first-at kind.New t after e order = tt
first-at kind.Let t after e order = tt
first-at kind.If t after e order = tt
first-at kind.Comm t after e order = tt
first-at kind.Rep t after e order = tt
first-at kind.Agent t after e order = tt
first-at kind.Local t after e order = tt
first-at kind.Print t after e order = tt
first-at kind.Open t after e order = tt
first-at kind.Lookup t after e order = tt
first-at kind.Post t after e order = tt

order-at : (k : Kind) (t : Travels) (after : Config) (e : Event) → IsFirstInFirstOut t → TakesPutFirst k t e → IsFirstInFirstOut (travels_on k t after e)
order-at kind.Arrive t after e order first = order-of-first t (item.Agent e.actor) e.site order first
order-at kind.Land t after e order first = order-of-first t (item.Packet e.actor) e.site order first
order-at kind.Depart t after e order first = put-order t (departure after e) order
order-at kind.Send t after e order first = put-order t (sending after e) order
order-at kind.Stop t after e order first = order
order-at kind.Fork t after e order first = order
order-at kind.New t after e order first = order
order-at kind.Let t after e order first = order
order-at kind.If t after e order first = order
order-at kind.Comm t after e order first = order
order-at kind.Rep t after e order first = order
order-at kind.Agent t after e order first = order
order-at kind.Local t after e order first = order
order-at kind.Print t after e order first = order
order-at kind.Open t after e order first = order
order-at kind.Lookup t after e order first = order
order-at kind.Post t after e order first = order

pub ours-goes-on : (start before after : Config) (events : List Event) (e : Event) → run start events ≡ Some before → apply before e ≡ Some after → IsOursFrom start events
    → IsOursFrom start (events ++ e ∷ []) ↔ GoesOn start events e
ours-goes-on start before after events e reaches enabled ours = (out, back)
  where
    step : travels start (events ++ e ∷ []) ≡ travels_on e.kind (travels start events) after e
    step = travels-more none_yet start events e before after reaches enabled

    out : IsOursFrom start (events ++ e ∷ []) → GoesOn start events e
    out whole = record {
      names = names-not events e whole.names;
      takes = first-at e.kind (travels start events) after e (subst IsFirstInFirstOut step (order-whole start (events ++ e ∷ []) whole.order));
    }

    back : GoesOn start events e → IsOursFrom start (events ++ e ∷ [])
    back goes = record {
      names = names-more events e ours.names goes.names;
      order =
          order-more start events e ours.order (subst IsFirstInFirstOut (sym step) (order-at e.kind (travels start events) after e (order-whole start events ours.order) goes.takes));
    }
