-- What was put and what was taken, and the queues of what waits.
use Rattle.std.proofs.Common.{◌≡◌, ℕ, Bool, true, false, cond, None, Some, List, [], ◌∷◌, ◌++◌, map, reverse, refl, sym, ap, subst, ◌∙◌, arith}
use Rattle.std.specs.List.{filter, find}
use Rattle.std.specs.Option.{option_map}
use Rattle.std.proofs.lemmas.List.{append-nil, append_assoc, append_cancel_left, map-append, reverse-append}
use Rattle.std.proofs.lemmas.List.Elements.{filter-append}
use Rattle.indexmap.specs.IndexMap as index_map
use Rattle.indexmap.specs.IndexMap.{IndexMap}
use Rattle.run_save.specs.declared.trips.Item.{Item}
use Rattle.run_save.specs.declared.trips.Item.TheVariants.{Agent, Packet}
use Rattle.run_save.specs.declared.trips.Link.{Link}
use Rattle.run_save.specs.declared.trips.Trip.{Trip}
use Rattle.run_save.specs.declared.notes.Links.{Links}
use Rattle.run_save.specs.Travels.{IsFirstInFirstOut, Travels, on_link, puts, same_item, same_link, sender, takes, takes_from}
use Rattle.run_save.specs.Notes.{IsTold, SetsQueue, TakesFirst, Tells, waiting}

-- ---- equal links, equal items

pub same_link-is : (a b : Link) → same_link a b ≡ true → a ≡ b
same_link-is a b e =
    let from : a.from ≡ b.from = grind (arith, e) in
    let to : a.to ≡ b.to = grind (arith, e) in
    λ i. record { from = from i; to = to i }

pub same_link-itself : (a : Link) → same_link a a ≡ true
same_link-itself a = grind arith

same_item-is : (a b : Item) → same_item a b ≡ true → a ≡ b
same_item-is (Agent a) (Agent b) e =
    let site : a.site ≡ b.site = grind (arith, e) in
    let n : a.n ≡ b.n = grind (arith, e) in
    λ i. Agent (record { site = site i; n = n i })
same_item-is (Agent a) (Packet b) e = absurd cc
same_item-is (Packet a) (Agent b) e = absurd cc
same_item-is (Packet a) (Packet b) e =
    let site : a.site ≡ b.site = grind (arith, e) in
    let n : a.n ≡ b.n = grind (arith, e) in
    λ i. Packet (record { site = site i; n = n i })

pub same_item-itself : (a : Item) → same_item a a ≡ true
same_item-itself (Agent a) = grind arith
same_item-itself (Packet a) = grind arith

-- ---- one trip more

pub sender-more : (trips : List Trip) (trip : Trip) (x : Item) → sender (trips ++ trip ∷ []) x ≡ cond (same_item trip.item x) (Some trip.link.from) (sender trips x)
sender-more trips trip x =
    ap (λ (l : List Trip). option_map (λ (t : Trip). t.link.from) (find (λ (t : Trip). same_item t.item x) l)) (reverse-append trips (trip ∷ [])) ∙ either (same_item trip.item x)
  where
    either : (b : Bool)
        → option_map (λ (t : Trip). t.link.from) (cond b (Some trip) (find (λ (t : Trip). same_item t.item x) (reverse trips))) ≡ cond b (Some trip.link.from) (sender trips x)
    either true = refl
    either false = refl

pub on_link-more : (l : Link) (trips : List Trip) (trip : Trip) → on_link l (trips ++ trip ∷ []) ≡ on_link l trips ++ cond (same_link trip.link l) (trip.item ∷ []) []
on_link-more l trips trip =
    ap (map (λ (t : Trip). t.item)) (filter-append (λ (t : Trip). same_link t.link l) trips (trip ∷ []))
    ∙ map-append (λ (t : Trip). t.item) (filter (λ (t : Trip). same_link t.link l) trips) (filter (λ (t : Trip). same_link t.link l) (trip ∷ []))
    ∙ ap (λ z. on_link l trips ++ z) (either (same_link trip.link l))
  where
    either : (b : Bool) → map (λ (t : Trip). t.item) (cond b (trip ∷ []) []) ≡ cond b (trip.item ∷ []) []
    either true = refl
    either false = refl

pub on_link-here : (trips : List Trip) (trip : Trip) → on_link trip.link (trips ++ trip ∷ []) ≡ on_link trip.link trips ++ trip.item ∷ []
on_link-here trips trip = on_link-more trip.link trips trip ∙ ap (λ b. on_link trip.link trips ++ cond b (trip.item ∷ []) []) (same_link-itself trip.link)

pub on_link-other : (l : Link) (trips : List Trip) (trip : Trip) → same_link trip.link l ≡ false → on_link l (trips ++ trip ∷ []) ≡ on_link l trips
on_link-other l trips trip h = on_link-more l trips trip ∙ ap (λ b. on_link l trips ++ cond b (trip.item ∷ []) []) h ∙ append-nil (on_link l trips)

-- ---- an item is put

module _ (old new : Links) (t : Travels) (trip : Trip) (told : Tells old t) where
  waits-put : SetsQueue old.queues new.queues trip.link (waiting old.queues trip.link ++ trip.item ∷ []) → (l : Link)
      → on_link l (t.put ++ trip ∷ []) ≡ on_link l t.taken ++ waiting new.queues l
  waits-put sets l = go (same_link trip.link l) refl
    where
      here : on_link trip.link (t.put ++ trip ∷ []) ≡ on_link trip.link t.taken ++ waiting new.queues trip.link
      here =
          on_link-here t.put trip ∙ ap (λ z. z ++ trip.item ∷ []) (told.waits trip.link)
          ∙ append_assoc (on_link trip.link t.taken) (waiting old.queues trip.link) (trip.item ∷ [])
          ∙ ap (λ z. on_link trip.link t.taken ++ z)
          (sym (sets.at trip.link ∙ ap (λ b. cond b (waiting old.queues trip.link ++ trip.item ∷ []) (waiting old.queues trip.link)) (same_link-itself trip.link)))

      go : (b : Bool) → same_link trip.link l ≡ b → on_link l (t.put ++ trip ∷ []) ≡ on_link l t.taken ++ waiting new.queues l
      go true h = subst (λ m. on_link m (t.put ++ trip ∷ []) ≡ on_link m t.taken ++ waiting new.queues m) (same_link-is trip.link l h) here
      go false h =
          on_link-other l t.put trip h ∙ told.waits l
          ∙ ap (λ z. on_link l t.taken ++ z) (sym (sets.at l ∙ ap (λ b. cond b (waiting old.queues trip.link ++ trip.item ∷ []) (waiting old.queues l)) h))

  pub put-told : ((x : Item) → index_map.get same_item new.senders x ≡ cond (same_item trip.item x) (Some trip.link.from) (index_map.get same_item old.senders x))
      → SetsQueue old.queues new.queues trip.link (waiting old.queues trip.link ++ trip.item ∷ []) → Tells new (puts t (Some trip))
  put-told sends sets = record {
    senders = λ x. sends x ∙ ap (cond (same_item trip.item x) (Some trip.link.from)) (told.senders x) ∙ sym (sender-more t.put trip x);
    waits = waits-put sets;
    sent = told.sent;
  }

-- ---- an item is taken

-- on a link where this waits next, nothing else is taken
module _ (old : Links) (t : Travels) (trip : Trip) (told : Tells old t) where
  abbrev taken_more : Travels
  taken_more = record t { taken = t.taken ++ trip ∷ [] }

  left-with : (rest : List Item) → on_link trip.link t.put ≡ on_link trip.link (t.taken ++ trip ∷ []) ++ rest → waiting old.queues trip.link ≡ trip.item ∷ rest
  left-with rest is =
      append_cancel_left (on_link trip.link t.taken) (waiting old.queues trip.link) (trip.item ∷ rest)
      (sym (told.waits trip.link) ∙ is ∙ ap (λ z. z ++ rest) (on_link-here t.taken trip) ∙ append_assoc (on_link trip.link t.taken) (trip.item ∷ []) rest)

  pub none-left : waiting old.queues trip.link ≡ [] → IsFirstInFirstOut taken_more → ⊥
  none-left none order = let e = left-with (order.links trip.link).0 (order.links trip.link).1 in cc

  other-first : (first : Item) (others : List Item) → waiting old.queues trip.link ≡ first ∷ others → same_item first trip.item ≡ false → IsFirstInFirstOut taken_more → ⊥
  other-first first others is apart order =
      let e = left-with (order.links trip.link).0 (order.links trip.link).1 in
      let same : first ≡ trip.item = cc in
      let itself : same_item first trip.item ≡ true = subst (λ x. same_item first x ≡ true) same (same_item-itself first) in
      cc

  module _ (new : Links) (senders : new.senders ≡ old.senders) where
    waits-taken : TakesFirst old.queues new.queues trip.link trip.item → (l : Link) → on_link l t.put ≡ on_link l (t.taken ++ trip ∷ []) ++ waiting new.queues l
    waits-taken takes l = go (same_link trip.link l) refl
      where
        here : on_link trip.link t.put ≡ on_link trip.link (t.taken ++ trip ∷ []) ++ waiting new.queues trip.link
        here =
            told.waits trip.link ∙ ap (λ z. on_link trip.link t.taken ++ z) takes.is
            ∙ sym (append_assoc (on_link trip.link t.taken) (trip.item ∷ []) (waiting new.queues trip.link))
            ∙ ap (λ z. z ++ waiting new.queues trip.link) (sym (on_link-here t.taken trip))

        go : (b : Bool) → same_link trip.link l ≡ b → on_link l t.put ≡ on_link l (t.taken ++ trip ∷ []) ++ waiting new.queues l
        go true h = subst (λ m. on_link m t.put ≡ on_link m (t.taken ++ trip ∷ []) ++ waiting new.queues m) (same_link-is trip.link l h) here
        go false h =
            told.waits l ∙ ap (λ z. on_link l t.taken ++ z) (sym (takes.others l h)) ∙ ap (λ z. z ++ waiting new.queues l) (sym (on_link-other l t.taken trip h))

    pub first-told : (first : Item) → TakesFirst old.queues new.queues trip.link first → IsTold (same_item first trip.item) new taken_more
    first-told first takes = go (same_item first trip.item) refl
      where
        go : (b : Bool) → same_item first trip.item ≡ b → IsTold b new taken_more
        go true h = record {
          senders = λ x. ap (λ (m : IndexMap Item ℕ _). index_map.get same_item m x) senders ∙ told.senders x;
          waits = waits-taken (subst (TakesFirst old.queues new.queues trip.link) (same_item-is first trip.item h) takes);
          sent = told.sent;
        }
        go false h = other-first first (waiting new.queues trip.link) takes.is h

-- an item is taken from the site that put it last
pub takes-from : (t : Travels) (x : Item) (site from : ℕ) → sender t.put x ≡ Some from → takes t x site ≡ record t { taken = t.taken ++ record { item = x; link = record { from = from; to = site } } ∷ [] }
takes-from t x site from is = ap (takes_from t x site) is

pub told-order : (links : Links) (t : Travels) → Tells links t → IsFirstInFirstOut t
told-order links t told = record { links = λ l. (waiting links.queues l, told.waits l); sent = told.sent }

pub no-push : {X : Type 0} (xs : List X) (x : X) → xs ++ x ∷ [] ≡ [] → ⊥
no-push [] x is = cc
no-push (y ∷ ys) x is = cc

-- what no event put is not taken in order
pub stray-taken : (t : Travels) (x : Item) (site : ℕ) → sender t.put x ≡ None → IsFirstInFirstOut (takes t x site) → ⊥
stray-taken t x site none order =
    let taken : IsFirstInFirstOut (record t { stray = t.stray ++ x ∷ [] }) = subst IsFirstInFirstOut (ap (takes_from t x site) none) order in no-push t.stray x taken.sent
