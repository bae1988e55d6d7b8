-- What waits on the links, as items of a run and as what the sites put on its way.
use Rattle.std.proofs.Common.{◌≡◌, ◌<◌, ◌&&◌, inl, inr, ℕ, Bool, true, false, cond, nat_eq, Option, None, Some, option_to_list, List, [], ◌∷◌, ◌++◌, length, drop, filter, flat_map, refl, sym, ap, ap₂, subst, ◌∙◌, arith}
use Rattle.std.specs.List.{AllByRecursion}
use Rattle.std.proofs.lemmas.List.{append-nil, append_assoc, length-append}
use Rattle.std.proofs.lemmas.List.Elements.{filter-append}
use Rattle.run_merge.proofs.InOrder.{all_append, all_weaker}
use Rattle.np_site_runs.specs.merged.Deeds.{Deed, StampedItem, put_for}
use Rattle.np_site_runs.specs.merged.Elements.{Occurs}
use Rattle.np_site_runs.specs.merged.Turns.{Waiting, moved, own, puts, takes}
use Rattle.np_site_runs.proofs.merged.Flowing.{all_both}
use Rattle.run_save.specs.declared.trips.Item.{Item}
use Rattle.run_save.specs.declared.trips.Item.TheVariants as item
use Rattle.run_save.specs.declared.trips.Link.{Link}
use Rattle.run_save.specs.declared.trips.Trip.{Trip}
use Rattle.run_save.specs.Travels.{Travels, on_link, same_item, same_link, sender}
use Rattle.run_save.proofs.LinkLaws.{on_link-here, on_link-more, on_link-other, same_link-is, sender-more}
use Rattle.run_save.specs.following.TravelLaws.{link}
use Rattle.run_save.specs.following.Shown.{ShowEach, Shows}

-- ---- one by one

pub show-append : (v : ℕ) (is js : List Item) (xs ys : List StampedItem) → ShowEach v is xs → ShowEach v js ys → ShowEach v (is ++ js) (xs ++ ys)
show-append v [] js [] ys h k = k
show-append v (i ∷ is) js (x ∷ xs) ys h k = (h.0, show-append v is js xs ys h.1 k)
show-append v [] js (x ∷ xs) ys h k = absurd h
show-append v (i ∷ is) js [] ys h k = absurd h

show-length : (v : ℕ) (is : List Item) (xs : List StampedItem) → ShowEach v is xs → length is ≡ length xs
show-length v [] [] h = refl
show-length v (i ∷ is) (x ∷ xs) h = let more = show-length v is xs h.1 in omega arith
show-length v [] (x ∷ xs) h = absurd h
show-length v (i ∷ is) [] h = absurd h

longer : {A : Type 0} (xs ys : List A) (y : A) (n : ℕ) → n ≡ length (y ∷ (xs ++ ys)) → n ≡ length ys → ⊥
longer xs ys y n h k = omega (arith, length-append xs ys)

-- where the last ones are shown by the last ones, so are the first ones by the first ones
pub show-front : (v : ℕ) (is js : List Item) (xs ys : List StampedItem) → ShowEach v (is ++ js) (xs ++ ys) → ShowEach v js ys → ShowEach v is xs
show-front v [] js [] ys h k = tt
show-front v (i ∷ is) js (x ∷ xs) ys h k = (h.0, show-front v is js xs ys h.1 k)
show-front v [] js (x ∷ xs) ys h k = absurd (longer xs ys x (length js) (show-length v js (x ∷ (xs ++ ys)) h) (show-length v js ys k))
show-front v (i ∷ is) js [] ys h k = absurd (longer is js i (length ys) (sym (show-length v (i ∷ (is ++ js)) ys h)) (sym (show-length v js ys k)))

-- the first of them
pub record First (v : ℕ) (is : List Item) (x : StampedItem) (xs : List StampedItem) : Type 0 where
  pub item : Item
  pub more : List Item
  pub are : is ≡ item ∷ more
  pub shows : Shows v item x
  pub rest : ShowEach v more xs

pub show-first : (v : ℕ) (is : List Item) (x : StampedItem) (xs : List StampedItem) → ShowEach v is (x ∷ xs) → First v is x xs
show-first v [] x xs h = absurd h
show-first v (i ∷ is) x xs h = record { item = i; more = is; are = refl; shows = h.0; rest = h.1 }

-- what holds of each item that shows one of these holds of each
pub show-all : (v : ℕ) (P : Item → Type 0) (is : List Item) (xs : List StampedItem) → ShowEach v is xs → ((i : Item) (x : StampedItem) → Occurs (λ z. z ≡ x) xs → Shows v i x → P i)
    → AllByRecursion P is
show-all v P [] [] h f = tt
show-all v P (i ∷ is) (x ∷ xs) h f = (f i x (inl refl) h.0, show-all v P is xs h.1 (λ j y o s. f j y (inr o) s))
show-all v P [] (x ∷ xs) h f = absurd h
show-all v P (i ∷ is) [] h f = absurd h

-- ---- equal items, equal links

pub same_item-is : (a b : Item) → same_item a b ≡ true → a ≡ b
same_item-is (item.Agent a) (item.Agent b) e =
    let site : a.site ≡ b.site = grind (arith, e) in
    let n : a.n ≡ b.n = grind (arith, e) in
    λ i. item.Agent (record { site = site i; n = n i })
same_item-is (item.Agent a) (item.Packet b) e = absurd cc
same_item-is (item.Packet a) (item.Agent b) e = absurd cc
same_item-is (item.Packet a) (item.Packet b) e =
    let site : a.site ≡ b.site = grind (arith, e) in
    let n : a.n ≡ b.n = grind (arith, e) in
    λ i. item.Packet (record { site = site i; n = n i })

same_item-itself : (a : Item) → same_item a a ≡ true
same_item-itself (item.Agent a) = grind arith
same_item-itself (item.Packet a) = grind arith

links-are : (s r u v : ℕ) → same_link (link s r) (link u v) ≡ true → (s ≡ u) × (r ≡ v)
links-are s r u v h = let e = same_link-is (link s r) (link u v) h in (ap (λ (l : Link). l.from) e, ap (λ (l : Link). l.to) e)

-- ---- what a deed takes from a link and puts on it

abbrev taken_of : ℕ → ℕ → ℕ → Option StampedItem → List StampedItem
taken_of u v s o = cond (nat_eq s v) (filter (λ x. nat_eq x.item.sender u) (option_to_list o)) []

abbrev put_of : ℕ → ℕ → ℕ → Option StampedItem → List StampedItem
put_of u v s o = cond (nat_eq s u) (filter (λ x. nat_eq x.item.receiver v) (option_to_list o)) []

abbrev no_items : List StampedItem
no_items = []

either_way : (t : Bool) → cond t no_items [] ≡ []
either_way true = refl
either_way false = refl

module _ (w : Waiting) (d : Deed) (u v : ℕ) where
  pub none-taken : d.taken ≡ None → takes u v d ≡ []
  none-taken h = ap (taken_of u v d.event.event.site) h ∙ either_way (nat_eq d.event.event.site v)

  pub none-put : d.put ≡ None → puts u v d ≡ []
  none-put h = ap (put_of u v d.event.event.site) h ∙ either_way (nat_eq d.event.event.site u)

  moved-no_take : d.taken ≡ None → moved w d u v ≡ w u v ++ puts u v d
  moved-no_take h = ap (λ ts. drop (length ts) (w u v) ++ puts u v d) (none-taken h)

  pub moved-nothing : d.taken ≡ None → d.put ≡ None → moved w d u v ≡ w u v
  moved-nothing h k = moved-no_take h ∙ ap (λ ps. w u v ++ ps) (none-put k) ∙ append-nil (w u v)

  one_put : (y : StampedItem) → d.put ≡ Some y → puts u v d ≡ cond (same_link (link d.event.event.site y.item.receiver) (link u v)) (y ∷ []) []
  one_put y h = ap (put_of u v d.event.event.site) h ∙ by (nat_eq d.event.event.site u) (nat_eq y.item.receiver v)
    where
      by : (p q : Bool) → cond p (cond q (y ∷ []) []) [] ≡ cond (p && q) (y ∷ []) []
      by true q = refl
      by false q = refl

  one_taken : (x : StampedItem) → d.taken ≡ Some x → takes u v d ≡ cond (same_link (link x.item.sender d.event.event.site) (link u v)) (x ∷ []) []
  one_taken x h = ap (taken_of u v d.event.event.site) h ∙ by (nat_eq x.item.sender u) (nat_eq d.event.event.site v)
    where
      by : (p q : Bool) → cond q (cond p (x ∷ []) []) [] ≡ cond (p && q) (x ∷ []) []
      by true q = refl
      by false true = refl
      by false false = refl

-- what the first of the deeds puts, and then the others
pub put-first : (u v : ℕ) (d : Deed) (ds : List Deed) → put_for v (own u (d ∷ ds)) ≡ puts u v d ++ put_for v (own u ds)
put-first u v d ds = at (nat_eq d.event.event.site u)
  where
    at : (b : Bool) → put_for v (cond b (d ∷ own u ds) (own u ds)) ≡ cond b (filter (λ x. nat_eq x.item.receiver v) (option_to_list d.put)) [] ++ put_for v (own u ds)
    at true = filter-append (λ (x : StampedItem). nat_eq x.item.receiver v) (option_to_list d.put) (flat_map (λ d. option_to_list d.put) (own u ds))
    at false = refl

-- ---- the links of a run

-- On each link between n sites what was put is what was taken, and then items that show what waits. Each was put last by the site that the link is from.
pub record Told (n : ℕ) (t : Travels) (w : Waiting) : Type 0 where
  pub waits : ℕ → ℕ → List Item
  pub are : (u v : ℕ) → u < n → v < n → on_link (link u v) t.put ≡ on_link (link u v) t.taken ++ waits u v
  pub shows : (u v : ℕ) → u < n → v < n → ShowEach v (waits u v) (w u v)
  pub senders : (u v : ℕ) → u < n → v < n → AllByRecursion (λ i. sender t.put i ≡ Some u) (waits u v)

-- what comes to be put shows what a deed puts
pub record PutMore (n : ℕ) (t t' : Travels) (ps : ℕ → ℕ → List StampedItem) : Type 0 where
  pub more : ℕ → ℕ → List Item
  pub are : (u v : ℕ) → u < n → v < n → on_link (link u v) t'.put ≡ on_link (link u v) t.put ++ more u v
  pub shows : (u v : ℕ) → u < n → v < n → ShowEach v (more u v) (ps u v)

pub told-same : (n : ℕ) (t : Travels) (w w' : Waiting) → ((u v : ℕ) → w u v ≡ w' u v) → Told n t w → Told n t w'
told-same n t w w' same told = record {
  waits = told.waits;
  are = told.are;
  shows = λ u v h k. subst (ShowEach v (told.waits u v)) (same u v) (told.shows u v h k);
  senders = told.senders;
}

pub none-more : (n : ℕ) (t : Travels) (ps : ℕ → ℕ → List StampedItem) → ((u v : ℕ) → ps u v ≡ []) → PutMore n t t ps
none-more n t ps none = record {
  more = λ u v. [];
  are = λ u v h k. sym (append-nil (on_link (link u v) t.put));
  shows = λ u v h k. subst (ShowEach v []) (sym (none u v)) tt;
}

module _ (n : ℕ) (t : Travels) (w : Waiting) (d : Deed) (told : Told n t w) where
  -- a deed puts an item that does not wait yet
  module _ (y : StampedItem) (none : d.taken ≡ None) (put : d.put ≡ Some y) (i : Item) (shows : Shows y.item.receiver i y) where
    abbrev trip : Trip
    trip = record { item = i; link = link d.event.event.site y.item.receiver }

    abbrev one : ℕ → ℕ → List Item
    one u v = cond (same_link (link d.event.event.site y.item.receiver) (link u v)) (i ∷ []) []

    one-shows : (u v : ℕ) → ShowEach v (one u v) (puts u v d)
    one-shows u v = subst (ShowEach v (one u v)) (sym (one_put w d u v y put)) (at (same_link (link d.event.event.site y.item.receiver) (link u v)) refl)
      where
        at : (b : Bool) → same_link (link d.event.event.site y.item.receiver) (link u v) ≡ b → ShowEach v (cond b (i ∷ []) []) (cond b (y ∷ []) [])
        at true h = (subst (λ r. Shows r i y) (links-are d.event.event.site y.item.receiver u v h).1 shows, tt)
        at false h = tt

    pub put-more : PutMore n t (record t { put = t.put ++ trip ∷ [] }) (λ u v. puts u v d)
    put-more = record { more = one; are = λ u v h k. on_link-more (link u v) t.put trip; shows = λ u v h k. one-shows u v }

    module _ (fresh : (u v : ℕ) → u < n → v < n → AllByRecursion (λ j. same_item i j ≡ false) (told.waits u v)) where
      new-sender : (u v : ℕ) → AllByRecursion (λ j. sender (t.put ++ trip ∷ []) j ≡ Some u) (one u v)
      new-sender u v = at (same_link (link d.event.event.site y.item.receiver) (link u v)) refl
        where
          at : (b : Bool) → same_link (link d.event.event.site y.item.receiver) (link u v) ≡ b → AllByRecursion (λ j. sender (t.put ++ trip ∷ []) j ≡ Some u) (cond b (i ∷ []) [])
          at true h = (
            sender-more t.put trip i ∙ ap (λ b. cond b (Some d.event.event.site) (sender t.put i)) (same_item-itself i)
                ∙ ap Some (links-are d.event.event.site y.item.receiver u v h).0,
            tt,
          )
          at false h = tt

      pub told-put : Told n (record t { put = t.put ++ trip ∷ [] }) (moved w d)
      told-put = record {
        waits = λ u v. told.waits u v ++ one u v;
        are = λ u v h k. on_link-more (link u v) t.put trip ∙ ap (λ z. z ++ one u v) (told.are u v h k) ∙ append_assoc (on_link (link u v) t.taken) (told.waits u v) (one u v);
        shows = λ u v h k. subst (ShowEach v (told.waits u v ++ one u v)) (sym (moved-no_take w d u v none))
            (show-append v (told.waits u v) (one u v) (w u v) (puts u v d) (told.shows u v h k) (one-shows u v));
        senders = λ u v h k. all_append _ (told.waits u v) (one u v)
            (all_weaker (λ j. (sender t.put j ≡ Some u) × (same_item i j ≡ false)) (λ j. sender (t.put ++ trip ∷ []) j ≡ Some u)
            (λ j is. sender-more t.put trip j ∙ ap (λ b. cond b (Some d.event.event.site) (sender t.put j)) is.1 ∙ is.0) (told.waits u v)
            (all_both _ _ (told.waits u v) (told.senders u v h k) (fresh u v h k)))
            (new-sender u v);
      }

  -- a deed takes what waits first on a link to its site
  module _ (x : StampedItem) (ys : List StampedItem) (taken : d.taken ≡ Some x) (none : d.put ≡ None) (front : w x.item.sender d.event.event.site ≡ x ∷ ys) where
    module _ (from : x.item.sender < n) (to : d.event.event.site < n) where
      abbrev its : Link
      its = link x.item.sender d.event.event.site

      pub first : First d.event.event.site (told.waits x.item.sender d.event.event.site) x ys
      first = show-first d.event.event.site (told.waits x.item.sender d.event.event.site) x ys
          (subst (ShowEach d.event.event.site (told.waits x.item.sender d.event.event.site)) front (told.shows x.item.sender d.event.event.site from to))

      abbrev gone : Trip
      gone = record { item = first.item; link = link x.item.sender d.event.event.site }

      pub put-first_there : on_link its t.put ≡ on_link its t.taken ++ first.item ∷ first.more
      put-first_there = told.are x.item.sender d.event.event.site from to ∙ ap (λ z. on_link its t.taken ++ z) first.are

      first-senders : AllByRecursion (λ i. sender t.put i ≡ Some x.item.sender) (first.item ∷ first.more)
      first-senders = subst (AllByRecursion (λ i. sender t.put i ≡ Some x.item.sender)) first.are (told.senders x.item.sender d.event.event.site from to)

      pub first-sender : sender t.put first.item ≡ Some x.item.sender
      first-sender = first-senders.0

      abbrev after : ℕ → ℕ → List Item
      after u v = cond (same_link its (link u v)) first.more (told.waits u v)

      moved-take : (u v : ℕ) → moved w d u v ≡ cond (same_link its (link u v)) ys (w u v)
      moved-take u v =
          ap₂ (λ ts ps. drop (length ts) (w u v) ++ ps) (one_taken w d u v x taken) (none-put w d u v none)
          ∙ append-nil (drop (length (cond (same_link its (link u v)) (x ∷ []) [])) (w u v)) ∙ at (same_link its (link u v)) refl
        where
          at : (b : Bool) → same_link its (link u v) ≡ b → drop (length (cond b (x ∷ []) [])) (w u v) ≡ cond b ys (w u v)
          at true h =
              let e = links-are x.item.sender d.event.event.site u v h in
              ap (drop 1) (ap₂ w (sym e.0) (sym e.1) ∙ front)
          at false h = refl

      left : (u v : ℕ) → u < n → v < n → (b : Bool) → same_link its (link u v) ≡ b
          → on_link (link u v) t.put ≡ on_link (link u v) (t.taken ++ gone ∷ []) ++ cond b first.more (told.waits u v)
      left u v h k true e = subst (λ l. on_link l t.put ≡ on_link l (t.taken ++ gone ∷ []) ++ first.more) (same_link-is its (link u v) e)
          (put-first_there ∙ sym (append_assoc (on_link its t.taken) (first.item ∷ []) first.more) ∙ ap (λ z. z ++ first.more) (sym (on_link-here t.taken gone)))
      left u v h k false e = told.are u v h k ∙ ap (λ z. z ++ told.waits u v) (sym (on_link-other (link u v) t.taken gone e))

      after-shows : (u v : ℕ) → u < n → v < n → (b : Bool) → same_link its (link u v) ≡ b → ShowEach v (cond b first.more (told.waits u v)) (cond b ys (w u v))
      after-shows u v h k true e = subst (λ r. ShowEach r first.more ys) (links-are x.item.sender d.event.event.site u v e).1 first.rest
      after-shows u v h k false e = told.shows u v h k

      after-senders : (u v : ℕ) → u < n → v < n → (b : Bool) → same_link its (link u v) ≡ b → AllByRecursion (λ i. sender t.put i ≡ Some u) (cond b first.more (told.waits u v))
      after-senders u v h k true e =
          subst (λ s. AllByRecursion (λ i. sender t.put i ≡ Some s) first.more) (links-are x.item.sender d.event.event.site u v e).0 first-senders.1
      after-senders u v h k false e = told.senders u v h k

      pub told-take : Told n (record t { taken = t.taken ++ gone ∷ [] }) (moved w d)
      told-take = record {
        waits = after;
        are = λ u v h k. left u v h k (same_link its (link u v)) refl;
        shows = λ u v h k. subst (ShowEach v (after u v)) (sym (moved-take u v)) (after-shows u v h k (same_link its (link u v)) refl);
        senders = λ u v h k. after-senders u v h k (same_link its (link u v)) refl;
      }
