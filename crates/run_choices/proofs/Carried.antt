-- What is under way is what is left on the links: an item put on its link, and the first taken from one.
use Rattle.std.proofs.Common.{◌≡◌, ◌⊎◌, inl, inr, ⊎_elim, ℕ, Bool, true, false, cond, List, [], ◌∷◌, ◌++◌, length, drop, slice_get, Option, None, Some, refl, sym, ap, subst, ◌∙◌, arith}
use Rattle.std.proofs.Math.Seq.{drop-append_seam}
use Rattle.std.proofs.lemmas.List.{append-nil, append_assoc}
use Rattle.std.specs.Option.{option_map}
use Rattle.std.specs.FinMap as map
use Rattle.np_syntax.specs.Options.{◌>>=◌}
use Rattle.np_calculus.specs.declared.config.Packet.{Packet}
use Rattle.np_calculus.specs.declared.config.Place.{Place}
use Rattle.np_calculus.specs.Config.{Config}
use Rattle.np_calculus.specs.Reductions.{way}
use Rattle.run_save.specs.declared.trips.Item.{Item}
use Rattle.run_save.specs.declared.trips.Item.TheVariants as item
use Rattle.run_save.specs.declared.trips.Link.{Link}
use Rattle.run_save.specs.declared.trips.Trip.{Trip}
use Rattle.run_save.specs.Left.{first_beside, left_on, link}
use Rattle.run_save.specs.Ours.{IsPutFirst}
use Rattle.run_save.specs.Travels.{IsFirstInFirstOut, Travels, on_link, puts, same_item, same_link, sender, takes}
use Rattle.run_save.proofs.LinkLaws.{on_link-here, on_link-more, on_link-other, same_item-itself, same_link-is, same_link-itself, sender-more, takes-from}

-- the site to which an agent of this place is under way, and the one for which a packet is
abbrev pub heading : Option Place → Option ℕ
heading o = o >>= way

abbrev pub target : Option Packet → Option ℕ
target o = option_map (λ (p : Packet). p.to) o

-- the site for which an item is under way
abbrev pub bound : Config → Item → Option ℕ
bound c (item.Agent a) = heading (map.get c.places a)
bound c (item.Packet m) = target (map.get c.packets m)

-- the item is in the list
abbrev pub In : Item → List Item → Type 0
In x [] = ⊥
In x (y ∷ ys) = (x ≡ y) ⊎ In x ys

-- and each is there once
abbrev pub Once : List Item → Type 0
Once [] = Unit {0}
Once (y ∷ ys) = (In y ys → ⊥) × Once ys

in-front : (x : Item) (xs ys : List Item) → In x xs → In x (xs ++ ys)
in-front x [] ys h = absurd h
in-front x (z ∷ zs) ys (inl e) = inl e
in-front x (z ∷ zs) ys (inr h) = inr (in-front x zs ys h)

in-last : (x : Item) (xs : List Item) → In x (xs ++ x ∷ [])
in-last x [] = inl refl
in-last x (z ∷ zs) = inr (in-last x zs)

in-either : (x y : Item) (xs : List Item) → In x (xs ++ y ∷ []) → In x xs ⊎ (x ≡ y)
in-either x y [] (inl e) = inr e
in-either x y [] (inr h) = absurd h
in-either x y (z ∷ zs) (inl e) = inl (inl e)
in-either x y (z ∷ zs) (inr h) = ⊎_elim (λ i. inl (inr i)) (λ e. inr e) (in-either x y zs h)

once-last : (y : Item) (xs : List Item) → (In y xs → ⊥) → Once xs → Once (xs ++ y ∷ [])
once-last y [] none once = ((λ h. h), tt)
once-last y (z ∷ zs) none once = (
  λ h. ⊎_elim (λ i. once.0 i) (λ e. none (inl (sym e))) (in-either z y zs h),
  once-last y zs (λ h. none (inr h)) once.1,
)

-- what is under way is left on the link from its sender's site, once, and nothing else is left
pub record Carries (c : Config) (t : Travels) : Type 0 where
  pub way : (x : Item) (to : ℕ) → bound c x ≡ Some to → (from : ℕ) × (sender t.put x ≡ Some from) × In x (left_on t (link from to))
  pub there : (l : Link) (x : Item) → In x (left_on t l) → (bound c x ≡ Some l.to) × (sender t.put x ≡ Some l.from)
  pub once : (l : Link) → Once (left_on t l)

item-is : (a b : Item) → same_item a b ≡ true → a ≡ b
item-is (item.Agent a) (item.Agent b) e =
    let site : a.site ≡ b.site = grind (arith, e) in
    let n : a.n ≡ b.n = grind (arith, e) in
    λ i. item.Agent (record { site = site i; n = n i })
item-is (item.Agent a) (item.Packet b) e = absurd cc
item-is (item.Packet a) (item.Agent b) e = absurd cc
item-is (item.Packet a) (item.Packet b) e =
    let site : a.site ≡ b.site = grind (arith, e) in
    let n : a.n ≡ b.n = grind (arith, e) in
    λ i. item.Packet (record { site = site i; n = n i })

-- an item is another one, or it is this one
either-item : (x y : Item) → (x ≡ y) ⊎ (same_item x y ≡ false)
either-item x y = at (same_item x y) refl
  where
    at : (b : Bool) → same_item x y ≡ b → (x ≡ y) ⊎ (same_item x y ≡ false)
    at true h = inl (item-is x y h)
    at false h = inr h

either-link : (l m : Link) → (l ≡ m) ⊎ (same_link l m ≡ false)
either-link l m = at (same_link l m) refl
  where
    at : (b : Bool) → same_link l m ≡ b → (l ≡ m) ⊎ (same_link l m ≡ false)
    at true h = inl (same_link-is l m h)
    at false h = inr h

-- what was put is what was taken and what is left
pub whole-left : (t : Travels) (l : Link) → IsFirstInFirstOut t → on_link l t.put ≡ on_link l t.taken ++ left_on t l
whole-left t l order =
    (order.links l).1
    ∙ ap (λ xs. on_link l t.taken ++ xs) (sym (ap (drop (length (on_link l t.taken))) (order.links l).1 ∙ drop-append_seam (on_link l t.taken) (order.links l).0))

some-none : {A : Type 0} (o : Option A) (a : A) → o ≡ Some a → o ≡ None → ⊥
some-none o a h k = let e : Some a ≡ None = sym h ∙ k in cc

-- the same agents and packets are under way
pub still-carries : (c d : Config) (t : Travels) → ((x : Item) → bound d x ≡ bound c x) → Carries c t → Carries d t
still-carries c d t same h = record {
  way = λ x to b. h.way x to (sym (same x) ∙ b);
  there = λ l x i. let o = h.there l x i in (same x ∙ o.0, o.1);
  once = h.once;
}

-- ---- an item is put

module _ (c d : Config) (t : Travels) (trip : Trip) (order : IsFirstInFirstOut t) (old : Carries c t) (none : bound c trip.item ≡ None)
    (now : bound d trip.item ≡ Some trip.link.to) (others : (x : Item) → same_item trip.item x ≡ false → bound d x ≡ bound c x) where
  abbrev after : Travels
  after = puts t (Some trip)

  left-more : (l : Link) → left_on after l ≡ left_on t l ++ cond (same_link trip.link l) (trip.item ∷ []) []
  left-more l =
      ap (drop (length (on_link l t.taken)))
      (on_link-more l t.put trip ∙ ap (λ xs. xs ++ cond (same_link trip.link l) (trip.item ∷ []) []) (whole-left t l order)
      ∙ append_assoc (on_link l t.taken) (left_on t l) (cond (same_link trip.link l) (trip.item ∷ []) []))
      ∙ drop-append_seam (on_link l t.taken) (left_on t l ++ cond (same_link trip.link l) (trip.item ∷ []) [])

  left-here : left_on after trip.link ≡ left_on t trip.link ++ trip.item ∷ []
  left-here = left-more trip.link ∙ ap (λ b. left_on t trip.link ++ cond b (trip.item ∷ []) []) (same_link-itself trip.link)

  left-other : (l : Link) → same_link trip.link l ≡ false → left_on after l ≡ left_on t l
  left-other l h = left-more l ∙ ap (λ b. left_on t l ++ cond b (trip.item ∷ []) []) h ∙ append-nil (left_on t l)

  -- it was not left anywhere
  not-left : (l : Link) → In trip.item (left_on t l) → ⊥
  not-left l i = some-none (bound c trip.item) l.to (old.there l trip.item i).0 none

  sent-other : (x : Item) → same_item trip.item x ≡ false → sender after.put x ≡ sender t.put x
  sent-other x h = sender-more t.put trip x ∙ ap (λ b. cond b (Some trip.link.from) (sender t.put x)) h

  sent-here : sender after.put trip.item ≡ Some trip.link.from
  sent-here = sender-more t.put trip trip.item ∙ ap (λ b. cond b (Some trip.link.from) (sender t.put trip.item)) (same_item-itself trip.item)

  keeps : (l : Link) (x : Item) → In x (left_on t l) → In x (left_on after l)
  keeps l x i = subst (In x) (sym (left-more l)) (in-front x (left_on t l) (cond (same_link trip.link l) (trip.item ∷ []) []) i)

  way-put : (x : Item) (to : ℕ) → bound d x ≡ Some to → (from : ℕ) × (sender after.put x ≡ Some from) × In x (left_on after (link from to))
  way-put x to b = ⊎_elim here (λ apart. let o = old.way x to (sym (others x apart) ∙ b) in (o.0, sent-other x apart ∙ o.1, keeps (link o.0 to) x o.2)) (either-item trip.item x)
    where
      here : trip.item ≡ x → (from : ℕ) × (sender after.put x ≡ Some from) × In x (left_on after (link from to))
      here same =
          let goes : Some trip.link.to ≡ Some to = sym now ∙ ap (bound d) same ∙ b in
          let to-is : trip.link.to ≡ to = cc in
          subst (λ (y : Item). (from : ℕ) × (sender after.put y ≡ Some from) × In y (left_on after (link from to))) same
          (subst (λ (n : ℕ). (from : ℕ) × (sender after.put trip.item ≡ Some from) × In trip.item (left_on after (link from n))) to-is
          (trip.link.from, sent-here, subst (In trip.item) (sym left-here) (in-last trip.item (left_on t trip.link))))

  -- what was left before is another item
  was : (l : Link) (x : Item) → In x (left_on t l) → (bound d x ≡ Some l.to) × (sender after.put x ≡ Some l.from)
  was l x i = ⊎_elim
      (λ same. absurd (not-left l (subst (λ (y : Item). In y (left_on t l)) (sym same) i)))
      (λ apart. let o = old.there l x i in (others x apart ∙ o.0, sent-other x apart ∙ o.1))
      (either-item trip.item x)

  there-put : (l : Link) (x : Item) → In x (left_on after l) → (bound d x ≡ Some l.to) × (sender after.put x ≡ Some l.from)
  there-put l x i = ⊎_elim
      (λ same. subst (λ (m : Link). In x (left_on after m) → (bound d x ≡ Some m.to) × (sender after.put x ≡ Some m.from)) same here i)
      (λ apart. was l x (subst (In x) (left-other l apart) i))
      (either-link trip.link l)
    where
      here : In x (left_on after trip.link) → (bound d x ≡ Some trip.link.to) × (sender after.put x ≡ Some trip.link.from)
      here i = ⊎_elim
          (λ before. was trip.link x before)
          (λ last. (ap (bound d) last ∙ now, ap (sender after.put) last ∙ sent-here))
          (in-either x trip.item (left_on t trip.link) (subst (In x) left-here i))

  once-put : (l : Link) → Once (left_on after l)
  once-put l = ⊎_elim
      (λ same. subst (λ (m : Link). Once (left_on after m)) same (subst Once (sym left-here) (once-last trip.item (left_on t trip.link) (not-left trip.link) (old.once trip.link))))
      (λ apart. subst Once (sym (left-other l apart)) (old.once l))
      (either-link trip.link l)

  pub put-carries : Carries d (puts t (Some trip))
  put-carries = record { way = way-put; there = there-put; once = once-put }

-- ---- the first is taken

module _ (c d : Config) (t : Travels) (x : Item) (site : ℕ) (order : IsFirstInFirstOut t) (old : Carries c t) (put : IsPutFirst t x site)
    (now : bound d x ≡ None) (others : (y : Item) → same_item x y ≡ false → bound d y ≡ bound c y) where
  abbrev own : Link
  own = link put.from site

  abbrev left : Travels
  left = record t { taken = t.taken ++ record { item = x; link = own } ∷ [] }

  was-first : left_on t own ≡ x ∷ put.later
  was-first = ap (drop (length (on_link own t.taken))) put.first ∙ drop-append_seam (on_link own t.taken) (x ∷ put.later)

  now-first : left_on left own ≡ put.later
  now-first =
      ap (λ xs. drop (length xs) (on_link own t.put)) (on_link-here t.taken (record { item = x; link = own }))
      ∙ ap (drop (length (on_link own t.taken ++ x ∷ []))) (put.first ∙ sym (append_assoc (on_link own t.taken) (x ∷ []) put.later))
      ∙ drop-append_seam (on_link own t.taken ++ x ∷ []) put.later

  left-apart : (l : Link) → same_link own l ≡ false → left_on left l ≡ left_on t l
  left-apart l h = ap (λ xs. drop (length xs) (on_link l t.put)) (on_link-other l t.taken (record { item = x; link = own }) h)

  x-there : (bound c x ≡ Some site) × (sender t.put x ≡ Some put.from)
  x-there = old.there own x (subst (In x) (sym was-first) (inl refl))

  way-taken : (y : Item) (to : ℕ) → bound d y ≡ Some to → (from : ℕ) × (sender t.put y ≡ Some from) × In y (left_on left (link from to))
  way-taken y to b = ⊎_elim (λ same. absurd (some-none (bound d x) to (ap (bound d) same ∙ b) now)) goes (either-item x y)
    where
      goes : same_item x y ≡ false → (from : ℕ) × (sender t.put y ≡ Some from) × In y (left_on left (link from to))
      goes apart =
          let o = old.way y to (sym (others y apart) ∙ b) in (
            o.0,
            o.1,
            ⊎_elim
                (λ (same : own ≡ link o.0 to). subst (λ (m : Link). In y (left_on left m)) same (subst (In y) (sym now-first)
                (⊎_elim (λ e. absurd (let f : same_item x y ≡ true = subst (λ z. same_item x z ≡ true) (sym e) (same_item-itself x) in let g = sym f ∙ apart in cc)) (λ i. i)
                (subst (In y) was-first (subst (λ (m : Link). In y (left_on t m)) (sym same) o.2)))))
                (λ other. subst (In y) (sym (left-apart (link o.0 to) other)) o.2)
                (either-link own (link o.0 to)),
          )

  -- an item that is left is not the one that was taken
  stays : (l : Link) (y : Item) → In y (left_on left l) → In y (left_on t l) × (same_item x y ≡ false)
  stays l y i = ⊎_elim
      (λ same. subst (λ (m : Link). In y (left_on left m) → In y (left_on t m) × (same_item x y ≡ false)) same here i)
      away
      (either-link own l)
    where
      not-x : (m : Link) → In y (left_on t m) → (x ≡ y → ⊥) → In y (left_on t m) × (same_item x y ≡ false)
      not-x m i apart = (i, ⊎_elim (λ same. absurd (apart same)) (λ h. h) (either-item x y))

      here : In y (left_on left own) → In y (left_on t own) × (same_item x y ≡ false)
      here i =
          let later : In y put.later = subst (In y) now-first i in
          not-x own (subst (In y) (sym was-first) (inr later)) (λ same. (subst Once was-first (old.once own)).0 (subst (λ z. In z put.later) (sym same) later))

      away : same_link own l ≡ false → In y (left_on t l) × (same_item x y ≡ false)
      away other =
          let before : In y (left_on t l) = subst (In y) (left-apart l other) i in
          not-x l before (λ same.
          let o = old.there l y before in
          let to : Some site ≡ Some l.to = sym x-there.0 ∙ ap (bound c) same ∙ o.0 in
          let from : Some put.from ≡ Some l.from = sym x-there.1 ∙ ap (sender t.put) same ∙ o.1 in
          let one : put.from ≡ l.from = cc in
          let two : site ≡ l.to = cc in
          let is : own ≡ l = (λ i. record { from = one i; to = two i }) in
          let f : same_link own l ≡ true = subst (λ (m : Link). same_link own m ≡ true) is (same_link-itself own) in
          let g = sym f ∙ other in cc)

  pub taken-carries : Carries d (takes t x site)
  taken-carries = subst (Carries d) (sym (takes-from t x site put.from put.sent)) (record {
    way = way-taken;
    there = λ l y i. let s = stays l y i in let o = old.there l y s.0 in (others y s.1 ∙ o.0, o.1);
    once = λ l. ⊎_elim
        (λ same. subst (λ (m : Link). Once (left_on left m)) same (subst Once (sym now-first) (subst Once was-first (old.once own)).1))
        (λ other. subst Once (sym (left-apart l other)) (old.once l))
        (either-link own l);
  })

-- ---- what is first

-- of what is under way, something is first on its link, and is under way to the same site
pub first-left : (c : Config) (t : Travels) (x : Item) (to : ℕ) → IsFirstInFirstOut t → Carries c t → bound c x ≡ Some to
    → (y : Item) × (first_beside t x to ≡ Some y) × (bound c y ≡ Some to) × IsPutFirst t y to
first-left c t x to order h b =
    let w = h.way x to b in
    at w.0 w.1 (left_on t (link w.0 to)) refl w.2
  where
    at : (from : ℕ) → sender t.put x ≡ Some from → (xs : List Item) → left_on t (link from to) ≡ xs → In x (left_on t (link from to))
        → (y : Item) × (first_beside t x to ≡ Some y) × (bound c y ≡ Some to) × IsPutFirst t y to
    at from sent [] is i = absurd (subst (In x) is i)
    at from sent (y ∷ ys) is i =
        let o = h.there (link from to) y (subst (In y) (sym is) (inl refl)) in (
          y,
          ap (λ (f : Option ℕ). f >>= λ from. slice_get (left_on t (link from to)) 0) sent ∙ ap (λ (zs : List Item). slice_get zs 0) is,
          o.0,
          record { from = from; sent = o.1; later = ys; first = whole-left t (link from to) order ∙ ap (λ zs. on_link (link from to) t.taken ++ zs) is },
        )
