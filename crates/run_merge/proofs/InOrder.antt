-- Lists in order: what putting in an element keeps, and that there is one list in order.
use Rattle.std.proofs.Common.{◌≡◌, ◌<◌, ◌≤◌, ℕ, suc, Bool, true, false, cond, not, ◌&&◌, List, [], ◌∷◌, ◌++◌, length, map, get_or, refl, sym, ap, ap₂, ◌∙◌, subst, arith}
use Rattle.std.specs.Cmp.{IsStrictWeakOrder}
use Rattle.std.specs.List.{AllByRecursion, filter, flat_map}
use Rattle.std.specs.List.Sorted.{IsSortedBy, IsStableBy, ties}
use Rattle.std.proofs.lemmas.List.Elements.{recursion_from_All}
use Rattle.std.proofs.lemmas.List.Sorted.{sorted_far}
use Rattle.run_merge.specs.InOrder.{put_in, in_order, Ascends}

-- P of a choice, from P of both
pub at_cond : {A : Type 0} (P : A → Type 0) (b : Bool) (x y : A) → (b ≡ true → P x) → (b ≡ false → P y) → P (cond b x y)
at_cond P true x y f g = f refl
at_cond P false x y f g = g refl

-- ---- what holds of each element

pub all_weaker : {A : Type 0} (P Q : A → Type 0) → ((x : A) → P x → Q x) → (xs : List A) → AllByRecursion P xs → AllByRecursion Q xs
all_weaker P Q f [] all = tt
all_weaker P Q f (x ∷ xs) all = (f x all.0, all_weaker P Q f xs all.1)

pub all_map : {A B : Type 0} (P : B → Type 0) (f : A → B) (xs : List A) → AllByRecursion (λ x. P (f x)) xs → AllByRecursion P (map f xs)
all_map P f [] all = tt
all_map P f (x ∷ xs) all = (all.0, all_map P f xs all.1)

pub all_filter : {A : Type 0} (P : A → Type 0) (p : A → Bool) (xs : List A) → AllByRecursion P xs → AllByRecursion P (filter p xs)
all_filter P p [] all = tt
all_filter P p (x ∷ xs) all =
    let rest = all_filter P p xs all.1 in
    at_cond (AllByRecursion P) (p x) (x ∷ filter p xs) (filter p xs) (λ h. (all.0, rest)) (λ h. rest)

pub all_pass : {A : Type 0} (p : A → Bool) (xs : List A) → AllByRecursion (λ x. p x ≡ true) (filter p xs)
all_pass p [] = tt
all_pass p (x ∷ xs) =
    let rest = all_pass p xs in
    at_cond (AllByRecursion (λ x. p x ≡ true)) (p x) (x ∷ filter p xs) (filter p xs) (λ h. (h, rest)) (λ h. rest)

pub all_append : {A : Type 0} (P : A → Type 0) (xs ys : List A) → AllByRecursion P xs → AllByRecursion P ys → AllByRecursion P (xs ++ ys)
all_append P [] ys left right = right
all_append P (x ∷ xs) ys left right = (left.0, all_append P xs ys left.1 right)

pub all_flat_map : {A B : Type 0} (P : B → Type 0) (f : A → List B) (xs : List A) → AllByRecursion (λ x. AllByRecursion P (f x)) xs → AllByRecursion P (flat_map f xs)
all_flat_map P f [] all = tt
all_flat_map P f (x ∷ xs) all = all_append P (f x) (flat_map f xs) all.0 (all_flat_map P f xs all.1)

-- two tests that agree at each element
pub filter_alike : {A : Type 0} (p q : A → Bool) (xs : List A) → AllByRecursion (λ x. p x ≡ q x) xs → filter p xs ≡ filter q xs
filter_alike p q [] all = refl
filter_alike p q (x ∷ xs) all = ap₂ (λ b ys. cond b (x ∷ ys) ys) all.0 (filter_alike p q xs all.1)

pub keeps_all : {A : Type 0} (p : A → Bool) (xs : List A) → AllByRecursion (λ x. p x ≡ true) xs → filter p xs ≡ xs
keeps_all p [] all = refl
keeps_all p (x ∷ xs) all = ap (λ b. cond b (x ∷ filter p xs) (filter p xs)) all.0 ∙ ap (λ ys. x ∷ ys) (keeps_all p xs all.1)

pub keeps_none : {A : Type 0} (p : A → Bool) (xs : List A) → AllByRecursion (λ x. p x ≡ false) xs → filter p xs ≡ []
keeps_none p [] all = refl
keeps_none p (x ∷ xs) all = ap (λ b. cond b (x ∷ filter p xs) (filter p xs)) all.0 ∙ keeps_none p xs all.1

-- what passes the narrower of two tests is found among what passes the wider
pub filter_within : {A : Type 0} (p q : A → Bool) → ((x : A) → p x ≡ true → q x ≡ true) → (xs : List A) → filter p (filter q xs) ≡ filter p xs
filter_within p q f [] = refl
filter_within p q f (x ∷ xs) =
    let rest = filter_within p q f xs in
    at_cond (λ ys. filter p ys ≡ filter p (x ∷ xs)) (q x) (x ∷ filter q xs) (filter q xs)
    (λ h. ap (λ ys. cond (p x) (x ∷ ys) ys) rest)
    (λ h. at_cond (λ ys. filter p (filter q xs) ≡ ys) (p x) (x ∷ filter p xs) (filter p xs)
    (λ i. let j = f x i in absurd cc)
    (λ i. rest))

pub filter_map_back : {A B : Type 0} (p : B → Bool) (f : A → B) (xs : List A) → filter p (map f xs) ≡ map f (filter (λ x. p (f x)) xs)
filter_map_back p f [] = refl
filter_map_back p f (x ∷ xs) =
    let rest = filter_map_back p f xs in
    at_cond (λ ys. filter p (map f (x ∷ xs)) ≡ map f ys) (p (f x)) (x ∷ filter (λ x. p (f x)) xs) (filter (λ x. p (f x)) xs)
    (λ h. ap (λ b. cond b (f x ∷ filter p (map f xs)) (filter p (map f xs))) h ∙ ap (λ ys. f x ∷ ys) rest)
    (λ h. ap (λ b. cond b (f x ∷ filter p (map f xs)) (filter p (map f xs))) h ∙ rest)

-- one element less on both sides
pub filter_rest : {A : Type 0} (p : A → Bool) (x : A) (ys zs : List A) → filter p (x ∷ ys) ≡ filter p (x ∷ zs) → filter p ys ≡ filter p zs
filter_rest {A} p x ys zs e = shorter (p x) e
  where
    shorter : (b : Bool) → cond b (x ∷ filter p ys) (filter p ys) ≡ cond b (x ∷ filter p zs) (filter p zs) → filter p ys ≡ filter p zs
    shorter true e = cc
    shorter false e = e

-- ---- an order that is handed on to other elements

pub in_order-map : {A B : Type 0} (before : A → A → Bool) (other : B → B → Bool) (f : A → B) → ((a b : A) → other (f a) (f b) ≡ before a b)
    → (xs : List A) → map f (in_order before xs) ≡ in_order other (map f xs)
in_order-map {A} {B} before other f agrees [] = refl
in_order-map {A} {B} before other f agrees (x ∷ xs) =
    put_in-map (in_order before xs) ∙ ap (put_in other (f x)) (in_order-map before other f agrees xs)
  where
    put_in-map : (ys : List A) → map f (put_in before x ys) ≡ put_in other (f x) (map f ys)
    put_in-map [] = refl
    put_in-map (y ∷ ys) =
        let rest = put_in-map ys in
        let is : (b : Bool) → before y x ≡ b → put_in other (f x) (map f (y ∷ ys)) ≡ cond b (f y ∷ put_in other (f x) (map f ys)) (f x ∷ f y ∷ map f ys) =
        λ b e. ap (λ b. cond b (f y ∷ put_in other (f x) (map f ys)) (f x ∷ f y ∷ map f ys)) (agrees y x ∙ e) in
        at_cond (λ zs. map f zs ≡ put_in other (f x) (map f (y ∷ ys))) (before y x) (y ∷ put_in before x ys) (x ∷ y ∷ ys)
        (λ h. ap (λ zs. f y ∷ zs) rest ∙ sym (is true h))
        (λ h. sym (is false h))

module _ {X : Type 0} (before : X → X → Bool) (order : IsStrictWeakOrder before) where
  -- ---- putting in

  put_in-least : (x : X) (ys : List X) → AllByRecursion (λ y. before y x ≡ false) ys → put_in before x ys ≡ x ∷ ys
  put_in-least x [] all = refl
  put_in-least x (y ∷ ys) all = ap (λ b. cond b (y ∷ put_in before x ys) (x ∷ y ∷ ys)) all.0

  all_put_in : (P : X → Type 0) (x : X) (ys : List X) → P x → AllByRecursion P ys → AllByRecursion P (put_in before x ys)
  all_put_in P x [] p all = (p, tt)
  all_put_in P x (y ∷ ys) p all =
      let rest = all_put_in P x ys p all.1 in
      at_cond (AllByRecursion P) (before y x) (y ∷ put_in before x ys) (x ∷ y ∷ ys) (λ h. (all.0, rest)) (λ h. (p, all))

  pub all_in_order : (P : X → Type 0) (xs : List X) → AllByRecursion P xs → AllByRecursion P (in_order before xs)
  all_in_order P [] all = tt
  all_in_order P (x ∷ xs) all = all_put_in P x (in_order before xs) all.0 (all_in_order P xs all.1)

  ascends-put_in : (x : X) (ys : List X) → Ascends before ys → Ascends before (put_in before x ys)
  ascends-put_in x [] up = (tt, tt)
  ascends-put_in x (y ∷ ys) up =
      let rest = ascends-put_in x ys up.1 in
      at_cond (Ascends before) (before y x) (y ∷ put_in before x ys) (x ∷ y ∷ ys)
      (λ h. (all_put_in (λ z. before z y ≡ false) x ys (order.one_way y x h) up.0, rest))
      (λ h. ((h, all_weaker (λ z. before z y ≡ false) (λ z. before z x ≡ false) (λ z below. order.chain z y x below h) ys up.0), up))

  pub ascends-in_order : (xs : List X) → Ascends before (in_order before xs)
  ascends-in_order [] = tt
  ascends-in_order (x ∷ xs) = ascends-put_in x (in_order before xs) (ascends-in_order xs)

  pub ascends-filter : (p : X → Bool) (xs : List X) → Ascends before xs → Ascends before (filter p xs)
  ascends-filter p [] up = tt
  ascends-filter p (x ∷ xs) up =
      let rest = ascends-filter p xs up.1 in
      at_cond (Ascends before) (p x) (x ∷ filter p xs) (filter p xs) (λ h. (all_filter (λ y. before y x ≡ false) p xs up.0, rest)) (λ h. rest)

  -- ---- what passes a test

  passes : (p : X → Bool) (x : X) (ys : List X) → Ascends before ys → p x ≡ true → filter p (put_in before x ys) ≡ put_in before x (filter p ys)
  passes p x [] up h = ap (λ b. cond b (x ∷ []) []) h
  passes p x (y ∷ ys) up h =
      let rest = passes p x ys up.1 h in
      at_cond (λ zs. filter p zs ≡ put_in before x (filter p (y ∷ ys))) (before y x) (y ∷ put_in before x ys) (x ∷ y ∷ ys)
      (λ later. at_cond (λ zs. filter p (y ∷ put_in before x ys) ≡ put_in before x zs) (p y) (y ∷ filter p ys) (filter p ys)
      (λ py. ap (λ b. cond b (y ∷ filter p (put_in before x ys)) (filter p (put_in before x ys))) py ∙ ap (λ zs. y ∷ zs) rest
      ∙ sym (ap (λ b. cond b (y ∷ put_in before x (filter p ys)) (x ∷ y ∷ filter p ys)) later))
      (λ py. ap (λ b. cond b (y ∷ filter p (put_in before x ys)) (filter p (put_in before x ys))) py ∙ rest))
      (λ here.
      let all = all_weaker (λ z. before z y ≡ false) (λ z. before z x ≡ false) (λ z below. order.chain z y x below here) ys up.0 in
      ap (λ b. cond b (x ∷ filter p (y ∷ ys)) (filter p (y ∷ ys))) h
      ∙ sym (put_in-least x (filter p (y ∷ ys)) (all_filter (λ z. before z x ≡ false) p (y ∷ ys) (here, all))))

  fails : (p : X → Bool) (x : X) (ys : List X) → p x ≡ false → filter p (put_in before x ys) ≡ filter p ys
  fails p x [] h = ap (λ b. cond b (x ∷ []) []) h
  fails p x (y ∷ ys) h =
      let rest = fails p x ys h in
      at_cond (λ zs. filter p zs ≡ filter p (y ∷ ys)) (before y x) (y ∷ put_in before x ys) (x ∷ y ∷ ys)
      (λ later. ap (λ zs. cond (p y) (y ∷ zs) zs) rest)
      (λ here. ap (λ b. cond b (x ∷ filter p (y ∷ ys)) (filter p (y ∷ ys))) h)

  -- what passes a test is in order, too
  pub filter-in_order : (p : X → Bool) (xs : List X) → filter p (in_order before xs) ≡ in_order before (filter p xs)
  filter-in_order p [] = refl
  filter-in_order p (x ∷ xs) =
      let rest = filter-in_order p xs in
      at_cond (λ zs. filter p (put_in before x (in_order before xs)) ≡ in_order before zs) (p x) (x ∷ filter p xs) (filter p xs)
      (λ h. passes p x (in_order before xs) (ascends-in_order xs) h ∙ ap (put_in before x) rest)
      (λ h. fails p x (in_order before xs) h ∙ rest)

  pub in_order-ascends : (xs : List X) → Ascends before xs → in_order before xs ≡ xs
  in_order-ascends [] up = refl
  in_order-ascends (x ∷ xs) up = ap (put_in before x) (in_order-ascends xs up.1) ∙ put_in-least x xs up.0

  -- ---- one order

  not_itself : (x : X) → before x x ≡ false
  not_itself x = at (before x x) (order.one_way x x)
    where
      at : (b : Bool) → (b ≡ true → b ≡ false) → b ≡ false
      at true f = f refl
      at false f = refl

  pub ties_itself : (x : X) → ties before x x ≡ true
  ties_itself x = ap (λ b. not b && not b) (not_itself x)

  pub tie_tells : (x y : X) → ties before x y ≡ true → (before x y ≡ false) × (before y x ≡ false)
  tie_tells x y = at (before x y) (before y x)
    where
      at : (a b : Bool) → (not a && not b) ≡ true → (a ≡ false) × (b ≡ false)
      at true b e = absurd cc
      at false true e = absurd cc
      at false false e = (refl, refl)

  ties_ascend : (x : X) (xs : List X) → AllByRecursion (λ y. ties before x y ≡ true) xs → Ascends before xs
  ties_ascend x [] all = tt
  ties_ascend x (y ∷ ys) all =
      (all_weaker (λ z. ties before x z ≡ true) (λ z. before z y ≡ false) (λ z tie. order.chain z x y (tie_tells x z tie).1 (tie_tells x y all.0).0) ys all.1, ties_ascend x ys all.1)

  first_of : (P : X → Type 0) (p : X → Bool) (y : X) (xs rest : List X) → AllByRecursion P xs → y ∷ rest ≡ filter p xs → P y
  first_of P p y xs rest all e = (subst (AllByRecursion P) (sym e) (all_filter P p xs all)).0

  -- two lists that ascend, and that have what ties with each element alike, are one
  pub one_order : (ys zs : List X) → Ascends before ys → Ascends before zs → ((x : X) → filter (ties before x) ys ≡ filter (ties before x) zs) → ys ≡ zs
  one_order [] [] up un alike = refl
  one_order [] (z ∷ zs) up un alike =
      let e : [] ≡ z ∷ filter (ties before z) zs = alike z ∙ ap (λ b. cond b (z ∷ filter (ties before z) zs) (filter (ties before z) zs)) (ties_itself z) in absurd cc
  one_order (y ∷ ys) [] up un alike =
      let e : [] ≡ y ∷ filter (ties before y) ys = sym (alike y) ∙ ap (λ b. cond b (y ∷ filter (ties before y) ys) (filter (ties before y) ys)) (ties_itself y) in absurd cc
  one_order (y ∷ ys) (z ∷ zs) up un alike =
      let own : (x : X) (xs : List X) → filter (ties before x) (x ∷ xs) ≡ x ∷ filter (ties before x) xs =
      λ x xs. ap (λ b. cond b (x ∷ filter (ties before x) xs) (filter (ties before x) xs)) (ties_itself x) in
      let low : before y z ≡ false = first_of (λ w. before w z ≡ false) (ties before y) y (z ∷ zs) (filter (ties before y) ys) (not_itself z, un.0) (sym (own y ys) ∙ alike y) in
      let high : before z y ≡ false = first_of (λ w. before w y ≡ false) (ties before z) z (y ∷ ys) (filter (ties before z) zs) (not_itself y, up.0) (sym (own z zs) ∙ sym (alike z)) in
      let tie : ties before y z ≡ true = ap₂ (λ a b. not a && not b) low high in
      let firsts : y ∷ filter (ties before y) ys ≡ z ∷ filter (ties before y) zs =
      sym (own y ys) ∙ alike y ∙ ap (λ b. cond b (z ∷ filter (ties before y) zs) (filter (ties before y) zs)) tie in
      let same : y ≡ z = cc in
      ap₂ (λ x xs. x ∷ xs) same
      (one_order ys zs up.1 un.1 (λ x. filter_rest (ties before x) y ys zs (alike x ∙ ap (λ w. filter (ties before x) (w ∷ zs)) (sym same))))

  ascends-far : (xs : List X) → ((i j : ℕ) (d : X) → i ≤ j → j < length xs → before (get_or xs j d) (get_or xs i d) ≡ false) → Ascends before xs
  ascends-far [] far = tt
  ascends-far (x ∷ xs) far = (
    recursion_from_All (λ y. before y x ≡ false) xs (λ k d within. far 0 (suc k) d (omega arith) (omega arith)),
    ascends-far xs (λ i j d le within. far (suc i) (suc j) d (omega arith) (omega arith)),
  )

  -- what a stable sort gives
  pub is_in_order : (xs ys : List X) → IsSortedBy before ys → IsStableBy before xs ys → ys ≡ in_order before xs
  is_in_order xs ys sorted stable =
      one_order ys (in_order before xs) (ascends-far ys (sorted_far before order ys sorted)) (ascends-in_order xs)
      (λ x. stable x ∙ sym (filter-in_order (ties before x) xs ∙ in_order-ascends (filter (ties before x) xs) (ties_ascend x (filter (ties before x) xs) (all_pass (ties before x) xs))))
