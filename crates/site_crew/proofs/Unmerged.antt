-- A list of images, of which the parts are images of given lists, is that of one list of which these are the parts.
use Rattle.std.proofs.Common.{◌≡◌, ◌<◌, ◌==◌, inl, inr, ℕ, cond, List, [], ◌∷◌, map, filter, refl, sym, ap, subst, ◌∙◌}
use Rattle.std.specs.List.{AllByRecursion}
use Rattle.std.proofs.lemmas.Bool.{eq-eqb}
use Rattle.std.proofs.lemmas.Bool.Decides.{eqb_tells}

module _ {A B : Type 0} (f : A → B) (key : A → ℕ) (its : B → ℕ) (same : (x : A) → its (f x) ≡ key x) (n : ℕ) where
  -- the list, and its parts
  pub record Unmerged (images : List B) (lines : ℕ → List A) : Type 0 where
    pub all : List A
    pub images_are : map f all ≡ images
    pub within : AllByRecursion (λ x. key x < n) all
    pub each : (t : ℕ) → t < n → lines t ≡ filter (λ x. key x == t) all

  none-of : (xs : List A) → map f xs ≡ [] → xs ≡ []
  none-of [] h = refl
  none-of (x ∷ xs) h = absurd cc

  record First (b : B) (more : List B) (xs : List A) : Type 0 where
    first : A
    rest : List A
    is : xs ≡ first ∷ rest
    image : f first ≡ b
    images : map f rest ≡ more

  first-of : (b : B) (more : List B) (xs : List A) → map f xs ≡ b ∷ more → First b more xs
  first-of b more [] h = absurd cc
  first-of b more (x ∷ xs) h = record { first = x; rest = xs; is = refl; image = cc; images = cc }

  -- the lines without the first
  left : B → List A → (ℕ → List A) → ℕ → List A
  left b rest lines t = cond (its b == t) rest (lines t)

  module _ (b : B) (bs : List B) (lines : ℕ → List A) (less : its b < n) (are : (t : ℕ) → t < n → map f (lines t) ≡ filter (λ c. its c == t) (b ∷ bs)) where
    front : First b (filter (λ c. its c == its b) bs) (lines (its b))
    front = first-of b (filter (λ c. its c == its b) bs) (lines (its b))
        (are (its b) less ∙ ap (λ t. cond t (b ∷ filter (λ c. its c == its b) bs) (filter (λ c. its c == its b) bs)) (eq-eqb (its b) (its b) refl))

    place : key front.first ≡ its b
    place = sym (same front.first) ∙ ap its front.image

    left_are : (t : ℕ) → t < n → map f (left b front.rest lines t) ≡ filter (λ c. its c == t) bs
    unfolding left
    left_are t low =
        elim (eqb_tells (its b) t) [
          | inl w ↦ ap (λ c. map f (cond c front.rest (lines t))) w.0 ∙ front.images ∙ ap (λ t. filter (λ c. its c == t) bs) w.1
          | inr w ↦
              ap (λ c. map f (cond c front.rest (lines t))) w.0 ∙ are t low
              ∙ ap (λ c. cond c (b ∷ filter (λ c. its c == t) bs) (filter (λ c. its c == t) bs)) w.0
        ]

    module _ (later : Unmerged bs (left b front.rest lines)) where
      each-line : (t : ℕ) → t < n → lines t ≡ filter (λ x. key x == t) (front.first ∷ later.all)
      unfolding left
      each-line t low =
          let part : List A = filter (λ x. key x == t) later.all in
          elim (eqb_tells (its b) t) [
            | inl w ↦
                ap lines (sym w.1) ∙ front.is ∙ ap (λ l. front.first ∷ l) (ap (λ c. cond c front.rest (lines t)) (sym w.0) ∙ later.each t low)
                ∙ ap (λ c. cond c (front.first ∷ part) part) (sym (ap (λ k. k == t) place ∙ w.0))
            | inr w ↦
                ap (λ c. cond c front.rest (lines t)) (sym w.0) ∙ later.each t low
                ∙ ap (λ c. cond c (front.first ∷ part) part) (sym (ap (λ k. k == t) place ∙ w.0))
          ]

      with-first : Unmerged (b ∷ bs) lines
      with-first = record {
        all = front.first ∷ later.all;
        images_are = λ i. front.image i ∷ later.images_are i;
        within = (subst (λ k. k < n) (sym place) less, later.within);
        each = each-line;
      }

  pub unmerged : (images : List B) (lines : ℕ → List A) → AllByRecursion (λ b. its b < n) images → ((t : ℕ) → t < n → map f (lines t) ≡ filter (λ b. its b == t) images)
      → Unmerged images lines
  unmerged [] lines within are = record { all = []; images_are = refl; within = tt; each = λ t less. none-of (lines t) (are t less) }
  unmerged (b ∷ bs) lines within are =
      with-first b bs lines within.0 are (unmerged bs (left b (front b bs lines within.0 are).rest lines) within.1 (left_are b bs lines within.0 are))
