-- The texts of items by their numbers, one after the other.
use Rattle.std.proofs.Common.{◌≡◌, ℕ, zero, suc, ◌+◌, ◌≤◌, ◌<◌, false, List, [], ◌∷◌, ◌++◌, append-nil, refl, length, drop, drop-cons, get_or, arith, add-one, ap, sym, ◌∙◌}
use Rattle.std.proofs.lemmas.List.Concat.{flat_map-append}
use Rattle.std.specs.List.{flat_map}
use Rattle.text_writer.specs.declared.writer.TextWriter.{TextWriter}
use Rattle.text_writer.specs.Writes.{Writes}
use Rattle.markup_text.specs.Escapes.{escaped, escaped_byte}
use Rattle.markup_text.proofs.Elements.{one-more}
use Rattle.page_html.specs.Parts.{counted}

-- the item at a place, and those behind it
at : {X : Type 0} (xs : List X) (i : ℕ) (x : X) → i < length xs → x ≡ get_or xs i x → drop i xs ≡ x ∷ drop (i + 1) xs
at xs i x less is = drop-cons xs i x less ∙ ap (λ y. y ∷ drop (suc i) xs) (sym is) ∙ ap (λ j. x ∷ drop j xs) (sym (add-one i))

-- one item more, and those still to come
pub counted-on : {X : Type 0} (f : ℕ → X → List ℕ) → (o a b : TextWriter) (all : List ℕ) (xs : List X) (i : ℕ) (x : X) → i < length xs → x ≡ get_or xs i x → Writes a b (f (i + 1) x)
    → (a.failed ≡ false → (o.failed ≡ false) × (a.text ++ counted f (i + 1) (drop i xs) ≡ all))
    → b.failed ≡ false → (o.failed ≡ false) × (b.text ++ counted f (i + 1 + 1) (drop (i + 1) xs) ≡ all)
counted-on f o a b all xs i x less is =
    one-more o a b (f (i + 1) x) (counted f (i + 1) (drop i xs)) (counted f (i + 1 + 1) (drop (i + 1) xs)) all (ap (counted f (i + 1)) (at xs i x less is))

drop-past : {X : Type 0} (xs : List X) (i : ℕ) → length xs ≤ i → drop i xs ≡ []
drop-past [] zero h = refl
drop-past [] (suc i) h = refl
drop-past (x ∷ xs) zero h = absurd (omega arith)
drop-past (x ∷ xs) (suc i) h = drop-past xs i (omega arith)

-- no item is still to come
pub counted-end : {X : Type 0} (f : ℕ → X → List ℕ) → (o a : TextWriter) (all : List ℕ) (xs : List X) (i n : ℕ) → length xs ≤ i
    → (a.failed ≡ false → (o.failed ≡ false) × (a.text ++ counted f n (drop i xs) ≡ all)) → a.failed ≡ false → (o.failed ≡ false) × (a.text ≡ all)
counted-end f o a all xs i n past so_far h =
    let before = so_far h in
    (before.0, sym (append-nil a.text) ∙ ap (λ l. a.text ++ counted f n l) (sym (drop-past xs i past)) ∙ before.1)

-- the same of items that have no numbers
pub flat-on : {X : Type 0} (f : X → List ℕ) → (o a b : TextWriter) (all : List ℕ) (xs : List X) (i : ℕ) (x : X) → i < length xs → x ≡ get_or xs i x → Writes a b (f x)
    → (a.failed ≡ false → (o.failed ≡ false) × (a.text ++ flat_map f (drop i xs) ≡ all))
    → b.failed ≡ false → (o.failed ≡ false) × (b.text ++ flat_map f (drop (i + 1) xs) ≡ all)
flat-on f o a b all xs i x less is = one-more o a b (f x) (flat_map f (drop i xs)) (flat_map f (drop (i + 1) xs)) all (ap (flat_map f) (at xs i x less is))

-- the same of items that are written escaped
pub escaped-on : {X : Type 0} (f : X → List ℕ) → (o a b : TextWriter) (all : List ℕ) (xs : List X) (i : ℕ) (d : X) → i < length xs → Writes a b (escaped (f (get_or xs i d)))
    → (a.failed ≡ false → (o.failed ≡ false) × (a.text ++ escaped (flat_map f (drop i xs)) ≡ all))
    → b.failed ≡ false → (o.failed ≡ false) × (b.text ++ escaped (flat_map f (drop (i + 1) xs)) ≡ all)
escaped-on {X} f o a b all xs i d less =
    let piece = f (get_or xs i d) in
    let behind : List X → List ℕ = λ l. escaped (flat_map f l) in
    one-more o a b (escaped piece) (behind (drop i xs)) (behind (drop (i + 1) xs)) all
    (ap behind (drop-cons xs i d less) ∙ flat_map-append escaped_byte piece (flat_map f (drop (suc i) xs)) ∙ ap (λ j. escaped piece ++ behind (drop j xs)) (sym (add-one i)))

pub escaped-end : {X : Type 0} (f : X → List ℕ) → (o a : TextWriter) (all : List ℕ) (xs : List X) (i : ℕ) → length xs ≤ i
    → (a.failed ≡ false → (o.failed ≡ false) × (a.text ++ escaped (flat_map f (drop i xs)) ≡ all)) → a.failed ≡ false → (o.failed ≡ false) × (a.text ≡ all)
escaped-end f o a all xs i past so_far h =
    let before = so_far h in
    (before.0, sym (append-nil a.text) ∙ ap (λ l. a.text ++ escaped (flat_map f l)) (sym (drop-past xs i past)) ∙ before.1)
