-- Elements one after the other, as markup.
use Rattle.std.proofs.Common.{◌≡◌, ℕ, ◌+◌, ◌<◌, false, List, [], ◌∷◌, ◌++◌, append_assoc, append-nil, refl, ap, sym, ◌∙◌, map, length, drop, drop-cons, get_or, add-one}
use Rattle.std.proofs.lemmas.List.Concat.{flat_map-append}
use Rattle.std.specs.List.{flat_map}
use Rattle.text_writer.specs.declared.writer.TextWriter.{TextWriter}
use Rattle.text_writer.specs.Writes.{Writes}
use Rattle.text_writer.proofs.Writing.{same, then}
use Rattle.markup_text.specs.declared.words.Tag.{Tag}
use Rattle.markup_text.specs.Attributes.{Attribute}
use Rattle.markup_text.specs.Escapes.{escaped}
use Rattle.markup_text.specs.Markup.{Element, Markup, closing, element_text, in_a_row, markup_text, opening}
use Rattle.markup_text.proofs.Elements.{one-more}

pub in-a-row : (es : List Element) → markup_text (in_a_row es) ≡ flat_map element_text es
in-a-row [] = refl
in-a-row (e ∷ es) =
    ap (λ l. opening e.tag e.attributes ++ l ++ closing e.tag ++ markup_text (in_a_row es)) (append-nil (escaped e.content))
    ∙ ap (λ l. element_text e ++ l) (in-a-row es)

-- elements that are written, and others behind them
rows-then : (a b c : TextWriter) (es fs : List Element) → Writes a b (flat_map element_text es) → Writes b c (flat_map element_text fs) → Writes a c (flat_map element_text (es ++ fs))
rows-then a b c es fs f g =
    let first = flat_map element_text es in
    let second = flat_map element_text fs in
    same a c (first ++ second) (flat_map element_text (es ++ fs)) (then a b c first second f g) (sym (flat_map-append element_text es fs))

-- the style and the five layers, one after the other
pub body-written : (o a b c d m n : TextWriter) (e : Element) (g f p s w : List Element) → Writes o a (element_text e) → Writes a b (flat_map element_text g) → Writes b c (flat_map element_text f)
    → Writes c d (flat_map element_text p) → Writes d m (flat_map element_text s) → Writes m n (flat_map element_text w) → Writes o n (flat_map element_text (e ∷ g ++ f ++ p ++ s ++ w))
body-written o a b c d m n e g f p s w style ground flights posts spots words =
    let one = same o a (element_text e) (element_text e ++ []) style (sym (append-nil (element_text e))) in
    let two = rows-then o a b (e ∷ []) g one ground in
    let three = rows-then o b c (e ∷ g) f two flights in
    let four = rows-then o c d (e ∷ g ++ f) p three posts in
    let five = rows-then o d m (e ∷ g ++ f ++ p) s four spots in
    rows-then o m n (e ∷ g ++ f ++ p ++ s) w five words

-- one element around them
pub svg-written : (tag : Tag) (attributes : List Attribute) (es : List Element) (o a b c : TextWriter) → Writes o a (opening tag attributes) → Writes a b (flat_map element_text es) → Writes b c (closing tag)
    → Writes o c (markup_text (Markup.element tag attributes (in_a_row es) Markup.nothing))
svg-written tag attributes es o a b c first second third =
    let before = opening tag attributes in
    let inner = flat_map element_text es in
    same o c (before ++ inner ++ closing tag) (before ++ markup_text (in_a_row es) ++ closing tag ++ [])
    (then o b c (before ++ inner) (closing tag) (then o a b before inner first second) third)
    (ap (λ l. before ++ l ++ closing tag) (sym (in-a-row es)) ∙ sym (append-nil (before ++ markup_text (in_a_row es) ++ closing tag)))

around-two : (before x y behind : List ℕ) → before ++ (x ++ []) ++ y ++ behind ≡ before ++ (x ++ y) ++ behind ++ []
around-two before x y behind =
    ap (λ l. before ++ l ++ y ++ behind) (append-nil x) ∙ ap (λ l. l ++ behind) (append_assoc before x y) ∙ sym (append-nil (before ++ (x ++ y) ++ behind))

-- an element around two of them
pub both-written : (tag : Tag) (outer left right : List Attribute) (es fs : List Element) (o a b c d : TextWriter) → Writes o a (opening tag outer)
    → Writes a b (markup_text (Markup.element tag left (in_a_row es) Markup.nothing)) → Writes b c (markup_text (Markup.element tag right (in_a_row fs) Markup.nothing)) → Writes c d (closing tag)
    → Writes o d (markup_text (Markup.element tag outer (Markup.element tag left (in_a_row es) (Markup.element tag right (in_a_row fs) Markup.nothing)) Markup.nothing))
both-written tag outer left right es fs o a b c d first second third fourth =
    let before = opening tag outer in
    let x : List ℕ = opening tag left ++ markup_text (in_a_row es) ++ closing tag in
    let y : List ℕ = markup_text (Markup.element tag right (in_a_row fs) Markup.nothing) in
    same o d (before ++ (x ++ []) ++ y ++ closing tag) (before ++ (x ++ y) ++ closing tag ++ [])
    (then o c d (before ++ (x ++ []) ++ y) (closing tag) (then o b c (before ++ (x ++ [])) y (then o a b before (x ++ []) first second) third) fourth)
    (around-two before x y (closing tag))

-- one element more of those that are still to come
pub row-more : {X : Type 0} (f : X → Element) (o a b : TextWriter) (all : List ℕ) (xs : List X) (i : ℕ) (d : X) → i < length xs → Writes a b (element_text (f (get_or xs i d)))
    → (a.failed ≡ false → (o.failed ≡ false) × (a.text ++ flat_map element_text (map f (drop i xs)) ≡ all))
    → b.failed ≡ false → (o.failed ≡ false) × (b.text ++ flat_map element_text (map f (drop (i + 1) xs)) ≡ all)
row-more {X} f o a b all xs i d less =
    let rows : List X → List ℕ = λ l. flat_map element_text (map f l) in
    one-more o a b (element_text (f (get_or xs i d))) (rows (drop i xs)) (rows (drop (i + 1) xs)) all
    (ap rows (drop-cons xs i d less) ∙ ap (λ j. element_text (f (get_or xs i d)) ++ rows (drop j xs)) (sym (add-one i)))
