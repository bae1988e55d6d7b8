-- Elements that are written, piece by piece.
use Rattle.std.proofs.Common.{◌≡◌, ℕ, false, List, [], ◌∷◌, ◌++◌, append_assoc, append-nil, sym, ap, ◌∙◌}
use Rattle.std.proofs.lemmas.List.Concat.{flat_map-append}
use Rattle.std.specs.Prelude.{codes}
use Rattle.std.specs.List.{flat_map}
use Rattle.text_writer.specs.declared.writer.TextWriter.{TextWriter}
use Rattle.text_writer.specs.Writes.{Writes}
use Rattle.text_writer.proofs.Writing.{same, then}
use Rattle.markup_text.specs.declared.words.Tag.{Tag}
use Rattle.markup_text.specs.Attributes.{Attribute, attribute_text}
use Rattle.markup_text.specs.Escapes.{escaped}
use Rattle.markup_text.specs.Markup.{Element, closing, element_text, opening, single_text, tag_opened}

-- nothing
pub nothing-written : (a : TextWriter) → Writes a a []
nothing-written a f = (f, sym (append-nil a.text))

-- an attribute, and others behind it
pub attribute-then : (a b c : TextWriter) (x : Attribute) (xs : List Attribute) → Writes a b (attribute_text x) → Writes b c (flat_map attribute_text xs)
    → Writes a c (flat_map attribute_text (x ∷ xs))
attribute-then a b c x xs = then a b c (attribute_text x) (flat_map attribute_text xs)

pub attribute-last : (a b : TextWriter) (x : Attribute) → Writes a b (attribute_text x) → Writes a b (flat_map attribute_text (x ∷ []))
attribute-last a b x f = same a b (attribute_text x) (attribute_text x ++ []) f (sym (append-nil (attribute_text x)))

-- an attribute behind others
pub attribute-behind : (a b c : TextWriter) (xs : List Attribute) (x : Attribute) → Writes a b (flat_map attribute_text xs) → Writes b c (attribute_text x)
    → Writes a c (flat_map attribute_text (xs ++ x ∷ []))
attribute-behind a b c xs x f g =
    let before = flat_map attribute_text xs in
    let last = flat_map attribute_text (x ∷ []) in
    same a c (before ++ last) (flat_map attribute_text (xs ++ x ∷ [])) (then a b c before last f (attribute-last b c x g)) (sym (flat_map-append attribute_text xs (x ∷ [])))

-- the tag that opens an element
pub opening-written : (a b c d : TextWriter) (tag : Tag) (attributes : List Attribute) → Writes a b (tag_opened tag) → Writes b c (flat_map attribute_text attributes) → Writes c d (codes ">")
    → Writes a d (opening tag attributes)
opening-written a b c d tag attributes f g =
    let inner = flat_map attribute_text attributes in then a c d (tag_opened tag ++ inner) (codes ">") (then a b c (tag_opened tag) inner f g)

pub single-written : (a b c d : TextWriter) (tag : Tag) (attributes : List Attribute) → Writes a b (tag_opened tag) → Writes b c (flat_map attribute_text attributes) → Writes c d (codes "/>")
    → Writes a d (single_text tag attributes)
single-written a b c d tag attributes f g =
    let inner = flat_map attribute_text attributes in then a c d (tag_opened tag ++ inner) (codes "/>") (then a b c (tag_opened tag) inner f g)

-- an element
pub element-written : (a b c d : TextWriter) (e : Element) → Writes a b (opening e.tag e.attributes) → Writes b c (escaped e.content) → Writes c d (closing e.tag) → Writes a d (element_text e)
element-written a b c d e f g =
    then a c d (opening e.tag e.attributes ++ escaped e.content) (closing e.tag) (then a b c (opening e.tag e.attributes) (escaped e.content) f g)

-- one piece more of those that are still to come
pub one-more : (o a b : TextWriter) (piece before after all : List ℕ) → before ≡ piece ++ after → Writes a b piece → (a.failed ≡ false → (o.failed ≡ false) × (a.text ++ before ≡ all))
    → b.failed ≡ false → (o.failed ≡ false) × (b.text ++ after ≡ all)
one-more o a b piece before after all is written so_far f =
    let now = written f in
    let earlier = so_far now.0 in
    (earlier.0, ap (λ t. t ++ after) now.1 ∙ append_assoc a.text piece after ∙ ap (λ l. a.text ++ l) (sym is) ∙ earlier.1)
