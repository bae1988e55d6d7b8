-- Texts that are formed as markup (docs/PICTURES.md, "Pages").
use Rattle.std.specs.Prelude.{ℕ, List, [], ◌++◌, codes}
use Rattle.markup_text.specs.declared.words.Tag.{Tag}
use Rattle.markup_text.specs.Attributes.{Attribute}
use Rattle.markup_text.specs.Escapes.{escaped}
use Rattle.markup_text.specs.Markup.{Markup, closing, markup_text, opening, single_text}

-- A text is formed: nothing; bytes, escaped; a line feed; an element of one tag; an element with a formed text in it; or two formed
-- texts, one behind the other. So each element that opens closes, and what comes from outside is escaped.
pub data IsFormed : List ℕ → Type 0 where
  nothing : IsFormed []
  words : (bytes : List ℕ) → IsFormed (escaped bytes)
  feed : IsFormed (codes "\n")
  single : (tag : Tag) (attributes : List Attribute) → IsFormed (single_text tag attributes)
  element : (tag : Tag) (attributes : List Attribute) {inner : List ℕ} → IsFormed inner
      → IsFormed (opening tag attributes ++ inner ++ closing tag)
  beside : {first second : List ℕ} → IsFormed first → IsFormed second → IsFormed (first ++ second)

abbrev pub MarkupIsFormed : Type 0
MarkupIsFormed = (m : Markup) → IsFormed (markup_text m)
