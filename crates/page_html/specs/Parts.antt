-- Elements that pages are made of (docs/PICTURES.md, "Pages").
use Rattle.std.specs.Prelude.{ℕ, ◌+◌, List, [], ◌∷◌, ◌++◌}
use Rattle.markup_text.specs.declared.words.Tag.{Tag}
use Rattle.markup_text.specs.declared.words.Tag.TheVariants as tags
use Rattle.markup_text.specs.declared.words.AttributeName.TheVariants as names
use Rattle.markup_text.specs.Attributes.{words}
use Rattle.markup_text.specs.Escapes.{escaped}
use Rattle.markup_text.specs.Markup.{closing, opening}

-- ---- tags that open an element: without attributes, and with a class

abbrev pub bare : Tag → List ℕ
bare tag = opening tag []

abbrev pub classed : Tag → List ℕ → List ℕ
classed tag class = opening tag (words names.Class class ∷ [])

-- ---- elements in which nothing but a text stands

abbrev pub plain : Tag → List ℕ → List ℕ
plain tag content = bare tag ++ escaped content ++ closing tag

abbrev pub leaf : Tag → List ℕ → List ℕ → List ℕ
leaf tag class content = classed tag class ++ escaped content ++ closing tag

-- a link to a place of the page
abbrev pub opened_link : List ℕ → List ℕ
opened_link target = opening tags.Link (words names.Href target ∷ [])

abbrev pub link : List ℕ → List ℕ → List ℕ
link target content = opened_link target ++ escaped content ++ closing tags.Link

-- ---- the texts of items, each by its number, of which the first has this one

abbrev pub counted : {X : Type 0} → (ℕ → X → List ℕ) → ℕ → List X → List ℕ
counted f n [] = []
counted f n (x ∷ xs) = f n x ++ counted f (n + 1) xs
