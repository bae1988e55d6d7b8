-- The pictures of both levels on a page (docs/PICTURES.md, "Pages").
use Rattle.std.specs.Prelude.{ℕ, List, [], ◌∷◌, ◌++◌, codes}
use Rattle.markup_text.specs.declared.words.Tag.TheVariants as tags
use Rattle.markup_text.specs.declared.words.AttributeName.TheVariants as names
use Rattle.markup_text.specs.Attributes.{Attribute, words}
use Rattle.markup_text.specs.Escapes.{escaped}
use Rattle.markup_text.specs.Markup.{closing, opening, single_text}
use Rattle.page_html.specs.declared.page.Page.{Page}
use Rattle.page_html.specs.declared.page.View.{View}
use Rattle.page_html.specs.Parts.{classed, leaf, plain}

-- ---- what chooses a view

abbrev pub choice_attributes : List ℕ → List Attribute
choice_attributes id =
    words names.Kind (codes "radio") ∷ words names.Name (codes "level") ∷ words names.Class (codes "tab") ∷ words names.Id id ∷ []

abbrev pub choice : List ℕ → List ℕ
choice id = single_text tags.Input (choice_attributes id)

abbrev pub first_choice : List ℕ → List ℕ
first_choice id = single_text tags.Input (choice_attributes id ++ words names.Checked (codes "checked") ∷ [])

abbrev pub choices : List ℕ
choices = first_choice (codes "show-high") ++ choice (codes "show-low") ++ choice (codes "show-both")

abbrev pub caption : List ℕ → List ℕ → List ℕ
caption id title = opening tags.Caption (words names.For id ∷ []) ++ escaped title ++ closing tags.Caption

abbrev pub captions : List ℕ
captions =
    classed tags.Paragraph (codes "tabs")
    ++ (caption (codes "show-high") (codes "The source") ++ caption (codes "show-low") (codes "The sites")
    ++ caption (codes "show-both") (codes "Both"))
    ++ closing tags.Paragraph

-- ---- the pictures

abbrev pub pane : List ℕ → View → List ℕ
pane class view = classed tags.Part class ++ (leaf tags.Paragraph (codes "note") view.note ++ view.picture) ++ closing tags.Part

abbrev pub panes : View → View → List ℕ
panes high low =
    classed tags.Part (codes "views") ++ (pane (codes "view high") high ++ pane (codes "view low") low) ++ closing tags.Part

abbrev pub views_text : Page → List ℕ
views_text page =
    classed tags.Section (codes "pictures")
    ++ (plain tags.Subheading (codes "Picture") ++ choices ++ captions ++ panes page.high page.low)
    ++ closing tags.Section
