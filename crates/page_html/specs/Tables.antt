-- The tables of the events of a run (docs/PICTURES.md, "Pages").
use Rattle.std.specs.Prelude.{ℕ, Bool, true, false, List, [], ◌∷◌, ◌++◌, codes, decimal, nat_eq, if◌then◌else◌}
use Rattle.markup_text.specs.declared.words.Tag.TheVariants as tags
use Rattle.markup_text.specs.declared.words.AttributeName.TheVariants as names
use Rattle.markup_text.specs.Attributes.{Attribute, number, words}
use Rattle.markup_text.specs.Escapes.{escaped}
use Rattle.markup_text.specs.Markup.{closing, opening}
use Rattle.picture_svg.specs.Elements.{hue_word}
use Rattle.page_html.specs.declared.page.Level.{Level}
use Rattle.page_html.specs.declared.page.Level.TheVariants as levels
use Rattle.page_html.specs.declared.page.Row.{Row}
use Rattle.page_html.specs.declared.page.View.{View}
use Rattle.page_html.specs.Marks.{letter, mark, numbers, other_letter, target}
use Rattle.page_html.specs.Parts.{bare, classed, counted, leaf, link, plain}

-- ---- the row of an event

abbrev pub own_word : Bool → List ℕ
own_word true = codes "own"
own_word false = codes "infra"

-- its mark, and what a script needs: the events that led to it directly, that of the other level, and its process node
abbrev pub row_attributes : Level → ℕ → Row → List Attribute
row_attributes level n row =
    words names.Id (mark (letter level) n) ∷ words names.Class (own_word row.own) ∷ words names.Needs (numbers row.needs)
    ∷ number names.Twin row.twin ∷ number names.Node row.node ∷ []

-- a number that leads to its mark
abbrev pub number_link : List ℕ → ℕ → List ℕ
number_link letter n = link (target letter n) (decimal n)

abbrev pub number_cell : Level → ℕ → List ℕ
number_cell level n = classed tags.Cell (codes "num") ++ number_link (letter level) n ++ closing tags.Cell

-- who acts, and what that agent does
abbrev pub who_text : Row → List ℕ
who_text row = leaf tags.Strong (codes "who" ++ hue_word row.hue) row.agent

abbrev pub say_cell : Row → List ℕ
say_cell row = classed tags.Cell (codes "say") ++ (who_text row ++ escaped (codes " ") ++ escaped row.words) ++ closing tags.Cell

-- the line of the source, and the words there
abbrev pub code_text : Row → List ℕ
code_text row = number_link (codes "s") row.line ++ escaped (codes " ") ++ plain tags.Code row.code

abbrev pub place_text : Row → List ℕ
place_text row = if nat_eq row.line 0 then [] else code_text row

abbrev pub at_cell : Row → List ℕ
at_cell row = classed tags.Cell (codes "at") ++ place_text row ++ closing tags.Cell

-- the event of the other level
abbrev pub twin_text : Level → ℕ → List ℕ
twin_text level twin = if nat_eq twin 0 then [] else number_link (other_letter level) twin

abbrev pub twin_cell : Level → ℕ → List ℕ
twin_cell level twin = classed tags.Cell (codes "num") ++ twin_text level twin ++ closing tags.Cell

abbrev pub cells : Level → ℕ → Row → List ℕ
cells level n row =
    number_cell level n ++ say_cell row ++ plain tags.Cell row.site ++ at_cell row ++ twin_cell level row.twin
    ++ leaf tags.Cell (codes "raw") row.event

abbrev pub row_text : Level → ℕ → Row → List ℕ
row_text level n row = opening tags.TableRow (row_attributes level n row) ++ cells level n row ++ closing tags.TableRow ++ codes "\n"

-- ---- all rows

abbrev pub body_text : Level → List Row → List ℕ
body_text level rows = bare tags.TableBody ++ counted (row_text level) 1 rows ++ closing tags.TableBody

-- ---- the table

abbrev pub other_level : Level → List ℕ
other_level levels.High = codes "Of the sites"
other_level levels.Low = codes "Of the source"

abbrev pub head_cells : Level → List ℕ
head_cells level =
    plain tags.HeadCell (codes "Event") ++ plain tags.HeadCell (codes "What happens") ++ plain tags.HeadCell (codes "Site")
    ++ plain tags.HeadCell (codes "Source") ++ plain tags.HeadCell (other_level level) ++ plain tags.HeadCell (codes "History")

abbrev pub head_row : Level → List ℕ
head_row level = bare tags.TableRow ++ head_cells level ++ closing tags.TableRow

abbrev pub head_text : Level → List ℕ
head_text level = bare tags.TableHead ++ head_row level ++ closing tags.TableHead

abbrev pub grid_text : Level → List Row → List ℕ
grid_text level rows = bare tags.Table ++ (head_text level ++ body_text level rows) ++ closing tags.Table

abbrev pub wide_text : Level → List Row → List ℕ
wide_text level rows = classed tags.Part (codes "wide") ++ grid_text level rows ++ closing tags.Part

abbrev pub table_text : Level → View → List ℕ
table_text level view =
    classed tags.Details (codes "events") ++ (plain tags.Summary view.summary ++ wide_text level view.rows) ++ closing tags.Details
