-- A page is formed, part by part.
use Rattle.std.proofs.Common.{◌≡◌, ℕ, ◌+◌, Bool, true, false, List, [], ◌∷◌, ◌++◌, refl}
use Rattle.std.specs.Prelude.{codes, decimal, nat_eq, if◌then◌else◌}
use Rattle.std.specs.List.{flat_map}
use Rattle.markup_text.specs.declared.words.Tag.{Tag}
use Rattle.markup_text.specs.declared.words.Tag.TheVariants as tags
use Rattle.markup_text.specs.declared.words.AttributeName.{AttributeName}
use Rattle.markup_text.specs.declared.words.AttributeName.TheVariants as names
use Rattle.markup_text.specs.Attributes.{words}
use Rattle.markup_text.specs.Markup.{closing}
use Rattle.markup_text.specs.Formed.{IsFormed}
use Rattle.picture_svg.specs.Elements.{hue_word}
use Rattle.source_words.specs.declared.word.Line.{Line}
use Rattle.source_words.specs.declared.word.Word.{Word}
use Rattle.page_html.specs.declared.page.Level.{Level}
use Rattle.page_html.specs.declared.page.Level.TheVariants as levels
use Rattle.page_html.specs.declared.page.Page.{Page}
use Rattle.page_html.specs.declared.page.Printed.{Printed}
use Rattle.page_html.specs.declared.page.Row.{Row}
use Rattle.page_html.specs.declared.page.View.{View}
use Rattle.page_html.specs.declared.whole.TheConstants.{FOOT, HINT}
use Rattle.page_html.specs.Heads.{head_text, meta, metas}
use Rattle.page_html.specs.Marks.{letter, mark, other_letter, target}
use Rattle.page_html.specs.Pages as pages
use Rattle.page_html.specs.Pages.{IsFormedPage}
use Rattle.page_html.specs.Parts.{bare, classed, counted, leaf, link, plain}
use Rattle.page_html.specs.Sources as sources
use Rattle.page_html.specs.Tables as tables
use Rattle.page_html.specs.Views as views

-- ---- elements

bare-formed : (tag : Tag) {inner : List ℕ} → IsFormed inner → IsFormed (bare tag ++ inner ++ closing tag)
bare-formed tag h = IsFormed.element tag [] h

classed-formed : (tag : Tag) (class : List ℕ) {inner : List ℕ} → IsFormed inner → IsFormed (classed tag class ++ inner ++ closing tag)
classed-formed tag class h = IsFormed.element tag (words names.Class class ∷ []) h

plain-formed : (tag : Tag) (content : List ℕ) → IsFormed (plain tag content)
plain-formed tag content = IsFormed.element tag [] (IsFormed.words content)

leaf-formed : (tag : Tag) (class content : List ℕ) → IsFormed (leaf tag class content)
leaf-formed tag class content = classed-formed tag class (IsFormed.words content)

link-formed : (at content : List ℕ) → IsFormed (link at content)
link-formed at content = IsFormed.element tags.Link (words names.Href at ∷ []) (IsFormed.words content)

-- each of these, one behind the other
each-formed : {X : Type 0} (f : X → List ℕ) → ((x : X) → IsFormed (f x)) → (xs : List X) → IsFormed (flat_map f xs)
each-formed f h [] = IsFormed.nothing
each-formed f h (x ∷ xs) = IsFormed.beside (h x) (each-formed f h xs)

counted-formed : {X : Type 0} (f : ℕ → X → List ℕ) → ((n : ℕ) (x : X) → IsFormed (f n x)) → (n : ℕ) (xs : List X) → IsFormed (counted f n xs)
counted-formed f h n [] = IsFormed.nothing
counted-formed f h n (x ∷ xs) = IsFormed.beside (h n x) (counted-formed f h (n + 1) xs)

by : (b : Bool) (text : List ℕ) → IsFormed text → IsFormed (if b then [] else text)
by true text h = IsFormed.nothing
by false text h = h

-- ---- the source, and what was printed

word-formed : (word : Word) → IsFormed (sources.word_text word)
word-formed word = IsFormed.element tags.Span (sources.word_attributes word) (IsFormed.words word.text)

line-formed : (n : ℕ) (line : Line) → IsFormed (sources.line_text n line)
line-formed n line =
    IsFormed.beside (IsFormed.element tags.Item (words names.Id (mark (codes "s") n) ∷ []) (bare-formed tags.Code (each-formed sources.word_text word-formed line.words))) IsFormed.feed

source-formed : (lines : List Line) → IsFormed (sources.source_text lines)
source-formed lines =
    classed-formed tags.Section (codes "source")
    (IsFormed.beside (plain-formed tags.Subheading (codes "Source")) (classed-formed tags.Ordered (codes "code") (counted-formed sources.line_text line-formed 1 lines)))

printed-formed : (p : Printed) → IsFormed (sources.printed_text p)
printed-formed p = IsFormed.beside (bare-formed tags.Item (link-formed (target (codes "h") p.event) p.text)) IsFormed.feed

prints-formed : (printed : List Printed) (end : List ℕ) → IsFormed (sources.prints_text printed end)
prints-formed printed end =
    classed-formed tags.Section (codes "prints")
    (IsFormed.beside (plain-formed tags.Subheading (codes "Printed"))
    (classed-formed tags.Unordered (codes "out") (IsFormed.beside (each-formed sources.printed_text printed-formed printed) (leaf-formed tags.Item (codes "ended") end))))

-- ---- the tables

number-formed : (mark : List ℕ) (n : ℕ) → IsFormed (tables.number_link mark n)
number-formed mark n = link-formed (target mark n) (decimal n)

say-formed : (row : Row) → IsFormed (tables.say_cell row)
say-formed row =
    classed-formed tags.Cell (codes "say")
    (IsFormed.beside (IsFormed.beside (leaf-formed tags.Strong (codes "who" ++ hue_word row.hue) row.agent) (IsFormed.words (codes " "))) (IsFormed.words row.words))

at-formed : (row : Row) → IsFormed (tables.at_cell row)
at-formed row =
    classed-formed tags.Cell (codes "at")
    (by (nat_eq row.line 0) _ (IsFormed.beside (IsFormed.beside (number-formed (codes "s") row.line) (IsFormed.words (codes " "))) (plain-formed tags.Code row.code)))

twin-formed : (level : Level) (twin : ℕ) → IsFormed (tables.twin_cell level twin)
twin-formed level twin = classed-formed tags.Cell (codes "num") (by (nat_eq twin 0) _ (number-formed (other_letter level) twin))

cells-formed : (level : Level) (n : ℕ) (row : Row) → IsFormed (tables.cells level n row)
cells-formed level n row =
    IsFormed.beside
    (IsFormed.beside
    (IsFormed.beside (IsFormed.beside (IsFormed.beside (classed-formed tags.Cell (codes "num") (number-formed (letter level) n)) (say-formed row)) (plain-formed tags.Cell row.site)) (at-formed row))
    (twin-formed level row.twin))
    (leaf-formed tags.Cell (codes "raw") row.event)

row-formed : (level : Level) (n : ℕ) (row : Row) → IsFormed (tables.row_text level n row)
row-formed level n row = IsFormed.beside (IsFormed.element tags.TableRow (tables.row_attributes level n row) (cells-formed level n row)) IsFormed.feed

head-cells-formed : (level : Level) → IsFormed (tables.head_cells level)
head-cells-formed level =
    let cell : (content : List ℕ) → IsFormed (plain tags.HeadCell content) = plain-formed tags.HeadCell in
    IsFormed.beside
    (IsFormed.beside
    (IsFormed.beside (IsFormed.beside (IsFormed.beside (cell (codes "Event")) (cell (codes "What happens"))) (cell (codes "Site"))) (cell (codes "Source")))
    (cell (tables.other_level level)))
    (cell (codes "History"))

grid-formed : (level : Level) (rows : List Row) → IsFormed (tables.grid_text level rows)
grid-formed level rows =
    bare-formed tags.Table
    (IsFormed.beside (bare-formed tags.TableHead (bare-formed tags.TableRow (head-cells-formed level))) (bare-formed tags.TableBody (counted-formed (tables.row_text level) (row-formed level) 1 rows)))

table-formed : (level : Level) (view : View) → IsFormed (tables.table_text level view)
table-formed level view =
    classed-formed tags.Details (codes "events")
    (IsFormed.beside (plain-formed tags.Summary view.summary) (classed-formed tags.Part (codes "wide") (grid-formed level view.rows)))

-- ---- the pictures

choices-formed : IsFormed views.choices
choices-formed =
    let choice : (id : List ℕ) → IsFormed (views.choice id) = λ id. IsFormed.single tags.Input (views.choice_attributes id) in
    let first : IsFormed (views.first_choice (codes "show-high")) =
    IsFormed.single tags.Input (views.choice_attributes (codes "show-high") ++ words names.Checked (codes "checked") ∷ []) in
    IsFormed.beside (IsFormed.beside first (choice (codes "show-low"))) (choice (codes "show-both"))

captions-formed : IsFormed views.captions
captions-formed =
    let caption : (id title : List ℕ) → IsFormed (views.caption id title) = λ id title. IsFormed.element tags.Caption (words names.For id ∷ []) (IsFormed.words title) in
    classed-formed tags.Paragraph (codes "tabs")
    (IsFormed.beside
    (IsFormed.beside (caption (codes "show-high") (codes "The source")) (caption (codes "show-low") (codes "The sites")))
    (caption (codes "show-both") (codes "Both")))

pane-formed : (class : List ℕ) (view : View) → IsFormed view.picture → IsFormed (views.pane class view)
pane-formed class view h = classed-formed tags.Part class (IsFormed.beside (leaf-formed tags.Paragraph (codes "note") view.note) h)

views-formed : (page : Page) → IsFormed page.high.picture → IsFormed page.low.picture → IsFormed (views.views_text page)
views-formed page high low =
    classed-formed tags.Section (codes "pictures")
    (IsFormed.beside (IsFormed.beside (IsFormed.beside (plain-formed tags.Subheading (codes "Picture")) choices-formed) captions-formed)
    (classed-formed tags.Part (codes "views") (IsFormed.beside (pane-formed (codes "view high") page.high high) (pane-formed (codes "view low") page.low low))))

-- ---- the whole

meta-formed : (attribute : AttributeName) (name content : List ℕ) → IsFormed (meta attribute name content)
meta-formed attribute name content = IsFormed.single tags.Meta (words attribute name ∷ words names.Content content ∷ [])

metas-formed : (policy : List ℕ) → IsFormed (metas policy)
metas-formed policy =
    IsFormed.beside
    (IsFormed.beside (meta-formed names.HttpEquiv (codes "Content-Security-Policy") policy) (meta-formed names.Name (codes "viewport") (codes "width=device-width,initial-scale=1")))
    (meta-formed names.Name (codes "color-scheme") (codes "light dark"))

head-formed : (title policy style : List ℕ) → IsFormed (head_text title policy style)
head-formed title policy style =
    bare-formed tags.Head (IsFormed.beside (IsFormed.beside (metas-formed policy) (plain-formed tags.Title title)) (plain-formed tags.Style style))

left-formed : (page : Page) (hint : List ℕ) → IsFormed (pages.left_text page hint)
left-formed page hint =
    classed-formed tags.Part (codes "left")
    (IsFormed.beside (IsFormed.beside (source-formed page.lines) (prints-formed page.printed page.end))
    (IsFormed.element tags.Section pages.chosen_attributes (IsFormed.beside (plain-formed tags.Subheading (codes "Chosen event")) (leaf-formed tags.Part (codes "told") hint))))

main-formed : (page : Page) (hint : List ℕ) → IsFormed page.high.picture → IsFormed page.low.picture → IsFormed (pages.main_text page hint)
main-formed page hint high low = bare-formed tags.Main (IsFormed.beside (left-formed page hint) (views-formed page high low))

header-formed : (page : Page) → IsFormed (pages.header_text page)
header-formed page = bare-formed tags.Header (IsFormed.beside (plain-formed tags.Heading page.title) (plain-formed tags.Paragraph page.summary))

tables-formed : (page : Page) → IsFormed (pages.tables_text page)
tables-formed page = IsFormed.beside (table-formed levels.High page.high) (table-formed levels.Low page.low)

body-formed : (page : Page) (script : List ℕ) → IsFormed page.high.picture → IsFormed page.low.picture → IsFormed (pages.body_text page script)
body-formed page script high low =
    bare-formed tags.Body
    (IsFormed.beside
    (IsFormed.beside
    (IsFormed.beside (IsFormed.beside (header-formed page) (main-formed page HINT.now high low)) (tables-formed page))
    (plain-formed tags.Footer FOOT.now))
    (plain-formed tags.Script script))

pub pages-formed : pages.PagesAreFormed
pages-formed page policy style script high low = record {
  inner = pages.html_text page policy style script;
  formed = IsFormed.element tags.Html (words names.Language (codes "en") ∷ []) (IsFormed.beside (head-formed page.title policy style) (body-formed page script high low));
  is = refl;
}
