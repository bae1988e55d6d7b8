-- A page as a whole (docs/PICTURES.md, "Pages").
use Rattle.std.specs.Prelude.{◌≡◌, ℕ, List, [], ◌∷◌, ◌++◌, codes}
use Rattle.markup_text.specs.declared.words.Tag.TheVariants as tags
use Rattle.markup_text.specs.declared.words.AttributeName.TheVariants as names
use Rattle.markup_text.specs.Attributes.{Attribute, words}
use Rattle.markup_text.specs.Formed.{IsFormed}
use Rattle.markup_text.specs.Markup.{closing, opening}
use Rattle.page_html.specs.declared.page.Level.TheVariants as levels
use Rattle.page_html.specs.declared.page.Page.{Page}
use Rattle.page_html.specs.declared.whole.TheConstants.{FOOT, HINT}
use Rattle.page_html.specs.Heads.{head_text, policy}
use Rattle.page_html.specs.Parts.{bare, classed, leaf, plain}
use Rattle.page_html.specs.Sources.{prints_text, source_text}
use Rattle.page_html.specs.Tables.{table_text}
use Rattle.page_html.specs.Views.{views_text}

abbrev pub header_text : Page → List ℕ
header_text page = bare tags.Header ++ (plain tags.Heading page.title ++ plain tags.Paragraph page.summary) ++ closing tags.Header

-- ---- the main part: at the left the source, what was printed, and the event that is chosen; at the right the pictures

abbrev pub chosen_attributes : List Attribute
chosen_attributes = words names.Class (codes "chosen") ∷ words names.Live (codes "polite") ∷ []

abbrev pub chosen_text : List ℕ → List ℕ
chosen_text hint =
    opening tags.Section chosen_attributes ++ (plain tags.Subheading (codes "Chosen event") ++ leaf tags.Part (codes "told") hint)
    ++ closing tags.Section

abbrev pub left_text : Page → List ℕ → List ℕ
left_text page hint =
    classed tags.Part (codes "left") ++ (source_text page.lines ++ prints_text page.printed page.end ++ chosen_text hint)
    ++ closing tags.Part

abbrev pub main_text : Page → List ℕ → List ℕ
main_text page hint = bare tags.Main ++ (left_text page hint ++ views_text page) ++ closing tags.Main

-- ---- the tables of the events, of the source and of the sites

abbrev pub tables_text : Page → List ℕ
tables_text page = table_text levels.High page.high ++ table_text levels.Low page.low

-- ---- all of it

abbrev pub body_text : Page → List ℕ → List ℕ
body_text page script =
    bare tags.Body
    ++ (header_text page ++ main_text page HINT.now ++ tables_text page ++ plain tags.Footer FOOT.now ++ plain tags.Script script)
    ++ closing tags.Body

abbrev pub html_text : Page → List ℕ → List ℕ → List ℕ → List ℕ
html_text page policy style script =
    opening tags.Html (words names.Language (codes "en") ∷ []) ++ (head_text page.title policy style ++ body_text page script)
    ++ closing tags.Html

abbrev pub text_of : Page → List ℕ → List ℕ → List ℕ → List ℕ
text_of page policy style script = codes "<!DOCTYPE html>\n" ++ html_text page policy style script ++ codes "\n"

-- the page with the policy that allows its style, the style of its pictures, and its script
abbrev pub page_text : Page → List ℕ → List ℕ → List ℕ → List ℕ
page_text page style pictures script = text_of page (policy style pictures script) style script

-- A text is a formed page: a formed text behind the line that says what it is.
pub record IsFormedPage (text : List ℕ) : Type 0 where
  pub inner : List ℕ
  pub formed : IsFormed inner
  pub is : text ≡ codes "<!DOCTYPE html>\n" ++ inner ++ codes "\n"

-- each page is, where its pictures are formed
abbrev pub PagesAreFormed : Type 0
PagesAreFormed = (page : Page) (policy style script : List ℕ) → IsFormed page.high.picture → IsFormed page.low.picture
    → IsFormedPage (text_of page policy style script)
