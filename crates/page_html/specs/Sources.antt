-- The source on a page, and what was printed (docs/PICTURES.md, "Pages").
use Rattle.std.specs.Prelude.{ℕ, List, [], ◌∷◌, ◌++◌, codes, decimal}
use Rattle.std.specs.List.{flat_map}
use Rattle.markup_text.specs.declared.words.Tag.TheVariants as tags
use Rattle.markup_text.specs.declared.words.AttributeName.TheVariants as names
use Rattle.markup_text.specs.Attributes.{Attribute, number, words}
use Rattle.markup_text.specs.Escapes.{escaped}
use Rattle.markup_text.specs.Markup.{closing, opening}
use Rattle.source_words.specs.declared.word.Class.{Class}
use Rattle.source_words.specs.declared.word.Class.TheVariants as classes
use Rattle.source_words.specs.declared.word.Line.{Line}
use Rattle.source_words.specs.declared.word.Word.{Word}
use Rattle.page_html.specs.declared.page.Printed.{Printed}
use Rattle.page_html.specs.Marks.{mark, target}
use Rattle.page_html.specs.Parts.{bare, classed, counted, leaf, link, plain}

-- ---- words

abbrev pub agent_word : ℕ → List ℕ
agent_word hue = codes "n a" ++ decimal hue

abbrev pub class_word : Class → List ℕ
class_word classes.Blank = codes "w"
class_word classes.Comment = codes "c"
class_word classes.Keyword = codes "k"
class_word classes.Type = codes "t"
class_word classes.Literal = codes "v"
class_word classes.Sign = codes "o"
class_word classes.Name = codes "n"
class_word (classes.Agent hue) = agent_word hue

abbrev pub word_attributes : Word → List Attribute
word_attributes word = words names.Class (class_word word.dye.class) ∷ number names.Node word.dye.node ∷ []

abbrev pub word_text : Word → List ℕ
word_text word = opening tags.Span (word_attributes word) ++ escaped word.text ++ closing tags.Span

-- ---- lines, each with its number

abbrev pub code_text : Line → List ℕ
code_text line = bare tags.Code ++ flat_map word_text line.words ++ closing tags.Code

abbrev pub opened_line : ℕ → List ℕ
opened_line n = opening tags.Item (words names.Id (mark (codes "s") n) ∷ [])

abbrev pub line_text : ℕ → Line → List ℕ
line_text n line = opened_line n ++ code_text line ++ closing tags.Item ++ codes "\n"

abbrev pub list_text : List Line → List ℕ
list_text lines = classed tags.Ordered (codes "code") ++ counted line_text 1 lines ++ closing tags.Ordered

abbrev pub source_text : List Line → List ℕ
source_text lines =
    classed tags.Section (codes "source") ++ (plain tags.Subheading (codes "Source") ++ list_text lines) ++ closing tags.Section

-- ---- what was printed

abbrev pub printed_text : Printed → List ℕ
printed_text p = bare tags.Item ++ link (target (codes "h") p.event) p.text ++ closing tags.Item ++ codes "\n"

abbrev pub print_list : List Printed → List ℕ → List ℕ
print_list printed end =
    classed tags.Unordered (codes "out") ++ (flat_map printed_text printed ++ leaf tags.Item (codes "ended") end) ++ closing tags.Unordered

abbrev pub prints_text : List Printed → List ℕ → List ℕ
prints_text printed end =
    classed tags.Section (codes "prints") ++ (plain tags.Subheading (codes "Printed") ++ print_list printed end) ++ closing tags.Section
