-- The text of elements and of what stands in them (docs/PICTURES.md, "Pictures").
use Rattle.std.specs.Prelude.{ℕ, List, [], ◌∷◌, ◌++◌, codes}
use Rattle.std.specs.List.{flat_map}
use Rattle.markup_text.specs.declared.words.Tag.{Tag}
use Rattle.markup_text.specs.declared.words.Tag.TheVariants as tags
use Rattle.markup_text.specs.Attributes.{Attribute, attribute_text}
use Rattle.markup_text.specs.Escapes.{escaped}

-- ---- names

abbrev pub tag_word : Tag → List ℕ
tag_word tags.Svg = codes "svg"
tag_word tags.Group = codes "g"
tag_word tags.Rect = codes "rect"
tag_word tags.Circle = codes "circle"
tag_word tags.Line = codes "line"
tag_word tags.Path = codes "path"
tag_word tags.Label = codes "text"
tag_word tags.Title = codes "title"
tag_word tags.Style = codes "style"
tag_word tags.Html = codes "html"
tag_word tags.Head = codes "head"
tag_word tags.Meta = codes "meta"
tag_word tags.Body = codes "body"
tag_word tags.Script = codes "script"
tag_word tags.Header = codes "header"
tag_word tags.Main = codes "main"
tag_word tags.Section = codes "section"
tag_word tags.Part = codes "div"
tag_word tags.Span = codes "span"
tag_word tags.Code = codes "code"
tag_word tags.Strong = codes "b"
tag_word tags.Link = codes "a"
tag_word tags.Heading = codes "h1"
tag_word tags.Subheading = codes "h2"
tag_word tags.Paragraph = codes "p"
tag_word tags.Ordered = codes "ol"
tag_word tags.Unordered = codes "ul"
tag_word tags.Item = codes "li"
tag_word tags.Input = codes "input"
tag_word tags.Caption = codes "label"
tag_word tags.Details = codes "details"
tag_word tags.Summary = codes "summary"
tag_word tags.Table = codes "table"
tag_word tags.TableHead = codes "thead"
tag_word tags.TableBody = codes "tbody"
tag_word tags.TableRow = codes "tr"
tag_word tags.HeadCell = codes "th"
tag_word tags.Cell = codes "td"
tag_word tags.Footer = codes "footer"

-- ---- tags

-- how the tag that opens an element begins
abbrev pub tag_opened : Tag → List ℕ
tag_opened tag = codes "<" ++ tag_word tag

abbrev pub opening : Tag → List Attribute → List ℕ
opening tag attributes = tag_opened tag ++ flat_map attribute_text attributes ++ codes ">"

abbrev pub closing : Tag → List ℕ
closing tag = codes "</" ++ tag_word tag ++ codes ">"

-- the one tag of an element in which nothing may stand
abbrev pub single_text : Tag → List Attribute → List ℕ
single_text tag attributes = tag_opened tag ++ flat_map attribute_text attributes ++ codes "/>"

-- ---- elements

-- an element in which nothing but a text stands
pub record Element : Type 0 where
  pub tag : Tag
  pub attributes : List Attribute
  pub content : List ℕ

abbrev pub element_text : Element → List ℕ
element_text e = opening e.tag e.attributes ++ escaped e.content ++ closing e.tag

-- Markup: nothing; or a text, and what follows it; or an element, with what stands in it, and what follows it.
pub data Markup : Type 0 where
  nothing : Markup
  words : List ℕ → Markup → Markup
  element : Tag → List Attribute → Markup → Markup → Markup

-- the text of markup: each element that opens closes behind what stands in it, and nothing else opens or closes one
abbrev pub markup_text : Markup → List ℕ
markup_text Markup.nothing = []
markup_text (Markup.words bytes rest) = escaped bytes ++ markup_text rest
markup_text (Markup.element tag attributes inner rest) = opening tag attributes ++ markup_text inner ++ closing tag ++ markup_text rest

-- elements that stand one behind the other, as markup
abbrev pub in_a_row : List Element → Markup
in_a_row [] = Markup.nothing
in_a_row (e ∷ es) = Markup.element e.tag e.attributes (Markup.words e.content Markup.nothing) (in_a_row es)
