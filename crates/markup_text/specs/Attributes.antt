-- The text of attributes (docs/PICTURES.md, "Pictures").
use Rattle.std.specs.Prelude.{ℕ, List, ◌++◌, codes, decimal}
use Rattle.markup_text.specs.declared.words.AttributeName.{AttributeName}
use Rattle.markup_text.specs.declared.words.AttributeName.TheVariants as names
use Rattle.markup_text.specs.Escapes.{escaped}

abbrev pub attribute_word : AttributeName → List ℕ
attribute_word names.X = codes "x"
attribute_word names.Y = codes "y"
attribute_word names.X1 = codes "x1"
attribute_word names.Y1 = codes "y1"
attribute_word names.X2 = codes "x2"
attribute_word names.Y2 = codes "y2"
attribute_word names.CenterX = codes "cx"
attribute_word names.CenterY = codes "cy"
attribute_word names.Radius = codes "r"
attribute_word names.Corner = codes "rx"
attribute_word names.Width = codes "width"
attribute_word names.Height = codes "height"
attribute_word names.ViewBox = codes "viewBox"
attribute_word names.Class = codes "class"
attribute_word names.Data = codes "d"
attribute_word names.Namespace = codes "xmlns"
attribute_word names.Role = codes "role"
attribute_word names.AriaLabel = codes "aria-label"
attribute_word names.Event = codes "data-e"
attribute_word names.Id = codes "id"
attribute_word names.Href = codes "href"
attribute_word names.Language = codes "lang"
attribute_word names.HttpEquiv = codes "http-equiv"
attribute_word names.Name = codes "name"
attribute_word names.Content = codes "content"
attribute_word names.Kind = codes "type"
attribute_word names.Checked = codes "checked"
attribute_word names.For = codes "for"
attribute_word names.Needs = codes "data-needs"
attribute_word names.Twin = codes "data-twin"
attribute_word names.Node = codes "data-n"
attribute_word names.Live = codes "aria-live"

-- what an attribute says
pub data AttributeValue : Type 0 where
  digits : ℕ → AttributeValue
  bytes : List ℕ → AttributeValue

pub record Attribute : Type 0 where
  pub name : AttributeName
  pub value : AttributeValue

abbrev pub words : AttributeName → List ℕ → Attribute
words name said = record { name = name; value = AttributeValue.bytes said }

abbrev pub number : AttributeName → ℕ → Attribute
number name n = record { name = name; value = AttributeValue.digits n }

abbrev pub value_text : AttributeValue → List ℕ
value_text (AttributeValue.digits n) = decimal n
value_text (AttributeValue.bytes said) = escaped said

-- how an attribute begins, with the space before it
abbrev pub value_opened : AttributeName → List ℕ
value_opened name = codes " " ++ attribute_word name ++ codes "=\""

abbrev pub attribute_text : Attribute → List ℕ
attribute_text a = value_opened a.name ++ value_text a.value ++ codes "\""
