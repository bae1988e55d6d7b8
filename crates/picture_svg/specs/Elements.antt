-- Each shape of a picture as an element (docs/PICTURES.md, "Pictures").
use Rattle.std.specs.Prelude.{ℕ, Bool, true, false, List, [], ◌∷◌, ◌++◌, Option, None, Some, codes, decimal}
use Rattle.markup_text.specs.declared.words.Tag.{Tag}
use Rattle.markup_text.specs.declared.words.Tag.TheVariants as tags
use Rattle.markup_text.specs.declared.words.AttributeName.{AttributeName}
use Rattle.markup_text.specs.declared.words.AttributeName.TheVariants as names
use Rattle.markup_text.specs.Attributes.{Attribute, number, words}
use Rattle.markup_text.specs.Markup.{Element}
use Rattle.picture_svg.specs.declared.shapes.Flight.{Flight}
use Rattle.picture_svg.specs.declared.shapes.Form.{Form}
use Rattle.picture_svg.specs.declared.shapes.Form.TheVariants as forms
use Rattle.picture_svg.specs.declared.shapes.Head.{Head}
use Rattle.picture_svg.specs.declared.shapes.Hue.{Hue}
use Rattle.picture_svg.specs.declared.shapes.Hue.TheVariants as hues
use Rattle.picture_svg.specs.declared.shapes.Look.{Look}
use Rattle.picture_svg.specs.declared.shapes.Look.TheVariants as looks
use Rattle.picture_svg.specs.declared.shapes.Point.{Point}
use Rattle.picture_svg.specs.declared.shapes.Shape.{Shape}
use Rattle.picture_svg.specs.declared.shapes.Spot.{Spot}
use Rattle.picture_svg.specs.declared.elements.TheConstants.{DOT, TICK}

-- ---- classes

abbrev pub look_word : Look → List ℕ
look_word looks.Paper = codes "paper"
look_word looks.Band = codes "band"
look_word looks.Site = codes "site"
look_word looks.Title = codes "title"
look_word looks.Small = codes "small"
look_word looks.Path = codes "path"
look_word looks.Idle = codes "idle"
look_word looks.Birth = codes "birth"
look_word looks.Message = codes "message"
look_word looks.Net = codes "net"
look_word looks.Dot = codes "dot"
look_word looks.Ring = codes "ring"
look_word looks.Take = codes "take"
look_word looks.Print = codes "print"
look_word looks.Sent = codes "sent"
look_word looks.Tick = codes "tick"
look_word looks.Lost = codes "lost"
look_word looks.Pill = codes "pill"
look_word looks.PillName = codes "pillname"
look_word looks.Name = codes "name"
look_word looks.Say = codes "say"
look_word looks.Number = codes "number"
look_word looks.End = codes "end"
look_word looks.Ribbon = codes "ribbon"

abbrev pub hue_word : Hue → List ℕ
hue_word hues.Plain = []
hue_word hues.Main = codes " main"
hue_word hues.Daemon = codes " daemon"
hue_word (hues.Agent number) = codes " a" ++ decimal number

abbrev pub pale_word : Bool → List ℕ
pale_word true = codes " pale"
pale_word false = []

abbrev pub class_of : Look → Hue → Bool → Attribute
class_of look hue pale = words names.Class (look_word look ++ hue_word hue ++ pale_word pale)

-- ---- places and measures

abbrev pub point : AttributeName → AttributeName → Point → List Attribute
point across down at = number across at.x ∷ number down at.y ∷ []

abbrev pub disc : Point → ℕ → List Attribute
disc at radius = point names.CenterX names.CenterY at ++ number names.Radius radius ∷ []

abbrev pub plate : Point → ℕ → ℕ → ℕ → List Attribute
plate at width height corner =
    point names.X names.Y at ++ number names.Width width ∷ number names.Height height ∷ number names.Corner corner ∷ []

abbrev pub line : Point → Point → List Attribute
line from to = point names.X1 names.Y1 from ++ point names.X2 names.Y2 to

abbrev pub form_of : Form → List Attribute
form_of (forms.Disc at radius) = disc at radius
form_of (forms.Plate at width height corner) = plate at width height corner
form_of (forms.Line from to) = line from to
form_of (forms.Words at text) = point names.X names.Y at

abbrev pub tag_of : Form → Tag
tag_of (forms.Disc at radius) = tags.Circle
tag_of (forms.Plate at width height corner) = tags.Rect
tag_of (forms.Line from to) = tags.Line
tag_of (forms.Words at text) = tags.Label

abbrev pub words_of : Form → List ℕ
words_of (forms.Words at text) = text
words_of _ = []

-- ---- elements

abbrev pub shape_element : Shape → Element
shape_element shape = record {
  tag = tag_of shape.form;
  attributes = class_of shape.look shape.hue shape.pale ∷ form_of shape.form;
  content = words_of shape.form;
}

abbrev pub radius_of : Look → ℕ
radius_of looks.Tick = TICK
radius_of looks.Sent = TICK
radius_of _ = DOT

-- a mark, with the number of its event
abbrev pub spot_element : Spot → Element
spot_element spot = record {
  tag = tags.Circle;
  attributes = class_of spot.look spot.hue spot.pale ∷ number names.Event spot.event ∷ disc spot.at (radius_of spot.look);
  content = [];
}

-- a point of a way, behind the letter that says how it is reached
abbrev pub reached : List ℕ → Point → List ℕ
reached letter at = letter ++ decimal at.x ++ codes " " ++ decimal at.y

abbrev pub head_way : Head → List ℕ
head_way head = reached (codes "M") head.left ++ reached (codes "L") head.tip ++ reached (codes "L") head.right ++ codes "Z"

abbrev pub head_part : Option Head → List ℕ
head_part None = []
head_part (Some head) = head_way head

-- from its start to its end, and then round its head
abbrev pub way : Flight → List ℕ
way flight = reached (codes "M") flight.start ++ reached (codes "L") flight.end ++ head_part flight.head

abbrev pub way_of : Flight → Attribute
way_of flight = words names.Data (way flight)

-- an arrow, with the number of the event that it comes to
abbrev pub flight_element : Flight → Element
flight_element flight = record {
  tag = tags.Path;
  attributes = class_of flight.look flight.hue flight.pale ∷ number names.Event flight.to ∷ way_of flight ∷ [];
  content = [];
}

-- those of a picture, which begins so far from the left
abbrev pub root_attributes : ℕ → ℕ → ℕ → List Attribute
root_attributes left width height =
    words names.Namespace (codes "http://www.w3.org/2000/svg") ∷ number names.X left ∷ number names.Width width ∷ number names.Height height ∷ []
