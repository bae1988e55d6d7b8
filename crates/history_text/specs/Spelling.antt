-- How a history and the high-level events are written, as lines and fields (docs/HISTORIES.md, "History text").
use Rattle.std.specs.Prelude.{ℕ, List, [], ◌∷◌, ◌++◌, map, codes, decimal, Option, Some, None}
use Rattle.std.specs.List.{flat_map}
use Rattle.np_syntax.specs.Printed.{spaced}
use Rattle.np_syntax.specs.declared.value.Name.{Name}
use Rattle.np_syntax.specs.declared.process.Role.{Role}
use Rattle.np_syntax.specs.declared.process.Role.TheVariants as roles
use Rattle.np_syntax.specs.declared.process.Tag.{Tag}
use Rattle.np_syntax.specs.declared.event.Kind.{Kind}
use Rattle.np_syntax.specs.declared.event.Kind.TheVariants as kinds
use Rattle.np_syntax.specs.declared.event.Made.{Made}
use Rattle.np_syntax.specs.declared.event.Made.TheVariants as made
use Rattle.np_syntax.specs.declared.event.Event.{Event}
use Rattle.history_text.specs.declared.format.Format.{Format}
use Rattle.history_text.specs.declared.format.Format.TheVariants as formats

-- ---- fields

-- `site.n`
abbrev pub name_text : Name → List ℕ
name_text name = decimal name.site ++ codes "." ++ decimal name.n

-- a name, or `-` for none
abbrev pub optional_text : Option Name → List ℕ
optional_text None = codes "-"
optional_text (Some name) = name_text name

abbrev pub kind_word : Kind → List ℕ
kind_word kinds.Stop = codes "Stop"
kind_word kinds.Fork = codes "Fork"
kind_word kinds.New = codes "New"
kind_word kinds.Let = codes "Let"
kind_word kinds.If = codes "If"
kind_word kinds.Comm = codes "Comm"
kind_word kinds.Rep = codes "Rep"
kind_word kinds.Agent = codes "Agent"
kind_word kinds.Depart = codes "Depart"
kind_word kinds.Arrive = codes "Arrive"
kind_word kinds.Local = codes "Local"
kind_word kinds.Send = codes "Send"
kind_word kinds.Land = codes "Land"
kind_word kinds.Print = codes "Print"
kind_word kinds.Open = codes "Open"
kind_word kinds.Lookup = codes "Lookup"
kind_word kinds.Post = codes "Post"

abbrev pub role_word : Role → List ℕ
role_word roles.Plain = codes "Plain"
role_word roles.Post = codes "Post"
role_word roles.Infra = codes "Infra"

-- the names that an event makes, one after the other
abbrev pub first_made : Made → Option Name
first_made made.Nothing = None
first_made (made.One name) = Some name
first_made (made.Two name other) = Some name

abbrev pub second_made : Made → Option Name
second_made made.Nothing = None
second_made (made.One name) = None
second_made (made.Two name other) = Some other

-- the ninth field: what becomes of the event in the high-level run, where the infrastructure's events and the landings of
-- posts are left out, the sending of a post is the post, and every other event stays
abbrev pub high_word : Kind → Role → List ℕ
high_word kinds.Send roles.Post = codes "Post"
high_word kinds.Land roles.Post = codes "-"
high_word kind roles.Infra = codes "-"
high_word kind role = codes "="

abbrev pub tag_fields : Tag → List (List ℕ)
tag_fields tag = decimal tag.node ∷ role_word tag.role ∷ []

abbrev pub made_fields : Made → List (List ℕ)
made_fields m = optional_text (first_made m) ∷ optional_text (second_made m) ∷ []

abbrev pub eight_fields : Event → List (List ℕ)
eight_fields e = decimal e.site ∷ kind_word e.kind ∷ name_text e.actor ∷ optional_text e.other ∷ (tag_fields e.tag ++ made_fields e.made)

abbrev pub fields : Format → Event → List (List ℕ)
fields formats.First e = eight_fields e
fields formats.Second e = eight_fields e ++ high_word e.kind e.tag.role ∷ []

-- ---- lines

-- an event's line: its fields with single spaces between them
abbrev pub event_line : Format → Event → List ℕ
event_line format e = spaced (fields format e)

abbrev pub first_line : Format → List ℕ
first_line formats.First = codes "history 1"
first_line formats.Second = codes "history 2"

abbrev pub high_line : List ℕ
high_line = codes "high 1"

abbrev pub end_line : List ℕ
end_line = codes "end"

-- ---- texts

-- lines, each with a line feed
abbrev pub text_of : List (List ℕ) → List ℕ
text_of lines = flat_map (λ line. line ++ codes "\n") lines

-- the lines of events, between this first line and the last
abbrev pub lines_under : List ℕ → Format → List Event → List (List ℕ)
lines_under first format events = first ∷ (map (event_line format) events ++ end_line ∷ [])

abbrev pub history_text : Format → List Event → List ℕ
history_text format events = text_of (lines_under (first_line format) format events)

abbrev pub high_text : List Event → List ℕ
high_text events = text_of (lines_under high_line formats.First events)
