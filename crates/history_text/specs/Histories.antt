-- Which texts are histories, and where any other is refused (docs/HISTORIES.md, "History text").
use Rattle.std.specs.Prelude.{◌≡◌, ◌≢◌, ℕ, ◌+◌, ◌<◌, ◌^◌, ◌==◌, if◌then◌else◌, List, [], ◌∷◌, ◌++◌, length, map, Option, Some, None}
use Rattle.std.specs.List.{onto_first, AllByRecursion}
use Rattle.np_syntax.specs.declared.value.Name.{Name}
use Rattle.np_syntax.specs.declared.event.Event.{Event}
use Rattle.history_text.specs.declared.fail.HistFail.{HistFail}
use Rattle.history_text.specs.declared.fail.HistFail.TheVariants as fail
use Rattle.history_text.specs.declared.format.Format.{Format}
use Rattle.history_text.specs.Spelling.{first_made, second_made, event_line, first_line, end_line}

-- The lines of a text: a line ends with a line feed or at the end of the text.
abbrev pub lines : List ℕ → List (List ℕ)
lines [] = []
lines (byte ∷ bytes) = if byte == 10 then [] ∷ lines bytes else onto_first byte (lines bytes)

-- ---- events whose numbers are below 2 ^ 32

abbrev pub NameFits : Name → Type 0
NameFits name = (name.site < 2 ^ 32) × (name.n < 2 ^ 32)

abbrev pub OptionalFits : Option Name → Type 0
OptionalFits None = Unit {0}
OptionalFits (Some name) = NameFits name

pub record Fits (e : Event) : Type 0 where
  pub site : e.site < 2 ^ 32
  pub actor : NameFits e.actor
  pub other : OptionalFits e.other
  pub node : e.tag.node < 2 ^ 32
  pub first : OptionalFits (first_made e.made)
  pub second : OptionalFits (second_made e.made)

-- ---- histories

-- the line begins no history
abbrev pub IsSkipped : List ℕ → Type 0
IsSkipped line = (format : Format) → line ≢ first_line format

-- the line is no event's in this format, and not the last
pub record IsFaulty (format : Format) (line : List ℕ) : Type 0 where
  pub event : (e : Event) → Fits e → line ≢ event_line format e
  pub end : line ≢ end_line

-- the lines that a history has up to the last of these events: lines that are skipped, the first line, the events' lines
abbrev pub lines_up_to : List (List ℕ) → Format → List Event → List (List ℕ)
lines_up_to skipped format events = skipped ++ first_line format ∷ map (event_line format) events

-- the text is a history of these events; nothing behind the line `end` is looked at
pub record IsHistory (text : List ℕ) (format : Format) (events : List Event) : Type 0 where
  pub skipped : List (List ℕ)
  pub behind : List (List ℕ)
  pub is : lines text ≡ lines_up_to skipped format events ++ end_line ∷ behind
  pub skips : AllByRecursion IsSkipped skipped
  pub fits : AllByRecursion Fits events

-- lines with which a history begins: lines that are skipped, the first line, and the lines of these events
pub record Beginning : Type 0 where
  pub skipped : List (List ℕ)
  pub format : Format
  pub events : List Event
  pub skips : AllByRecursion IsSkipped skipped
  pub fits : AllByRecursion Fits events

abbrev pub lines_of : Beginning → List (List ℕ)
lines_of b = lines_up_to b.skipped b.format b.events

-- the text is no history from the line of this number on, counted from 1; where a line is missing, that is one more than
-- the number of lines
pub data IsRefused (text : List ℕ) : ℕ → Type 0 where
  no_first : AllByRecursion IsSkipped (lines text) → IsRefused text (length (lines text) + 1)
  no_end : (b : Beginning) → lines text ≡ lines_of b → IsRefused text (length (lines text) + 1)
  faulty : (b : Beginning) (line : List ℕ) (behind : List (List ℕ)) → lines text ≡ lines_of b ++ line ∷ behind → IsFaulty b.format line
      → IsRefused text (length (lines_of b) + 1)

-- what the refusals of a reader say of the text
abbrev pub IsRefusal : List ℕ → HistFail → Type 0
IsRefusal text fail.Memory = Unit {0}
IsRefusal text (fail.HistSyntax line) = IsRefused text line
