-- A history's lines and an event's fields, as they are read from left to right.
use Rattle.std.specs.Prelude.{◌≡◌, ℕ, ◌≤◌, ◌+◌, Bool, true, false, ◌==◌, if◌then◌else◌, List, [], ◌∷◌, ◌++◌, length}
use Rattle.std.specs.Prelude.{take, drop, Option, Some, None, Result, Ok, Err}
use Rattle.std.specs.Char.{is_ascii_digit}
use Rattle.std.specs.List.{prefix_len, find}
use Rattle.std.specs.Str.{bytes_eq}
use Rattle.np_syntax.specs.Numerals.{value_within}
use Rattle.np_syntax.specs.Options.{◌>>=◌, ◌>>◌, need}
use Rattle.np_syntax.specs.declared.limits.TheConstants.{LARGEST_NUMBER}
use Rattle.np_syntax.specs.declared.value.Name.{Name}
use Rattle.np_syntax.specs.declared.process.Role.{Role}
use Rattle.np_syntax.specs.declared.process.Tag.{Tag}
use Rattle.np_syntax.specs.declared.event.Kind.{Kind}
use Rattle.np_syntax.specs.declared.event.Made.{Made}
use Rattle.np_syntax.specs.declared.event.Made.TheVariants as made
use Rattle.np_syntax.specs.declared.event.Event.{Event}
use Rattle.history_text.specs.declared.fail.HistFail.{HistFail}
use Rattle.history_text.specs.declared.fail.HistFail.TheVariants as fail
use Rattle.history_text.specs.declared.format.Format.{Format}
use Rattle.history_text.specs.declared.format.Format.TheVariants as formats
use Rattle.history_text.specs.declared.words.TheConstants.{KINDS, ROLES, FORMATS}
use Rattle.history_text.specs.Histories.{lines}
use Rattle.history_text.specs.Spelling.{kind_word, role_word, first_line, end_line, high_word}

-- ---- words

abbrev pub kind_of : List ℕ → Option Kind
kind_of word = find (λ kind. bytes_eq (kind_word kind) word) KINDS

abbrev pub role_of : List ℕ → Option Role
role_of word = find (λ role. bytes_eq (role_word role) word) ROLES

abbrev pub format_of : List ℕ → Option Format
format_of line = find (λ format. bytes_eq (first_line format) line) FORMATS

abbrev pub is_end : List ℕ → Bool
is_end line = bytes_eq line end_line

-- ---- what a reader of the code answers, seen by this view, is what reading gives

abbrev pub Gives : {X Y : Type 0} → (X → Y) → Option X → Option Y → Type 0
Gives view None read = read ≡ None
Gives view (Some x) read = read ≡ Some (view x)

-- ---- bytes

abbrev pub in_line : ℕ → Bool
in_line byte = if byte == 10 then false else true

-- any byte but a space
abbrev pub in_field : ℕ → Bool
in_field byte = if byte == 32 then false else true

-- ---- a field, and the bytes behind it

-- digits without a leading zero
abbrev pub is_canonical : List ℕ → Bool
is_canonical [] = false
is_canonical (digit ∷ []) = true
is_canonical (digit ∷ _ ∷ _) = if digit == 48 then false else true

abbrev pub bounded : List ℕ → Option ℕ
bounded = value_within LARGEST_NUMBER

unfoldable pub number_of : List ℕ → Option ℕ
number_of digits = need (is_canonical digits) >> bounded digits

unfoldable pub number_at : List ℕ → Option (ℕ × List ℕ)
number_at bytes = do
  number ← number_of (take (prefix_len is_ascii_digit bytes) bytes)
  Some (number, drop (prefix_len is_ascii_digit bytes) bytes)

-- the bytes behind this one
abbrev pub behind : ℕ → List ℕ → Option (List ℕ)
behind sign [] = None
behind sign (byte ∷ bytes) = if byte == sign then Some bytes else None

unfoldable pub name_at : List ℕ → Option (Name × List ℕ)
name_at bytes = do
  site ← number_at bytes
  rest ← behind 46 site.1
  n ← number_at rest
  Some (record { site = site.0; n = n.0 }, n.1)

abbrev pub optional_by : Option (List ℕ) → List ℕ → Option (Option Name × List ℕ)
optional_by (Some rest) bytes = Some (None, rest)
optional_by None bytes = do
  name ← name_at bytes
  Some (Some name.0, name.1)

-- a name, or `-` for none
unfoldable pub optional_at : List ℕ → Option (Option Name × List ℕ)
optional_at bytes = optional_by (behind 45 bytes) bytes

unfoldable pub kind_at : List ℕ → Option (Kind × List ℕ)
kind_at bytes = do
  kind ← kind_of (take (prefix_len in_field bytes) bytes)
  Some (kind, drop (prefix_len in_field bytes) bytes)

unfoldable pub role_at : List ℕ → Option (Role × List ℕ)
role_at bytes = do
  role ← role_of (take (prefix_len in_field bytes) bytes)
  Some (role, drop (prefix_len in_field bytes) bytes)

unfoldable pub tag_at : List ℕ → Option (Tag × List ℕ)
tag_at bytes = do
  node ← number_at bytes
  rest ← behind 32 node.1
  role ← role_at rest
  Some (record { node = node.0; role = role.0 }, role.1)

abbrev pub made_of : Option Name → Option Name → Option Made
made_of None None = Some made.Nothing
made_of (Some name) None = Some (made.One name)
made_of (Some name) (Some other) = Some (made.Two name other)
made_of None (Some other) = None

unfoldable pub made_at : List ℕ → Option (Made × List ℕ)
made_at bytes = do
  first ← optional_at bytes
  rest ← behind 32 first.1
  second ← optional_at rest
  made ← made_of first.0 second.0
  Some (made, second.1)

-- what stands behind the eight fields
abbrev pub ninth : Format → Kind → Role → List ℕ
ninth formats.First kind role = []
ninth formats.Second kind role = 32 ∷ high_word kind role

abbrev pub ends_well : Format → Kind → Role → List ℕ → Bool
ends_well format kind role rest = bytes_eq rest (ninth format kind role)

-- ---- the event of a line

unfoldable pub event_of : Format → List ℕ → Option Event
event_of format line = do
  site ← number_at line
  rest ← behind 32 site.1
  kind ← kind_at rest
  rest ← behind 32 kind.1
  actor ← name_at rest
  rest ← behind 32 actor.1
  other ← optional_at rest
  rest ← behind 32 other.1
  tag ← tag_at rest
  rest ← behind 32 tag.1
  made ← made_at rest
  need (ends_well format kind.0 tag.0.role made.1)
  Some (record { site = site.0; kind = kind.0; actor = actor.0; other = other.0; tag = tag.0; made = made.0 })

-- ---- the events of lines

-- behind these events
abbrev pub after : List Event → Result (List Event) ℕ → Result (List Event) ℕ
after front (Ok events) = Ok (front ++ events)
after front (Err line) = Err line

-- what a line says that is not the last, where the later lines say this
abbrev pub event_then : Option Event → ℕ → Result (List Event) ℕ → Result (List Event) ℕ
event_then None number later = Err (number + 1)
event_then (Some event) number later = after (event ∷ []) later

-- The events of the lines up to the line `end`, or the number of the line that is at fault. So many lines stand before.
abbrev pub events_from : Format → ℕ → List (List ℕ) → Result (List Event) ℕ
events_from format number [] = Err (number + 1)
events_from format number (line ∷ lines) = if is_end line then Ok []
    else event_then (event_of format line) number (events_from format (number + 1) lines)

abbrev pub format_then : Option Format → Result (List Event) ℕ → (Format → Result (List Event) ℕ) → Result (List Event) ℕ
format_then None skipped begun = skipped
format_then (Some format) skipped begun = begun format

-- the same, where the first line of the history is to come
abbrev pub history_from : ℕ → List (List ℕ) → Result (List Event) ℕ
history_from number [] = Err (number + 1)
history_from number (line ∷ lines) = format_then (format_of line) (history_from (number + 1) lines)
    (λ format. events_from format (number + 1) lines)

-- what a reader of the code answers is what reading gives, unless memory runs out
abbrev pub Fails : HistFail → Result (List Event) ℕ → Type 0
Fails fail.Memory read = Unit {0}
Fails (fail.HistSyntax line) read = read ≡ Err line

abbrev pub Reads : Result (List Event) HistFail → Result (List Event) ℕ → Type 0
Reads (Ok events) read = read ≡ Ok events
Reads (Err e) read = Fails e read

-- the first line of the history was found, and the events of the lines behind it are those of the whole
pub record IsBegun (text : List ℕ) (format : Format) (number : ℕ) (rest : List ℕ) : Type 0 where
  pub reads : history_from 0 (lines text) ≡ events_from format number (lines rest)
  pub within : number + length rest ≤ length text
