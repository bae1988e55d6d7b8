-- What holds of histories and their texts (docs/HISTORIES.md, "History text").
use Rattle.std.specs.Prelude.{◌≡◌, ℕ, ◌⊎◌, List}
use Rattle.std.specs.List.{AllByRecursion}
use Rattle.np_syntax.specs.declared.event.Event.{Event}
use Rattle.history_text.specs.declared.format.Format.{Format}
use Rattle.history_text.specs.Spelling.{history_text}
use Rattle.history_text.specs.Histories.{Fits, IsHistory, IsRefused}

-- the text of events whose numbers are below 2 ^ 32 is a history of them, in each format
abbrev pub WrittenIsHistory : Type 0
WrittenIsHistory = (format : Format) (events : List Event) → AllByRecursion Fits events
    → IsHistory (history_text format events) format events

-- the text is a history of some events
pub record IsSomeHistory (text : List ℕ) : Type 0 where
  pub format : Format
  pub events : List Event
  pub is : IsHistory text format events

-- the text is refused at some line
pub record IsSomewhereRefused (text : List ℕ) : Type 0 where
  pub line : ℕ
  pub is : IsRefused text line

-- a text is a history of one list of events, or it is refused at one line, and not both
pub record HasOneReading (text : List ℕ) : Type 0 where
  pub some : IsSomeHistory text ⊎ IsSomewhereRefused text
  pub events : (one other : IsSomeHistory text) → one.events ≡ other.events
  pub line : (one other : IsSomewhereRefused text) → one.line ≡ other.line
  pub apart : IsSomeHistory text → IsSomewhereRefused text → ⊥
