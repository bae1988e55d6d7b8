-- What contracts see of texts in memory.
use Rattle.std.specs.Prelude.{◌≡◌, ◌≢◌, ℕ, ◌≤◌, Bool, List, length, drop, Option, Some, None, option_map, option_and_then, slice_get}
use Rattle.std.specs.Prelude.{slice_index_or}
use Rattle.std.specs.List.{position_or_len}
use Rattle.std.specs.Str.{bytes_eq}
use Rattle.np_io.specs.declared.named_text.NamedText.{NamedText}

pub record TextsState : Type 0 where
  pub texts : List NamedText
  -- the count of each text's name
  pub counts : List ℕ
  -- the one count of all names that are not held
  pub unknown : ℕ
  -- the numbers of the calls that fail
  pub failing : List ℕ
  pub calls : ℕ
  pub begins : ℕ
  -- where the text that is begun stands
  pub place : Option ℕ
  -- how many bytes of it were read
  pub at : ℕ

abbrev pub is_named : List ℕ → NamedText → Bool
is_named name text = bytes_eq text.name name

-- where the name stands, and behind the last text if it is not held
abbrev pub place_in : List NamedText → List ℕ → ℕ
place_in texts name = position_or_len (is_named name) texts

abbrev pub count_of : TextsState → List ℕ → ℕ
count_of state name = slice_index_or state.counts (place_in state.texts name) state.unknown

abbrev pub held_by : TextsState → List ℕ → Option (List ℕ)
held_by state name = option_map (λ (text : NamedText). text.bytes) (slice_get state.texts (place_in state.texts name))

abbrev pub begun_text : TextsState → Option NamedText
begun_text state = option_and_then (λ place. slice_get state.texts place) state.place

abbrev pub last_of : TextsState → Option (List ℕ)
last_of state = option_map (λ (text : NamedText). text.name) (begun_text state)

abbrev pub left_in : List NamedText → ℕ → ℕ → Option (List ℕ)
left_in texts place at = option_map (λ (text : NamedText). drop at text.bytes) (slice_get texts place)

abbrev pub left_of : TextsState → Option (List ℕ)
left_of state = option_and_then (λ place. left_in state.texts place state.at) state.place

-- the text is the one that its name finds, at this place, and so many of its bytes can have been read
pub record Stands (texts : List NamedText) (place at : ℕ) (text : NamedText) : Type 0 where
  pub here : slice_get texts place ≡ Some text
  pub first : place_in texts text.name ≡ place
  pub fits : at ≤ length text.bytes

-- just these bytes are held under the name, no text is begun, and all else is as before
pub record Adds (old new : TextsState) (name bytes : List ℕ) : Type 0 where
  pub held : held_by new name ≡ Some bytes
  pub others : (other : List ℕ) → other ≢ name → held_by new other ≡ held_by old other
  pub counts : (other : List ℕ) → count_of new other ≡ count_of old other
  pub begun : new.place ≡ None
  pub rest : new ≡ record old { texts = new.texts; counts = new.counts; place = new.place }
