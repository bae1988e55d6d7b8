-- Where a byte stands in a text (docs/PICTURES.md, "Refusals").
use Rattle.std.specs.Prelude.{◌≡◌, ℕ, zero, suc, ◌+◌, ◌-◌, ◌≤◌, Bool, true, false, List, [], ◌∷◌, take, drop, length}
use Rattle.std.specs.Prelude.{slice_index, nat_eq, nat_lt, ◌&&◌, if◌then◌else◌}
use Rattle.std.specs.List.{prefix_len}
use Rattle.source_places.specs.declared.place.Place.{Place}
use Rattle.source_places.specs.declared.place.Row.{Row}
use Rattle.source_places.specs.Shown.{front_len}

-- at the beginning of a text
abbrev pub first_row : Row
first_row = record { start = 0; line = 1 }

-- behind a byte at an offset: a line feed begins a line
abbrev pub behind : Row → ℕ → ℕ → Row
behind row at b = if nat_eq b 10 then record { start = at + 1; line = row.line + 1 } else row

-- behind bytes, the first of which stands at an offset
abbrev pub behind_all : Row → ℕ → List ℕ → Row
behind_all row at [] = row
behind_all row at (b ∷ bs) = behind_all (behind row at b) (at + 1) bs

-- the line in which the byte of an offset stands
abbrev pub row_at : List ℕ → ℕ → Row
row_at bytes at = behind_all first_row 0 (take at bytes)

abbrev pub in_line : ℕ → Bool
in_line b = if nat_eq b 10 then false else true

-- a carriage return stands at the end
abbrev pub ends_in_return : List ℕ → Bool
ends_in_return bytes = nat_lt 0 (length bytes) && nat_eq (slice_index bytes (length bytes - 1)) 13

-- without one carriage return at the end
abbrev pub without_return : List ℕ → List ℕ
without_return bytes = if ends_in_return bytes then take (length bytes - 1) bytes else bytes

-- the line that begins at an offset, without what ends it
abbrev pub line_at : List ℕ → ℕ → List ℕ
line_at bytes start = without_return (take (prefix_len in_line (drop start bytes)) (drop start bytes))

-- a character of so many bytes begins before the byte with this offset, if there is such a character
abbrev pub begins : ℕ → ℕ → ℕ
begins before len = if nat_lt 0 before && nat_lt 0 len then 1 else 0

-- how many characters of some bytes begin before the byte with this offset; the first number is at least that of the bytes
unfoldable pub begun : ℕ → List ℕ → ℕ → ℕ
begun zero bytes before = 0
begun (suc n) bytes before = begins before (front_len bytes) + begun n (drop (front_len bytes) bytes) (before - front_len bytes)

-- the column of the byte that stands behind so many others of its line
abbrev pub column_in : List ℕ → ℕ → ℕ
column_in line before = 1 + begun (length line) line before

-- where the byte of this offset stands
abbrev pub place_at : List ℕ → ℕ → Place
place_at bytes at = record {
  at = at;
  start = (row_at bytes at).start;
  line = (row_at bytes at).line;
  column = column_in (line_at bytes (row_at bytes at).start) (at - (row_at bytes at).start);
}
