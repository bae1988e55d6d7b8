-- Bytes of a source or of a history as they are shown on a terminal (docs/PICTURES.md, "Refusals").
use Rattle.std.specs.Prelude.{ℕ, zero, suc, ◌+◌, ◌-◌, ◌/◌, ◌%◌, Bool, List, [], ◌∷◌, ◌++◌, Option, Some, None, codes, length, min}
use Rattle.std.specs.Prelude.{take, drop, nat_eq, nat_le, nat_lt, ◌&&◌, ◌||◌, if◌then◌else◌}
use Rattle.std.specs.List.{flat_map, list_any, prefix_len}
use Rattle.bstr.specs.Utf8.{decoded}
use Rattle.markup_text.specs.Escapes.{hex_digit, numbered}
use Rattle.source_places.specs.declared.showing.TheConstants.{NARROW, WIDE}

-- a character of a list of ranges
abbrev pub is_within : List (ℕ × ℕ) → ℕ → Bool
is_within ranges c = list_any (λ range. nat_le range.0 c && nat_le c range.1) ranges

-- letters, signs and ideographs: none of them is invisible, controls a terminal or turns the direction of a text
abbrev pub is_listed : ℕ → Bool
is_listed c = is_within NARROW c || is_within WIDE c

-- how many bytes the character in front has: those of a well-formed sequence, or one
abbrev pub front_size : Option ℕ → ℕ → ℕ → ℕ
front_size None size n = min n 1
front_size (Some c) size n = size

abbrev pub front_len : List ℕ → ℕ
front_len bytes = front_size (decoded bytes).char (decoded bytes).size (length bytes)

-- the digits of a character's number to the base 16, of which there are six at most, without zeros in front
abbrev pub digits : ℕ → List ℕ
digits c =
    hex_digit (c / 1048576 % 16) ∷ hex_digit (c / 65536 % 16) ∷ hex_digit (c / 4096 % 16)
    ∷ hex_digit (c / 256 % 16) ∷ hex_digit (c / 16 % 16) ∷ hex_digit (c % 16) ∷ []

abbrev pub is_zero : ℕ → Bool
is_zero d = nat_eq d 48

abbrev pub short_digits : List ℕ → List ℕ
short_digits ds = drop (prefix_len is_zero ds) ds

-- a character by its number
abbrev pub escaped : ℕ → List ℕ
escaped c = codes "\\u{" ++ short_digits (digits c) ++ codes "}"

-- a byte: itself where it can be printed, four blanks for a tab, and else its number
abbrev pub shown_byte : ℕ → List ℕ
shown_byte b = if nat_le 32 b && nat_le b 126 then b ∷ [] else (if nat_eq b 9 then codes "    " else numbered b)

-- a character of these bytes: one of a single byte as that byte, one that is listed as itself, and any other by its number
abbrev pub shown_char : ℕ → List ℕ → List ℕ
shown_char c bytes = if nat_lt c 128 then shown_byte c else (if is_listed c then bytes else escaped c)

-- what stands in front: a character, or a byte that begins none
abbrev pub shown_found : Option ℕ → List ℕ → List ℕ
shown_found None bytes = flat_map shown_byte bytes
shown_found (Some c) bytes = shown_char c bytes

abbrev pub shown_front : List ℕ → List ℕ
shown_front bytes = shown_found (decoded bytes).char (take (front_len bytes) bytes)

-- the first characters, at most so many
unfoldable pub shown_some : ℕ → List ℕ → List ℕ
shown_some zero bytes = []
shown_some (suc n) bytes = shown_front bytes ++ shown_some n (drop (front_len bytes) bytes)

-- bytes as they are shown, character by character
abbrev pub shown : List ℕ → List ℕ
shown bytes = shown_some (length bytes) bytes

-- lines as they are shown, each with its line feed
abbrev pub shown_line : List ℕ → List ℕ
shown_line line = shown line ++ codes "\n"

abbrev pub shown_lines : List (List ℕ) → List ℕ
shown_lines = flat_map shown_line
