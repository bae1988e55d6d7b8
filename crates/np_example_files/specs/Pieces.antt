-- The pieces that make up a text (crates/np_examples/data/README.md, "The format").
use Rattle.std.specs.Prelude.{◌≡◌, ℕ, ◌-◌, ◌^◌, ◌<◌, Bool, ◌||◌, ◌==◌, nat_eq, nat_lt, if◌then◌else◌, List, [], ◌∷◌, ◌++◌, length, take}
use Rattle.std.specs.Prelude.{drop, map, slice_index, codes, zero, suc, Option, Some, None}
use Rattle.std.specs.Char.{is_ascii_digit, is_whitespace, is_not_whitespace}
use Rattle.std.specs.List.{starts_with, before_first, after_first, position_or_len, flat_map}
use Rattle.std.specs.Str.{bytes_eq, NoCharPasses, EmptyOrStartsWithPassing}
use Rattle.std.specs.Str.Lines.{lines}
use Rattle.np_syntax.specs.Options.{◌>>=◌}
use Rattle.np_example_files.specs.declared.fail.ExampleFail.{ExampleFail}
use Rattle.np_example_files.specs.declared.fail.ExampleFail.TheVariants as fail
use Rattle.np_example_files.specs.declared.form.Form.{Form}
use Rattle.np_example_files.specs.declared.form.Form.TheVariants as form
use Rattle.np_example_files.specs.Numbers.{number_below}

-- ---- the parts of a line

-- the byte is a blank
abbrev pub is_blank : ℕ → Bool
is_blank byte = byte == 32

-- what stands in front of the first blank, or all where there is none
abbrev pub key_of : List ℕ → List ℕ
key_of line = before_first is_blank line

-- what stands behind the first blank
abbrev pub rest_of : List ℕ → List ℕ
rest_of line = after_first is_blank line

-- both, if there is a blank
abbrev pub parted : List ℕ → Option (List ℕ × List ℕ)
parted line = if nat_lt (position_or_len is_blank line) (length line) then Some (key_of line, rest_of line) else None

-- what stands behind the double quote with which a text begins, if it does
abbrev pub behind_quote : List ℕ → Option (List ℕ)
behind_quote [] = None
behind_quote (first ∷ rest) = if first == 34 then Some rest else None

-- what stands in front of the double quote with which a text ends, if it does
abbrev pub before_quote : List ℕ → Option (List ℕ)
before_quote text = if slice_index text (length text - 1) == 34 then Some (take (length text - 1) text) else None

-- what stands between the first double quote of a text and the last, if the text begins with the one and ends with the other
abbrev pub quoted : List ℕ → Option (List ℕ)
quoted text = behind_quote text >>= before_quote

-- the number of things that a text writes
abbrev pub count_of : List ℕ → Option ℕ
count_of text = number_below (2 ^ 64) text

-- ---- the bytes of a piece

-- the text so many times
abbrev pub times : List ℕ → ℕ → List ℕ
times text zero = []
times text (suc n) = times text n ++ text

-- the full binary tree of that depth
abbrev pub tree : List ℕ → ℕ → List ℕ
tree leaf zero = leaf
tree leaf (suc depth) = codes "(" ++ tree leaf depth ++ codes "|" ++ tree leaf depth ++ codes ")"

-- each line, with a line feed
abbrev pub with_line_feeds : List (List ℕ) → List ℕ
with_line_feeds = flat_map (λ line. line ++ 10 ∷ [])

-- the lines of a text from the first to the last, counted from 1
abbrev pub lines_between : ℕ → ℕ → List ℕ → List ℕ
lines_between first last text = with_line_feeds (drop (first - 1) (take last (lines text)))

-- ---- what a line says

pub data Piece : Type 0 where
  -- no text has such a line
  Refused : Piece
  -- these bytes
  These : List ℕ → Piece
  -- the bytes with the numbers that this text has
  Numbered : List ℕ → Piece
  -- the bytes of the file of this name
  File : List ℕ → Piece
  -- the lines of a file from the first to the last
  Part : ℕ → ℕ → List ℕ → Piece

-- the first byte of the line, or its key, is that of a piece
abbrev pub is_piece : List ℕ → Bool
is_piece line = slice_index line 0 == 124 || slice_index line 0 == 34 || is_ascii_digit (slice_index line 0)
    || starts_with nat_eq line (codes "tree ") || starts_with nat_eq line (codes "bytes ")
    || starts_with nat_eq line (codes "file ") || starts_with nat_eq line (codes "part ")

-- the form of a piece by its key; that of a line with no such key is told by its first byte
abbrev pub form_by : List ℕ → List ℕ → Form
form_by key line =
    if bytes_eq key (codes "|") then form.Line else if bytes_eq key (codes "tree") then form.Tree
    else if bytes_eq key (codes "bytes") then form.Numbered else if bytes_eq key (codes "file") then form.File
    else if bytes_eq key (codes "part") then form.Part else if slice_index line 0 == 34 then form.Quoted else form.Times

-- the piece of these bytes, if there are any such
abbrev pub these_or_refused : Option (List ℕ) → Piece
these_or_refused None = Refused
these_or_refused (Some bytes) = These bytes

-- a quoted text so many times
abbrev pub times_of : List ℕ → List ℕ → Option (List ℕ)
times_of key rest = do
  text ← quoted rest
  count ← count_of key
  Some (times text count)

-- the tree of that depth, with a quoted text at each leaf
abbrev pub tree_of : List ℕ → Option (List ℕ)
tree_of rest = do
  parts ← parted rest
  leaf ← quoted parts.1
  depth ← count_of parts.0
  Some (tree leaf depth)

-- the first line, the last and the name of the file
abbrev pub part_of : List ℕ → Option (ℕ × ℕ × List ℕ)
part_of rest = do
  parts ← parted rest
  others ← parted parts.1
  first ← count_of parts.0
  last ← count_of others.0
  Some (first, last, others.1)

-- the piece of that part of a file, if it is said which
abbrev pub part_or_refused : Option (ℕ × ℕ × List ℕ) → Piece
part_or_refused None = Refused
part_or_refused (Some part) = Part part.0 part.1 part.2

-- what a line of that form says
abbrev pub piece_by : Form → List ℕ → List ℕ → List ℕ → Piece
piece_by form.Line key rest line = These (rest ++ 10 ∷ [])
piece_by form.Tree key rest line = these_or_refused (tree_of rest)
piece_by form.Numbered key rest line = Numbered rest
piece_by form.File key rest line = File rest
piece_by form.Part key rest line = part_or_refused (part_of rest)
piece_by form.Quoted key rest line = these_or_refused (quoted line)
piece_by form.Times key rest line = these_or_refused (times_of key rest)

-- the piece that a line is
abbrev pub piece_of : List ℕ → Piece
piece_of line = piece_by (form_by (key_of line) line) (key_of line) (rest_of line) line

-- ---- the words of a text

-- a word stands in a text behind white space, and white space or nothing behind it
pub record IsFirstWord (text word rest : List ℕ) : Type 0 where
  pub gap : List ℕ
  pub is : text ≡ gap ++ (word ++ rest)
  pub some : 0 < length word
  pub blank : NoCharPasses is_not_whitespace gap
  pub whole : NoCharPasses is_whitespace word
  pub more : List ℕ
  pub ends : EmptyOrStartsWithPassing is_whitespace rest more

-- the first words of a text are these, and the rest is what stands behind them
abbrev pub HaveWords : List ℕ → List (List ℕ) → List ℕ → Type 0
HaveWords text [] rest = text ≡ rest
HaveWords text (word ∷ words) rest = (more : List ℕ) × IsFirstWord text word more × HaveWords more words rest

-- the byte whose number a word writes
abbrev pub byte_of : List ℕ → Option ℕ
byte_of word = number_below (2 ^ 8) word

-- the words of a text are the numbers of these bytes
pub record AreNumbered (text bytes : List ℕ) : Type 0 where
  pub words : List (List ℕ)
  pub rest : List ℕ
  pub begins : HaveWords text words rest
  pub ends : NoCharPasses is_not_whitespace rest
  pub numbers : map byte_of words ≡ map Some bytes

-- a word of a text is no number of a byte
pub record HasOtherWord (text : List ℕ) : Type 0 where
  pub words : List (List ℕ)
  pub word : List ℕ
  pub rest : List ℕ
  pub begins : HaveWords text (words ++ word ∷ []) rest
  pub other : byte_of word ≡ None

-- ---- what is added to a text, and what is refused

-- the bytes are what the piece says, where the files may hold anything
abbrev pub IsSaid : Piece → List ℕ → Type 0
IsSaid Refused bytes = ⊥
IsSaid (These said) bytes = bytes ≡ said
IsSaid (Numbered text) bytes = AreNumbered text bytes
IsSaid (File name) bytes = Unit {0}
IsSaid (Part first last name) bytes = (held : List ℕ) × (bytes ≡ lines_between first last held)

pub record Adds (piece : Piece) (old new : List ℕ) : Type 0 where
  pub bytes : List ℕ
  pub is : new ≡ old ++ bytes
  pub said : IsSaid piece bytes

-- no text has the piece
abbrev pub IsRefused : Piece → Type 0
IsRefused Refused = Unit {0}
IsRefused (Numbered text) = HasOtherWord text
IsRefused _ = ⊥

-- the piece stands in a file
abbrev pub IsOfFile : Piece → Type 0
IsOfFile (File name) = Unit {0}
IsOfFile (Part first last name) = Unit {0}
IsOfFile _ = ⊥

-- a line is refused by its number and for what it says, and a file fails only where the piece has one
abbrev pub IsFault : Piece → ℕ → ExampleFail → Type 0
IsFault piece number fail.Memory = Unit {0}
IsFault piece number fail.Device = IsOfFile piece
IsFault piece number (fail.Line line) = (line ≡ number) × IsRefused piece

-- the old bytes stand in front
pub record IsLonger (old new : List ℕ) : Type 0 where
  pub bytes : List ℕ
  pub is : new ≡ old ++ bytes
