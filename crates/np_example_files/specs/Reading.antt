-- What a file of examples says, line by line (crates/np_examples/data/README.md, "The format").
use Rattle.std.specs.Prelude.{◌≡◌, ℕ, ◌+◌, ◌⊎◌, min, Bool, true, false, ◌||◌, ◌==◌, nat_eq, if◌then◌else◌, List, [], ◌∷◌, ◌++◌, length}
use Rattle.std.specs.Prelude.{drop, slice_index, codes, Option, Some, None}
use Rattle.std.specs.Bool.{MatchBool}
use Rattle.std.specs.List.{starts_with}
use Rattle.std.specs.Str.Lines.{lines}
use Rattle.np_syntax.specs.Options.{◌>>=◌}
use Rattle.np_syntax.specs.declared.limits.TheConstants.{LARGEST_NUMBER}
use Rattle.np_example_files.specs.declared.fail.ExampleFail.{ExampleFail}
use Rattle.np_example_files.specs.declared.fail.ExampleFail.TheVariants as fail
use Rattle.np_example_files.specs.Examples.{Said, begun, followed, keyed}
use Rattle.np_example_files.specs.Pieces.{Adds, IsOfFile, IsRefused, Piece, is_piece, key_of, piece_of, rest_of}

-- ---- a line of an example

-- what an example says after a line with a key, if it is one that an example has
abbrev pub said_by_key : List ℕ → Said → Option Said
said_by_key line s = keyed (key_of line) >>= (λ key. followed key (rest_of line) s)

-- the piece is added to the last text
pub record AddsToLast (piece : Piece) (old new : List (List ℕ × List ℕ)) : Type 0 where
  pub front : List (List ℕ × List ℕ)
  pub name : List ℕ
  pub before : List ℕ
  pub after : List ℕ
  pub was : old ≡ front ++ (name, before) ∷ []
  pub is : new ≡ front ++ (name, after) ∷ []
  pub adds : Adds piece before after

pub record SaysPiece (piece : Piece) (old new : Said) : Type 0 where
  pub texts : List (List ℕ × List ℕ)
  pub adds : AddsToLast piece old.texts texts
  pub is : new ≡ record old { texts = texts }

-- the new is what the example says after the line
abbrev pub Says : List ℕ → Said → Said → Type 0
Says line old new = MatchBool (is_piece line) (SaysPiece (piece_of line) old new) (said_by_key line old ≡ Some new)

-- a piece before any text, or one that no text has
abbrev pub IsNoPiece : Piece → List (List ℕ × List ℕ) → Type 0
IsNoPiece piece texts = (texts ≡ []) ⊎ IsRefused piece

-- a line that the example does not have
abbrev pub IsNoLineOf : List ℕ → Said → Type 0
IsNoLineOf line s = MatchBool (is_piece line) (IsNoPiece (piece_of line) s.texts) (said_by_key line s ≡ None)

-- a line is refused by its number and for what it says, and a file fails only where the line has one
abbrev pub IsPieceFault : ℕ → Piece → List (List ℕ × List ℕ) → ExampleFail → Type 0
IsPieceFault number piece texts fail.Memory = Unit {0}
IsPieceFault number piece texts fail.Device = IsOfFile piece
IsPieceFault number piece texts (fail.Line line) = (line ≡ number) × IsNoPiece piece texts

-- the same of a line of an example
abbrev pub IsFaultOf : ℕ → List ℕ → Said → ExampleFail → Type 0
IsFaultOf number line s fail.Memory = Unit {0}
IsFaultOf number line s fail.Device = IsOfFile (piece_of line)
IsFaultOf number line s (fail.Line refused) = (refused ≡ number) × IsNoLineOf line s

-- ---- a line of a file

-- the key with which an example begins, and its blank
abbrev pub example_word : List ℕ
example_word = codes "example "

-- the title of the example that begins at the line
abbrev pub title_of : List ℕ → Option (List ℕ)
title_of line = if starts_with nat_eq line example_word then Some (drop (length example_word) line) else None

-- an empty line, and one that says something to the reader
abbrev pub is_silent : List ℕ → Bool
is_silent line = length line == 0 || slice_index line 0 == 35

-- what examples say after a line of that number
pub data Reads (number : ℕ) (line : List ℕ) : List Said → List Said → Type 0 where
  begins : (examples : List Said) (title : List ℕ) → title_of line ≡ Some title
      → Reads number line examples (examples ++ begun title number ∷ [])
  passes : (examples : List Said) → title_of line ≡ None → is_silent line ≡ true → Reads number line examples examples
  says : (front : List Said) (old new : Said) → title_of line ≡ None → is_silent line ≡ false → Says line old new
      → Reads number line (front ++ old ∷ []) (front ++ new ∷ [])

-- a line before any example, or one that the last example does not have
pub data IsNoLine (line : List ℕ) : List Said → Type 0 where
  before : title_of line ≡ None → is_silent line ≡ false → IsNoLine line []
  within : (front : List Said) (last : Said) → title_of line ≡ None → is_silent line ≡ false → IsNoLineOf line last
      → IsNoLine line (front ++ last ∷ [])

-- the same of a line of a file
abbrev pub IsFaultAt : ℕ → List ℕ → List Said → ExampleFail → Type 0
IsFaultAt number line examples fail.Memory = Unit {0}
IsFaultAt number line examples fail.Device = IsOfFile (piece_of line)
IsFaultAt number line examples (fail.Line refused) = (refused ≡ number) × IsNoLine line examples

-- ---- a file

-- the number of the line behind these, counted from 1, and from the largest number on no further
abbrev pub number_behind : List (List ℕ) → ℕ
number_behind lines = min (length lines + 1) LARGEST_NUMBER

-- what the examples of these lines say
pub data AreRead : List (List ℕ) → List Said → Type 0 where
  none : AreRead [] []
  more : (front : List (List ℕ)) (line : List ℕ) (old new : List Said) → AreRead front old → Reads (number_behind front) line old new
      → AreRead (front ++ line ∷ []) new

-- the first line of a text at which the reading fails, and why
pub record FailsAtLine (text : List ℕ) (failing : ExampleFail) : Type 0 where
  pub front : List (List ℕ)
  pub line : List ℕ
  pub behind : List (List ℕ)
  pub is : lines text ≡ front ++ line ∷ behind
  pub examples : List Said
  pub read : AreRead front examples
  pub fault : IsFaultAt (number_behind front) line examples failing
