-- The bytes of a source by its lines and words (docs/PICTURES.md, "Pages").
use Rattle.std.specs.Prelude.{ℕ, List, [], ◌∷◌, ◌++◌}
use Rattle.std.specs.List.{flat_map}
use Rattle.source_words.specs.declared.word.Line.{Line}
use Rattle.source_words.specs.declared.word.Word.{Word}

abbrev pub line_text : Line → List ℕ
line_text line = flat_map (λ (word : Word). word.text) line.words

-- lines, each with a line feed behind it
abbrev pub ended : List Line → List ℕ
ended lines = flat_map (λ line. line_text line ++ 10 ∷ []) lines

-- the bytes of a source: its lines, with a line feed between two
abbrev pub source_of : List Line → List ℕ
source_of [] = []
source_of (line ∷ []) = line_text line
source_of (line ∷ next ∷ lines) = line_text line ++ 10 ∷ source_of (next ∷ lines)
