-- A text in colours (docs/PICTURES.md, "Refusals").
use Rattle.std.specs.Prelude.{◌≡◌, ℕ, List, [], ◌∷◌, ◌++◌, codes}
use Rattle.std.specs.List.{flat_map}
use Rattle.text_colours.specs.declared.paint.Paint.{Paint}
use Rattle.text_colours.specs.declared.paint.Paint.TheVariants as paints
use Rattle.text_colours.specs.declared.pieces.Piece.{Piece}

-- the text of pieces, in their order
abbrev pub text_of : List Piece → List ℕ
text_of pieces = flat_map (λ (piece : Piece). piece.text) pieces

-- the sequences before a piece and behind it: escape, a bracket, digits, `m`
abbrev pub opening : Paint → List ℕ
opening paints.Plain = []
opening paints.Bold = 27 ∷ codes "[1m"
opening paints.Red = 27 ∷ codes "[31m"
opening paints.Cyan = 27 ∷ codes "[36m"

abbrev pub closing : Paint → List ℕ
closing paints.Plain = []
closing paints.Bold = 27 ∷ codes "[0m"
closing paints.Red = 27 ∷ codes "[0m"
closing paints.Cyan = 27 ∷ codes "[0m"

-- a piece as it is painted
abbrev pub painted : Piece → List ℕ
painted piece = opening piece.paint ++ piece.text ++ closing piece.paint

-- without the sequences, what is written is the text
pub record IsColoured (text written : List ℕ) : Type 0 where
  pub pieces : List Piece
  pub whole : text_of pieces ≡ text
  pub is : written ≡ flat_map painted pieces
