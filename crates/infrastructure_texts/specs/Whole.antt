-- What a table asks of what it is filled in with: so many binders, expressions and processes (docs/TRANSLATION.md, "Translation and daemon").
use Rattle.std.specs.Prelude.{ℕ, zero, suc, ◌+◌, ◌-◌, max, Bool, true, nat_le, ◌&&◌, List, [], ◌∷◌}
use Rattle.infrastructure_texts.specs.declared.notation.Word.{Word}
use Rattle.infrastructure_texts.specs.declared.notation.Word.TheVariants as word
use Rattle.infrastructure_texts.specs.declared.notation.Content.{Content}
use Rattle.infrastructure_texts.specs.declared.notation.Content.TheVariants as content
use Rattle.infrastructure_texts.specs.declared.notation.Names.{Names}
use Rattle.infrastructure_texts.specs.declared.notation.Names.TheVariants as names
use Rattle.infrastructure_texts.specs.declared.notation.Piece.{Piece}
use Rattle.infrastructure_texts.specs.declared.notation.Piece.TheVariants as piece

-- how many binders there have to be
abbrev pub word_binders : Word → ℕ
word_binders (word.Bound i) = i + 1
word_binders _ = 0

abbrev pub content_binders : Content → ℕ
content_binders (content.Just w) = word_binders w
content_binders (content.Pair a b) = max (word_binders a) (word_binders b)
content_binders (content.Letter b c v) = max (word_binders b) (max (word_binders c) (word_binders v))
content_binders (content.With m a l) = max (m + 1) (max (a + 1) (l + 1))
content_binders _ = 0

abbrev pub names_binders : Names → ℕ
names_binders names.Any = 0
names_binders (names.One x) = x + 1
names_binders (names.Two x y) = max (x + 1) (y + 1)

abbrev pub piece_binders : Piece → ℕ
piece_binders (piece.NewLock l) = l + 1
piece_binders (piece.Gives c e) = max (word_binders c) (content_binders e)
piece_binders (piece.Takes c p) = max (word_binders c) (names_binders p)
piece_binders (piece.Serves c p) = max (word_binders c) (names_binders p)
piece_binders (piece.Creates r b) = b + 1
piece_binders (piece.Goes r e) = word_binders e
piece_binders (piece.Meets b c v) = max (word_binders b) (max (word_binders c) (word_binders v))
piece_binders (piece.Sends b t c e) = max (max (word_binders b) (word_binders t)) (max (word_binders c) (content_binders e))
piece_binders (piece.Tells r c e) = max (word_binders c) (content_binders e)
piece_binders (piece.Opens e) = word_binders e
piece_binders (piece.Looks a m l) = max (word_binders a) (max (m + 1) (l + 1))
piece_binders _ = 0

-- how many expressions have to be given
abbrev pub word_given : Word → ℕ
word_given (word.Given i) = i + 1
word_given _ = 0

abbrev pub content_given : Content → ℕ
content_given (content.Just w) = word_given w
content_given (content.Pair a b) = max (word_given a) (word_given b)
content_given (content.Letter b c v) = max (word_given b) (max (word_given c) (word_given v))
content_given _ = 0

abbrev pub piece_given : Piece → ℕ
piece_given (piece.Gives c e) = max (word_given c) (content_given e)
piece_given (piece.Takes c p) = word_given c
piece_given (piece.Serves c p) = word_given c
piece_given (piece.Goes r e) = word_given e
piece_given (piece.Meets b c v) = max (word_given b) (max (word_given c) (word_given v))
piece_given (piece.Sends b t c e) = max (max (word_given b) (word_given t)) (max (word_given c) (content_given e))
piece_given (piece.Tells r c e) = max (word_given c) (content_given e)
piece_given (piece.Opens e) = word_given e
piece_given (piece.Looks a m l) = word_given a
piece_given _ = 0

-- how many processes a piece takes of those behind it, and of those that are put in
abbrev pub taken : Piece → ℕ
taken piece.Both = 2
taken (piece.NewLock l) = 1
taken (piece.Takes c p) = 1
taken (piece.Serves c p) = 1
taken (piece.Creates r b) = 2
taken (piece.Goes r e) = 1
taken (piece.Meets b c v) = 2
taken (piece.Looks a m l) = 2
taken _ = 0

abbrev pub part : Piece → ℕ
part piece.Part = 1
part _ = 0

-- what the pieces of a table ask for
abbrev pub binders_of : List Piece → ℕ
binders_of [] = 0
binders_of (x ∷ xs) = max (piece_binders x) (binders_of xs)

abbrev pub given_of : List Piece → ℕ
given_of [] = 0
given_of (x ∷ xs) = max (piece_given x) (given_of xs)

abbrev pub parts_of : List Piece → ℕ
parts_of [] = 0
parts_of (x ∷ xs) = part x + parts_of xs

-- how many processes stand once the table was read
abbrev pub made_of : List Piece → ℕ
made_of [] = 0
made_of (x ∷ xs) = made_of xs - taken x + 1

-- each piece has the processes that it takes
abbrev pub is_closed : List Piece → Bool
is_closed [] = true
is_closed (x ∷ xs) = nat_le (taken x) (made_of xs) && is_closed xs

-- a process stands at the front, and each piece has what it takes
abbrev pub is_whole : List Piece → Bool
is_whole xs = nat_le 1 (made_of xs) && is_closed xs
