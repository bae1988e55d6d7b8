-- The token at the front of bytes, as it is read from left to right.
use Rattle.std.specs.Prelude.{ℕ, pos, Bool, ◌&&◌, ◌||◌, nat_le, ◌==◌, if◌then◌else◌, List, [], ◌∷◌, length, take, Option, Some, None}
use Rattle.std.specs.Char.{is_ascii_digit}
use Rattle.std.specs.List.{prefix_len, find}
use Rattle.std.specs.Str.{bytes_eq}
use Rattle.np_syntax.specs.Numerals.{value_within}
use Rattle.np_syntax.specs.declared.limits.TheConstants.{LARGEST_INTEGER, LONGEST_NAME}
use Rattle.np_lex.specs.declared.token.Key.{Key}
use Rattle.np_lex.specs.declared.token.Sign.{Sign}
use Rattle.np_lex.specs.declared.token.TheConstants.{KEYS, SIGNS}
use Rattle.np_lex.specs.declared.token.What.{What}
use Rattle.np_lex.specs.declared.token.What.TheVariants as what
use Rattle.np_lex.specs.Tokens.{is_letter, goes_on, key_text, sign_text}
use Rattle.np_lex.specs.Strings.{string}

-- the token that is so long, if there is one
abbrev pub sized : ℕ → Option What → Option (ℕ × What)
sized len None = None
sized len (Some w) = Some (len, w)

abbrev pub key_of : List ℕ → Option Key
key_of text = find (λ k. bytes_eq (key_text k) text) KEYS

abbrev pub word_by : Option Key → List ℕ → Option What
word_by (Some k) text = Some (what.Word k)
word_by None text = if nat_le (length text) LONGEST_NAME then Some (what.Ident text) else None

-- the keyword or the name that a word is
unfoldable pub word_kind : List ℕ → Option What
word_kind text = word_by (key_of text) text

-- the length of the `0` or of the digits at the front
abbrev pub number_len : List ℕ → ℕ
number_len [] = 0
number_len (byte ∷ rest) = if byte == 48 then 1 else prefix_len is_ascii_digit (byte ∷ rest)

abbrev pub bounded : List ℕ → Option ℕ
bounded = value_within LARGEST_INTEGER

abbrev pub numbered : Option ℕ → Option What
numbered None = None
numbered (Some n) = Some (what.Number (pos n))

unfoldable pub number_kind : List ℕ → Option What
number_kind digits = numbered (bounded digits)

-- the two signs of two bytes
abbrev pub is_pair : ℕ → ℕ → Bool
is_pair first second = (first == 45 && second == 62) || (first == 61 && second == 61)

-- the length of the sign at the front, if there is one
abbrev pub sign_len : List ℕ → ℕ
sign_len [] = 0
sign_len (first ∷ []) = 1
sign_len (first ∷ second ∷ rest) = if is_pair first second then 2 else 1

abbrev pub sign_of : List ℕ → Option Sign
sign_of text = find (λ s. bytes_eq (sign_text s) text) SIGNS

abbrev pub signed : Option Sign → Option What
signed None = None
signed (Some s) = Some (what.Sign s)

unfoldable pub sign_kind : List ℕ → Option What
sign_kind text = signed (sign_of text)

abbrev pub front : (List ℕ → Option What) → ℕ → List ℕ → Option (ℕ × What)
front kind len bytes = sized len (kind (take len bytes))

-- the token at the front, with its length
unfoldable pub first_token : List ℕ → Option (ℕ × What)
first_token [] = None
first_token (byte ∷ rest) =
    if byte == 34 then string rest
    else (if is_letter byte then front word_kind (prefix_len goes_on (byte ∷ rest)) (byte ∷ rest)
    else (if is_ascii_digit byte then front number_kind (number_len (byte ∷ rest)) (byte ∷ rest)
    else front sign_kind (sign_len (byte ∷ rest)) (byte ∷ rest)))
