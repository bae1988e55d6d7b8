-- Which bytes are which tokens (docs/LANGUAGE.md, "Tokens").
use Rattle.std.specs.Prelude.{◌≡◌, ◌≢◌, ℕ, pos, ◌+◌, ◌<◌, ◌≤◌, Bool, true, ◌&&◌, ◌||◌, not, nat_le, ◌==◌, if◌then◌else◌}
use Rattle.std.specs.Prelude.{List, [], ◌∷◌, ◌++◌, length, drop, codes}
use Rattle.std.specs.Char.{is_ascii_digit}
use Rattle.std.specs.List.{prefix_len}
use Rattle.np_syntax.specs.Escapes.{IsEscape}
use Rattle.np_syntax.specs.Numerals.{value}
use Rattle.np_syntax.specs.declared.limits.TheConstants.{LARGEST_INTEGER, LONGEST_NAME, LONGEST_STRING}
use Rattle.np_lex.specs.declared.token.Key.{Key}
use Rattle.np_lex.specs.declared.token.Key.TheVariants as keys
use Rattle.np_lex.specs.declared.token.Sign.{Sign}
use Rattle.np_lex.specs.declared.token.Sign.TheVariants as signs
use Rattle.np_lex.specs.declared.token.Token.{Token}
use Rattle.np_lex.specs.declared.token.What.{What}
use Rattle.np_lex.specs.declared.token.What.TheVariants as what

-- ---- tokens with their places

-- a token that begins and ends at these offsets
abbrev pub token : ℕ → ℕ → What → Token
token at end w = record { at = at; end = end; what = w }

abbrev pub sign_at : ℕ → ℕ → Sign → Token
sign_at at end s = token at end (what.Sign s)

abbrev pub word_at : ℕ → ℕ → Key → Token
word_at at end k = token at end (what.Word k)

abbrev pub name_at : ℕ → ℕ → List ℕ → Token
name_at at end text = token at end (what.Ident text)

-- ---- bytes

-- `A` to `Z` and `a` to `z`
abbrev pub is_letter : ℕ → Bool
is_letter byte = (nat_le 65 byte && nat_le byte 90) || (nat_le 97 byte && nat_le byte 122)

-- letters, digits, `_` and `'`
abbrev pub goes_on : ℕ → Bool
goes_on byte = is_letter byte || is_ascii_digit byte || byte == 95 || byte == 39

-- a byte that stands for itself in a string: any from 32 on but the double quote and the backslash
abbrev pub is_plain : ℕ → Bool
is_plain byte = nat_le 32 byte && nat_le byte 255 && not (byte == 34) && not (byte == 92)

-- a space, a tab, a carriage return or a line feed
abbrev pub is_blank : ℕ → Bool
is_blank byte = byte == 32 || byte == 9 || byte == 13 || byte == 10

-- any byte but the line feed
abbrev pub in_line : ℕ → Bool
in_line byte = not (byte == 10)

-- each of the bytes passes
abbrev pub Each : (ℕ → Bool) → List ℕ → Type 0
Each test [] = Unit {0}
Each test (byte ∷ bytes) = (test byte ≡ true) × Each test bytes

-- ---- keywords and signs

abbrev pub key_text : Key → List ℕ
key_text keys.Sites = codes "sites"
key_text keys.Main = codes "main"
key_text keys.At = codes "at"
key_text keys.New = codes "new"
key_text keys.In = codes "in"
key_text keys.AgentWord = codes "agent"
key_text keys.Migrate = codes "migrate"
key_text keys.To = codes "to"
key_text keys.IfLocal = codes "iflocal"
key_text keys.Then = codes "then"
key_text keys.Else = codes "else"
key_text keys.If = codes "if"
key_text keys.Let = codes "let"
key_text keys.Print = codes "print"
key_text keys.True = codes "true"
key_text keys.False = codes "false"
key_text keys.IntType = codes "Int"
key_text keys.BoolType = codes "Bool"
key_text keys.StringType = codes "String"
key_text keys.SiteType = codes "Site"
key_text keys.AgentType = codes "Agent"

abbrev pub sign_text : Sign → List ℕ
sign_text signs.Semi = codes ";"
sign_text signs.Equals = codes "="
sign_text signs.RoundOpen = codes "("
sign_text signs.RoundClose = codes ")"
sign_text signs.Bar = codes "|"
sign_text signs.Colon = codes ":"
sign_text signs.Caret = codes "^"
sign_text signs.Query = codes "?"
sign_text signs.Bang = codes "!"
sign_text signs.Star = codes "*"
sign_text signs.Arrow = codes "->"
sign_text signs.Less = codes "<"
sign_text signs.Greater = codes ">"
sign_text signs.At = codes "@"
sign_text signs.SquareOpen = codes "["
sign_text signs.SquareClose = codes "]"
sign_text signs.Plus = codes "+"
sign_text signs.Minus = codes "-"
sign_text signs.Same = codes "=="
sign_text signs.Underscore = codes "_"

-- ---- one token

-- the bytes that stand between the quotes of a string, and the text that they write: plain bytes and escapes
pub data IsBody : List ℕ → List ℕ → Type 0 where
  nothing : IsBody [] []
  plain : {byte : ℕ} {bytes text : List ℕ} → is_plain byte ≡ true → IsBody bytes text → IsBody (byte ∷ bytes) (byte ∷ text)
  escape : {byte letter : ℕ} {bytes text : List ℕ} → IsEscape byte letter → IsBody bytes text → IsBody (92 ∷ letter ∷ bytes) (byte ∷ text)

-- the forms of tokens, with no limit: words, `0` alone, other digits that begin with no `0`, strings and signs
pub data IsForm : List ℕ → Type 0 where
  word : {byte : ℕ} {bytes : List ℕ} → is_letter byte ≡ true → Each goes_on bytes → IsForm (byte ∷ bytes)
  nought : IsForm (48 ∷ [])
  number : {byte : ℕ} {bytes : List ℕ} → is_ascii_digit byte ≡ true → byte ≢ 48 → Each is_ascii_digit bytes → IsForm (byte ∷ bytes)
  string : {bytes text : List ℕ} → IsBody bytes text → IsForm (34 ∷ (bytes ++ 34 ∷ []))
  sign : (s : Sign) → IsForm (sign_text s)

-- the text is this token: it is of a form, and within the limit of its form
pub data IsToken : List ℕ → What → Type 0 where
  key : (k : Key) → IsToken (key_text k) (what.Word k)
  name : {byte : ℕ} {bytes : List ℕ} → is_letter byte ≡ true → Each goes_on bytes → length (byte ∷ bytes) ≤ LONGEST_NAME
      → ((k : Key) → key_text k ≢ byte ∷ bytes)
      → IsToken (byte ∷ bytes) (what.Ident (byte ∷ bytes))
  nought : IsToken (48 ∷ []) (what.Number (pos 0))
  number : {byte n : ℕ} {bytes : List ℕ} → is_ascii_digit byte ≡ true → byte ≢ 48 → Each is_ascii_digit bytes → value (byte ∷ bytes) ≡ n
      → n ≤ LARGEST_INTEGER
      → IsToken (byte ∷ bytes) (what.Number (pos n))
  string : {bytes text : List ℕ} → IsBody bytes text → length text ≤ LONGEST_STRING → IsToken (34 ∷ (bytes ++ 34 ∷ [])) (what.Str text)
  sign : (s : Sign) → IsToken (sign_text s) (what.Sign s)

-- Behind the text stand these bytes, and no longer front of both is of a form. A form that is over its limit is a form
-- here, so that no token begins where the longest front is over its limit.
abbrev pub IsLongest : List ℕ → List ℕ → Type 0
IsLongest text rest = (more after : List ℕ) → rest ≡ more ++ after → IsForm (text ++ more) → more ≡ []

-- the bytes begin with this token, which is so long
pub record Begins (bytes : List ℕ) (len : ℕ) (w : What) : Type 0 where
  pub text : List ℕ
  pub rest : List ℕ
  pub is : bytes ≡ text ++ rest
  pub counts : length text ≡ len
  pub means : IsToken text w
  pub longest : IsLongest text rest

-- ---- blanks and comments, which are looked for before a token

-- behind a `-`: the length of the comment, if it is one. It runs from `--` up to the next line feed or the end.
abbrev pub comment_len : List ℕ → ℕ
comment_len [] = 0
comment_len (byte ∷ rest) = if byte == 45 then 2 + prefix_len in_line rest else 0

-- the length of the blank or the comment at the front, or 0 where there is none
abbrev pub skip_len : List ℕ → ℕ
skip_len [] = 0
skip_len (byte ∷ rest) = if is_blank byte then 1 else (if byte == 45 then comment_len rest else 0)

-- ---- all tokens of a source

-- the bytes, of which the first stands at this offset, are these tokens, with blanks and comments between them
pub data Lexes : ℕ → List ℕ → List Token → Type 0 where
  end : {at : ℕ} → Lexes at [] (token at at what.End ∷ [])
  skip : {at : ℕ} {bytes : List ℕ} {tokens : List Token} → 0 < skip_len bytes
      → Lexes (at + skip_len bytes) (drop (skip_len bytes) bytes) tokens → Lexes at bytes tokens
  next : {at : ℕ} {bytes : List ℕ} {tokens : List Token} {w : What} (len : ℕ) → skip_len bytes ≡ 0 → Begins bytes len w
      → Lexes (at + len) (drop len bytes) tokens → Lexes at bytes (token at (at + len) w ∷ tokens)

-- no token, blank or comment begins at the last of these offsets, and the bytes before it are tokens, blanks and comments
pub data Stuck : ℕ → List ℕ → ℕ → Type 0 where
  here : {at byte : ℕ} {rest : List ℕ} → skip_len (byte ∷ rest) ≡ 0 → ((len : ℕ) (w : What) → Begins (byte ∷ rest) len w → ⊥)
      → Stuck at (byte ∷ rest) at
  skip : {at place : ℕ} {bytes : List ℕ} → 0 < skip_len bytes → Stuck (at + skip_len bytes) (drop (skip_len bytes) bytes) place
      → Stuck at bytes place
  next : {at place : ℕ} {bytes : List ℕ} {w : What} (len : ℕ) → skip_len bytes ≡ 0 → Begins bytes len w
      → Stuck (at + len) (drop len bytes) place → Stuck at bytes place

-- ---- lists of tokens

-- some bytes are this token
pub record IsLegal (w : What) : Type 0 where
  pub text : List ℕ
  pub means : IsToken text w

abbrev pub AllLegal : List Token → Type 0
AllLegal [] = Unit {0}
AllLegal (t ∷ tokens) = IsLegal t.what × AllLegal tokens

abbrev pub NoEnd : List Token → Type 0
NoEnd [] = Unit {0}
NoEnd (t ∷ tokens) = (t.what ≢ what.End) × NoEnd tokens

-- the last token is the end of the source, no other is, and each other is a token of some bytes
pub record AreTokens (tokens : List Token) : Type 0 where
  pub front : List Token
  pub end : ℕ
  pub is : tokens ≡ front ++ token end end what.End ∷ []
  pub inner : NoEnd front
  pub legal : AllLegal front
