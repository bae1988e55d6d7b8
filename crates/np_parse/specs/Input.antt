-- What a reader of tokens gives, and the steps that every rule is made of (docs/LANGUAGE.md, "Grammar").
use Rattle.std.specs.Prelude.{◌≡◌, ◌≢◌, ℕ, Bool, if◌then◌else◌, List, [], ◌∷◌, Result, Ok, Err}
use denote.Enum.Bare.{sameb}
use Rattle.np_lex.specs.declared.token.Key.{Key}
use Rattle.np_lex.specs.contracts.token.Key as keys
use Rattle.np_lex.specs.declared.token.Sign.{Sign}
use Rattle.np_lex.specs.contracts.token.Sign as signs
use Rattle.np_lex.specs.declared.token.Token.{Token}
use Rattle.np_lex.specs.declared.token.What.{What}
use Rattle.np_lex.specs.declared.token.What.TheVariants as what
use Rattle.np_tree.specs.declared.tree.Ident.{Ident}
use Rattle.np_tree.specs.Grammar.{ident}
use Rattle.np_parse.specs.declared.fail.ParseFail.{ParseFail}
use Rattle.np_parse.specs.declared.fail.ParseFail.TheVariants as fail

-- a value and the tokens after it, or a refusal and the tokens from the refused one on
abbrev pub Outcome : Type 0 → Type 0
Outcome A = Result (A × List Token) (ParseFail × List Token)

abbrev pub Parser : Type 0 → Type 0
Parser A = List Token → Outcome A

abbrev pub and_then : {A B : Type 0} → Outcome A → (A → Parser B) → Outcome B
and_then (Ok p) f = f p.0 p.1
and_then (Err e) f = Err e

infixl 10 ◌>>=◌
abbrev pub ◌>>=◌ : {A B : Type 0} → Parser A → (A → Parser B) → Parser B
p >>= f = λ i. and_then (p i) f

infixl 10 ◌>>◌
abbrev pub ◌>>◌ : {A B : Type 0} → Parser A → Parser B → Parser B
p >> q = p >>= (λ _. q)

abbrev pub pure : {A : Type 0} → A → Parser A
pure a = λ i. Ok (a, i)

-- the offset of the next token
abbrev pub place : List Token → ℕ
place [] = 0
place (t ∷ ts) = t.at

abbrev pub syntax : List Token → ParseFail
syntax i = fail.Syntax (place i)

abbrev pub too_deep : List Token → ParseFail
too_deep i = fail.TooDeep (place i)

-- no program begins so, whatever its depth
abbrev pub refuse : {A : Type 0} → Parser A
refuse = λ i. Err (syntax i, i)

-- only deeper programs begin so
abbrev pub refuse_deep : {A : Type 0} → Parser A
refuse_deep = λ i. Err (too_deep i, i)

unfoldable pub peek : Parser What
peek [] = Err (fail.Syntax 0, [])
peek (t ∷ ts) = Ok (t.what, t ∷ ts)

-- goes past the next token, and gives its offset
unfoldable pub take : Parser ℕ
take [] = Err (fail.Syntax 0, [])
take (t ∷ ts) = Ok (t.at, ts)

-- where no level is left: what would begin a part is too deep
abbrev pub nothing_by : {A : Type 0} → (What → Bool) → What → Parser A
nothing_by begins w = if begins w then refuse_deep else refuse

unfoldable pub nothing : {A : Type 0} → (What → Bool) → Parser A
nothing begins = peek >>= nothing_by begins

-- ---- single tokens

abbrev pub sign_by : Sign → What → Parser ℕ
sign_by wanted (what.Sign s) = if sameb signs.the_type s wanted then take else refuse
sign_by wanted _ = refuse

unfoldable pub expect_sign : Sign → Parser ℕ
expect_sign wanted = peek >>= sign_by wanted

abbrev pub word_by : Key → What → Parser ℕ
word_by wanted (what.Word k) = if sameb keys.the_type k wanted then take else refuse
word_by wanted _ = refuse

unfoldable pub expect_word : Key → Parser ℕ
expect_word wanted = peek >>= word_by wanted

abbrev pub name_by : What → Parser Ident
name_by (what.Ident text) = take >>= (λ at. pure (ident at text))
name_by _ = refuse

unfoldable pub name : Parser Ident
name = peek >>= name_by

abbrev pub end_by : What → Parser ℕ
end_by what.End = take
end_by _ = refuse

unfoldable pub expect_end : Parser ℕ
expect_end = peek >>= end_by

-- what a function that reads ensures: the reader's outcome, unless memory runs out
abbrev pub Reads : {A : Type 0} → Outcome A → Result A ParseFail → List Token → Type 0
Reads outcome (Ok a) new = outcome ≡ Ok (a, new)
Reads outcome (Err e) new = e ≢ fail.Memory → outcome ≡ Err (e, new)
