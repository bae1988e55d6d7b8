-- Which refusal a source has that is no tokens (docs/LANGUAGE.md, "Tokens").
use Rattle.std.specs.Prelude.{◌≡◌, ℕ, ◌==◌, if◌then◌else◌, List, [], ◌∷◌, drop}
use Rattle.std.specs.Char.{is_ascii_digit}
use Rattle.np_lex.specs.declared.fail.LexFail.{LexFail}
use Rattle.np_lex.specs.declared.fail.LexFail.TheVariants as fail
use Rattle.np_lex.specs.Tokens.{Stuck}

-- the refusal at this offset, where these bytes stand
abbrev pub refusal : ℕ → List ℕ → LexFail
refusal place [] = fail.BadChar place
refusal place (byte ∷ rest) = if byte == 34 then fail.BadString place
    else (if is_ascii_digit byte then fail.BigNumber place else fail.BadChar place)

-- the first place of the source where no token begins has this refusal
pub record IsRefused (source : List ℕ) (e : LexFail) : Type 0 where
  pub place : ℕ
  pub stuck : Stuck 0 source place
  pub is : e ≡ refusal place (drop place source)
