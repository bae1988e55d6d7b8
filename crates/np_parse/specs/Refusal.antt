-- Which refusal it is, and where (docs/LANGUAGE.md, "Refusals").
use Rattle.std.specs.Prelude.{◌≡◌, ℕ, List, [], ◌∷◌, ◌++◌}
use Rattle.np_lex.specs.declared.token.Token.{Token}
use Rattle.np_tree.specs.declared.tree.Tree.{Tree}
use Rattle.np_tree.specs.Grammar.{IsProgram}
use Rattle.np_parse.specs.declared.fail.ParseFail.{ParseFail}
use Rattle.np_parse.specs.declared.fail.ParseFail.TheVariants as fail

-- the tokens begin a program so deep at most
abbrev pub Begins : ℕ → List Token → Type 0
Begins depth pre = (more : List Token) × (x : Tree) × IsProgram depth (pre ++ more) x

-- why the tokens up to the last that is given begin no program of the depth
abbrev pub Why : List Token → Token → ParseFail → Type 0
Why pre t fail.Memory = ⊥
Why pre t (fail.Syntax at) = (at ≡ t.at) × ((depth : ℕ) → Begins depth (pre ++ t ∷ []) → ⊥)
Why pre t (fail.TooDeep at) = (at ≡ t.at) × (depth : ℕ) × Begins depth (pre ++ t ∷ [])

-- the shortest beginning of the tokens that begins no program of the depth is `pre` with `t`
pub record Refusal (depth : ℕ) (ts : List Token) (f : ParseFail) : Type 0 where
  pub pre : List Token
  pub t : Token
  pub rest : List Token
  pub is : ts ≡ pre ++ t ∷ rest
  pub shorter : Begins depth pre
  pub none : Begins depth (pre ++ t ∷ []) → ⊥
  pub why : Why pre t f
