-- Which tokens are wanted at a place of a source (docs/PICTURES.md, "Refusals").
use Rattle.std.specs.Prelude.{◌≡◌, ◌≢◌, ◌⊎◌, ℕ, ◌+◌, List, [], ◌∷◌, ◌++◌, codes, take}
use Rattle.np_syntax.specs.declared.limits.TheConstants.{DEEPEST}
use Rattle.np_lex.specs.Tokens.{Lexes}
use Rattle.np_lex.specs.declared.token.Token.{Token}
use Rattle.np_parse.specs.Refusal.{Refusal}
use Rattle.np_parse.specs.declared.fail.ParseFail.{ParseFail}
use Rattle.np_parse.specs.declared.fail.ParseFail.TheVariants as fails
use Rattle.np_tree.specs.Grammar.{IsProgram}
use Rattle.np_tree.specs.declared.tree.Tree.{Tree}
use Rattle.source_forms.specs.Kinds.{kind_text}
use Rattle.source_forms.specs.declared.kind.Kind.{Kind}

-- the text up to a place, and a token of a kind in a line of its own behind it
abbrev pub with_token : List ℕ → ℕ → Kind → List ℕ
with_token bytes at kind = take at bytes ++ codes "\n" ++ kind_text kind

-- the offset at which tokens are refused
abbrev pub place_of : ParseFail → ℕ
place_of fails.Memory = 0
place_of (fails.Syntax at) = at
place_of (fails.TooDeep at) = at

-- tokens are those of a program
pub record AreProgram (tokens : List Token) : Type 0 where
  pub tree : Tree
  pub is : IsProgram DEEPEST tokens tree

-- tokens are refused elsewhere than at this offset
pub record FailElsewhere (tokens : List Token) (at : ℕ) : Type 0 where
  pub fail : ParseFail
  pub refused : Refusal DEEPEST tokens fail
  pub elsewhere : place_of fail ≢ at

-- tokens are refused at this offset
pub record Stops (tokens : List Token) (at : ℕ) : Type 0 where
  pub fail : ParseFail
  pub refused : Refusal DEEPEST tokens fail
  pub there : place_of fail ≡ at

-- with the token at this offset some program begins
abbrev pub GoesOn : List Token → ℕ → Type 0
GoesOn tokens at = AreProgram tokens ⊎ FailElsewhere tokens at

-- a token of a kind is wanted at a place: with it some program begins
pub record IsWanted (bytes : List ℕ) (at : ℕ) (kind : Kind) : Type 0 where
  pub tokens : List Token
  pub lexed : Lexes 0 (with_token bytes at kind) tokens
  pub goes : GoesOn tokens (at + 1)

-- it stops there
pub record StopsThere (bytes : List ℕ) (at : ℕ) (kind : Kind) : Type 0 where
  pub tokens : List Token
  pub lexed : Lexes 0 (with_token bytes at kind) tokens
  pub stops : Stops tokens (at + 1)

-- it is not wanted: there are no tokens, or they are refused at it
abbrev pub IsUnwanted : List ℕ → ℕ → Kind → Type 0
IsUnwanted bytes at kind = ((tokens : List Token) → Lexes 0 (with_token bytes at kind) tokens → ⊥) ⊎ StopsThere bytes at kind

-- ---- the kinds that are answered

-- a kind is one of these
abbrev pub Has : List Kind → Kind → Type 0
Has [] kind = ⊥
Has (first ∷ kinds) kind = (first ≡ kind) ⊎ Has kinds kind

-- of some kinds just those are chosen that are wanted at a place, in their order
pub data Chosen (bytes : List ℕ) (at : ℕ) : List Kind → List Kind → Type 0 where
  none : Chosen bytes at [] []
  wanted : {kind : Kind} {kinds chosen : List Kind} → IsWanted bytes at kind → Chosen bytes at kinds chosen
      → Chosen bytes at (kind ∷ kinds) (kind ∷ chosen)
  unwanted : {kind : Kind} {kinds chosen : List Kind} → IsUnwanted bytes at kind → Chosen bytes at kinds chosen
      → Chosen bytes at (kind ∷ kinds) chosen

-- these are the kinds that are wanted at a place, and no others: each kind is one of them and wanted, or neither
abbrev pub AreWanted : List ℕ → ℕ → List Kind → Type 0
AreWanted bytes at kinds = (kind : Kind) → (Has kinds kind × IsWanted bytes at kind)
    ⊎ ((Has kinds kind → ⊥) × IsUnwanted bytes at kind)
