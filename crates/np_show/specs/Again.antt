-- A text that is read as the tree that it shows (docs/LANGUAGE.md, "Canonical text").
use Rattle.std.specs.Prelude.{◌≡◌, ℕ, List}
use Rattle.np_lex.specs.declared.token.Token.{Token}
use Rattle.np_lex.specs.Tokens.{Lexes, AreTokens}
use Rattle.np_tree.specs.declared.tree.Tree.{Tree}
use Rattle.np_tree.specs.Grammar.{IsProgram}
use Rattle.np_tree.specs.Erased.{erased}

-- the text has tokens, and no others, and they are this tree, but for offsets, no deeper than this
pub record Again (depth : ℕ) (text : List ℕ) (tree : Tree) : Type 0 where
  pub tokens : List Token
  pub read : Tree
  pub lexes : Lexes 0 text tokens
  pub only_tokens : (others : List Token) → Lexes 0 text others → others ≡ tokens
  pub is : IsProgram depth tokens read
  pub same : erased read ≡ erased tree

-- wherever the grammar gives the tree to a list of tokens, at any depth, it gives it to those of the text at that depth
abbrev pub ReadsBack : List ℕ → Tree → Type 0
ReadsBack text tree = (depth : ℕ) (tokens : List Token) → AreTokens tokens → IsProgram depth tokens tree → Again depth text tree
