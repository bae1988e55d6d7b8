-- What the bytes of a source are, and what is wrong with them, as far as it is read (docs/LANGUAGE.md, "Tokens", "Grammar", "Scope"
-- and "Types").
use Rattle.std.specs.Prelude.{◌≡◌, ℕ, ◌⊎◌, List, [], ◌∷◌, Ok, Err}
use Rattle.np_syntax.specs.declared.program.Program.{Program}
use Rattle.np_syntax.specs.declared.limits.TheConstants.{DEEPEST}
use Rattle.np_lex.specs.declared.fail.LexFail.{LexFail}
use Rattle.np_lex.specs.declared.fail.LexFail.TheVariants as lex
use Rattle.np_lex.specs.declared.token.Token.{Token}
use Rattle.np_lex.specs.Tokens.{Lexes}
use Rattle.np_lex.specs.Refusals as tokens
use Rattle.np_tree.specs.declared.tree.Tree.{Tree}
use Rattle.np_tree.specs.Grammar.{IsProgram}
use Rattle.np_parse.specs.declared.fail.ParseFail.{ParseFail}
use Rattle.np_parse.specs.declared.fail.ParseFail.TheVariants as parse
use Rattle.np_parse.specs.Refusal as grammar
use Rattle.np_scope.specs.declared.fail.ScopeFail.{ScopeFail}
use Rattle.np_scope.specs.declared.fail.ScopeFail.TheVariants as scope
use Rattle.np_scope.specs.Resolved.{resolved}
use Rattle.np_types.specs.declared.fault.TypeFault.{TypeFault as FirstFault}
use Rattle.np_check.specs.Faults.{faults}
use Rattle.np_verdict.specs.declared.refusal.Refusal.{Refusal}
use Rattle.np_verdict.specs.declared.refusal.Refusal.TheVariants.{Memory, BadChar, BadString, BigNumber, Syntax, TooDeep, Unbound}
use Rattle.np_verdict.specs.declared.refusal.Refusal.TheVariants.{SiteTwice, TooManySites, NotASite, TypeFault}

-- the refusals of tokens, of the grammar and of scope, as the program has them

abbrev pub of_tokens : LexFail → Refusal
of_tokens lex.Memory = Memory
of_tokens (lex.BadChar at) = BadChar at
of_tokens (lex.BadString at) = BadString at
of_tokens (lex.BigNumber at) = BigNumber at

abbrev pub of_grammar : ParseFail → Refusal
of_grammar parse.Memory = Memory
of_grammar (parse.Syntax at) = Syntax at
of_grammar (parse.TooDeep at) = TooDeep at

abbrev pub of_scope : ScopeFail → Refusal
of_scope scope.Memory = Memory
of_scope (scope.Unbound at) = Unbound at
of_scope (scope.SiteTwice at) = SiteTwice at
of_scope (scope.TooManySites at) = TooManySites at
of_scope (scope.NotASite at) = NotASite at

-- ---- what is accepted

-- the bytes have these tokens, and the grammar gives them this tree
pub record HasTree (bytes : List ℕ) (tree : Tree) : Type 0 where
  pub tokens : List Token
  pub lexed : Lexes 0 bytes tokens
  pub parsed : IsProgram DEEPEST tokens tree

-- the grammar gives the tokens a tree, and with its names resolved this is the program
pub record HasProgram (tokens : List Token) (program : Program) : Type 0 where
  pub tree : Tree
  pub parsed : IsProgram DEEPEST tokens tree
  pub scoped : resolved tree ≡ Ok program

-- the bytes have tokens, these have a program, and it has no fault of types
pub record IsWellTyped (bytes : List ℕ) (program : Program) : Type 0 where
  pub tokens : List Token
  pub lexed : Lexes 0 bytes tokens
  pub read : HasProgram tokens program
  pub faultless : faults program ≡ []

-- how far a source is read: to its tree, or to its program
pub data Stage : Type 0 where
  tree : Stage
  program : Stage

-- the source is accepted so far
abbrev pub Accepted : Stage → List ℕ → Type 0
Accepted Stage.tree bytes = (tree : Tree) × HasTree bytes tree
Accepted Stage.program bytes = (program : Program) × IsWellTyped bytes program

-- ---- what is refused

-- the bytes are no tokens, from the place of the refusal on
pub record HasNoTokens (bytes : List ℕ) (refusal : Refusal) : Type 0 where
  pub fail : LexFail
  pub is : refusal ≡ of_tokens fail
  pub refused : tokens.IsRefused bytes fail

-- the tokens have no tree, from the place of the refusal on
pub record HasNoTree (ts : List Token) (refusal : Refusal) : Type 0 where
  pub fail : ParseFail
  pub is : refusal ≡ of_grammar fail
  pub refused : grammar.Refusal DEEPEST ts fail

-- a name of the tree, at the place of the refusal, stands for nothing that it could
pub record HasNoProgram (ts : List Token) (refusal : Refusal) : Type 0 where
  pub fail : ScopeFail
  pub is : refusal ≡ of_scope fail
  pub tree : Tree
  pub parsed : IsProgram DEEPEST ts tree
  pub refused : resolved tree ≡ Err fail

-- the program has a fault of types, the first at the place of the refusal
pub record IsIllTyped (ts : List Token) (refusal : Refusal) : Type 0 where
  pub fault : FirstFault
  pub is : refusal ≡ TypeFault fault
  pub program : Program
  pub read : HasProgram ts program
  pub first : faults program ≡ fault ∷ []

-- the tokens have no program that is well typed
abbrev pub IsNoProgram : List Token → Refusal → Type 0
IsNoProgram ts refusal = HasNoTree ts refusal ⊎ HasNoProgram ts refusal ⊎ IsIllTyped ts refusal

-- what is wrong with tokens, as far as they are read
abbrev pub Wrong : Stage → List Token → Refusal → Type 0
Wrong Stage.tree ts refusal = HasNoTree ts refusal
Wrong Stage.program ts refusal = IsNoProgram ts refusal

-- the bytes have tokens, and this is wrong with them
pub record AreWrong (stage : Stage) (bytes : List ℕ) (refusal : Refusal) : Type 0 where
  pub tokens : List Token
  pub lexed : Lexes 0 bytes tokens
  pub wrong : Wrong stage tokens refusal

-- the source is refused so
abbrev pub Faulty : Stage → List ℕ → Refusal → Type 0
Faulty stage bytes refusal = HasNoTokens bytes refusal ⊎ AreWrong stage bytes refusal
