-- How programs are read, from left to right (docs/LANGUAGE.md, "Grammar" and "Depth").
use Rattle.std.specs.Prelude.{ℕ, Bool, true, false, List, [], ◌∷◌, ◌++◌, Ok, Err}
use Rattle.np_lex.specs.declared.token.Key.TheVariants as key
use Rattle.np_lex.specs.declared.token.Sign.TheVariants as sign
use Rattle.np_lex.specs.declared.token.Token.{Token}
use Rattle.np_lex.specs.declared.token.What.{What}
use Rattle.np_lex.specs.declared.token.What.TheVariants as what
use Rattle.np_tree.specs.declared.tree.Ident.{Ident}
use Rattle.np_tree.specs.declared.tree.Tree.{Tree}
use Rattle.np_tree.specs.Grammar.{ident}
use Rattle.np_parse.specs.declared.fail.ParseFail.TheVariants as fail
use Rattle.np_parse.specs.Input.{Outcome, Parser, ◌>>=◌, ◌>>◌, pure, syntax, name, expect_sign, expect_word, expect_end}
use Rattle.np_parse.specs.Read.Processes.{proc}

abbrev pub ends : What → Bool
ends (what.Sign sign.Semi) = true
ends _ = false

-- at a token: the sites with this name and those that follow, or the sites so far
abbrev pub site_by : (List Ident → Outcome (List Ident)) → List Ident → Token → List Token → What → Outcome (List Ident)
site_by again found t ts (what.Ident text) = again (found ++ ident t.at text ∷ [])
site_by again found t ts (what.Sign sign.Semi) = Ok (found, ts)
site_by again found t ts _ = Err (syntax (t ∷ ts), t ∷ ts)

-- the names of the sites from here on, and the sign behind them
unfoldable pub sites : List Ident → Parser (List Ident)
sites found [] = Err (fail.Syntax 0, [])
sites found (t ∷ ts) = site_by (λ more. sites more ts) found t ts t.what

-- from `sites` to the `=` before main's process
unfoldable pub program_head : Parser (List Ident × Ident)
program_head = do
  expect_word key.Sites
  first ← name
  found ← sites (first ∷ [])
  expect_word key.Main
  expect_word key.At
  at ← name
  expect_sign sign.Equals
  pure (found, at)

-- a program whose processes, expressions, patterns and types are so deep at most
unfoldable pub program : ℕ → Parser Tree
program levels = do
  head ← program_head
  main ← proc levels levels
  expect_end
  pure (record { sites = head.0; at = head.1; main = main.0 })
