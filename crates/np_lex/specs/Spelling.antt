-- How each token is written (docs/LANGUAGE.md, "Tokens"): it has one text only.
use Rattle.std.specs.Prelude.{ℕ, List, []}
use Rattle.std.specs.Fmt.{signed_decimal}
use Rattle.np_syntax.specs.Printed.{quoted}
use Rattle.np_lex.specs.declared.token.What.{What}
use Rattle.np_lex.specs.declared.token.What.TheVariants as what
use Rattle.np_lex.specs.Tokens.{key_text, sign_text}

-- a string is written as it is printed; the end has no bytes
abbrev pub spelling : What → List ℕ
spelling (what.Word k) = key_text k
spelling (what.Ident text) = text
spelling (what.Number n) = signed_decimal n
spelling (what.Str text) = quoted text
spelling (what.Sign s) = sign_text s
spelling what.End = []
