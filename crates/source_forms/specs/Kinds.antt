-- The kinds of tokens (docs/LANGUAGE.md, "Tokens").
use Rattle.std.specs.Prelude.{ℕ, zero, ℤ, pos, List, [], codes}
use Rattle.np_lex.specs.Tokens.{key_text, sign_text}
use Rattle.np_lex.specs.declared.token.What.{What}
use Rattle.np_lex.specs.declared.token.What.TheVariants as whats
use Rattle.source_forms.specs.declared.kind.Kind.{Kind}
use Rattle.source_forms.specs.declared.kind.Kind.TheVariants as kinds

-- the kind of a token: the number 0 is one of its own
abbrev pub kind_of : What → Kind
kind_of (whats.Word key) = kinds.Word key
kind_of (whats.Ident text) = kinds.Name
kind_of (whats.Number (pos zero)) = kinds.Zero
kind_of (whats.Number n) = kinds.Number
kind_of (whats.Str text) = kinds.Str
kind_of (whats.Sign sign) = kinds.Sign sign
kind_of whats.End = kinds.End

-- how a token of a kind may be written
abbrev pub kind_text : Kind → List ℕ
kind_text kinds.Zero = codes "0"
kind_text kinds.Number = codes "7"
kind_text kinds.Str = codes "\"\""
kind_text kinds.Name = codes "x"
kind_text (kinds.Word key) = key_text key
kind_text (kinds.Sign sign) = sign_text sign
kind_text kinds.End = []
