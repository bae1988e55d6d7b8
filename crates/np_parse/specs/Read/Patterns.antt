-- How patterns are read, from left to right (docs/LANGUAGE.md, "Grammar" and "Depth"). A number of levels is how deep a pattern
-- may be.
use Rattle.std.specs.Prelude.{ℕ, zero, suc, Bool, true, false, List}
use Rattle.np_lex.specs.declared.token.Sign.TheVariants as sign
use Rattle.np_lex.specs.declared.token.What.{What}
use Rattle.np_lex.specs.declared.token.What.TheVariants as what
use Rattle.np_tree.specs.declared.tree.RawPat.{RawPat}
use Rattle.np_tree.specs.declared.tree.RawPatForm as form
use Rattle.np_tree.specs.Grammar.{pattern}
use Rattle.np_parse.specs.Input.{Parser, ◌>>=◌, pure, refuse, peek, take, nothing, name}
use Rattle.np_parse.specs.Read.Tuples.{Sized, tuple_in}

abbrev pub ReadPat : Type 0
ReadPat = Sized RawPat

abbrev pub begins_pat : What → Bool
begins_pat (what.Ident text) = true
begins_pat (what.Sign sign.Underscore) = true
begins_pat (what.Sign sign.SquareOpen) = true
begins_pat _ = false

unfoldable pub any : Parser ReadPat
any = take >>= (λ at. pure (pattern at form.Any, 1))

unfoldable pub binder : Parser ReadPat
binder = name >>= (λ x. pure (pattern x.at (form.Bind x), 1))

abbrev pub tuple_pattern : ℕ → List RawPat → RawPat
tuple_pattern at parts = pattern at (form.Tuple parts)

abbrev pub pat_by : Parser ReadPat → What → Parser ReadPat
pat_by inner (what.Ident text) = binder
pat_by inner (what.Sign sign.Underscore) = any
pat_by inner (what.Sign sign.SquareOpen) = tuple_in inner tuple_pattern
pat_by inner _ = refuse

-- a pattern, with patterns inside it by this reader
unfoldable pub pat_in : Parser ReadPat → Parser ReadPat
pat_in inner = peek >>= pat_by inner

-- a pattern of so many levels
unfoldable pub pat : ℕ → Parser ReadPat
pat zero = nothing begins_pat
pat (suc below) = pat_in (pat below)
