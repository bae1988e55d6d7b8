-- How expressions are read, from left to right (docs/LANGUAGE.md, "Grammar" and "Depth"). A number of levels is how deep an
-- expression may be; round brackets count.
use Rattle.std.specs.Prelude.{ℕ, zero, suc, ◌+◌, max, nat_le, Bool, true, false, if◌then◌else◌, List, Option, Some, None}
use Rattle.np_syntax.specs.declared.value.Value as value
use Rattle.np_syntax.specs.declared.expression.Op.{Op}
use Rattle.np_syntax.specs.declared.expression.Op.TheVariants as op
use Rattle.np_lex.specs.declared.token.Key.TheVariants as key
use Rattle.np_lex.specs.declared.token.Sign.TheVariants as sign
use Rattle.np_lex.specs.declared.token.What.{What}
use Rattle.np_lex.specs.declared.token.What.TheVariants as what
use Rattle.np_tree.specs.declared.tree.RawExpr.{RawExpr}
use Rattle.np_tree.specs.declared.tree.RawExprForm.{RawExprForm}
use Rattle.np_tree.specs.declared.tree.RawExprForm as form
use Rattle.np_tree.specs.Grammar.{expression}
use Rattle.np_parse.specs.declared.operator.Rank.{Rank}
use Rattle.np_parse.specs.declared.operator.Rank.TheVariants as rank
use Rattle.np_parse.specs.Input.{Parser, ◌>>=◌, ◌>>◌, pure, refuse, refuse_deep, peek, take, nothing, name, expect_sign}
use Rattle.np_parse.specs.Read.Tuples.{Sized, tuple_in}

abbrev pub ReadExpr : Type 0
ReadExpr = Sized RawExpr

-- ---- atoms

abbrev pub begins_atom : What → Bool
begins_atom (what.Number n) = true
begins_atom (what.Str text) = true
begins_atom (what.Ident text) = true
begins_atom (what.Word key.True) = true
begins_atom (what.Word key.False) = true
begins_atom (what.Word key.Main) = true
begins_atom (what.Sign sign.RoundOpen) = true
begins_atom (what.Sign sign.SquareOpen) = true
begins_atom _ = false

abbrev pub leaf : RawExprForm → Parser ReadExpr
leaf f = take >>= (λ at. pure (expression at f, 1))

unfoldable pub variable : Parser ReadExpr
variable = name >>= (λ x. pure (expression x.at (form.Var x), 1))

-- an expression between round brackets
unfoldable pub round : Parser ReadExpr → ℕ → Parser ReadExpr
round inner below = if nat_le below 0 then refuse_deep else (do take; x ← inner; expect_sign sign.RoundClose; pure (x.0, x.1 + 1))

abbrev pub tuple_expression : ℕ → List RawExpr → RawExpr
tuple_expression at parts = expression at (form.Tuple parts)

abbrev pub atom_by : Parser ReadExpr → ℕ → What → Parser ReadExpr
atom_by inner below (what.Number n) = leaf (form.Val (value.Int n))
atom_by inner below (what.Str text) = leaf (form.Val (value.Str text))
atom_by inner below (what.Ident text) = variable
atom_by inner below (what.Word key.True) = leaf (form.Val (value.Truth true))
atom_by inner below (what.Word key.False) = leaf (form.Val (value.Truth false))
atom_by inner below (what.Word key.Main) = leaf form.Main
atom_by inner below (what.Sign sign.RoundOpen) = round inner below
atom_by inner below (what.Sign sign.SquareOpen) = tuple_in inner tuple_expression
atom_by inner below _ = refuse

-- an atom, with expressions inside it by this reader, at most this deep
unfoldable pub atom_in : Parser ReadExpr → ℕ → Parser ReadExpr
atom_in inner below = peek >>= atom_by inner below

-- ---- operators

abbrev pub multiplies : What → Option Op
multiplies (what.Sign sign.Star) = Some op.Mul
multiplies _ = None

abbrev pub adds : What → Option Op
adds (what.Sign sign.Plus) = Some op.Add
adds (what.Sign sign.Minus) = Some op.Sub
adds _ = None

abbrev pub compares : What → Option Op
compares (what.Sign sign.Less) = Some op.Less
compares (what.Sign sign.Same) = Some op.Equal
compares _ = None

abbrev pub operation : Op → ReadExpr → ReadExpr → ReadExpr
operation o left right = (expression left.0.at (form.Bin o left.0 right.0), max left.1 right.1 + 1)

-- where an operator may stand behind this: the operation with the operand that follows, and what comes of it, or this
abbrev pub operate : (ReadExpr → Parser ReadExpr) → Parser ReadExpr → ℕ → ReadExpr → Option Op → Parser ReadExpr
operate again operand levels left (Some o) = if nat_le levels left.1 then refuse_deep
    else (do take; right ← operand; again (operation o left right))
operate again operand levels left None = pure left

-- what stands behind the product or sum so far, which these operators go on with; each turn takes a level
unfoldable pub chain : (What → Option Op) → Parser ReadExpr → ℕ → ℕ → ReadExpr → Parser ReadExpr
chain operator operand levels zero left = refuse_deep
chain operator operand levels (suc turns) left = peek
    >>= (λ w. operate (chain operator operand levels turns) operand levels left (operator w))

-- what stands behind the first side of a comparison, if this is one
unfoldable pub comparison : Parser ReadExpr → ℕ → ReadExpr → Parser ReadExpr
comparison operand levels left = peek >>= (λ w. operate pure operand levels left (compares w))

abbrev pub operator : Rank → What → Option Op
operator rank.Product = multiplies
operator rank.Sum = adds
operator rank.Comparison = compares

abbrev pub operator_by : ℕ → ℕ → Option Op → Parser (Option Op)
operator_by levels depth (Some o) = if nat_le levels depth then refuse_deep else (take >> pure (Some o))
operator_by levels depth None = pure None

-- takes the operator behind an operand of this depth, if one of this rank stands there
unfoldable pub next_operator : Rank → ℕ → ℕ → Parser (Option Op)
next_operator r levels depth = peek >>= (λ w. operator_by levels depth (operator r w))

-- ---- expressions

-- the readers of atoms, products, sums and expressions of so many levels
pub record ExprReaders : Type 0 where
  pub atom : Parser ReadExpr
  pub prod : Parser ReadExpr
  pub sum : Parser ReadExpr
  pub expr : Parser ReadExpr

abbrev pub prod_in : ℕ → ExprReaders → Parser ReadExpr
prod_in below r = atom_in r.expr below >>= chain multiplies r.atom (suc below) (suc below)

abbrev pub sum_in : ℕ → ExprReaders → Parser ReadExpr
sum_in below r = prod_in below r >>= chain adds r.prod (suc below) (suc below)

abbrev pub expr_in : ℕ → ExprReaders → Parser ReadExpr
expr_in below r = sum_in below r >>= comparison r.sum (suc below)

abbrev pub level : ℕ → ExprReaders → ExprReaders
level below r = record { atom = atom_in r.expr below; prod = prod_in below r; sum = sum_in below r; expr = expr_in below r }

unfoldable pub readers : ℕ → ExprReaders
readers zero = record { atom = nothing begins_atom; prod = nothing begins_atom; sum = nothing begins_atom; expr = nothing begins_atom }
readers (suc below) = level below (readers below)

abbrev pub atom : ℕ → Parser ReadExpr
atom levels = (readers levels).atom

abbrev pub prod : ℕ → Parser ReadExpr
prod levels = (readers levels).prod

abbrev pub sum : ℕ → Parser ReadExpr
sum levels = (readers levels).sum

abbrev pub expr : ℕ → Parser ReadExpr
expr levels = (readers levels).expr

-- an operand of the operators of this rank, of so many levels
abbrev pub operand : Rank → ℕ → Parser ReadExpr
operand rank.Product = atom
operand rank.Sum = prod
operand rank.Comparison = sum
