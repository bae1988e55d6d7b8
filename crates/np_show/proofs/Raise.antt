-- An expression that is so deep at most is deeper at most; and the level at which each operation stands.
use Rattle.std.proofs.Common.{◌≡◌, ℕ, zero, suc, ◌≤◌, false, nat_lt, List, ◌∷◌, ◌++◌, arith}
use Rattle.std.proofs.lemmas.Bool.Decides.{nat_tests}
use Rattle.np_syntax.specs.declared.expression.Op.{Op}
use Rattle.np_syntax.specs.declared.expression.Op.TheVariants as op
use Rattle.np_lex.specs.declared.token.Token.{Token}
use Rattle.np_lex.specs.Tokens.{sign_at}
use Rattle.np_tree.specs.declared.tree.RawExpr.{RawExpr}
use Rattle.np_tree.specs.declared.tree.RawExprForm as expr
use Rattle.np_tree.specs.Grammar as g
use Rattle.np_tree.specs.Grammar.{expression, IsAtom, IsProd, IsSum, IsExpr, AreExprs}
use Rattle.np_show.specs.Shown.{op_sign, strength, left, right}

mutual
  raise_atom : {d : ℕ} {ts : List Token} {x : RawExpr} → IsAtom d ts x → IsAtom (suc d) ts x
  raise_atom (g.literal k) = g.literal k
  raise_atom g.main = g.main
  raise_atom g.variable = g.variable
  raise_atom (g.round a b x) = g.round a b (raise_expr x)
  raise_atom (g.tuple a b x) = g.tuple a b (raise_exprs x)

  raise_prod : {d : ℕ} {ts : List Token} {x : RawExpr} → IsProd d ts x → IsProd (suc d) ts x
  raise_prod (g.atom a) = g.atom (raise_atom a)
  raise_prod (g.times a b x y) = g.times a b (raise_prod x) (raise_atom y)

  raise_sum : {d : ℕ} {ts : List Token} {x : RawExpr} → IsSum d ts x → IsSum (suc d) ts x
  raise_sum (g.prod a) = g.prod (raise_prod a)
  raise_sum (g.plus a b k x y) = g.plus a b k (raise_sum x) (raise_prod y)

  raise_expr : {d : ℕ} {ts : List Token} {x : RawExpr} → IsExpr d ts x → IsExpr (suc d) ts x
  raise_expr (g.sum a) = g.sum (raise_sum a)
  raise_expr (g.compare a b k x y) = g.compare a b k (raise_sum x) (raise_sum y)

  raise_exprs : {room d : ℕ} {ts : List Token} {xs : List RawExpr} → AreExprs room d ts xs → AreExprs room (suc d) ts xs
  raise_exprs g.none = g.none
  raise_exprs (g.part p q) = g.part (raise_exprs p) (raise_expr q)

pub widen : {room d : ℕ} {ts : List Token} {xs : List RawExpr} → AreExprs room d ts xs → (cap : ℕ) → room ≤ cap → AreExprs cap d ts xs
widen g.none cap h = g.none
widen (g.part p q) zero h = absurd (omega arith)
widen (g.part p q) (suc cap) h = g.part (widen p cap (omega arith)) q

-- an expression where this strength is needed
abbrev pub Has : ℕ → ℕ → List Token → RawExpr → Type 0
Has zero d ts x = IsExpr d ts x
Has (suc zero) d ts x = IsSum d ts x
Has (suc (suc zero)) d ts x = IsProd d ts x
Has (suc (suc (suc l))) d ts x = IsAtom d ts x

pub raise : (l d : ℕ) (ts : List Token) (x : RawExpr) → Has l d ts x → Has l (suc d) ts x
raise zero d ts x h = raise_expr h
raise (suc zero) d ts x h = raise_sum h
raise (suc (suc zero)) d ts x h = raise_prod h
raise (suc (suc (suc l))) d ts x h = raise_atom h

pub has_atom : (l : ℕ) {d : ℕ} {ts : List Token} {x : RawExpr} → IsAtom d ts x → Has l d ts x
has_atom zero h = g.sum (g.prod (g.atom h))
has_atom (suc zero) h = g.prod (g.atom h)
has_atom (suc (suc zero)) h = g.atom h
has_atom (suc (suc (suc l))) h = h

-- an operation, also where less strength is needed than it has
pub has_op : (o : Op) (l d : ℕ) (ts : List Token) (x : RawExpr) → nat_lt (strength o) l ≡ false → Has (strength o) d ts x → Has l d ts x
has_op op.Mul zero d ts x k h = g.sum (g.prod h)
has_op op.Mul (suc zero) d ts x k h = g.prod h
has_op op.Mul (suc (suc zero)) d ts x k h = h
has_op op.Mul (suc (suc (suc l))) d ts x k h = absurd (grind (arith, nat_tests))
has_op op.Add zero d ts x k h = g.sum h
has_op op.Add (suc zero) d ts x k h = h
has_op op.Add (suc (suc l)) d ts x k h = absurd (grind (arith, nat_tests))
has_op op.Sub zero d ts x k h = g.sum h
has_op op.Sub (suc zero) d ts x k h = h
has_op op.Sub (suc (suc l)) d ts x k h = absurd (grind (arith, nat_tests))
has_op op.Less zero d ts x k h = h
has_op op.Less (suc l) d ts x k h = absurd (grind (arith, nat_tests))
has_op op.Equal zero d ts x k h = h
has_op op.Equal (suc l) d ts x k h = absurd (grind (arith, nat_tests))

pub no_need : (n : ℕ) → nat_lt n 0 ≡ false
no_need n = grind (arith, nat_tests)

pub has_joined : (o : Op) (a b d : ℕ) (ts us : List Token) (x y : RawExpr) → Has (left o) d ts x → Has (right o) d us y
    → Has (strength o) (suc d) (ts ++ sign_at a b (op_sign o) ∷ us) (expression x.at (expr.Bin o x y))
has_joined op.Add a b d ts us x y h k = g.plus a b g.add h k
has_joined op.Sub a b d ts us x y h k = g.plus a b g.sub h k
has_joined op.Mul a b d ts us x y h k = g.times a b h k
has_joined op.Less a b d ts us x y h k = g.compare a b g.less h k
has_joined op.Equal a b d ts us x y h k = g.compare a b g.same h k
