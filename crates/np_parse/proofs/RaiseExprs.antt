-- An expression within fewer levels is one within more.
use Rattle.std.proofs.Common.{ℕ, zero, suc, ◌≤◌, List, arith}
use Rattle.np_lex.specs.declared.token.Token.{Token}
use Rattle.np_tree.specs.declared.tree.RawExpr.{RawExpr}
use Rattle.np_tree.specs.Grammar as g
use Rattle.np_tree.specs.Grammar.{IsAtom, IsProd, IsSum, IsExpr, AreExprs}

mutual
  pub raise_atom : {d : ℕ} {ts : List Token} {x : RawExpr} → IsAtom d ts x → (b : ℕ) → d ≤ b → IsAtom b ts x
  raise_atom (g.IsAtom.literal k) zero h = absurd (omega arith)
  raise_atom (g.IsAtom.literal k) (suc b) h = g.IsAtom.literal k
  raise_atom g.IsAtom.main zero h = absurd (omega arith)
  raise_atom g.IsAtom.main (suc b) h = g.IsAtom.main
  raise_atom g.IsAtom.variable zero h = absurd (omega arith)
  raise_atom g.IsAtom.variable (suc b) h = g.IsAtom.variable
  raise_atom (g.IsAtom.round i j r) zero h = absurd (omega arith)
  raise_atom (g.IsAtom.round i j r) (suc b) h = g.IsAtom.round i j (raise_expr r b (omega arith))
  raise_atom (g.IsAtom.tuple i j r) zero h = absurd (omega arith)
  raise_atom (g.IsAtom.tuple i j r) (suc b) h = g.IsAtom.tuple i j (raise_exprs r b (omega arith))

  pub raise_prod : {d : ℕ} {ts : List Token} {x : RawExpr} → IsProd d ts x → (b : ℕ) → d ≤ b → IsProd b ts x
  raise_prod (g.IsProd.atom a) b h = g.IsProd.atom (raise_atom a b h)
  raise_prod (g.IsProd.times i j x y) zero h = absurd (omega arith)
  raise_prod (g.IsProd.times i j x y) (suc b) h = g.IsProd.times i j (raise_prod x b (omega arith)) (raise_atom y b (omega arith))

  pub raise_sum : {d : ℕ} {ts : List Token} {x : RawExpr} → IsSum d ts x → (b : ℕ) → d ≤ b → IsSum b ts x
  raise_sum (g.IsSum.prod a) b h = g.IsSum.prod (raise_prod a b h)
  raise_sum (g.IsSum.plus i j o x y) zero h = absurd (omega arith)
  raise_sum (g.IsSum.plus i j o x y) (suc b) h = g.IsSum.plus i j o (raise_sum x b (omega arith)) (raise_prod y b (omega arith))

  pub raise_expr : {d : ℕ} {ts : List Token} {x : RawExpr} → IsExpr d ts x → (b : ℕ) → d ≤ b → IsExpr b ts x
  raise_expr (g.IsExpr.sum a) b h = g.IsExpr.sum (raise_sum a b h)
  raise_expr (g.IsExpr.compare i j o x y) zero h = absurd (omega arith)
  raise_expr (g.IsExpr.compare i j o x y) (suc b) h = g.IsExpr.compare i j o (raise_sum x b (omega arith)) (raise_sum y b (omega arith))

  pub raise_exprs : {room d : ℕ} {ts : List Token} {xs : List RawExpr} → AreExprs room d ts xs → (b : ℕ) → d ≤ b → AreExprs room b ts xs
  raise_exprs g.AreExprs.none b h = g.AreExprs.none
  raise_exprs (g.AreExprs.part xs x) b h = g.AreExprs.part (raise_exprs xs b h) (raise_expr x b h)
