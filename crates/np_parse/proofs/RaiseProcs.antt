-- A process within fewer levels is one within more.
use Rattle.std.proofs.Common.{ℕ, zero, suc, ◌≤◌, List, arith}
use Rattle.np_lex.specs.declared.token.Token.{Token}
use Rattle.np_tree.specs.declared.tree.RawProc.{RawProc}
use Rattle.np_tree.specs.Grammar as g
use Rattle.np_tree.specs.Grammar.{IsProc, AreMany}
use Rattle.np_parse.proofs.RaiseTypes.{raise_chan, raise_pat}
use Rattle.np_parse.proofs.RaiseExprs.{raise_atom, raise_expr}

mutual
  pub raise_proc : {m d : ℕ} {ts : List Token} {x : RawProc} → IsProc m d ts x → (n b : ℕ) → m ≤ n → d ≤ b → IsProc n b ts x
  raise_proc (g.IsProc.bracket i j r) n b k h = g.IsProc.bracket i j (raise_many r n b k h)
  raise_proc g.IsProc.stop n (suc b) k h = g.IsProc.stop
  raise_proc (g.IsProc.channel i j t r) n (suc b) k h = g.IsProc.channel i j (raise_chan t n k) (raise_proc r n b k (omega arith))
  raise_proc (g.IsProc.output x) n (suc b) k h = g.IsProc.output (raise_expr x n k)
  raise_proc (g.IsProc.input i j p r) n (suc b) k h = g.IsProc.input i j (raise_pat p n k) (raise_proc r n b k (omega arith))
  raise_proc (g.IsProc.replicated i j p r) n (suc b) k h = g.IsProc.replicated i j (raise_pat p n k) (raise_proc r n b k (omega arith))
  raise_proc (g.IsProc.agent i j r s) n (suc b) k h = g.IsProc.agent i j (raise_proc r n b k (omega arith)) (raise_proc s n b k (omega arith))
  raise_proc (g.IsProc.migrate i j x r) n (suc b) k h = g.IsProc.migrate i j (raise_expr x n k) (raise_proc r n b k (omega arith))
  raise_proc (g.IsProc.iflocal a c i j e f o q t l x z r s) n (suc b) k h =
      g.IsProc.iflocal a c i j e f o q t l (raise_atom x n k) (raise_expr z n k) (raise_proc r n b k (omega arith)) (raise_proc s n b k (omega arith))
  raise_proc (g.IsProc.post a c o q i j e f t l x z) n (suc b) k h = g.IsProc.post a c o q i j e f t l (raise_atom x n k) (raise_expr z n k)
  raise_proc (g.IsProc.send a c i j e f t l x y z) n (suc b) k h = g.IsProc.send a c i j e f t l (raise_atom x n k) (raise_atom y n k) (raise_expr z n k)
  raise_proc (g.IsProc.test a c i j x r s) n (suc b) k h = g.IsProc.test a c i j (raise_expr x n k) (raise_proc r n b k (omega arith)) (raise_proc s n b k (omega arith))
  raise_proc (g.IsProc.bind a c i j p x r) n (suc b) k h = g.IsProc.bind a c i j (raise_pat p n k) (raise_expr x n k) (raise_proc r n b k (omega arith))
  raise_proc (g.IsProc.print x) n (suc b) k h = g.IsProc.print (raise_expr x n k)
  raise_proc _ n zero k h = absurd (omega arith)

  pub raise_many : {m at d : ℕ} {ts : List Token} {x : RawProc} → AreMany m at d ts x → (n b : ℕ) → m ≤ n → d ≤ b → AreMany n at b ts x
  raise_many (g.AreMany.two i j x y) n zero k h = absurd (omega arith)
  raise_many (g.AreMany.two i j x y) n (suc b) k h = g.AreMany.two i j (raise_proc x n b k (omega arith)) (raise_proc y n b k (omega arith))
  raise_many (g.AreMany.more i j x y) n zero k h = absurd (omega arith)
  raise_many (g.AreMany.more i j x y) n (suc b) k h = g.AreMany.more i j (raise_many x n b k (omega arith)) (raise_proc y n b k (omega arith))
