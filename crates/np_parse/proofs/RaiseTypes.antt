-- A type or a pattern within fewer levels is one within more.
use Rattle.std.proofs.Common.{ℕ, zero, suc, ◌≤◌, List, arith}
use Rattle.np_syntax.specs.declared.types.Ty.{Ty}
use Rattle.np_lex.specs.declared.token.Token.{Token}
use Rattle.np_tree.specs.declared.tree.RawPat.{RawPat}
use Rattle.np_tree.specs.Grammar as g
use Rattle.np_tree.specs.Grammar.{IsType, IsChan, AreTypes, IsPat, ArePats}

mutual
  pub raise_type : {d : ℕ} {ts : List Token} {x : Ty} → IsType d ts x → (b : ℕ) → d ≤ b → IsType b ts x
  raise_type (g.IsType.ground k) zero h = absurd (omega arith)
  raise_type (g.IsType.ground k) (suc b) h = g.IsType.ground k
  raise_type (g.IsType.channel r) b h = g.IsType.channel (raise_chan r b h)
  raise_type (g.IsType.tuple i j r) zero h = absurd (omega arith)
  raise_type (g.IsType.tuple i j r) (suc b) h = g.IsType.tuple i j (raise_types r b (omega arith))

  pub raise_chan : {d : ℕ} {ts : List Token} {x : Ty} → IsChan d ts x → (b : ℕ) → d ≤ b → IsChan b ts x
  raise_chan (g.IsChan.carries r) zero h = absurd (omega arith)
  raise_chan (g.IsChan.carries r) (suc b) h = g.IsChan.carries (raise_type r b (omega arith))

  pub raise_types : {room d : ℕ} {ts : List Token} {xs : List Ty} → AreTypes room d ts xs → (b : ℕ) → d ≤ b → AreTypes room b ts xs
  raise_types g.AreTypes.none b h = g.AreTypes.none
  raise_types (g.AreTypes.part xs x) b h = g.AreTypes.part (raise_types xs b h) (raise_type x b h)

mutual
  pub raise_pat : {d : ℕ} {ts : List Token} {x : RawPat} → IsPat d ts x → (b : ℕ) → d ≤ b → IsPat b ts x
  raise_pat g.IsPat.any zero h = absurd (omega arith)
  raise_pat g.IsPat.any (suc b) h = g.IsPat.any
  raise_pat g.IsPat.bind zero h = absurd (omega arith)
  raise_pat g.IsPat.bind (suc b) h = g.IsPat.bind
  raise_pat (g.IsPat.tuple i j r) zero h = absurd (omega arith)
  raise_pat (g.IsPat.tuple i j r) (suc b) h = g.IsPat.tuple i j (raise_pats r b (omega arith))

  pub raise_pats : {room d : ℕ} {ts : List Token} {xs : List RawPat} → ArePats room d ts xs → (b : ℕ) → d ≤ b → ArePats room b ts xs
  raise_pats g.ArePats.none b h = g.ArePats.none
  raise_pats (g.ArePats.part xs x) b h = g.ArePats.part (raise_pats xs b h) (raise_pat x b h)
