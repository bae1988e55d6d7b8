-- What an operator and its right side add to what was read stays in the grammar, and what is refused there cannot go on.
use Rattle.std.proofs.Common.{◌≡◌, ℕ, zero, suc, ◌+◌, ◌<◌, ◌≤◌, max, inr, List, [], ◌∷◌, ◌++◌, refl, subst, append_assoc, append-nil, add-one, arith}
use Rattle.std.specs.Prelude.{nat_le, Bool, true, false, Option, Some, None}
use Rattle.std.proofs.lemmas.Bool.Decides.{nat_tests}
use Rattle.np_syntax.specs.declared.expression.Op.{Op}
use Rattle.np_lex.specs.declared.token.Token.{Token}
use Rattle.np_lex.specs.declared.token.What.{What}
use Rattle.np_lex.specs.Tokens.{token}
use Rattle.np_tree.specs.declared.tree.RawExpr.{RawExpr}
use Rattle.np_tree.specs.declared.tree.RawExprForm as expr
use Rattle.np_tree.specs.Grammar.{expression}
use Rattle.np_parse.specs.Input.{Parser, and_then, ◌>>=◌, peek, take}
use Rattle.np_parse.specs.Read.Expressions.{ReadExpr, operation, operate, chain}
use Rattle.np_parse.proofs.Fine.{fine_then, fine_part, fine_refuse, fine_deep, fine_take, fine_done, BeginsIn, OrEmpty, AnyIn, ReadIn, FineIn, Raises, Reader, some_begins}

-- what stands left of an operator, and behind it, and what comes of both
pub record Joins (Left Operand Whole : ℕ → List Token → RawExpr → Type 0) (operator : What → Option Op) : Type 0 where
  pub alone : {d : ℕ} {ts : List Token} {x : RawExpr} → Left d ts x → Whole d ts x
  pub joined : {d : ℕ} {o : Op} {w : What} {ts us : List Token} {x y : RawExpr} (at end : ℕ) → operator w ≡ Some o → Left d ts x → Operand d us y
      → Whole (suc d) (ts ++ token at end w ∷ us) (expression x.at (expr.Bin o x y))
  pub some : (b : ℕ) → BeginsIn Operand (suc b) []
  pub raise_left : Raises Left
  pub raise_operand : Raises Operand

module _ (Left Operand Whole : ℕ → List Token → RawExpr → Type 0) (operator : What → Option Op) (j : Joins Left Operand Whole operator) where
  joined_begins : (b at end : ℕ) (o : Op) (w : What) → operator w ≡ Some o → (left : ReadExpr) (pre : List Token) → left.1 ≤ b → Left left.1 pre left.0 → (s : List Token) → BeginsIn Operand b s
      → BeginsIn Whole (suc b) ((pre ++ token at end w ∷ []) ++ s)
  joined_begins b at end o w e left pre low p s v =
      (v.0, _, subst (λ l. Whole (suc b) l (expression left.0.at (expr.Bin o left.0 v.1))) (simp append_assoc) (j.joined at end e (j.raise_left.raise p b low) v.2))

  some_operand : (b : ℕ) → 0 < b → (s : List Token) → OrEmpty (BeginsIn Operand b) s → BeginsIn Operand b s
  some_operand zero h s v = absurd (omega arith)
  some_operand (suc b) h s v = some_begins Operand (suc b) (j.some b) s v

  joined_any : (at end : ℕ) (o : Op) (w : What) → operator w ≡ Some o → (left : ReadExpr) (pre : List Token) → Left left.1 pre left.0 → (s : List Token) → AnyIn Operand s
      → AnyIn Whole ((pre ++ token at end w ∷ []) ++ s)
  joined_any at end o w e left pre p s v =
      let b : ℕ = max left.1 v.0 in (suc b, joined_begins b at end o w e left pre (omega arith) p s (v.1.0, v.1.1, j.raise_operand.raise v.1.2 b (omega arith)))

  operator_any : (at end : ℕ) (o : Op) (w : What) → operator w ≡ Some o → (left : ReadExpr) (pre : List Token) → Left left.1 pre left.0 → AnyIn Whole (pre ++ token at end w ∷ [])
  operator_any at end o w e left pre p = subst (AnyIn Whole) (append-nil (pre ++ token at end w ∷ [])) (joined_any at end o w e left pre p [] (1, j.some 0))

  pub itself : (b : ℕ) (left : ReadExpr) (pre : List Token) → ReadIn Left (suc b) left pre → OrEmpty (BeginsIn Whole (suc b)) pre
  itself b left pre p = inr ([], left.0, rw append-nil (j.alone (j.raise_left.raise p.2 (suc b) p.0)))

  module _ (b : ℕ) (operand : Parser ReadExpr) (l : Reader Operand b operand) (again : ReadExpr → Parser ReadExpr) (left : ReadExpr)
      (next : (x : ReadExpr) (now rest : List Token) → left.1 < x.1 → ReadIn Whole (suc b) x now → FineIn Whole (suc b) now rest (again x rest)) where
    right_fine : (at end : ℕ) (o : Op) (w : What) → operator w ≡ Some o → (pre : List Token) → left.1 ≤ b → ReadIn Left (suc b) left pre → (ts : List Token)
        → FineIn Whole (suc b) (pre ++ token at end w ∷ []) ts (and_then (operand ts) (λ right. again (operation o left right)))
    right_fine at end o w e pre low p ts =
        let before = pre ++ token at end w ∷ [] in
        let V : List Token → Type 0 = OrEmpty (BeginsIn Whole (suc b)) in
        let P : ReadExpr → List Token → Type 0 = λ x s. (x.1 ≤ b) × (v : List Token) × (s ≡ before ++ v) × Operand x.1 v x.0 in
        fine_then V (AnyIn Whole) P (ReadIn Whole (suc b)) before ts (operand ts) (λ right. again (operation o left right))
        (fine_part V (AnyIn Whole) (OrEmpty (BeginsIn Operand b)) (AnyIn Operand) P (ReadIn Operand b) before ts (operand ts)
        (λ s v. inr (joined_begins b at end o w e left pre low p.2 s (some_operand b (omega (arith, p.1)) s v)))
        (λ s d. joined_any at end o w e left pre p.2 s d)
        (λ x s q. (q.0, s, refl, q.2))
        (l.fine ts))
        (λ x now rest q.
        let k : ℕ = max left.1 x.1 in
        let longer : Whole (k + 1) (pre ++ token at end w ∷ q.1) (expression left.0.at (expr.Bin o left.0 x.0)) =
        rw add-one (j.joined at end e (j.raise_left.raise p.2 k (omega arith)) (j.raise_operand.raise q.3 k (omega arith))) in
        rw (q.2, append_assoc) (next (operation o left x) (pre ++ token at end w ∷ q.1) rest (omega arith) (omega (arith, q.0), omega arith, longer)))

    pub operate_fine : (at end : ℕ) (w : What) (pre : List Token) → ReadIn Left (suc b) left pre → (ts : List Token)
        → FineIn Whole (suc b) pre (token at end w ∷ ts) (operate again operand (suc b) left (operator w) (token at end w ∷ ts))
    unfolding take
    operate_fine at end w pre p ts = go (operator w) refl
      where
        test : (o : Op) → operator w ≡ Some o → (deep : Bool) → nat_le (suc b) left.1 ≡ deep
            → FineIn Whole (suc b) pre (token at end w ∷ ts) (operate again operand (suc b) left (Some o) (token at end w ∷ ts))
        test o e true k = rw k (fine_deep (OrEmpty (BeginsIn Whole (suc b))) (AnyIn Whole) pre (token at end w) ts (itself b left pre p) (operator_any at end o w e left pre p.2))
        test o e false k = rw k (fine_take (OrEmpty (BeginsIn Whole (suc b))) (AnyIn Whole) (ReadIn Whole (suc b)) pre (token at end w) ts
            (and_then (operand ts) (λ right. again (operation o left right)))
            (right_fine at end o w e pre (grind (arith, nat_tests)) p ts))

        go : (o : Option Op) → operator w ≡ o → FineIn Whole (suc b) pre (token at end w ∷ ts) (operate again operand (suc b) left o (token at end w ∷ ts))
        go (Some o) e = test o e (nat_le (suc b) left.1) refl
        go None e = fine_done (ReadIn Whole (suc b)) pre (token at end w ∷ ts) left (p.0, p.1, j.alone p.2)

-- any number of operators
module _ (Left Operand : ℕ → List Token → RawExpr → Type 0) (operator : What → Option Op) (j : Joins Left Operand Left operator) (b : ℕ) (operand : Parser ReadExpr)
    (l : Reader Operand b operand) where
  pub chain_fine : (turns : ℕ) (left : ReadExpr) (pre : List Token) → suc b < turns + left.1 → ReadIn Left (suc b) left pre → (ts : List Token)
      → FineIn Left (suc b) pre ts (chain operator operand (suc b) turns left ts)
  unfolding chain peek
  chain_fine zero left pre enough p ts = absurd (omega (arith, p.0))
  chain_fine (suc turns) left pre enough p [] = fine_refuse _ _ _ _ (itself Left Operand Left operator j b left pre p)
  chain_fine (suc turns) left pre enough p (t ∷ ts) =
      operate_fine Left Operand Left operator j b operand l (chain operator operand (suc b) turns) left
      (λ x now rest more q. chain_fine turns x now (omega arith) q rest)
      t.at t.end t.what pre p ts

-- all of one part of the grammar is in another
pub record Within (F W : ℕ → List Token → RawExpr → Type 0) : Type 0 where
  pub up : {d : ℕ} {ts : List Token} {x : RawExpr} → F d ts x → W d ts x

-- the reader of one part of the grammar goes on behind that of another
pub behind_fine : (F W : ℕ → List Token → RawExpr → Type 0) (b : ℕ) (f : Parser ReadExpr) (q : ReadExpr → Parser ReadExpr) → Within F W
    → BeginsIn F (suc b) [] → Reader F (suc b) f → ((x : ReadExpr) (now rest : List Token) → ReadIn F (suc b) x now → FineIn W (suc b) now rest (q x rest))
    → Reader W (suc b) (f >>= q)
behind_fine F W b f q up some l next = record {
  fine = λ ts. fine_then (OrEmpty (BeginsIn W (suc b))) (AnyIn W) (ReadIn F (suc b)) (ReadIn W (suc b)) [] ts (f ts) q
      (fine_part (OrEmpty (BeginsIn W (suc b))) (AnyIn W) (OrEmpty (BeginsIn F (suc b))) (AnyIn F) (ReadIn F (suc b)) (ReadIn F (suc b)) [] ts (f ts)
      (λ s v. let k = some_begins F (suc b) some s v in inr (k.0, k.1, up.up k.2))
      (λ s d. (d.0, (d.1.0, d.1.1, up.up d.1.2)))
      (λ x s r. r)
      (l.fine ts))
      next;
}
