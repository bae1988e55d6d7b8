-- An expression that is read is in the grammar, and what is refused in one cannot go on.
use Rattle.std.proofs.Common.{◌≡◌, ℕ, zero, suc, ◌+◌, ◌≤◌, inl, inr, List, [], ◌∷◌, ◌++◌, Ok, refl, sym, subst, append_assoc, append-nil, add-one, arith}
use Rattle.std.specs.Prelude.{nat_le, true, false, pos, Some}
use Rattle.std.proofs.lemmas.Bool.Decides.{nat_tests}
use Rattle.np_syntax.specs.declared.value.Value as value
use Rattle.np_syntax.specs.declared.expression.Op.{Op}
use Rattle.np_syntax.specs.declared.expression.Op.TheVariants as op
use Rattle.np_lex.specs.declared.token.Key.TheVariants as key
use Rattle.np_lex.specs.declared.token.Sign.TheVariants as sign
use Rattle.np_lex.specs.declared.token.Token.{Token}
use Rattle.np_lex.specs.declared.token.What.{What}
use Rattle.np_lex.specs.declared.token.What.TheVariants as what
use Rattle.np_lex.specs.Tokens.{token, sign_at}
use Rattle.np_tree.specs.declared.tree.RawExpr.{RawExpr}
use Rattle.np_tree.specs.declared.tree.RawExprForm as expr
use Rattle.np_tree.specs.Grammar as g
use Rattle.np_tree.specs.Grammar.{expression, IsAtom, IsProd, IsSum, IsExpr, AreExprs}
use Rattle.np_parse.specs.Input.{Parser, and_then, peek, take, name, expect_sign}
use Rattle.np_parse.specs.Read.Expressions as r
use Rattle.np_parse.specs.Read.Expressions.{ReadExpr, begins_atom, variable, round, tuple_expression, atom_in, multiplies, adds, compares, chain, comparison, readers}
use Rattle.np_parse.proofs.Fine.{fine_then, fine_part, fine_refuse, fine_deep, fine_take, fine_done, BeginsIn, OrEmpty, AnyIn, ReadIn, FineIn, Raises, Reader, some_begins}
use Rattle.np_parse.proofs.FineTokens.{SignRead, sign_fine}
use Rattle.np_parse.proofs.Parts.{are_exprs}
use Rattle.np_parse.proofs.RaiseExprs.{raise_atom, raise_prod, raise_sum, raise_expr}
use Rattle.np_parse.proofs.SoundTuples.{Tuples, tuple_fine}
use Rattle.np_parse.proofs.SoundTypes.{nothing_fine}
use Rattle.np_parse.proofs.SoundChains.{Joins, operate_fine, itself, chain_fine, behind_fine}

-- ---- with what they begin

some_atom : (b : ℕ) → BeginsIn IsAtom (suc b) []
some_atom b = (token 0 0 (what.Number (pos 0)) ∷ [], _, g.IsAtom.literal g.IsLiteral.number)

some_prod : (b : ℕ) → BeginsIn IsProd (suc b) []
some_prod b = let v = some_atom b in (v.0, v.1, g.IsProd.atom v.2)

some_sum : (b : ℕ) → BeginsIn IsSum (suc b) []
some_sum b = let v = some_prod b in (v.0, v.1, g.IsSum.prod v.2)

pub some_expr : (b : ℕ) → BeginsIn IsExpr (suc b) []
some_expr b = let v = some_sum b in (v.0, v.1, g.IsExpr.sum v.2)

round_begins : (at end d : ℕ) (s : List Token) → BeginsIn IsExpr d s → BeginsIn IsAtom (suc d) (sign_at at end sign.RoundOpen ∷ s)
round_begins at end d s v = (v.0 ++ sign_at 0 0 sign.RoundClose ∷ [], v.1, rw (← append_assoc) (g.IsAtom.round 0 0 v.2))

atom_any : (at end : ℕ) (w : What) → begins_atom w ≡ true → AnyIn IsAtom (token at end w ∷ [])
atom_any at end (what.Number n) e = (1, ([], _, g.IsAtom.literal g.IsLiteral.number))
atom_any at end (what.Str text) e = (1, ([], _, g.IsAtom.literal g.IsLiteral.string))
atom_any at end (what.Ident text) e = (1, ([], _, g.IsAtom.variable))
atom_any at end (what.Word key.True) e = (1, ([], _, g.IsAtom.literal g.IsLiteral.truth))
atom_any at end (what.Word key.False) e = (1, ([], _, g.IsAtom.literal g.IsLiteral.falsehood))
atom_any at end (what.Word key.Main) e = (1, ([], _, g.IsAtom.main))
atom_any at end (what.Sign sign.RoundOpen) e = (2, round_begins at end 1 [] (some_expr 0))
atom_any at end (what.Sign sign.SquareOpen) e = (1, (sign_at 0 0 sign.SquareClose ∷ [], _, g.IsAtom.tuple {ts = []} 0 0 g.AreExprs.none))
atom_any at end other e = absurd cc

prod_any : (at end : ℕ) (w : What) → begins_atom w ≡ true → AnyIn IsProd (token at end w ∷ [])
prod_any at end w e = let v = atom_any at end w e in (v.0, (v.1.0, v.1.1, g.IsProd.atom v.1.2))

sum_any : (at end : ℕ) (w : What) → begins_atom w ≡ true → AnyIn IsSum (token at end w ∷ [])
sum_any at end w e = let v = prod_any at end w e in (v.0, (v.1.0, v.1.1, g.IsSum.prod v.1.2))

expr_any : (at end : ℕ) (w : What) → begins_atom w ≡ true → AnyIn IsExpr (token at end w ∷ [])
expr_any at end w e = let v = sum_any at end w e in (v.0, (v.1.0, v.1.1, g.IsExpr.sum v.1.2))

-- ---- operators

pub raises_atom : Raises IsAtom
raises_atom = record { raise = λ p b h. raise_atom p b h }

raises_prod : Raises IsProd
raises_prod = record { raise = λ p b h. raise_prod p b h }

raises_sum : Raises IsSum
raises_sum = record { raise = λ p b h. raise_sum p b h }

pub raises_expr : Raises IsExpr
raises_expr = record { raise = λ p b h. raise_expr p b h }

module _ {d : ℕ} {o : Op} {ts us : List Token} {x y : RawExpr} (at end : ℕ) where
  times : (w : What) → multiplies w ≡ Some o → IsProd d ts x → IsAtom d us y → IsProd (suc d) (ts ++ token at end w ∷ us) (expression x.at (expr.Bin o x y))
  times (what.Sign sign.Star) e p q =
      let same : op.Mul ≡ o = cc in subst (λ k. IsProd (suc d) (ts ++ sign_at at end sign.Star ∷ us) (expression x.at (expr.Bin k x y))) same (g.IsProd.times at end p q)
  times other e p q = absurd cc

  plus : (w : What) → adds w ≡ Some o → IsSum d ts x → IsProd d us y → IsSum (suc d) (ts ++ token at end w ∷ us) (expression x.at (expr.Bin o x y))
  plus (what.Sign sign.Plus) e p q =
      let same : op.Add ≡ o = cc in subst (λ k. IsSum (suc d) (ts ++ sign_at at end sign.Plus ∷ us) (expression x.at (expr.Bin k x y))) same (g.IsSum.plus at end g.Adds.add p q)
  plus (what.Sign sign.Minus) e p q =
      let same : op.Sub ≡ o = cc in subst (λ k. IsSum (suc d) (ts ++ sign_at at end sign.Minus ∷ us) (expression x.at (expr.Bin k x y))) same (g.IsSum.plus at end g.Adds.sub p q)
  plus other e p q = absurd cc

  compare : (w : What) → compares w ≡ Some o → IsSum d ts x → IsSum d us y → IsExpr (suc d) (ts ++ token at end w ∷ us) (expression x.at (expr.Bin o x y))
  compare (what.Sign sign.Less) e p q =
      let same : op.Less ≡ o = cc in subst (λ k. IsExpr (suc d) (ts ++ sign_at at end sign.Less ∷ us) (expression x.at (expr.Bin k x y))) same (g.IsExpr.compare at end g.Compares.less p q)
  compare (what.Sign sign.Same) e p q =
      let same : op.Equal ≡ o = cc in subst (λ k. IsExpr (suc d) (ts ++ sign_at at end sign.Same ∷ us) (expression x.at (expr.Bin k x y))) same (g.IsExpr.compare at end g.Compares.same p q)
  compare other e p q = absurd cc

prods : Joins IsProd IsAtom IsProd multiplies
prods = record { alone = λ p. p; joined = λ {d} {o} {w} at end e p q. times at end w e p q; some = some_atom; raise_left = raises_prod; raise_operand = raises_atom }

sums : Joins IsSum IsProd IsSum adds
sums = record { alone = λ p. p; joined = λ {d} {o} {w} at end e p q. plus at end w e p q; some = some_prod; raise_left = raises_sum; raise_operand = raises_prod }

comparisons : Joins IsSum IsSum IsExpr compares
comparisons = record { alone = λ p. g.IsExpr.sum p; joined = λ {d} {o} {w} at end e p q. compare at end w e p q; some = some_sum; raise_left = raises_sum; raise_operand = raises_sum }

-- ---- the rules

pub record Level (b : ℕ) : Type 0 where
  pub atoms : Reader IsAtom b (r.atom b)
  pub prods : Reader IsProd b (r.prod b)
  pub sums : Reader IsSum b (r.sum b)
  pub exprs : Reader IsExpr b (r.expr b)

level_zero : Level zero
unfolding readers
level_zero = record {
  atoms = record { fine = λ ts. nothing_fine begins_atom (OrEmpty (BeginsIn IsAtom zero)) (AnyIn IsAtom) (ReadIn IsAtom zero) ts (inl refl) atom_any };
  prods = record { fine = λ ts. nothing_fine begins_atom (OrEmpty (BeginsIn IsProd zero)) (AnyIn IsProd) (ReadIn IsProd zero) ts (inl refl) prod_any };
  sums = record { fine = λ ts. nothing_fine begins_atom (OrEmpty (BeginsIn IsSum zero)) (AnyIn IsSum) (ReadIn IsSum zero) ts (inl refl) sum_any };
  exprs = record { fine = λ ts. nothing_fine begins_atom (OrEmpty (BeginsIn IsExpr zero)) (AnyIn IsExpr) (ReadIn IsExpr zero) ts (inl refl) expr_any };
}

abbrev closed : ReadExpr → Parser ReadExpr
closed x = λ i. and_then (expect_sign sign.RoundClose i) (λ _ rest. Ok ((x.0, x.1 + 1), rest))

round_in_fine : (b at end : ℕ) (ts : List Token) → Reader IsExpr (suc b) (r.expr (suc b))
    → FineIn IsAtom (suc (suc b)) (sign_at at end sign.RoundOpen ∷ []) ts (and_then (r.expr (suc b) ts) closed)
round_in_fine b at end ts l =
    let open_ = sign_at at end sign.RoundOpen ∷ [] in
    let V : List Token → Type 0 = OrEmpty (BeginsIn IsAtom (suc (suc b))) in
    let P : ReadExpr → List Token → Type 0 = λ x s. (x.1 ≤ suc b) × (u : List Token) × (s ≡ open_ ++ u) × IsExpr x.1 u x.0 in
    fine_then V (AnyIn IsAtom) P (ReadIn IsAtom (suc (suc b))) open_ ts (r.expr (suc b) ts) closed
    (fine_part V (AnyIn IsAtom) (OrEmpty (BeginsIn IsExpr (suc b))) (AnyIn IsExpr) P (ReadIn IsExpr (suc b)) open_ ts (r.expr (suc b) ts)
    (λ s v. inr (round_begins at end (suc b) s (some_begins IsExpr (suc b) (some_expr b) s v)))
    (λ s d. (suc d.0, round_begins at end d.0 s d.1))
    (λ x s p. (p.0, s, refl, p.2))
    (l.fine ts))
    (λ x now rest p. fine_then V (AnyIn IsAtom) (SignRead sign.RoundClose now) (ReadIn IsAtom (suc (suc b))) now rest
    (expect_sign sign.RoundClose rest) (λ _ u. Ok ((x.0, x.1 + 1), u))
    (sign_fine sign.RoundClose V (AnyIn IsAtom) now rest (inr (subst (BeginsIn IsAtom (suc (suc b))) (sym p.2) (round_begins at end (suc b) p.1 ([], x.0, rw append-nil (raise_expr p.3 (suc b) p.0))))))
    (λ i now' rest' e. fine_done (ReadIn IsAtom (suc (suc b))) now' rest' (x.0, x.1 + 1)
    (omega (arith, p.0), omega arith, rw (e.1, p.2, append_assoc, add-one) (g.IsAtom.round i e.0 p.3))))

round_fine : (b at end : ℕ) (ts : List Token) → Reader IsExpr b (r.expr b) → FineIn IsAtom (suc b) [] (sign_at at end sign.RoundOpen ∷ ts) (round (r.expr b) b (sign_at at end sign.RoundOpen ∷ ts))
unfolding round take
round_fine zero at end ts l =
    fine_deep (OrEmpty (BeginsIn IsAtom 1)) (AnyIn IsAtom) [] (sign_at at end sign.RoundOpen) ts (inl refl) (2, round_begins at end 1 [] (some_expr 0))
round_fine (suc b) at end ts l =
    let no : nat_le (suc b) 0 ≡ false = grind (arith, nat_tests) in
    rw no (fine_take (OrEmpty (BeginsIn IsAtom (suc (suc b)))) (AnyIn IsAtom) (ReadIn IsAtom (suc (suc b))) [] (sign_at at end sign.RoundOpen) ts
    (and_then (r.expr (suc b) ts) closed) (round_in_fine b at end ts l))

tuples_expr : Tuples IsExpr IsAtom tuple_expression
tuples_expr = record { tuple = λ i j p. g.IsAtom.tuple i j (are_exprs p) }

leaf_fine : (b at end : ℕ) (w : What) (x : RawExpr) (ts : List Token) → IsAtom 1 (token at end w ∷ []) x → FineIn IsAtom (suc b) [] (token at end w ∷ ts) (Ok ((x, 1), ts))
leaf_fine b at end w x ts p = record { part = token at end w ∷ []; is = refl; holds = (omega arith, omega arith, p) }

atom_fine : (b : ℕ) → Reader IsExpr b (r.expr b) → (ts : List Token) → FineIn IsAtom (suc b) [] ts (r.atom (suc b) ts)
unfolding readers atom_in peek take name variable
atom_fine b l [] = fine_refuse _ _ _ _ (inl refl)
atom_fine b l (t ∷ ts) = go t.at t.end t.what
  where
    go : (at end : ℕ) (w : What) → FineIn IsAtom (suc b) [] (token at end w ∷ ts) (r.atom (suc b) (token at end w ∷ ts))
    go at end (what.Number n) = leaf_fine b at end (what.Number n) (expression at (expr.Val (value.Int n))) ts (g.IsAtom.literal g.IsLiteral.number)
    go at end (what.Str text) = leaf_fine b at end (what.Str text) (expression at (expr.Val (value.Str text))) ts (g.IsAtom.literal g.IsLiteral.string)
    go at end (what.Ident text) = leaf_fine b at end (what.Ident text) (expression at (expr.Var (g.ident at text))) ts g.IsAtom.variable
    go at end (what.Word key.True) = leaf_fine b at end (what.Word key.True) (expression at (expr.Val (value.Truth true))) ts (g.IsAtom.literal g.IsLiteral.truth)
    go at end (what.Word key.False) = leaf_fine b at end (what.Word key.False) (expression at (expr.Val (value.Truth false))) ts (g.IsAtom.literal g.IsLiteral.falsehood)
    go at end (what.Word key.Main) = leaf_fine b at end (what.Word key.Main) (expression at expr.Main) ts g.IsAtom.main
    go at end (what.Sign sign.RoundOpen) = round_fine b at end ts l
    go at end (what.Sign sign.SquareOpen) = tuple_fine IsExpr IsAtom tuple_expression raises_expr tuples_expr b at end (r.expr b) l ts
    go at end other = fine_refuse (OrEmpty (BeginsIn IsAtom (suc b))) (AnyIn IsAtom) [] (token at end other ∷ ts) (inl refl)

comparison_fine : (b : ℕ) → Reader IsSum b (r.sum b) → (x : ReadExpr) (now rest : List Token) → ReadIn IsSum (suc b) x now
    → FineIn IsExpr (suc b) now rest (comparison (r.sum b) (suc b) x rest)
unfolding comparison peek
comparison_fine b l x now [] p = fine_refuse _ _ _ _ (itself IsSum IsSum IsExpr compares comparisons b x now p)
comparison_fine b l x now (t ∷ rest) p =
    operate_fine IsSum IsSum IsExpr compares comparisons b (r.sum b) l (λ y i. Ok (y, i)) x (λ y s u more q. fine_done (ReadIn IsExpr (suc b)) s u y q) t.at t.end t.what now p rest

level_step : (b : ℕ) → Level b → Level (suc b)
unfolding readers
level_step b l =
    let atoms : Reader IsAtom (suc b) (r.atom (suc b)) = record { fine = atom_fine b l.exprs } in
    let prods' : Reader IsProd (suc b) (r.prod (suc b)) = behind_fine IsAtom IsProd b (r.atom (suc b)) (chain multiplies (r.atom b) (suc b) (suc b)) (record { up = λ p. g.IsProd.atom p }) (some_atom b) atoms
    (λ x now rest p. chain_fine IsProd IsAtom multiplies prods b (r.atom b) l.atoms (suc b) x now (omega (arith, p.1)) (p.0, p.1, g.IsProd.atom p.2) rest) in
    let sums' : Reader IsSum (suc b) (r.sum (suc b)) = behind_fine IsProd IsSum b (r.prod (suc b)) (chain adds (r.prod b) (suc b) (suc b)) (record { up = λ p. g.IsSum.prod p }) (some_prod b) prods'
    (λ x now rest p. chain_fine IsSum IsProd adds sums b (r.prod b) l.prods (suc b) x now (omega (arith, p.1)) (p.0, p.1, g.IsSum.prod p.2) rest) in
    record {
      atoms = atoms;
      prods = prods';
      sums = sums';
      exprs = behind_fine IsSum IsExpr b (r.sum (suc b)) (comparison (r.sum b) (suc b)) (record { up = λ p. g.IsExpr.sum p }) (some_sum b) sums' (comparison_fine b l.sums);
    }

pub level_fine : (b : ℕ) → Level b
level_fine zero = level_zero
level_fine (suc b) = level_step b (level_fine b)
