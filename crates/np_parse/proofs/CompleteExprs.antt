-- The expressions that the grammar has are read.
use Rattle.std.proofs.Common.{◌≡◌, ℕ, zero, suc, ◌+◌, ◌<◌, ◌≤◌, List, [], ◌∷◌, ◌++◌, Ok, refl, sym, subst, append_assoc, arith}
use Rattle.std.specs.Prelude.{nat_le, true, false, Some, None}
use Rattle.std.proofs.lemmas.Bool.Decides.{nat_tests}
use Rattle.np_syntax.specs.declared.value.Value.{Value}
use Rattle.np_syntax.specs.declared.expression.Op.{Op}
use Rattle.np_syntax.specs.declared.expression.Op.TheVariants as op
use Rattle.np_lex.specs.declared.token.Key.TheVariants as key
use Rattle.np_lex.specs.declared.token.Sign.{Sign}
use Rattle.np_lex.specs.declared.token.Sign.TheVariants as sign
use Rattle.np_lex.specs.declared.token.Token.{Token}
use Rattle.np_lex.specs.declared.token.What.{What}
use Rattle.np_lex.specs.declared.token.What.TheVariants as what
use Rattle.np_lex.specs.Tokens.{token, sign_at, word_at, name_at}
use Rattle.np_tree.specs.declared.tree.RawExpr.{RawExpr}
use Rattle.np_tree.specs.declared.tree.RawExprForm as form
use Rattle.np_tree.specs.Grammar as g
use Rattle.np_tree.specs.Grammar.{ident, expression, IsLiteral, Adds, Compares, IsAtom, IsProd, IsSum, IsExpr}
use Rattle.np_parse.specs.Input.{peek, take, name, expect_sign}
use Rattle.np_parse.specs.Read.Tuples.{tuple_in}
use Rattle.np_parse.specs.Read.Expressions.{begins_atom, variable, round, tuple_expression, atom_in, multiplies, adds, compares, comparison, readers, atom, prod, sum, expr}
use Rattle.np_parse.proofs.Parts.{exprs_are}
use Rattle.np_parse.proofs.Completes.{Gives, Complete, NoClose, Opens, Follows, tuple_given, Halts, Chained, chained_one, chained_more, chained_all, compared_one, compared_two}
use Rattle.np_parse.proofs.CompleteTypes.{Anything}

-- ---- what an expression begins with

record Harmless (w : What) : Type 0 where
  pub no_close : NoClose w
  pub no_times : multiplies w ≡ None
  pub no_plus : adds w ≡ None
  pub no_compare : compares w ≡ None

harmless : (w : What) → begins_atom w ≡ true → Harmless w
harmless (what.Number n) e = record { no_close = tt; no_times = refl; no_plus = refl; no_compare = refl }
harmless (what.Str text) e = record { no_close = tt; no_times = refl; no_plus = refl; no_compare = refl }
harmless (what.Ident text) e = record { no_close = tt; no_times = refl; no_plus = refl; no_compare = refl }
harmless (what.Word key.True) e = record { no_close = tt; no_times = refl; no_plus = refl; no_compare = refl }
harmless (what.Word key.False) e = record { no_close = tt; no_times = refl; no_plus = refl; no_compare = refl }
harmless (what.Word key.Main) e = record { no_close = tt; no_times = refl; no_plus = refl; no_compare = refl }
harmless (what.Sign sign.RoundOpen) e = record { no_close = tt; no_times = refl; no_plus = refl; no_compare = refl }
harmless (what.Sign sign.SquareOpen) e = record { no_close = tt; no_times = refl; no_plus = refl; no_compare = refl }
harmless other e = absurd cc

pub record Front (l : List Token) : Type 0 where
  pub first : Token
  pub rest : List Token
  pub is : l ≡ first ∷ rest
  pub begins : begins_atom first.what ≡ true

literal_begins : {w : What} {v : Value} → IsLiteral w v → begins_atom w ≡ true
literal_begins g.IsLiteral.number = refl
literal_begins g.IsLiteral.string = refl
literal_begins g.IsLiteral.truth = refl
literal_begins g.IsLiteral.falsehood = refl

pub atom_front : {d : ℕ} {ts : List Token} {x : RawExpr} → IsAtom d ts x → (rest : List Token) → Front (ts ++ rest)
atom_front (g.IsAtom.literal k) rest = record { first = _; rest = _; is = refl; begins = literal_begins k }
atom_front g.IsAtom.main rest = record { first = _; rest = _; is = refl; begins = refl }
atom_front g.IsAtom.variable rest = record { first = _; rest = _; is = refl; begins = refl }
atom_front (g.IsAtom.round i j r) rest = record { first = _; rest = _; is = refl; begins = refl }
atom_front (g.IsAtom.tuple i j r) rest = record { first = _; rest = _; is = refl; begins = refl }

prod_front : {d : ℕ} {ts : List Token} {x : RawExpr} → IsProd d ts x → (rest : List Token) → Front (ts ++ rest)
prod_front (g.IsProd.atom a) rest = atom_front a rest
prod_front (g.IsProd.times {ts = ts} {us = us} i j x y) rest = rw (append_assoc ts (sign_at i j sign.Star ∷ us) rest) (prod_front x (sign_at i j sign.Star ∷ (us ++ rest)))

sum_front : {d : ℕ} {ts : List Token} {x : RawExpr} → IsSum d ts x → (rest : List Token) → Front (ts ++ rest)
sum_front (g.IsSum.prod a) rest = prod_front a rest
sum_front (g.IsSum.plus {s = s} {ts = ts} {us = us} i j o x y) rest = rw (append_assoc ts (sign_at i j s ∷ us) rest) (sum_front x (sign_at i j s ∷ (us ++ rest)))

expr_front : {d : ℕ} {ts : List Token} {x : RawExpr} → IsExpr d ts x → (rest : List Token) → Front (ts ++ rest)
expr_front (g.IsExpr.sum a) rest = sum_front a rest
expr_front (g.IsExpr.compare {s = s} {ts = ts} {us = us} i j o x y) rest = rw (append_assoc ts (sign_at i j s ∷ us) rest) (sum_front x (sign_at i j s ∷ (us ++ rest)))

-- ---- what may follow

abbrev pub StopProd : List Token → Type 0
StopProd rest = Halts multiplies rest

abbrev pub StopSum : List Token → Type 0
StopSum rest = Halts multiplies rest × Halts adds rest

abbrev pub StopExpr : List Token → Type 0
StopExpr rest = Halts multiplies rest × Halts adds rest × Halts compares rest

front_stops : (l : List Token) → Front l → StopExpr l
front_stops l f =
    let h = harmless f.first.what f.begins in
    let here : StopExpr (f.first ∷ f.rest) = (h.no_times, h.no_plus, h.no_compare) in
    subst StopExpr (sym f.is) here

front_opens : (l : List Token) → Front l → Opens l
front_opens l f = record { first = f.first; rest = f.rest; is = f.is; no_close = (harmless f.first.what f.begins).no_close }

exprs_follow : Follows IsExpr StopExpr
exprs_follow = record { opens = λ {d} {ts} {x} p rest. front_opens _ (expr_front p rest); stops = λ {d} {ts} {x} p rest. front_stops _ (expr_front p rest); close = λ i j rest. (refl, refl, refl) }

adds_is : {s : Sign} {o : Op} → Adds s o → adds (what.Sign s) ≡ Some o
adds_is g.Adds.add = refl
adds_is g.Adds.sub = refl

adds_no_times : {s : Sign} {o : Op} → Adds s o → multiplies (what.Sign s) ≡ None
adds_no_times g.Adds.add = refl
adds_no_times g.Adds.sub = refl

compares_is : {s : Sign} {o : Op} → Compares s o → compares (what.Sign s) ≡ Some o
compares_is g.Compares.less = refl
compares_is g.Compares.same = refl

compares_no_times : {s : Sign} {o : Op} → Compares s o → multiplies (what.Sign s) ≡ None
compares_no_times g.Compares.less = refl
compares_no_times g.Compares.same = refl

compares_no_plus : {s : Sign} {o : Op} → Compares s o → adds (what.Sign s) ≡ None
compares_no_plus g.Compares.less = refl
compares_no_plus g.Compares.same = refl

-- ---- depths are not 0

some_atom : {d : ℕ} {ts : List Token} {x : RawExpr} → IsAtom d ts x → 0 < d
some_atom (g.IsAtom.literal k) = omega arith
some_atom g.IsAtom.main = omega arith
some_atom g.IsAtom.variable = omega arith
some_atom (g.IsAtom.round i j r) = omega arith
some_atom (g.IsAtom.tuple i j r) = omega arith

some_prod : {d : ℕ} {ts : List Token} {x : RawExpr} → IsProd d ts x → 0 < d
some_prod (g.IsProd.atom a) = some_atom a
some_prod (g.IsProd.times i j x y) = omega arith

some_sum : {d : ℕ} {ts : List Token} {x : RawExpr} → IsSum d ts x → 0 < d
some_sum (g.IsSum.prod a) = some_prod a
some_sum (g.IsSum.plus i j o x y) = omega arith

some_expr : {d : ℕ} {ts : List Token} {x : RawExpr} → IsExpr d ts x → 0 < d
some_expr (g.IsExpr.sum a) = some_sum a
some_expr (g.IsExpr.compare i j o x y) = omega arith

-- ---- the rules

literal_reads : (b at end : ℕ) (w : What) (v : Value) (rest : List Token) → IsLiteral w v → atom (suc b) (token at end w ∷ rest) ≡ Ok ((expression at (form.Val v), 1), rest)
unfolding readers atom_in peek take
literal_reads b at end w v rest g.IsLiteral.number = refl
literal_reads b at end w v rest g.IsLiteral.string = refl
literal_reads b at end w v rest g.IsLiteral.truth = refl
literal_reads b at end w v rest g.IsLiteral.falsehood = refl

main_reads : (b at end : ℕ) (rest : List Token) → atom (suc b) (word_at at end key.Main ∷ rest) ≡ Ok ((expression at form.Main, 1), rest)
unfolding readers atom_in peek take
main_reads b at end rest = refl

variable_reads : (b at end : ℕ) (text : List ℕ) (rest : List Token) → atom (suc b) (name_at at end text ∷ rest) ≡ Ok ((expression at (form.Var (ident at text)), 1), rest)
unfolding readers atom_in peek take variable name
variable_reads b at end text rest = refl

round_reads : (b at end i j depth : ℕ) (x : RawExpr) (us rest : List Token) → 0 < b → expr b us ≡ Ok ((x, depth), sign_at i j sign.RoundClose ∷ rest)
    → atom (suc b) (sign_at at end sign.RoundOpen ∷ us) ≡ Ok ((x, depth + 1), rest)
unfolding readers atom_in peek take round expect_sign
round_reads b at end i j depth x us rest some e =
    let no : nat_le b 0 ≡ false = grind (arith, nat_tests) in
    rw (no, e)

atom_tuples : (b at end : ℕ) (us : List Token) → atom (suc b) (sign_at at end sign.SquareOpen ∷ us) ≡ tuple_in (expr b) tuple_expression (sign_at at end sign.SquareOpen ∷ us)
unfolding readers atom_in peek
atom_tuples b at end us = refl

pub record CompleteLevel (b : ℕ) : Type 0 where
  pub atoms : Complete IsAtom Anything b (atom b)
  pub prods : Complete IsProd StopProd b (prod b)
  pub sums : Complete IsSum StopSum b (sum b)
  pub exprs : Complete IsExpr StopExpr b (expr b)

atom_given : (b : ℕ) → CompleteLevel b → {d : ℕ} {ts : List Token} {x : RawExpr} → IsAtom d ts x → d ≤ suc b → (rest : List Token) → Gives d (atom (suc b) (ts ++ rest)) rest x
atom_given b l (g.IsAtom.literal {at = at} {end = end} {w = w} {v = v} k) h rest = record { depth = 1; within = omega arith; some = omega arith; reads = literal_reads b at end w v rest k }
atom_given b l (g.IsAtom.main {at = at} {end = end}) h rest = record { depth = 1; within = omega arith; some = omega arith; reads = main_reads b at end rest }
atom_given b l (g.IsAtom.variable {at = at} {end = end} {text = text}) h rest = record { depth = 1; within = omega arith; some = omega arith; reads = variable_reads b at end text rest }
atom_given b l (g.IsAtom.round {at = at} {end = end} {ts = ts} {x = x} i j r) h rest =
    let k = l.exprs.give r (omega arith) (sign_at i j sign.RoundClose ∷ rest) (refl, refl, refl) in
    record {
      depth = k.depth + 1;
      within = omega (arith, k.within);
      some = omega arith;
      reads = rw (append_assoc ts (sign_at i j sign.RoundClose ∷ []) rest)
          (round_reads b at end i j k.depth x (ts ++ sign_at i j sign.RoundClose ∷ rest) rest (omega (arith, some_expr r)) k.reads);
    }
atom_given b l (g.IsAtom.tuple {at = at} {end = end} {ts = ts} i j r) h rest =
    rw (append_assoc ts (sign_at i j sign.SquareClose ∷ []) rest, atom_tuples b at end (ts ++ sign_at i j sign.SquareClose ∷ rest))
    (tuple_given IsExpr StopExpr b (expr b) l.exprs exprs_follow tuple_expression (exprs_are r) (omega arith) at end i j rest)

module _ (b : ℕ) (l : CompleteLevel b) where
  comes_prod : {d : ℕ} {ts : List Token} {x : RawExpr} → IsProd d ts x → d ≤ suc b → (rest : List Token) → Chained b d multiplies (atom b) (prod (suc b)) ts rest x
  unfolding readers
  comes_prod (g.IsProd.atom {ts = ts} a) h rest = chained_one (atom (suc b)) ts (atom_given b l a h rest)
  comes_prod (g.IsProd.times {us = us} i j x y) h rest =
      chained_more us i j (what.Sign sign.Star) op.Mul refl (comes_prod x (omega arith) (sign_at i j sign.Star ∷ (us ++ rest))) (l.atoms.give y (omega arith) rest tt) h

  prod_given : {d : ℕ} {ts : List Token} {x : RawExpr} → IsProd d ts x → d ≤ suc b → (rest : List Token) → StopProd rest → Gives d (prod (suc b) (ts ++ rest)) rest x
  prod_given p h rest s = chained_all h (comes_prod p h rest) s

  comes_sum : {d : ℕ} {ts : List Token} {x : RawExpr} → IsSum d ts x → d ≤ suc b → (rest : List Token) → StopProd rest → Chained b d adds (prod b) (sum (suc b)) ts rest x
  unfolding readers
  comes_sum (g.IsSum.prod {ts = ts} a) h rest s = chained_one (prod (suc b)) ts (prod_given a h rest s)
  comes_sum (g.IsSum.plus {s = k} {o = o} {us = us} i j p x y) h rest s =
      chained_more us i j (what.Sign k) o (adds_is p) (comes_sum x (omega arith) (sign_at i j k ∷ (us ++ rest)) (adds_no_times p)) (l.prods.give y (omega arith) rest s) h

  sum_given : {d : ℕ} {ts : List Token} {x : RawExpr} → IsSum d ts x → d ≤ suc b → (rest : List Token) → StopSum rest → Gives d (sum (suc b) (ts ++ rest)) rest x
  sum_given p h rest s = chained_all h (comes_sum p h rest s.0) s.1

  expr_given : {d : ℕ} {ts : List Token} {x : RawExpr} → IsExpr d ts x → d ≤ suc b → (rest : List Token) → StopExpr rest → Gives d (expr (suc b) (ts ++ rest)) rest x
  unfolding readers comparison
  expr_given (g.IsExpr.sum {ts = ts} a) h rest s = compared_one (sum b) (suc b) (sum (suc b)) compares ts (sum_given a h rest (s.0, s.1)) s.2
  expr_given (g.IsExpr.compare {s = k} {o = o} {ts = ts} {us = us} i j p x y) h rest s =
      rw (append_assoc ts (sign_at i j k ∷ us) rest)
      (compared_two (sum b) (suc b) (sum (suc b)) compares i j (what.Sign k) o ts us (compares_is p) h
      (sum_given x (omega arith) (sign_at i j k ∷ (us ++ rest)) (compares_no_times p, compares_no_plus p))
      (l.sums.give y (omega arith) rest (s.0, s.1)))

pub complete_level : (b : ℕ) → CompleteLevel b
complete_level zero = record {
  atoms = record { give = λ {d} {ts} {x} p h rest s. absurd (omega (arith, some_atom p)) };
  prods = record { give = λ {d} {ts} {x} p h rest s. absurd (omega (arith, some_prod p)) };
  sums = record { give = λ {d} {ts} {x} p h rest s. absurd (omega (arith, some_sum p)) };
  exprs = record { give = λ {d} {ts} {x} p h rest s. absurd (omega (arith, some_expr p)) };
}
complete_level (suc b) = step (complete_level b)
  where
    step : CompleteLevel b → CompleteLevel (suc b)
    step l = record {
      atoms = record { give = λ {d} {ts} {x} p h rest s. atom_given b l p h rest };
      prods = record { give = λ {d} {ts} {x} p h rest s. prod_given b l p h rest s };
      sums = record { give = λ {d} {ts} {x} p h rest s. sum_given b l p h rest s };
      exprs = record { give = λ {d} {ts} {x} p h rest s. expr_given b l p h rest s };
    }
