-- The canonical text of an expression is read as the expression, but for offsets.
use Rattle.std.proofs.Common.{◌≡◌, ℕ, suc, ◌+◌, ◌≤◌, true, false, nat_lt, List, [], ◌∷◌, ◌++◌, length, map, refl, sym, ap, ◌∙◌, arith, append_assoc, append-nil}
use Rattle.std.specs.Prelude.{codes}
use Rattle.np_syntax.specs.Printed.{spaced}
use Rattle.np_syntax.specs.declared.expression.Op.{Op}
use Rattle.np_syntax.specs.declared.limits.TheConstants.{MOST_PARTS}
use Rattle.np_lex.specs.declared.token.Key.TheVariants as key
use Rattle.np_lex.specs.declared.token.Sign.TheVariants as sign
use Rattle.np_lex.specs.declared.token.Token.{Token}
use Rattle.np_lex.specs.Tokens.{sign_at, sign_text}
use Rattle.np_lex.proofs.Goes.{Goes, Soft, then, blank, sign_goes, key_goes, ident_goes}
use Rattle.np_lex.proofs.Goes as goes
use Rattle.np_tree.specs.declared.tree.RawExpr.{RawExpr}
use Rattle.np_tree.specs.declared.tree.RawExprForm as expr
use Rattle.np_tree.specs.Grammar as g
use Rattle.np_tree.specs.Grammar.{ident, expression, AreExprs}
use Rattle.np_tree.specs.Erased.{erased_expr, erased_expr_form}
use Rattle.np_tree.proofs.Erases.{erased-tuple, erased-bin}
use Rattle.np_show.specs.Shown.{op_sign, strength, left, right, joined, bracketed, expr_text}
use Rattle.np_show.proofs.Equations.{text-tuple, text-bin}
use Rattle.np_show.proofs.Canon.{IsCanon, AllCanon, literal, main, name, tuple_expr, bin, round, deeper, none_expr, more_expr}
use Rattle.np_show.proofs.Raise.{Has, raise, has_atom, has_op, has_joined, no_need, widen}
use Rattle.np_show.proofs.Literals.{literal_text, literal_goes}
use Rattle.np_show.proofs.ReadTypes.{ReadAs, from, stay, others, soft_others, squared_text}

-- ---- expressions

abbrev pub ReadsAs : (l d at : ℕ) (bytes rest : List ℕ) → RawExpr → Type 0
ReadsAs l d = ReadAs (Has l d) erased_expr

abbrev PartsAs : (d at : ℕ) (bytes rest : List ℕ) → List RawExpr → Type 0
PartsAs d = ReadAs (AreExprs MOST_PARTS d) (map erased_expr)

-- the same behind parts that were read
abbrev MoreAs : (d at : ℕ) (bytes rest : List ℕ) (us : List Token) (ys xs : List RawExpr) → Type 0
MoreAs d at bytes rest us ys = ReadAs (λ ts trees. AreExprs MOST_PARTS d (us ++ ts) (ys ++ trees)) (map erased_expr) at bytes rest

same_bin : (o : Op) (x y u v : RawExpr) → erased_expr x ≡ erased_expr u → erased_expr y ≡ erased_expr v → erased_expr_form (expr.Bin o x y) ≡ erased_expr_form (expr.Bin o u v)
same_bin o x y u v h k = erased-bin o x y ∙ (λ i. expr.Bin o (h i) (k i)) ∙ sym (erased-bin o u v)

same_tuple : (xs ys : List RawExpr) → map erased_expr xs ≡ map erased_expr ys → erased_expr_form (expr.Tuple xs) ≡ erased_expr_form (expr.Tuple ys)
same_tuple xs ys h = rw (erased-tuple xs, erased-tuple ys, h)

-- the text of an operation without brackets, with what is left behind it
abbrev pub op_then : Op → RawExpr → RawExpr → List ℕ → List ℕ
op_then o x y rest = expr_text (left o) x ++ 32 ∷ (sign_text (op_sign o) ++ 32 ∷ (expr_text (right o) y ++ rest))

joined_text : (o : Op) (x y rest : List ℕ) → joined o x y ++ rest ≡ x ++ 32 ∷ (sign_text (op_sign o) ++ 32 ∷ (y ++ rest))
joined_text o x y rest = tidy (codes " ") (sign_text (op_sign o)) (codes " ")
  where
    tidy : (m s n : List ℕ) → (x ++ m ++ s ++ n ++ y) ++ rest ≡ x ++ (m ++ (s ++ (n ++ (y ++ rest))))
    tidy m s n = simp append_assoc

bin_text : (l at : ℕ) (o : Op) (x y : RawExpr) (rest : List ℕ) → nat_lt (strength o) l ≡ false → expr_text l (expression at (expr.Bin o x y)) ++ rest ≡ op_then o x y rest
bin_text l at o x y rest h =
    ap (λ t. t ++ rest) (text-bin l o x y ∙ ap (λ b. bracketed b (joined o (expr_text (left o) x) (expr_text (right o) y))) h) ∙ joined_text o (expr_text (left o) x) (expr_text (right o) y) rest

round_text : (l at : ℕ) (o : Op) (x y : RawExpr) (rest : List ℕ) → nat_lt (strength o) l ≡ true → expr_text l (expression at (expr.Bin o x y)) ++ rest ≡ 40 ∷ op_then o x y (41 ∷ rest)
round_text l at o x y rest h =
    let inner = joined o (expr_text (left o) x) (expr_text (right o) y) in
    ap (λ t. t ++ rest) (text-bin l o x y ∙ ap (λ b. bracketed b inner) h)
    ∙ ap (λ t. 40 ∷ t) (append_assoc inner (41 ∷ []) rest ∙ joined_text o (expr_text (left o) x) (expr_text (right o) y) (41 ∷ rest))

tuple_text : (l at : ℕ) (xs : List RawExpr) (rest : List ℕ) → expr_text l (expression at (expr.Tuple xs)) ++ rest ≡ 91 ∷ (spaced (map (expr_text 0) xs) ++ 93 ∷ rest)
tuple_text l at xs rest = ap (λ t. t ++ rest) (text-tuple l xs) ∙ squared_text (expr_text 0) xs rest

both : (d : ℕ) {at : ℕ} (o : Op) (rest : List ℕ) (x y : RawExpr)
    (r : ReadsAs (left o) d at (op_then o x y rest) (32 ∷ (sign_text (op_sign o) ++ 32 ∷ (expr_text (right o) y ++ rest))) x)
    → ReadsAs (right o) d (r.end + 1 + length (sign_text (op_sign o)) + 1) (expr_text (right o) y ++ rest) rest y
    → ReadsAs (strength o) (suc d) at (op_then o x y rest) rest (expression 0 (expr.Bin o x y))
both d o rest x y r q = record {
  end = q.end;
  ts = r.ts ++ sign_at (r.end + 1) (r.end + 1 + length (sign_text (op_sign o))) (op_sign o) ∷ q.ts;
  tree = expression r.tree.at (expr.Bin o r.tree q.tree);
  goes = then r.goes (then (blank r.end _) (then (goes.spaced (op_sign o) (r.end + 1) _) (then (blank _ _) q.goes)));
  has = has_joined o _ _ _ _ _ _ _ r.has q.has;
  same = ap (expression 0) (same_bin o r.tree q.tree x y r.same q.same);
}

mutual
  pub reads : {l d : ℕ} {x : RawExpr} → IsCanon l d x → (at : ℕ) (rest : List ℕ) → Soft rest → ReadsAs l d at (expr_text l x ++ rest) rest x
  reads {l = l} (literal {v = v} k legal) at rest soft = record {
    end = _;
    ts = _;
    tree = expression at (expr.Val v);
    goes = from (ap (λ t. t ++ rest) (literal_text k)) (literal_goes k legal at rest soft);
    has = has_atom l (g.literal k);
    same = refl;
  }
  reads {l = l} main at rest soft = record { end = _; ts = _; tree = expression at expr.Main; goes = key_goes key.Main at rest soft; has = has_atom l g.main; same = refl }
  reads {l = l} (name {text = text} h) at rest soft =
      record { end = _; ts = _; tree = expression at (expr.Var (ident at text)); goes = ident_goes h at rest soft; has = has_atom l g.variable; same = refl }
  reads {l = l} (tuple_expr {at = i} {xs = xs} few all) at rest soft =
      let p = parts_read all few (at + 1) (93 ∷ rest) refl in
      record {
        end = p.end + 1;
        ts = sign_at at (at + 1) sign.SquareOpen ∷ (p.ts ++ sign_at p.end (p.end + 1) sign.SquareClose ∷ []);
        tree = expression at (expr.Tuple p.tree);
        goes = from (tuple_text l i xs rest) (then (sign_goes sign.SquareOpen tt at _) (then p.goes (sign_goes sign.SquareClose tt p.end rest)));
        has = has_atom l (g.tuple _ _ p.has);
        same = ap (expression 0) (same_tuple p.tree xs p.same);
      }
  reads {l = l} (bin {at = i} {o = o} {x = x} {y = y} h a b) at rest soft =
      let r = reads a at (32 ∷ (sign_text (op_sign o) ++ 32 ∷ (expr_text (right o) y ++ rest))) refl in
      let q = both _ o rest x y r (reads b (r.end + 1 + length (sign_text (op_sign o)) + 1) rest soft) in
      record { end = q.end; ts = q.ts; tree = q.tree; goes = from (bin_text l i o x y rest h) q.goes; has = has_op o l _ _ _ h q.has; same = q.same }
  reads {l = l} (round {at = i} {o = o} {x = x} {y = y} h a b) at rest soft =
      let r = reads a (at + 1) (32 ∷ (sign_text (op_sign o) ++ 32 ∷ (expr_text (right o) y ++ 41 ∷ rest))) refl in
      let q = both _ o (41 ∷ rest) x y r (reads b (r.end + 1 + length (sign_text (op_sign o)) + 1) (41 ∷ rest) refl) in
      record {
        end = q.end + 1;
        ts = sign_at at (at + 1) sign.RoundOpen ∷ (q.ts ++ sign_at q.end (q.end + 1) sign.RoundClose ∷ []);
        tree = q.tree;
        goes = from (round_text l i o x y rest h) (then (sign_goes sign.RoundOpen tt at _) (then q.goes (sign_goes sign.RoundClose tt q.end rest)));
        has = has_atom l (g.round _ _ (has_op o 0 _ _ _ (no_need (strength o)) q.has));
        same = q.same;
      }
  reads {l = l} (deeper c) at rest soft =
      let r = reads c at rest soft in
      record { end = r.end; ts = r.ts; tree = r.tree; goes = r.goes; has = raise l _ _ _ r.has; same = r.same }

  parts_read : {d : ℕ} {xs : List RawExpr} → AllCanon d xs → length xs ≤ MOST_PARTS → (at : ℕ) (rest : List ℕ) → Soft rest → PartsAs d at (spaced (map (expr_text 0) xs) ++ rest) rest xs
  parts_read none_expr few at rest soft = record { end = at; ts = []; tree = []; goes = stay at rest; has = g.none; same = refl }
  parts_read (more_expr {x = x} {xs = xs} c all) few at rest soft =
      let r = reads c at (others (expr_text 0) xs ++ rest) (soft_others (expr_text 0) xs rest soft) in
      let m = parts_go_on all 1 (omega arith) (r.tree ∷ []) (g.part g.none r.has) r.end rest soft in
      record {
        end = m.end;
        ts = r.ts ++ m.ts;
        tree = r.tree ∷ m.tree;
        goes = from (append_assoc (expr_text 0 x) (others (expr_text 0) xs) rest) (then r.goes m.goes);
        has = m.has;
        same = rw (r.same, m.same);
      }

  parts_go_on : {d : ℕ} {xs : List RawExpr} → AllCanon d xs → (room : ℕ) → room + length xs ≤ MOST_PARTS → {us : List Token} (ys : List RawExpr) → AreExprs room d us ys
      → (at : ℕ) (rest : List ℕ) → Soft rest → MoreAs d at (others (expr_text 0) xs ++ rest) rest us ys xs
  parts_go_on none_expr room few {us = us} ys p at rest soft =
      record { end = at; ts = []; tree = []; goes = stay at rest; has = rw (append-nil us, append-nil ys) (widen p MOST_PARTS (omega arith)); same = refl }
  parts_go_on (more_expr {x = x} {xs = xs} c all) room few {us = us} ys p at rest soft =
      let r = reads c (at + 1) (others (expr_text 0) xs ++ rest) (soft_others (expr_text 0) xs rest soft) in
      let m = parts_go_on all (suc room) (omega arith) (ys ++ r.tree ∷ []) (g.part p r.has) r.end rest soft in
      record {
        end = m.end;
        ts = r.ts ++ m.ts;
        tree = r.tree ∷ m.tree;
        goes = from (ap (λ t. 32 ∷ t) (append_assoc (expr_text 0 x) (others (expr_text 0) xs) rest)) (then (blank at _) (then r.goes m.goes));
        has = simp append_assoc at m.has;
        same = rw (r.same, m.same);
      }
