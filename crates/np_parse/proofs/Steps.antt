-- What a turn of each loop of the reader does.
use Rattle.std.proofs.Common.{◌≡◌, ℕ, suc, ◌+◌, ◌-◌, ◌<◌, ◌≤◌, max, List, [], ◌∷◌, ◌++◌, Ok, Err, refl, arith}
use Rattle.std.specs.Prelude.{nat_le, Bool, true, false, Option, Some, None, if◌then◌else◌}
use Rattle.np_syntax.specs.declared.expression.Op.{Op}
use Rattle.np_lex.specs.declared.token.Sign.TheVariants as sign
use Rattle.np_lex.specs.declared.token.Token.{Token}
use Rattle.np_lex.specs.declared.token.What.{What}
use Rattle.np_lex.specs.declared.token.What.TheVariants as what
use Rattle.np_parse.specs.declared.fail.ParseFail.{ParseFail}
use Rattle.np_parse.specs.declared.operator.Rank.{Rank}
use Rattle.np_parse.specs.declared.operator.Rank.TheVariants as rank
use Rattle.np_tree.specs.Grammar.{process}
use Rattle.np_parse.specs.Input.{Outcome, Parser, and_then, ◌>>=◌, ◌>>◌, pure, refuse_deep, too_deep, peek, take, sign_by, expect_sign}
use Rattle.np_parse.specs.Read.Tuples.{Sized, closes, last_by, part_by, last, parts}
use Rattle.np_parse.specs.Read.Expressions.{ReadExpr, operation, operate, chain, comparison, operator, operator_by, next_operator}
use Rattle.np_parse.specs.declared.head.Double.{Double}
use Rattle.np_parse.specs.Read.Heads.{ReadProc, double_form, between}
use Rattle.np_parse.specs.Read.Processes.{two, double, both, more_by, more, bar_by, bar}

abbrev Again : Type 0 → Type 0
Again A = List A → ℕ → Parser (Sized (List A))

part_closed : {A : Type 0} (again : Again A) (inner : Parser (Sized A)) (items : List A) (depth : ℕ) (w : What) → closes w ≡ true → (i : List Token)
    → part_by again inner items depth w i ≡ and_then (take i) (λ _. pure (items, depth))
part_closed again inner items depth (what.Sign sign.SquareClose) h i = refl
part_closed again inner items depth w h i = absurd (cc)

part_follows : {A : Type 0} (again : Again A) (inner : Parser (Sized A)) (items : List A) (depth : ℕ) (w : What) → closes w ≡ false → (i : List Token)
    → part_by again inner items depth w i ≡ and_then (inner i) (λ x. again (items ++ x.0 ∷ []) (max depth x.1))
part_follows again inner items depth (what.Sign sign.SquareClose) h i = absurd (cc)
part_follows again inner items depth w h i = refl

last_close : {A : Type 0} (items : List A) (depth : ℕ) (i : List Token) → last items depth i ≡ and_then (expect_sign sign.SquareClose i) (λ _. pure (items, depth))
unfolding expect_sign
last_close items depth i = go (peek i)
  where
    by : (w : What) (j : List Token) → last_by items depth w j ≡ and_then (sign_by sign.SquareClose w j) (λ _. pure (items, depth))
    by (what.Sign sign.SquareClose) j = refl
    by w j = refl

    go : (o : Outcome What) → and_then o (last_by items depth) ≡ and_then (and_then o (sign_by sign.SquareClose)) (λ _. pure (items, depth))
    go (Ok p) = by p.0 p.1
    go (Err e) = refl

turn : (n at : ℕ) → at < n → n - at ≡ suc (n - (at + 1))
turn n at h = omega arith

-- ---- the parts of a tuple

module _ {A : Type 0} (inner : Parser (Sized A)) (n at : ℕ) (items : List A) (depth : ℕ) (ts : List Token) where
  pub parts_refused : (e : ParseFail × List Token) → at < n → peek ts ≡ Err e → parts inner (n - at) items depth ts ≡ Err e
  unfolding parts
  parts_refused e h p = rw (turn n at h, p)

  pub parts_end : (w : What) (a : ℕ) (rest : List Token) → at < n → peek ts ≡ Ok (w, ts) → closes w ≡ true → take ts ≡ Ok (a, rest)
      → parts inner (n - at) items depth ts ≡ Ok ((items, depth), rest)
  unfolding parts
  parts_end w a rest h p c q = rw (turn n at h, p, part_closed (parts inner (n - (at + 1))) inner items depth w c ts, q)

  pub parts_stuck : (w : What) (e : ParseFail × List Token) → at < n → peek ts ≡ Ok (w, ts) → closes w ≡ true → take ts ≡ Err e → parts inner (n - at) items depth ts ≡ Err e
  unfolding parts
  parts_stuck w e h p c q = rw (turn n at h, p, part_closed (parts inner (n - (at + 1))) inner items depth w c ts, q)

  pub parts_step : (w : What) → at < n → peek ts ≡ Ok (w, ts) → closes w ≡ false
      → parts inner (n - at) items depth ts ≡ and_then (inner ts) (λ x. parts inner (n - (at + 1)) (items ++ x.0 ∷ []) (max depth x.1))
  unfolding parts
  parts_step w h p c = rw (turn n at h, p) (part_follows (parts inner (n - (at + 1))) inner items depth w c ts)

  pub parts_full : n ≤ at → parts inner (n - at) items depth ts ≡ and_then (expect_sign sign.SquareClose ts) (λ _. pure (items, depth))
  unfolding parts
  parts_full h = let none : n - at ≡ 0 = omega arith in rw none (last_close items depth ts)

pub ruleset all_parts = (parts_refused, parts_end, parts_stuck, parts_step, parts_full)

-- ---- operators

module _ (r : Rank) (operand : Parser ReadExpr) (levels : ℕ) (left : ReadExpr) where
  -- what stands behind the operator, if one stands there
  abbrev applied : (ReadExpr → Parser ReadExpr) → Option Op → Parser ReadExpr
  applied again (Some o) = operand >>= (λ right. again (operation o left right))
  applied again None = pure left

  deep_of : (again : ReadExpr → Parser ReadExpr) (o : Op) (deep : Bool) (i : List Token)
      → (if deep then refuse_deep else (take >> (operand >>= (λ right. again (operation o left right))))) i
      ≡ and_then ((if deep then refuse_deep else (take >> pure (Some o))) i) (applied again)
  deep_of again o true i = refl
  deep_of again o false i = go (take i)
    where
      go : (x : Outcome ℕ) → and_then x (λ _. operand >>= (λ right. again (operation o left right))) ≡ and_then (and_then x (λ _. pure (Some o))) (applied again)
      go (Ok p) = refl
      go (Err e) = refl

  operator_of : (again : ReadExpr → Parser ReadExpr) (o : Option Op) (i : List Token)
      → operate again operand levels left o i ≡ and_then (operator_by levels left.1 o i) (applied again)
  operator_of again (Some o) i = deep_of again o (nat_le levels left.1) i
  operator_of again None i = refl

  peek_of : (again : ReadExpr → Parser ReadExpr) (x : Outcome What)
      → and_then x (λ w. operate again operand levels left (operator r w))
      ≡ and_then (and_then x (λ w. operator_by levels left.1 (operator r w))) (applied again)
  peek_of again (Ok p) = operator_of again (operator r p.0) p.1
  peek_of again (Err e) = refl

  chain_goes : (turns : ℕ) (i : List Token)
      → chain (operator r) operand levels (suc turns) left i ≡ and_then (next_operator r levels left.1 i) (applied (chain (operator r) operand levels turns))
  unfolding chain next_operator
  chain_goes turns i = peek_of (chain (operator r) operand levels turns) (peek i)

-- a comparison is its operator and what stands behind it
pub compared : (operand : Parser ReadExpr) (levels : ℕ) (left : ReadExpr) (i : List Token)
    → comparison operand levels left i ≡ and_then (next_operator rank.Comparison levels left.1 i) (applied rank.Comparison operand levels left pure)
unfolding comparison next_operator
compared operand levels left i = peek_of rank.Comparison operand levels left pure (peek i)

module _ (r : Rank) (operand : Parser ReadExpr) (levels n at : ℕ) (left : ReadExpr) (ts : List Token) where
  pub chain_refused : (e : ParseFail × List Token) → at < n → next_operator r levels left.1 ts ≡ Err e → chain (operator r) operand levels (n - at) left ts ≡ Err e
  chain_refused e h p = rw (turn n at h, chain_goes r operand levels left (n - (at + 1)) ts, p)

  pub chain_done : (rest : List Token) → at < n → next_operator r levels left.1 ts ≡ Ok (None, rest) → chain (operator r) operand levels (n - at) left ts ≡ Ok (left, rest)
  chain_done rest h p = rw (turn n at h, chain_goes r operand levels left (n - (at + 1)) ts, p)

  pub chain_right_refused : (o : Op) (rest : List Token) (e : ParseFail × List Token) → at < n → next_operator r levels left.1 ts ≡ Ok (Some o, rest) → operand rest ≡ Err e
      → chain (operator r) operand levels (n - at) left ts ≡ Err e
  chain_right_refused o rest e h p q = rw (turn n at h, chain_goes r operand levels left (n - (at + 1)) ts, p, q)

  pub chain_step : (o : Op) (rest : List Token) (right : ReadExpr) (after : List Token) → at < n → next_operator r levels left.1 ts ≡ Ok (Some o, rest) → operand rest ≡ Ok (right, after)
      → chain (operator r) operand levels (n - at) left ts ≡ chain (operator r) operand levels (n - (at + 1)) (operation o left right) after
  chain_step o rest right after h p q = rw (turn n at h, chain_goes r operand levels left (n - (at + 1)) ts, p, q)

  pub chain_out : n ≤ at → chain (operator r) operand levels (n - at) left ts ≡ Err (too_deep ts, ts)
  unfolding chain
  chain_out h = let none : n - at ≡ 0 = omega arith in rw none

-- ---- the processes of a bracket

module _ (inner : Parser ReadProc) (levels at : ℕ) (left : ReadProc) where
  -- what stands behind the bar or the closing bracket
  abbrev behind : (ReadProc → Parser ReadProc) → Option ℕ → Parser ReadProc
  behind again (Some o) = inner >>= (λ right. again (both at left right))
  behind again None = pure left

  bar_of : (again : ReadProc → Parser ReadProc) (deep : Bool) (i : List Token)
      → (if deep then refuse_deep else (take >> (inner >>= (λ right. again (both at left right))))) i
      ≡ and_then ((if deep then refuse_deep else (take >>= (λ o. pure (Some o)))) i) (behind again)
  bar_of again true i = refl
  bar_of again false i = go (take i)
    where
      go : (o : Outcome ℕ) → and_then o (λ _. inner >>= (λ right. again (both at left right))) ≡ and_then (and_then o (λ a. pure (Some a))) (behind again)
      go (Ok p) = refl
      go (Err e) = refl

  close_of : (again : ReadProc → Parser ReadProc) (o : Outcome ℕ) → and_then o (λ _. pure left) ≡ and_then (and_then o (λ _. pure None)) (behind again)
  close_of again (Ok p) = refl
  close_of again (Err e) = refl

  sign_of : (again : ReadProc → Parser ReadProc) (w : What) (i : List Token)
      → more_by again inner levels at left w i ≡ and_then (bar_by levels left.1 w i) (behind again)
  sign_of again (what.Sign sign.RoundClose) i = close_of again (take i)
  sign_of again (what.Sign sign.Bar) i = bar_of again (nat_le levels left.1) i
  sign_of again w i = refl

  next_of : (again : ReadProc → Parser ReadProc) (o : Outcome What)
      → and_then o (more_by again inner levels at left) ≡ and_then (and_then o (bar_by levels left.1)) (behind again)
  next_of again (Ok p) = sign_of again p.0 p.1
  next_of again (Err e) = refl

  more_goes : (turns : ℕ) (i : List Token) → more inner levels at (suc turns) left i ≡ and_then (bar levels left.1 i) (behind (more inner levels at turns))
  unfolding more bar
  more_goes turns i = next_of (more inner levels at turns) (peek i)

module _ (inner : Parser ReadProc) (levels place n at : ℕ) (left : ReadProc) (ts : List Token) where
  pub more_refused : (e : ParseFail × List Token) → at < n → bar levels left.1 ts ≡ Err e → more inner levels place (n - at) left ts ≡ Err e
  more_refused e h p = rw (turn n at h, more_goes inner levels place left (n - (at + 1)) ts, p)

  pub more_ended : (rest : List Token) → at < n → bar levels left.1 ts ≡ Ok (None, rest) → more inner levels place (n - at) left ts ≡ Ok (left, rest)
  more_ended rest h p = rw (turn n at h, more_goes inner levels place left (n - (at + 1)) ts, p)

  pub more_right_refused : (o : ℕ) (rest : List Token) (e : ParseFail × List Token) → at < n → bar levels left.1 ts ≡ Ok (Some o, rest) → inner rest ≡ Err e
      → more inner levels place (n - at) left ts ≡ Err e
  more_right_refused o rest e h p r = rw (turn n at h, more_goes inner levels place left (n - (at + 1)) ts, p, r)

  pub more_step : (o : ℕ) (rest : List Token) (right : ReadProc) (after : List Token) → at < n → bar levels left.1 ts ≡ Ok (Some o, rest) → inner rest ≡ Ok (right, after)
      → more inner levels place (n - at) left ts ≡ more inner levels place (n - (at + 1)) (both place left right) after
  more_step o rest right after h p r = rw (turn n at h, more_goes inner levels place left (n - (at + 1)) ts, p, r)

  pub more_out : n ≤ at → more inner levels place (n - at) left ts ≡ Err (too_deep ts, ts)
  unfolding more
  more_out h = let none : n - at ≡ 0 = omega arith in rw none

pub ruleset chains = (chain_refused, chain_done, chain_right_refused, chain_step, chain_out)

pub ruleset mores = (more_refused, more_ended, more_right_refused, more_step, more_out)

-- ---- forms with two processes

module _ (inner : Parser ReadProc) (h : Double) where
  abbrev whole : ReadProc × ReadProc → Parser ReadProc
  whole p = pure (process h.at (double_form h.form p.0.0 p.1.0), max p.0.1 p.1.1 + 1)

  last_of : (x : ReadProc) (o : Outcome ReadProc) → and_then o (λ y. whole (x, y)) ≡ and_then (and_then o (λ y. pure (x, y))) whole
  last_of x (Ok p) = refl
  last_of x (Err e) = refl

  rest_of : (x : ReadProc) (o : Outcome ℕ) → and_then o (λ _. inner >>= λ y. whole (x, y)) ≡ and_then (and_then o (λ _. inner >>= λ y. pure (x, y))) whole
  rest_of x (Ok p) = last_of x (inner p.1)
  rest_of x (Err e) = refl

  both_of : (o : Outcome ReadProc) → and_then o (λ x. between h.form >>= λ _. inner >>= λ y. whole (x, y))
      ≡ and_then (and_then o (λ x. between h.form >>= λ _. inner >>= λ y. pure (x, y))) whole
  both_of (Ok p) = rest_of p.0 (between h.form p.1)
  both_of (Err e) = refl

  -- a form with two processes is made of both
  pub double_two : (i : List Token) → double inner h i ≡ and_then (two inner h.form i) whole
  unfolding double two
  double_two i = both_of (inner i)
