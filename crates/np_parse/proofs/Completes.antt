-- What the grammar has is read: tuples, and operators.
use Rattle.std.proofs.Common.{◌≡◌, ℕ, zero, suc, ◌+◌, ◌<◌, ◌≤◌, max, List, [], ◌∷◌, ◌++◌, Ok, refl, sym, ap, ◌∙◌, append_assoc, arith}
use Rattle.std.specs.Prelude.{nat_le, false, Option, Some, None}
use Rattle.std.proofs.lemmas.Bool.Decides.{nat_tests}
use Rattle.np_syntax.specs.declared.expression.Op.{Op}
use Rattle.np_syntax.specs.declared.limits.TheConstants.{MOST_PARTS}
use Rattle.np_lex.specs.declared.token.Sign.TheVariants as sign
use Rattle.np_lex.specs.declared.token.Token.{Token}
use Rattle.np_lex.specs.declared.token.What.{What}
use Rattle.np_lex.specs.declared.token.What.TheVariants as what
use Rattle.np_lex.specs.Tokens.{token, sign_at}
use Rattle.np_tree.specs.declared.tree.RawExpr.{RawExpr}
use Rattle.np_tree.specs.declared.tree.RawExprForm as expr
use Rattle.np_tree.specs.Grammar.{expression}
use Rattle.np_parse.specs.Input.{Outcome, Parser, and_then, ◌>>=◌, peek, take}
use Rattle.np_parse.specs.Read.Tuples.{Sized, part_by, parts, tuple_in}
use Rattle.np_parse.specs.Read.Expressions.{ReadExpr, operation, operate, chain}
use Rattle.np_parse.proofs.Parts.{Are}

-- reading comes to this tree, with a depth of at most d
pub record Gives {A : Type 0} (d : ℕ) (o : Outcome (A × ℕ)) (rest : List Token) (x : A) : Type 0 where
  pub depth : ℕ
  pub within : depth ≤ d
  pub some : 0 < depth
  pub reads : o ≡ Ok ((x, depth), rest)

-- what the grammar has within so many levels is read, where what follows it does not go on with it
pub record Complete {A : Type 0} (Is : ℕ → List Token → A → Type 0) (Stop : List Token → Type 0) (b : ℕ) (read : Parser (A × ℕ)) : Type 0 where
  pub give : {d : ℕ} {ts : List Token} {x : A} → Is d ts x → d ≤ b → (rest : List Token) → Stop rest → Gives d (read (ts ++ rest)) rest x

-- ---- tuples

abbrev pub NoClose : What → Type 0
NoClose (what.Sign sign.SquareClose) = ⊥
NoClose _ = Unit {0}

-- a list that begins with a token that closes no tuple
pub record Opens (l : List Token) : Type 0 where
  pub first : Token
  pub rest : List Token
  pub is : l ≡ first ∷ rest
  pub no_close : NoClose first.what

-- parts may follow each other, and a closing bracket may follow them
pub record Follows {A : Type 0} (Is : ℕ → List Token → A → Type 0) (Stop : List Token → Type 0) : Type 0 where
  pub opens : {d : ℕ} {ts : List Token} {x : A} → Is d ts x → (rest : List Token) → Opens (ts ++ rest)
  pub stops : {d : ℕ} {ts : List Token} {x : A} → Is d ts x → (rest : List Token) → Stop (ts ++ rest)
  pub close : (i j : ℕ) (rest : List Token) → Stop (sign_at i j sign.SquareClose ∷ rest)

part_goes_on : {A : Type 0} (again : List A → ℕ → Parser (Sized (List A))) (inner : Parser (Sized A)) (items : List A) (depth : ℕ) (w : What) → NoClose w
    → part_by again inner items depth w ≡ inner >>= (λ x. again (items ++ x.0 ∷ []) (max depth x.1))
part_goes_on again inner items depth (what.Sign sign.SquareClose) n = absurd n
part_goes_on again inner items depth _ n = refl

parts_next : {A : Type 0} (inner : Parser (Sized A)) (room : ℕ) (items : List A) (depth deep : ℕ) (x : A) (us rest : List Token) → Opens us → inner us ≡ Ok ((x, deep), rest)
    → parts inner (suc room) items depth us ≡ parts inner room (items ++ x ∷ []) (max depth deep) rest
unfolding parts peek
parts_next inner room items depth deep x us rest o e =
    let same : inner (o.first ∷ o.rest) ≡ Ok ((x, deep), rest) = ap inner (sym o.is) ∙ e in
    rw (o.is, part_goes_on (parts inner room) inner items depth o.first.what o.no_close, same)

parts_end : {A : Type 0} (inner : Parser (Sized A)) (room : ℕ) (items : List A) (depth i j : ℕ) (rest : List Token)
    → parts inner room items depth (sign_at i j sign.SquareClose ∷ rest) ≡ Ok ((items, depth), rest)
unfolding parts peek take
parts_end inner zero items depth i j rest = refl
parts_end inner (suc room) items depth i j rest = refl

module _ {A : Type 0} (Is : ℕ → List Token → A → Type 0) (Stop : List Token → Type 0) (b : ℕ) (inner : Parser (Sized A)) (c : Complete Is Stop b inner) (f : Follows Is Stop) where
  record Comes (n k d : ℕ) (us : List Token) (xs : List A) (rest : List Token) : Type 0 where
    pub depth : ℕ
    pub room : ℕ
    pub within : depth ≤ d
    pub enough : k ≤ room
    pub reads : parts inner (n + k) [] 0 (us ++ rest) ≡ parts inner room xs depth rest

  one_more : (n k d : ℕ) (us ts : List Token) (xs : List A) (x : A) (rest : List Token) → Opens (ts ++ rest) → Comes n (suc k) d us xs (ts ++ rest) → Gives d (inner (ts ++ rest)) rest x
      → Comes (suc n) k d (us ++ ts) (xs ++ x ∷ []) rest
  one_more n k d us ts xs x rest o p g = go p.room refl
    where
      go : (room : ℕ) → p.room ≡ room → Comes (suc n) k d (us ++ ts) (xs ++ x ∷ []) rest
      go zero e = absurd (omega (arith, p.enough))
      go (suc room) e =
          let turn : suc n + k ≡ n + suc k = omega arith in
          let before : parts inner (n + suc k) [] 0 (us ++ (ts ++ rest)) ≡ parts inner (suc room) xs p.depth (ts ++ rest) = rw (← e) p.reads in
          record {
            depth = max p.depth g.depth;
            room = room;
            within = omega (arith, p.within, g.within);
            enough = omega (arith, p.enough);
            reads = rw (turn, append_assoc us ts rest) (before ∙ parts_next inner room xs p.depth g.depth x (ts ++ rest) rest o g.reads);
          }

  comes : {n d : ℕ} {us : List Token} {xs : List A} → Are Is n d us xs → d ≤ b → (k : ℕ) (rest : List Token) → Stop rest → Comes n k d us xs rest
  comes {n = n} Are.none h k rest s = record { depth = 0; room = n + k; within = omega arith; enough = omega arith; reads = refl }
  comes (Are.part {room = n} {d = d} {ts = ts} {us = us} {x = x} {xs = xs} p q) h k rest s =
      one_more n k d us ts xs x rest (f.opens q rest) (comes p h (suc k) (ts ++ rest) (f.stops q rest)) (c.give q h rest s)

  pub tuple_given : (made : ℕ → List A → A) {d : ℕ} {us : List Token} {xs : List A} → Are Is MOST_PARTS d us xs → d ≤ b → (at end i j : ℕ) (rest : List Token)
      → Gives (suc d) (tuple_in inner made (sign_at at end sign.SquareOpen ∷ (us ++ sign_at i j sign.SquareClose ∷ rest))) rest (made at xs)
  unfolding tuple_in take
  tuple_given made {us = us} {xs = xs} p h at end i j rest =
      let k = comes p h 0 (sign_at i j sign.SquareClose ∷ rest) (f.close i j rest) in
      let all : parts inner MOST_PARTS [] 0 (us ++ sign_at i j sign.SquareClose ∷ rest) ≡ Ok ((xs, k.depth), rest) = k.reads ∙ parts_end inner k.room xs k.depth i j rest in
      record { depth = k.depth + 1; within = omega (arith, k.within); some = omega arith; reads = rw all }

-- ---- operators

-- something follows, and none of these operators
abbrev pub Halts : (What → Option Op) → List Token → Type 0
Halts operator [] = ⊥
Halts operator (t ∷ ts) = operator t.what ≡ None

-- reading comes to a product or sum that may go on
pub record Chained (b d : ℕ) (operator : What → Option Op) (operand full : Parser ReadExpr) (ts rest : List Token) (x : RawExpr) : Type 0 where
  pub depth : ℕ
  pub turns : ℕ
  pub within : depth ≤ d
  pub some : 0 < depth
  pub enough : suc b < turns + depth
  pub reads : full (ts ++ rest) ≡ chain operator operand (suc b) turns (x, depth) rest

chain_halts : (operator : What → Option Op) (operand : Parser ReadExpr) (levels turns : ℕ) (left : ReadExpr) (rest : List Token) → 0 < turns → Halts operator rest
    → chain operator operand levels turns left rest ≡ Ok (left, rest)
unfolding chain peek
chain_halts operator operand levels zero left rest h s = absurd (omega arith)
chain_halts operator operand levels (suc turns) left [] h s = absurd s
chain_halts operator operand levels (suc turns) left (t ∷ rest) h s = rw s

operate_adds : (again : ReadExpr → Parser ReadExpr) (operand : Parser ReadExpr) (levels at end : ℕ) (w : What) (o : Op) (left right : ReadExpr) (us rest : List Token) → left.1 < levels
    → operand us ≡ Ok (right, rest) → operate again operand levels left (Some o) (token at end w ∷ us) ≡ again (operation o left right) rest
unfolding take
operate_adds again operand levels at end w o left right us rest below e =
    let no : nat_le levels left.1 ≡ false = grind (arith, nat_tests) in
    rw (no, e)

chain_adds : (operator : What → Option Op) (operand : Parser ReadExpr) (levels turns at end : ℕ) (w : What) (o : Op) (left right : ReadExpr) (us rest : List Token) → operator w ≡ Some o
    → left.1 < levels → operand us ≡ Ok (right, rest)
    → chain operator operand levels (suc turns) left (token at end w ∷ us) ≡ chain operator operand levels turns (operation o left right) rest
unfolding chain peek
chain_adds operator operand levels turns at end w o left right us rest k below e =
    rw k (operate_adds (chain operator operand levels turns) operand levels at end w o left right us rest below e)

pub chained_one : {b d : ℕ} {operator : What → Option Op} {operand : Parser ReadExpr} (first : Parser ReadExpr) (ts : List Token) {rest : List Token} {x : RawExpr} → Gives d (first (ts ++ rest)) rest x
    → Chained b d operator operand (first >>= chain operator operand (suc b) (suc b)) ts rest x
chained_one {b = b} first ts g = record { depth = g.depth; turns = suc b; within = g.within; some = g.some; enough = omega (arith, g.some); reads = rw g.reads }

pub chained_more : {b d : ℕ} {operator : What → Option Op} {operand full : Parser ReadExpr} {ts rest : List Token} {x y : RawExpr} (us : List Token) (at end : ℕ) (w : What) (o : Op) → operator w ≡ Some o
    → Chained b d operator operand full ts (token at end w ∷ (us ++ rest)) x → Gives d (operand (us ++ rest)) rest y → suc d ≤ suc b
    → Chained b (suc d) operator operand full (ts ++ token at end w ∷ us) rest (expression x.at (expr.Bin o x y))
chained_more {b = b} {d = d} {operator = operator} {operand = operand} {full = full} {ts = ts} {rest = rest} {x = x} {y = y} us at end w o k c g h = go c.turns refl
  where
    go : (turns : ℕ) → c.turns ≡ turns → Chained b (suc d) operator operand full (ts ++ token at end w ∷ us) rest (expression x.at (expr.Bin o x y))
    go zero e = absurd (omega (arith, c.enough, c.within))
    go (suc turns) e =
        let before : full (ts ++ token at end w ∷ (us ++ rest)) ≡ chain operator operand (suc b) (suc turns) (x, c.depth) (token at end w ∷ (us ++ rest)) = rw (← e) c.reads in
        record {
          depth = max c.depth g.depth + 1;
          turns = turns;
          within = omega (arith, c.within, g.within);
          some = omega arith;
          enough = omega (arith, c.enough);
          reads = rw (append_assoc ts (token at end w ∷ us) rest)
              (before ∙ chain_adds operator operand (suc b) turns at end w o (x, c.depth) (y, g.depth) (us ++ rest) rest k (omega (arith, c.within)) g.reads);
        }

pub chained_all : {b d : ℕ} {operator : What → Option Op} {operand full : Parser ReadExpr} {ts rest : List Token} {x : RawExpr} → d ≤ suc b
    → Chained b d operator operand full ts rest x → Halts operator rest → Gives d (full (ts ++ rest)) rest x
chained_all {b = b} {operator = operator} {operand = operand} {rest = rest} {x = x} h c s = record {
  depth = c.depth;
  within = c.within;
  some = c.some;
  reads = c.reads ∙ chain_halts operator operand (suc b) c.turns (x, c.depth) rest (omega (arith, c.enough, c.within)) s;
}

pub compared_one : {d : ℕ} (operand : Parser ReadExpr) (levels : ℕ) (first : Parser ReadExpr) (operator : What → Option Op) (ts : List Token) {rest : List Token} {x : RawExpr}
    → Gives d (first (ts ++ rest)) rest x → Halts operator rest
    → Gives d (and_then (first (ts ++ rest)) (λ left. peek >>= (λ w. operate (λ y i. Ok (y, i)) operand levels left (operator w)))) rest x
unfolding peek
compared_one operand levels first operator ts {rest = []} g s = absurd s
compared_one operand levels first operator ts {rest = t ∷ rest} g s = record { depth = g.depth; within = g.within; some = g.some; reads = rw (g.reads, s) }

pub compared_two : {d : ℕ} (operand : Parser ReadExpr) (levels : ℕ) (first : Parser ReadExpr) (operator : What → Option Op) (at end : ℕ) (w : What) (o : Op) (ts us : List Token) {rest : List Token} {x y : RawExpr}
    → operator w ≡ Some o → suc d ≤ levels → Gives d (first (ts ++ token at end w ∷ (us ++ rest))) (token at end w ∷ (us ++ rest)) x → Gives d (operand (us ++ rest)) rest y
    → Gives (suc d) (and_then (first (ts ++ token at end w ∷ (us ++ rest))) (λ left. peek >>= (λ w. operate (λ z i. Ok (z, i)) operand levels left (operator w)))) rest (expression x.at (expr.Bin o x y))
unfolding peek
compared_two operand levels first operator at end w o ts us {rest = rest} {x = x} {y = y} k h g f = record {
  depth = max g.depth f.depth + 1;
  within = omega (arith, g.within, f.within);
  some = omega arith;
  reads = rw (g.reads, k) (operate_adds (λ z i. Ok (z, i)) operand levels at end w o (x, g.depth) (y, f.depth) (us ++ rest) rest (omega (arith, g.within)) f.reads);
}
