-- With more levels a reader does the same, but where it would have gone too deep.
use Rattle.std.proofs.Common.{◌≡◌, ℕ, zero, suc, ◌≤◌, max, ◌⊎◌, inl, inr, List, [], ◌∷◌, ◌++◌, Ok, Err, refl, arith}
use Rattle.std.specs.Prelude.{Bool, true, false, if◌then◌else◌, nat_le, Option, Some, None}
use Rattle.std.proofs.lemmas.Bool.Decides.{nat_tests}
use Rattle.np_syntax.specs.declared.types.Cap.{Cap}
use Rattle.np_syntax.specs.declared.expression.Op.{Op}
use Rattle.np_syntax.specs.declared.limits.TheConstants.{MOST_PARTS}
use Rattle.np_lex.specs.declared.token.Key.TheVariants as key
use Rattle.np_lex.specs.declared.token.Sign.TheVariants as sign
use Rattle.np_lex.specs.declared.token.Token.{Token}
use Rattle.np_lex.specs.declared.token.What.{What}
use Rattle.np_lex.specs.declared.token.What.TheVariants as what
use Rattle.np_lex.specs.Tokens.{token}
use Rattle.np_parse.specs.declared.fail.ParseFail.{ParseFail}
use Rattle.np_parse.specs.declared.fail.ParseFail.TheVariants as fail
use Rattle.np_parse.specs.Input.{Outcome, Parser, and_then, ◌>>=◌, pure, peek, take, refuse_deep, nothing}
use Rattle.np_parse.specs.Read.Tuples.{Sized, part_by, parts, tuple_in}
use Rattle.np_parse.specs.Read.Types as t
use Rattle.np_parse.specs.Read.Patterns as p
use Rattle.np_parse.specs.Read.Expressions as e

abbrev pub IsDeepFail : ParseFail → Type 0
IsDeepFail (fail.TooDeep at) = Unit {0}
IsDeepFail _ = ⊥

abbrev pub IsDeep : {A : Type 0} → Outcome A → Type 0
IsDeep (Ok p) = ⊥
IsDeep (Err p) = IsDeepFail p.0

pub record Under {A : Type 0} (f g : Parser A) : Type 0 where
  pub at : (ts : List Token) → IsDeep (f ts) ⊎ (f ts ≡ g ts)

pub under_refl : {A : Type 0} (p : Parser A) → Under p p
under_refl p = record { at = λ ts. inr refl }

pub under_then : {A B : Type 0} (p p' : Parser A) (q q' : A → Parser B) → Under p p' → ((a : A) → Under (q a) (q' a)) → Under (p >>= q) (p' >>= q')
under_then {A = A} p p' q q' u v = record { at = λ ts. go ts (p ts) refl (u.at ts) }
  where
    go : (ts : List Token) (o : Outcome A) → p ts ≡ o → IsDeep (p ts) ⊎ (p ts ≡ p' ts) → IsDeep (and_then (p ts) q) ⊎ (and_then (p ts) q ≡ and_then (p' ts) q')
    go ts (Err x) e (inl d) = rw e (inl (rw e at d))
    go ts (Err x) e (inr s) = inr (rw (← s, e))
    go ts (Ok x) e (inl d) = absurd (rw e at d)
    go ts (Ok x) e (inr s) = rw (← s, e) ((v x.0).at x.1)

-- the same step before both
pub under_behind : {A B : Type 0} (p : Parser A) (q q' : A → Parser B) → ((a : A) → Under (q a) (q' a)) → Under (p >>= q) (p >>= q')
under_behind p q q' v = under_then p p q q' (under_refl p) v

pub under_deep : {A : Type 0} (g : Parser A) → Under (refuse_deep {A = A}) g
under_deep g = record { at = λ ts. inl tt }

-- a test of the depth that fails with more levels only where it fails with fewer
pub under_test : {A : Type 0} (a b : Bool) (p q : Parser A) → (b ≡ true → a ≡ true) → Under p q → Under (if a then refuse_deep else p) (if b then refuse_deep else q)
under_test true b p q h u = under_deep _
under_test false true p q h u = let no : false ≡ true = h refl in cc
under_test false false p q h u = u

under_nothing : {A : Type 0} (begins : What → Bool) (g : Parser A) → ((let o : Outcome A = Err (fail.Syntax 0, []) in o) ≡ g [])
    → ((at end : ℕ) (w : What) (ts : List Token) → begins w ≡ false → (let o : Outcome A = Err (fail.Syntax at, token at end w ∷ ts) in o) ≡ g (token at end w ∷ ts)) → Under (nothing begins) g
unfolding nothing peek
under_nothing {A = A} begins g z h = record { at = go }
  where
    test : (t : Token) (ts : List Token) (b : Bool) → begins t.what ≡ b → IsDeep (nothing {A = A} begins (t ∷ ts)) ⊎ (nothing {A = A} begins (t ∷ ts) ≡ g (t ∷ ts))
    test t ts true e = rw e (inl tt)
    test t ts false e = rw e (inr (h t.at t.end t.what ts e))

    go : (ts : List Token) → IsDeep (nothing {A = A} begins ts) ⊎ (nothing {A = A} begins ts ≡ g ts)
    go [] = inr z
    go (t ∷ ts) = test t ts (begins t.what) refl

-- ---- tuples

under_parts : {A : Type 0} (p q : Parser (Sized A)) → Under p q → (room : ℕ) (items : List A) (depth : ℕ) → Under (parts p room items depth) (parts q room items depth)
unfolding parts
under_parts p q u zero items depth = under_refl _
under_parts p q u (suc room) items depth = under_behind peek (part_by (parts p room) p items depth) (part_by (parts q room) q items depth) (go (under_parts p q u room))
  where
    go : ((items : List _) (depth : ℕ) → Under (parts p room items depth) (parts q room items depth)) → (w : What)
        → Under (part_by (parts p room) p items depth w) (part_by (parts q room) q items depth w)
    go again (what.Sign sign.SquareClose) = under_refl _
    go again _ = under_then p q _ _ u (λ x. again (items ++ x.0 ∷ []) (max depth x.1))

under_tuple : {A : Type 0} (p q : Parser (Sized A)) (made : ℕ → List A → A) → Under p q → Under (tuple_in p made) (tuple_in q made)
unfolding tuple_in
under_tuple p q made u = under_behind take (λ at. parts p MOST_PARTS [] 0 >>= (λ xs. pure _)) (λ at. parts q MOST_PARTS [] 0 >>= (λ xs. pure _))
    (λ at. under_then (parts p MOST_PARTS [] 0) (parts q MOST_PARTS [] 0) _ _ (under_parts p q u MOST_PARTS [] 0) (λ xs. under_refl _))

-- ---- types

module _ (p q : Parser t.ReadType) (a b : ℕ) (h : a ≤ b) (u : Under p q) where
  under_carried : (c : Cap) → Under (t.carried p a c) (t.carried q b c)
  unfolding t.carried
  under_carried c = under_test (nat_le a 0) (nat_le b 0) _ _ (λ e. grind (arith, nat_tests)) (under_behind take _ _ (λ _. under_then p q _ _ u (λ x. under_refl _)))

  under_chan_in : Under (t.chan_in p a) (t.chan_in q b)
  unfolding t.chan_in
  under_chan_in = under_behind peek (t.chan_by p a) (t.chan_by q b) go
    where
      go : (w : What) → Under (t.chan_by p a w) (t.chan_by q b w)
      go (what.Sign sign.Caret) = under_carried _
      go (what.Sign sign.Query) = under_carried _
      go (what.Sign sign.Bang) = under_carried _
      go _ = under_refl _

  under_type_in : Under (t.type_in p a) (t.type_in q b)
  unfolding t.type_in
  under_type_in = under_behind peek (t.type_by p a) (t.type_by q b) go
    where
      go : (w : What) → Under (t.type_by p a w) (t.type_by q b w)
      go (what.Sign sign.Caret) = under_carried _
      go (what.Sign sign.Query) = under_carried _
      go (what.Sign sign.Bang) = under_carried _
      go (what.Sign sign.SquareOpen) = under_tuple p q t.tuple_type u
      go _ = under_refl _

under_type_zero : (b : ℕ) → Under (t.type zero) (t.type (suc b))
unfolding t.readers t.type_in peek
under_type_zero b = under_nothing t.begins_type (t.type (suc b)) refl go
  where
    go : (at end : ℕ) (w : What) (ts : List Token) → t.begins_type w ≡ false → (let o : Outcome t.ReadType = Err (fail.Syntax at, token at end w ∷ ts) in o) ≡ t.type (suc b) (token at end w ∷ ts)
    go at end (what.Word key.IntType) ts e = absurd cc
    go at end (what.Word key.BoolType) ts e = absurd cc
    go at end (what.Word key.StringType) ts e = absurd cc
    go at end (what.Word key.SiteType) ts e = absurd cc
    go at end (what.Word key.AgentType) ts e = absurd cc
    go at end (what.Sign sign.SquareOpen) ts e = absurd cc
    go at end (what.Sign sign.Caret) ts e = absurd cc
    go at end (what.Sign sign.Query) ts e = absurd cc
    go at end (what.Sign sign.Bang) ts e = absurd cc
    go at end other ts e = refl

under_type : (a b : ℕ) → a ≤ b → Under (t.type a) (t.type b)
unfolding t.readers
under_type zero zero h = under_refl _
under_type zero (suc b) h = under_type_zero b
under_type (suc a) zero h = absurd (omega arith)
under_type (suc a) (suc b) h = under_type_in (t.type a) (t.type b) a b (omega arith) (under_type a b (omega arith))

under_chan_zero : (b : ℕ) → Under (t.chan zero) (t.chan (suc b))
unfolding t.readers t.chan_in peek
under_chan_zero b = under_nothing t.begins_chan (t.chan (suc b)) refl go
  where
    go : (at end : ℕ) (w : What) (ts : List Token) → t.begins_chan w ≡ false → (let o : Outcome t.ReadType = Err (fail.Syntax at, token at end w ∷ ts) in o) ≡ t.chan (suc b) (token at end w ∷ ts)
    go at end (what.Sign sign.Caret) ts e = absurd cc
    go at end (what.Sign sign.Query) ts e = absurd cc
    go at end (what.Sign sign.Bang) ts e = absurd cc
    go at end other ts e = refl

pub under_chan : (a b : ℕ) → a ≤ b → Under (t.chan a) (t.chan b)
unfolding t.readers
under_chan zero zero h = under_refl _
under_chan zero (suc b) h = under_chan_zero b
under_chan (suc a) zero h = absurd (omega arith)
under_chan (suc a) (suc b) h = under_chan_in (t.type a) (t.type b) a b (omega arith) (under_type a b (omega arith))

-- ---- patterns

under_pat_zero : (b : ℕ) → Under (p.pat zero) (p.pat (suc b))
unfolding p.pat p.pat_in peek
under_pat_zero b = under_nothing p.begins_pat (p.pat (suc b)) refl go
  where
    go : (at end : ℕ) (w : What) (ts : List Token) → p.begins_pat w ≡ false → (let o : Outcome p.ReadPat = Err (fail.Syntax at, token at end w ∷ ts) in o) ≡ p.pat (suc b) (token at end w ∷ ts)
    go at end (what.Ident text) ts e = absurd cc
    go at end (what.Sign sign.Underscore) ts e = absurd cc
    go at end (what.Sign sign.SquareOpen) ts e = absurd cc
    go at end other ts e = refl

pub under_pat : (a b : ℕ) → a ≤ b → Under (p.pat a) (p.pat b)
unfolding p.pat p.pat_in
under_pat zero zero h = under_refl _
under_pat zero (suc b) h = under_pat_zero b
under_pat (suc a) zero h = absurd (omega arith)
under_pat (suc a) (suc b) h = under_behind peek (p.pat_by (p.pat a)) (p.pat_by (p.pat b)) (go (under_pat a b (omega arith)))
  where
    go : Under (p.pat a) (p.pat b) → (w : What) → Under (p.pat_by (p.pat a) w) (p.pat_by (p.pat b) w)
    go u (what.Sign sign.SquareOpen) = under_tuple (p.pat a) (p.pat b) p.tuple_pattern u
    go u _ = under_refl _

-- ---- expressions

under_atom_in : (p q : Parser e.ReadExpr) (a b : ℕ) → a ≤ b → Under p q → Under (e.atom_in p a) (e.atom_in q b)
unfolding e.atom_in e.round
under_atom_in p q a b h u = under_behind peek (e.atom_by p a) (e.atom_by q b) go
  where
    go : (w : What) → Under (e.atom_by p a w) (e.atom_by q b w)
    go (what.Sign sign.RoundOpen) = under_test (nat_le a 0) (nat_le b 0) _ _ (λ e. grind (arith, nat_tests)) (under_behind take _ _ (λ _. under_then p q _ _ u (λ x. under_refl _)))
    go (what.Sign sign.SquareOpen) = under_tuple p q e.tuple_expression u
    go _ = under_refl _

module _ (p q : Parser e.ReadExpr) (u : Under p q) (a b : ℕ) (h : a ≤ b) where
  under_operate : (f g : e.ReadExpr → Parser e.ReadExpr) → ((x : e.ReadExpr) → Under (f x) (g x)) → (left : e.ReadExpr) (o : Option Op) → Under (e.operate f p a left o) (e.operate g q b left o)
  under_operate f g k left (Some o) = under_test (nat_le a left.1) (nat_le b left.1) _ _ (λ e. grind (arith, nat_tests))
      (under_behind take _ _ (λ _. under_then p q _ _ u (λ right. k (e.operation o left right))))
  under_operate f g k left None = under_refl _

  under_chain : (operator : What → Option Op) (m n : ℕ) → m ≤ n → (left : e.ReadExpr) → Under (e.chain operator p a m left) (e.chain operator q b n left)
  unfolding e.chain
  under_chain operator zero n k left = under_deep _
  under_chain operator (suc m) zero k left = absurd (omega arith)
  under_chain operator (suc m) (suc n) k left = under_behind peek _ _
      (λ w. under_operate (e.chain operator p a m) (e.chain operator q b n) (under_chain operator m n (omega arith)) left (operator w))

  under_comparison : (left : e.ReadExpr) → Under (e.comparison p a left) (e.comparison q b left)
  unfolding e.comparison
  under_comparison left = under_behind peek _ _ (λ w. under_operate (λ x. pure x) (λ x. pure x) (λ x. under_refl _) left (e.compares w))

pub record UnderLevel (a b : ℕ) : Type 0 where
  pub atoms : Under (e.atom a) (e.atom b)
  pub prods : Under (e.prod a) (e.prod b)
  pub sums : Under (e.sum a) (e.sum b)
  pub exprs : Under (e.expr a) (e.expr b)

-- what begins no atom is refused by all four
record Refuses (b at end : ℕ) (w : What) (ts : List Token) : Type 0 where
  pub atom : (let o : Outcome e.ReadExpr = Err (fail.Syntax at, token at end w ∷ ts) in o) ≡ e.atom (suc b) (token at end w ∷ ts)
  pub prod : (let o : Outcome e.ReadExpr = Err (fail.Syntax at, token at end w ∷ ts) in o) ≡ e.prod (suc b) (token at end w ∷ ts)
  pub sum : (let o : Outcome e.ReadExpr = Err (fail.Syntax at, token at end w ∷ ts) in o) ≡ e.sum (suc b) (token at end w ∷ ts)
  pub expr : (let o : Outcome e.ReadExpr = Err (fail.Syntax at, token at end w ∷ ts) in o) ≡ e.expr (suc b) (token at end w ∷ ts)

refuses : (b at end : ℕ) (w : What) (ts : List Token) → e.begins_atom w ≡ false → Refuses b at end w ts
unfolding e.readers e.atom_in peek
refuses b at end (what.Number n) ts h = absurd cc
refuses b at end (what.Str text) ts h = absurd cc
refuses b at end (what.Ident text) ts h = absurd cc
refuses b at end (what.Word key.True) ts h = absurd cc
refuses b at end (what.Word key.False) ts h = absurd cc
refuses b at end (what.Word key.Main) ts h = absurd cc
refuses b at end (what.Sign sign.RoundOpen) ts h = absurd cc
refuses b at end (what.Sign sign.SquareOpen) ts h = absurd cc
refuses b at end other ts h = record { atom = refl; prod = refl; sum = refl; expr = refl }

under_level_zero : (b : ℕ) → UnderLevel zero (suc b)
unfolding e.readers e.atom_in peek
under_level_zero b = record {
  atoms = under_nothing e.begins_atom (e.atom (suc b)) refl (λ at end w ts h. (refuses b at end w ts h).atom);
  prods = under_nothing e.begins_atom (e.prod (suc b)) refl (λ at end w ts h. (refuses b at end w ts h).prod);
  sums = under_nothing e.begins_atom (e.sum (suc b)) refl (λ at end w ts h. (refuses b at end w ts h).sum);
  exprs = under_nothing e.begins_atom (e.expr (suc b)) refl (λ at end w ts h. (refuses b at end w ts h).expr);
}

pub under_level : (a b : ℕ) → a ≤ b → UnderLevel a b
unfolding e.readers
under_level zero zero h = record { atoms = under_refl _; prods = under_refl _; sums = under_refl _; exprs = under_refl _ }
under_level zero (suc b) h = under_level_zero b
under_level (suc a) zero h = absurd (omega arith)
under_level (suc a) (suc b) h = step (under_level a b (omega arith))
  where
    step : UnderLevel a b → UnderLevel (suc a) (suc b)
    step l =
        let atoms : Under (e.atom (suc a)) (e.atom (suc b)) = under_atom_in (e.expr a) (e.expr b) a b (omega arith) l.exprs in
        let prods : Under (e.prod (suc a)) (e.prod (suc b)) = under_then (e.atom (suc a)) (e.atom (suc b)) (e.chain e.multiplies (e.atom a) (suc a) (suc a)) (e.chain e.multiplies (e.atom b) (suc b) (suc b)) atoms
        (under_chain (e.atom a) (e.atom b) l.atoms (suc a) (suc b) h e.multiplies (suc a) (suc b) h) in
        let sums : Under (e.sum (suc a)) (e.sum (suc b)) = under_then (e.prod (suc a)) (e.prod (suc b)) (e.chain e.adds (e.prod a) (suc a) (suc a)) (e.chain e.adds (e.prod b) (suc b) (suc b)) prods
        (under_chain (e.prod a) (e.prod b) l.prods (suc a) (suc b) h e.adds (suc a) (suc b) h) in
        record {
          atoms = atoms;
          prods = prods;
          sums = sums;
          exprs = under_then (e.sum (suc a)) (e.sum (suc b)) (e.comparison (e.sum a) (suc a)) (e.comparison (e.sum b) (suc b)) sums (under_comparison (e.sum a) (e.sum b) l.sums (suc a) (suc b) h);
        }
