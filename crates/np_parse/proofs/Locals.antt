-- A reader looks at no token past the first that it leaves.
use Rattle.std.proofs.Common.{◌≡◌, ℕ, zero, suc, max, List, [], ◌∷◌, ◌++◌, Ok, Err, refl, sym, ap, ◌∙◌, append_assoc}
use Rattle.std.specs.Prelude.{Bool, true, false, if◌then◌else◌, Option, Some, None}
use Rattle.np_syntax.specs.declared.types.Cap.{Cap}
use Rattle.np_syntax.specs.declared.expression.Op.{Op}
use Rattle.np_syntax.specs.declared.limits.TheConstants.{MOST_PARTS}
use Rattle.np_lex.specs.declared.token.Key.{Key}
use Rattle.np_lex.specs.declared.token.Key.TheVariants as key
use Rattle.np_lex.specs.declared.token.Sign.{Sign}
use Rattle.np_lex.specs.declared.token.Sign.TheVariants as sign
use Rattle.np_lex.specs.declared.token.Token.{Token}
use Rattle.np_lex.specs.declared.token.What.{What}
use Rattle.np_lex.specs.declared.token.What.TheVariants as what
use Rattle.np_tree.specs.declared.tree.RawExprForm.{RawExprForm}
use Rattle.np_parse.specs.Input.{Outcome, Parser, and_then, ◌>>=◌, pure, peek, take, refuse, refuse_deep, nothing, nothing_by, sign_by, expect_sign, word_by, expect_word, name_by, name, end_by, expect_end}
use Rattle.np_parse.specs.Read.Tuples.{Sized, last_by, part_by, parts, tuple_in}
use Rattle.np_parse.specs.Read.Types as t
use Rattle.np_parse.specs.Read.Patterns as p
use Rattle.np_parse.specs.Read.Expressions as e

abbrev pub left_of : {A : Type 0} → Outcome A → List Token
left_of (Ok p) = p.1
left_of (Err p) = p.1

-- the outcome with other tokens left
abbrev pub put : {A : Type 0} → Outcome A → List Token → Outcome A
put (Ok p) l = Ok (p.0, l)
put (Err p) l = Err (p.0, l)

pub record Again {A : Type 0} (f : Parser A) (ts : List Token) (t : Token) (r : List Token) : Type 0 where
  pub part : List Token
  pub is : ts ≡ part ++ t ∷ r
  pub same : (more : List Token) → f (part ++ t ∷ more) ≡ put (f ts) (t ∷ more)

pub record Local {A : Type 0} (f : Parser A) : Type 0 where
  pub again : (ts : List Token) (t : Token) (r : List Token) → left_of (f ts) ≡ t ∷ r → Again f ts t r

pub local_then : {A B : Type 0} (p : Parser A) (q : A → Parser B) → Local p → ((a : A) → Local (q a)) → Local (p >>= q)
local_then {A = A} {B = B} p q l m = record { again = λ ts t r h. go ts t r (p ts) refl h }
  where
    behind : (ts : List Token) (t : Token) (r : List Token) (a : A) (u : List Token) → p ts ≡ Ok (a, u) → (s : List Token) → u ≡ s ++ t ∷ r
        → ((more : List Token) → q a (s ++ t ∷ more) ≡ put (q a u) (t ∷ more)) → Again (p >>= q) ts t r
    behind ts t r a u e [] i k =
        let g = l.again ts t r (ap left_of e ∙ i) in
        record { part = g.part; is = g.is; same = λ more. rw (g.same more, e, k more) }
    behind ts t r a u e (t2 ∷ s) i k =
        let g = l.again ts t2 (s ++ t ∷ r) (ap left_of e ∙ i) in
        record {
          part = g.part ++ t2 ∷ s;
          is = g.is ∙ sym (append_assoc g.part (t2 ∷ s) (t ∷ r));
          same = λ more. rw (append_assoc g.part (t2 ∷ s) (t ∷ more), g.same (s ++ t ∷ more), e, k more);
        }

    go : (ts : List Token) (t : Token) (r : List Token) (o : Outcome A) → p ts ≡ o → left_of (and_then o q) ≡ t ∷ r → Again (p >>= q) ts t r
    go ts t r (Err x) e h =
        let g = l.again ts t r (ap left_of e ∙ h) in
        record { part = g.part; is = g.is; same = λ more. rw (g.same more, e) }
    go ts t r (Ok x) e h = let g = (m x.0).again x.1 t r h in behind ts t r x.0 x.1 e g.part g.is g.same

pub local_peek : Local peek
unfolding peek
local_peek = record { again = go }
  where
    go : (ts : List Token) (t : Token) (r : List Token) → left_of (peek ts) ≡ t ∷ r → Again peek ts t r
    go [] t r h = cc
    go (u ∷ ts) t r h = record { part = []; is = h; same = λ more. let e : u ≡ t = cc in rw e }

pub local_take : Local take
unfolding take
local_take = record { again = go }
  where
    go : (ts : List Token) (t : Token) (r : List Token) → left_of (take ts) ≡ t ∷ r → Again take ts t r
    go [] t r h = cc
    go (u ∷ ts) t r h = record { part = u ∷ []; is = ap (λ l. u ∷ l) h; same = λ more. refl }

pub local_pure : {A : Type 0} (a : A) → Local (pure a)
local_pure a = record { again = λ ts t r h. record { part = []; is = h; same = λ more. refl } }

pub local_refuse : {A : Type 0} → Local (refuse {A = A})
local_refuse = record { again = λ ts t r h. record { part = []; is = h; same = λ more. rw h } }

pub local_deep : {A : Type 0} → Local (refuse_deep {A = A})
local_deep = record { again = λ ts t r h. record { part = []; is = h; same = λ more. rw h } }

pub local_if : {A : Type 0} (b : Bool) (p q : Parser A) → Local p → Local q → Local (if b then p else q)
local_if true p q l m = l
local_if false p q l m = m

-- ---- single tokens

pub local_sign : (s : Sign) → Local (expect_sign s)
unfolding expect_sign
local_sign s = local_then peek (sign_by s) local_peek go
  where
    go : (w : What) → Local (sign_by s w)
    go (what.Sign k) = local_if _ _ _ local_take local_refuse
    go _ = local_refuse

pub local_word : (k : Key) → Local (expect_word k)
unfolding expect_word
local_word k = local_then peek (word_by k) local_peek go
  where
    go : (w : What) → Local (word_by k w)
    go (what.Word j) = local_if _ _ _ local_take local_refuse
    go _ = local_refuse

pub local_name : Local name
unfolding name
local_name = local_then peek name_by local_peek go
  where
    go : (w : What) → Local (name_by w)
    go (what.Ident text) = local_then take _ local_take (λ at. local_pure _)
    go _ = local_refuse

pub local_end : Local expect_end
unfolding expect_end
local_end = local_then peek end_by local_peek go
  where
    go : (w : What) → Local (end_by w)
    go what.End = local_take
    go _ = local_refuse

local_nothing : {A : Type 0} (begins : What → Bool) → Local (nothing {A = A} begins)
unfolding nothing
local_nothing begins = local_then peek (nothing_by begins) local_peek (λ w. local_if (begins w) _ _ local_deep local_refuse)

-- ---- tuples

local_parts : {A : Type 0} (inner : Parser (Sized A)) → Local inner → (room : ℕ) (items : List A) (depth : ℕ) → Local (parts inner room items depth)
unfolding parts
local_parts inner l zero items depth = local_then peek (last_by items depth) local_peek go
  where
    go : (w : What) → Local (last_by items depth w)
    go (what.Sign sign.SquareClose) = local_then take _ local_take (λ _. local_pure _)
    go _ = local_refuse
local_parts inner l (suc room) items depth = local_then peek (part_by (parts inner room) inner items depth) local_peek (go (local_parts inner l room))
  where
    go : ((items : List _) (depth : ℕ) → Local (parts inner room items depth)) → (w : What) → Local (part_by (parts inner room) inner items depth w)
    go again (what.Sign sign.SquareClose) = local_then take _ local_take (λ _. local_pure _)
    go again _ = local_then inner (λ x. parts inner room (items ++ x.0 ∷ []) (max depth x.1)) l (λ x. again (items ++ x.0 ∷ []) (max depth x.1))

local_tuple : {A : Type 0} (inner : Parser (Sized A)) (made : ℕ → List A → A) → Local inner → Local (tuple_in inner made)
unfolding tuple_in
local_tuple inner made l = local_then take (λ at. parts inner MOST_PARTS [] 0 >>= (λ xs. pure _)) local_take (λ at. local_then (parts inner MOST_PARTS [] 0) _ (local_parts inner l MOST_PARTS [] 0) (λ xs. local_pure _))

-- ---- types

local_carried : (inner : Parser t.ReadType) (below : ℕ) (c : Cap) → Local inner → Local (t.carried inner below c)
unfolding t.carried
local_carried inner below c l = local_if _ _ _ local_deep (local_then take _ local_take (λ _. local_then inner _ l (λ x. local_pure _)))

local_chan_by : (inner : Parser t.ReadType) (below : ℕ) → Local inner → (w : What) → Local (t.chan_by inner below w)
local_chan_by inner below l (what.Sign sign.Caret) = local_carried inner below _ l
local_chan_by inner below l (what.Sign sign.Query) = local_carried inner below _ l
local_chan_by inner below l (what.Sign sign.Bang) = local_carried inner below _ l
local_chan_by inner below l _ = local_refuse

local_chan_in : (inner : Parser t.ReadType) (below : ℕ) → Local inner → Local (t.chan_in inner below)
unfolding t.chan_in
local_chan_in inner below l = local_then peek (t.chan_by inner below) local_peek (local_chan_by inner below l)

local_type_in : (inner : Parser t.ReadType) (below : ℕ) → Local inner → Local (t.type_in inner below)
unfolding t.type_in
local_type_in inner below l = local_then peek (t.type_by inner below) local_peek go
  where
    go : (w : What) → Local (t.type_by inner below w)
    go (what.Word key.IntType) = local_then take _ local_take (λ _. local_pure _)
    go (what.Word key.BoolType) = local_then take _ local_take (λ _. local_pure _)
    go (what.Word key.StringType) = local_then take _ local_take (λ _. local_pure _)
    go (what.Word key.SiteType) = local_then take _ local_take (λ _. local_pure _)
    go (what.Word key.AgentType) = local_then take _ local_take (λ _. local_pure _)
    go (what.Sign sign.SquareOpen) = local_tuple inner t.tuple_type l
    go (what.Sign sign.Caret) = local_carried inner below _ l
    go (what.Sign sign.Query) = local_carried inner below _ l
    go (what.Sign sign.Bang) = local_carried inner below _ l
    go _ = local_refuse

local_type : (b : ℕ) → Local (t.type b)
unfolding t.readers
local_type zero = local_nothing t.begins_type
local_type (suc b) = local_type_in (t.type b) b (local_type b)

pub local_chan : (b : ℕ) → Local (t.chan b)
unfolding t.readers
local_chan zero = local_nothing t.begins_chan
local_chan (suc b) = local_chan_in (t.type b) b (local_type b)

-- ---- patterns

pub local_pat : (b : ℕ) → Local (p.pat b)
unfolding p.pat p.pat_in p.any p.binder
local_pat zero = local_nothing p.begins_pat
local_pat (suc b) = local_then peek (p.pat_by (p.pat b)) local_peek (go (local_pat b))
  where
    go : Local (p.pat b) → (w : What) → Local (p.pat_by (p.pat b) w)
    go l (what.Ident text) = local_then name _ local_name (λ x. local_pure _)
    go l (what.Sign sign.Underscore) = local_then take _ local_take (λ at. local_pure _)
    go l (what.Sign sign.SquareOpen) = local_tuple (p.pat b) p.tuple_pattern l
    go l _ = local_refuse

-- ---- expressions

local_leaf : (form : RawExprForm) → Local (e.leaf form)
local_leaf form = local_then _ _ local_take (λ at. local_pure _)

local_atom_in : (inner : Parser e.ReadExpr) (below : ℕ) → Local inner → Local (e.atom_in inner below)
unfolding e.atom_in e.variable e.round
local_atom_in inner below l = local_then peek (e.atom_by inner below) local_peek go
  where
    go : (w : What) → Local (e.atom_by inner below w)
    go (what.Number n) = local_leaf _
    go (what.Str text) = local_leaf _
    go (what.Ident text) = local_then name _ local_name (λ x. local_pure _)
    go (what.Word key.True) = local_leaf _
    go (what.Word key.False) = local_leaf _
    go (what.Word key.Main) = local_leaf _
    go (what.Sign sign.RoundOpen) = local_if _ _ _ local_deep (local_then take _ local_take (λ _. local_then inner _ l (λ x. local_then (expect_sign sign.RoundClose) _ (local_sign _) (λ _. local_pure _))))
    go (what.Sign sign.SquareOpen) = local_tuple inner e.tuple_expression l
    go _ = local_refuse

local_operate : (again : e.ReadExpr → Parser e.ReadExpr) (operand : Parser e.ReadExpr) (levels : ℕ) (left : e.ReadExpr) → ((x : e.ReadExpr) → Local (again x)) → Local operand → (o : Option Op)
    → Local (e.operate again operand levels left o)
local_operate again operand levels left k l (Some o) = local_if _ _ _ local_deep (local_then _ _ local_take (λ _. local_then operand _ l (λ right. k (e.operation o left right))))
local_operate again operand levels left k l None = local_pure left

local_chain : (operator : What → Option Op) (operand : Parser e.ReadExpr) → Local operand → (levels turns : ℕ) (left : e.ReadExpr) → Local (e.chain operator operand levels turns left)
unfolding e.chain
local_chain operator operand l levels zero left = local_deep
local_chain operator operand l levels (suc turns) left = local_then peek _ local_peek
    (λ w. local_operate (e.chain operator operand levels turns) operand levels left (local_chain operator operand l levels turns) l (operator w))

local_comparison : (operand : Parser e.ReadExpr) → Local operand → (levels : ℕ) (left : e.ReadExpr) → Local (e.comparison operand levels left)
unfolding e.comparison
local_comparison operand l levels left = local_then peek _ local_peek (λ w. local_operate (λ x. pure x) operand levels left (λ x. local_pure x) l (e.compares w))

pub record LocalLevel (b : ℕ) : Type 0 where
  pub atoms : Local (e.atom b)
  pub prods : Local (e.prod b)
  pub sums : Local (e.sum b)
  pub exprs : Local (e.expr b)

pub local_level : (b : ℕ) → LocalLevel b
unfolding e.readers
local_level zero = record { atoms = local_nothing e.begins_atom; prods = local_nothing e.begins_atom; sums = local_nothing e.begins_atom; exprs = local_nothing e.begins_atom }
local_level (suc b) = step (local_level b)
  where
    step : LocalLevel b → LocalLevel (suc b)
    step l =
        let atoms : Local (e.atom (suc b)) = local_atom_in (e.expr b) b l.exprs in
        let prods : Local (e.prod (suc b)) = local_then (e.atom (suc b)) (e.chain e.multiplies (e.atom b) (suc b) (suc b)) atoms (local_chain e.multiplies (e.atom b) l.atoms (suc b) (suc b)) in
        let sums : Local (e.sum (suc b)) = local_then (e.prod (suc b)) (e.chain e.adds (e.prod b) (suc b) (suc b)) prods (local_chain e.adds (e.prod b) l.prods (suc b) (suc b)) in
        record { atoms = atoms; prods = prods; sums = sums; exprs = local_then (e.sum (suc b)) (e.comparison (e.sum b) (suc b)) sums (local_comparison (e.sum b) l.sums (suc b)) }
