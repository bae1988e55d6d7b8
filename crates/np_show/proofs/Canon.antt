-- A tree that the grammar gives is canonical: its text has no more levels than the tokens that were read.
use Rattle.std.proofs.Common.{◌≡◌, ℕ, suc, ◌≤◌, Bool, true, false, nat_lt, List, [], ◌∷◌, ◌++◌, length, refl, arith, length-append}
use Rattle.std.proofs.lemmas.Bool.Decides.{nat_tests}
use Rattle.np_syntax.specs.declared.value.Value.{Value}
use Rattle.np_syntax.specs.declared.types.Cap.{Cap}
use Rattle.np_syntax.specs.declared.types.Ty.{Ty}
use Rattle.np_syntax.specs.declared.types.Ty as ty
use Rattle.np_syntax.specs.declared.expression.Op.{Op}
use Rattle.np_syntax.specs.declared.expression.Op.TheVariants as op
use Rattle.np_syntax.specs.declared.limits.TheConstants.{MOST_PARTS}
use Rattle.np_lex.specs.declared.token.Key.{Key}
use Rattle.np_lex.specs.declared.token.Token.{Token}
use Rattle.np_lex.specs.declared.token.What.{What}
use Rattle.np_lex.specs.declared.token.What.TheVariants as what
use Rattle.np_lex.specs.Tokens.{IsLegal, AllLegal}
use Rattle.np_tree.specs.declared.tree.RawExpr.{RawExpr}
use Rattle.np_tree.specs.declared.tree.RawExprForm as expr
use Rattle.np_tree.specs.declared.tree.RawPat.{RawPat}
use Rattle.np_tree.specs.declared.tree.RawPatForm as pat
use Rattle.np_tree.specs.Grammar as g
use Rattle.np_tree.specs.Grammar.{ident, expression, pattern, IsGround, IsType, IsChan, AreTypes, IsPat, ArePats, IsLiteral, IsAtom, IsProd, IsSum, IsExpr, AreExprs}
use Rattle.np_show.specs.Shown.{strength, left, right}

pub legal_front : (xs ys : List Token) → AllLegal (xs ++ ys) → AllLegal xs
legal_front [] ys h = tt
legal_front (x ∷ xs) ys h = (h.0, legal_front xs ys h.1)

pub legal_back : (xs ys : List Token) → AllLegal (xs ++ ys) → AllLegal ys
legal_back [] ys h = h
legal_back (x ∷ xs) ys h = legal_back xs ys h.1

-- ---- types

mutual
  pub data IsCanonType : ℕ → Ty → Type 0 where
    ground : {d : ℕ} {k : Key} {t : Ty} → IsGround k t → IsCanonType (suc d) t
    chan : {d : ℕ} {c : Cap} {t : Ty} → IsCanonType d t → IsCanonType (suc d) (ty.Chan c t)
    tuple : {d : ℕ} {ts : List Ty} → length ts ≤ MOST_PARTS → AllCanonTypes d ts → IsCanonType (suc d) (ty.Tuple ts)

  pub data AllCanonTypes : ℕ → List Ty → Type 0 where
    none : {d : ℕ} → AllCanonTypes d []
    more : {d : ℕ} {t : Ty} {ts : List Ty} → IsCanonType d t → AllCanonTypes d ts → AllCanonTypes d (t ∷ ts)

pub data IsCanonChan : ℕ → Ty → Type 0 where
  carries : {d : ℕ} {c : Cap} {t : Ty} → IsCanonType d t → IsCanonChan (suc d) (ty.Chan c t)

snoc_type : {d : ℕ} {ts : List Ty} {t : Ty} → AllCanonTypes d ts → IsCanonType d t → AllCanonTypes d (ts ++ t ∷ [])
snoc_type none c = more c none
snoc_type (more a all) c = more a (snoc_type all c)

few_types : {room d : ℕ} {tokens : List Token} {ts : List Ty} → AreTypes room d tokens ts → length ts ≤ room
few_types g.none = omega arith
few_types (g.part {x = x} {xs = xs} p q) = let h = few_types p in omega (arith, h, length-append xs (x ∷ []))

mutual
  pub canon_type : {d : ℕ} {tokens : List Token} {t : Ty} → IsType d tokens t → IsCanonType d t
  canon_type (g.ground k) = ground k
  canon_type (g.channel c) = canon_carrier c
  canon_type (g.tuple a b p) = tuple (few_types p) (canon_types p)

  canon_carrier : {d : ℕ} {tokens : List Token} {t : Ty} → IsChan d tokens t → IsCanonType d t
  canon_carrier (g.carries x) = chan (canon_type x)

  canon_types : {room d : ℕ} {tokens : List Token} {ts : List Ty} → AreTypes room d tokens ts → AllCanonTypes d ts
  canon_types g.none = none
  canon_types (g.part p q) = snoc_type (canon_types p) (canon_type q)

pub canon_chan : {d : ℕ} {tokens : List Token} {t : Ty} → IsChan d tokens t → IsCanonChan d t
canon_chan (g.carries x) = carries (canon_type x)

-- ---- patterns

mutual
  pub data IsCanonPat : ℕ → RawPat → Type 0 where
    any : {d at : ℕ} → IsCanonPat (suc d) (pattern at pat.Any)
    bind : {d at i : ℕ} {text : List ℕ} → IsLegal (what.Ident text) → IsCanonPat (suc d) (pattern at (pat.Bind (ident i text)))
    tuple_pat : {d at : ℕ} {ps : List RawPat} → length ps ≤ MOST_PARTS → AllCanonPats d ps → IsCanonPat (suc d) (pattern at (pat.Tuple ps))

  pub data AllCanonPats : ℕ → List RawPat → Type 0 where
    none_pat : {d : ℕ} → AllCanonPats d []
    more_pat : {d : ℕ} {p : RawPat} {ps : List RawPat} → IsCanonPat d p → AllCanonPats d ps → AllCanonPats d (p ∷ ps)

snoc_pat : {d : ℕ} {ps : List RawPat} {p : RawPat} → AllCanonPats d ps → IsCanonPat d p → AllCanonPats d (ps ++ p ∷ [])
snoc_pat none_pat c = more_pat c none_pat
snoc_pat (more_pat a all) c = more_pat a (snoc_pat all c)

few_pats : {room d : ℕ} {tokens : List Token} {ps : List RawPat} → ArePats room d tokens ps → length ps ≤ room
few_pats g.none = omega arith
few_pats (g.part {x = x} {xs = xs} p q) = let h = few_pats p in omega (arith, h, length-append xs (x ∷ []))

mutual
  pub canon_pat : {d : ℕ} {ts : List Token} {p : RawPat} → IsPat d ts p → AllLegal ts → IsCanonPat d p
  canon_pat g.any h = any
  canon_pat g.bind h = bind h.0
  canon_pat (g.tuple {ts = ts} a b p) h = tuple_pat (few_pats p) (canon_pats p (legal_front ts _ h.1))

  canon_pats : {room d : ℕ} {ts : List Token} {ps : List RawPat} → ArePats room d ts ps → AllLegal ts → AllCanonPats d ps
  canon_pats g.none h = none_pat
  canon_pats (g.part {ts = ts} {us = us} p q) h = snoc_pat (canon_pats p (legal_front us ts h)) (canon_pat q (legal_back us ts h))

-- ---- expressions: where this strength is needed, the text is so deep at most

mutual
  pub data IsCanon : ℕ → ℕ → RawExpr → Type 0 where
    literal : {l d at : ℕ} {w : What} {v : Value} → IsLiteral w v → IsLegal w → IsCanon l (suc d) (expression at (expr.Val v))
    main : {l d at : ℕ} → IsCanon l (suc d) (expression at expr.Main)
    name : {l d at i : ℕ} {text : List ℕ} → IsLegal (what.Ident text) → IsCanon l (suc d) (expression at (expr.Var (ident i text)))
    tuple_expr : {l d at : ℕ} {xs : List RawExpr} → length xs ≤ MOST_PARTS → AllCanon d xs → IsCanon l (suc d) (expression at (expr.Tuple xs))
    bin : {l d at : ℕ} {o : Op} {x y : RawExpr} → nat_lt (strength o) l ≡ false → IsCanon (left o) d x → IsCanon (right o) d y → IsCanon l (suc d) (expression at (expr.Bin o x y))
    round : {l d at : ℕ} {o : Op} {x y : RawExpr} → nat_lt (strength o) l ≡ true → IsCanon (left o) d x → IsCanon (right o) d y
        → IsCanon l (suc (suc d)) (expression at (expr.Bin o x y))
    deeper : {l d : ℕ} {x : RawExpr} → IsCanon l d x → IsCanon l (suc d) x

  pub data AllCanon : ℕ → List RawExpr → Type 0 where
    none_expr : {d : ℕ} → AllCanon d []
    more_expr : {d : ℕ} {x : RawExpr} {xs : List RawExpr} → IsCanon 0 d x → AllCanon d xs → AllCanon d (x ∷ xs)

no_less : (n : ℕ) → nat_lt n 0 ≡ true → ⊥
no_less n h = grind (arith, nat_tests)

-- round brackets, where they are needed
to_atom : {d : ℕ} {x : RawExpr} → IsCanon 0 d x → IsCanon 3 (suc d) x
to_atom (literal k h) = literal k h
to_atom main = main
to_atom (name h) = name h
to_atom (tuple_expr few all) = deeper (tuple_expr few all)
to_atom (bin {o = o} h x y) = round (weak o) x y
  where
    weak : (o : Op) → nat_lt (strength o) 3 ≡ true
    weak op.Add = refl
    weak op.Sub = refl
    weak op.Mul = refl
    weak op.Less = refl
    weak op.Equal = refl
to_atom (round {o = o} h x y) = absurd (no_less (strength o) h)
to_atom (deeper c) = deeper (to_atom c)

-- where less is needed the text is no deeper
lower : {l d : ℕ} {x : RawExpr} (m : ℕ) → m ≤ l → IsCanon l d x → IsCanon m d x
lower m less (literal k h) = literal k h
lower m less main = main
lower m less (name h) = name h
lower m less (tuple_expr few all) = tuple_expr few all
lower m less (bin {o = o} h x y) = bin (let k : nat_lt (strength o) m ≡ false = grind (arith, nat_tests) in k) x y
lower m less (round {d = d} {at = at} {o = o} {x = x} {y = y} h a b) = go (nat_lt (strength o) m) refl
  where
    go : (test : Bool) → nat_lt (strength o) m ≡ test → IsCanon m (suc (suc d)) (expression at (expr.Bin o x y))
    go true k = round k a b
    go false k = deeper (bin k a b)
lower m less (deeper c) = deeper (lower m less c)

snoc : {d : ℕ} {xs : List RawExpr} {x : RawExpr} → AllCanon d xs → IsCanon 0 d x → AllCanon d (xs ++ x ∷ [])
snoc none_expr c = more_expr c none_expr
snoc (more_expr a all) c = more_expr a (snoc all c)

few_exprs : {room d : ℕ} {ts : List Token} {xs : List RawExpr} → AreExprs room d ts xs → length xs ≤ room
few_exprs g.none = omega arith
few_exprs (g.part {x = x} {xs = xs} p q) = let h = few_exprs p in omega (arith, h, length-append xs (x ∷ []))

mutual
  pub canon_atom : {d : ℕ} {ts : List Token} {x : RawExpr} → IsAtom d ts x → AllLegal ts → IsCanon 3 d x
  canon_atom (g.literal k) h = literal k h.0
  canon_atom g.main h = main
  canon_atom g.variable h = name h.0
  canon_atom (g.round {ts = ts} a b x) h = to_atom (canon_expr x (legal_front ts _ h.1))
  canon_atom (g.tuple {ts = ts} a b x) h = tuple_expr (few_exprs x) (canon_exprs x (legal_front ts _ h.1))

  canon_prod : {d : ℕ} {ts : List Token} {x : RawExpr} → IsProd d ts x → AllLegal ts → IsCanon 2 d x
  canon_prod (g.atom a) h = lower 2 (omega arith) (canon_atom a h)
  canon_prod (g.times {ts = ts} {us = us} a b x y) h = bin refl (canon_prod x (legal_front ts _ h)) (canon_atom y (legal_back ts _ h).1)

  canon_sum : {d : ℕ} {ts : List Token} {x : RawExpr} → IsSum d ts x → AllLegal ts → IsCanon 1 d x
  canon_sum (g.prod a) h = lower 1 (omega arith) (canon_prod a h)
  canon_sum (g.plus {ts = ts} a b g.add x y) h = bin refl (canon_sum x (legal_front ts _ h)) (canon_prod y (legal_back ts _ h).1)
  canon_sum (g.plus {ts = ts} a b g.sub x y) h = bin refl (canon_sum x (legal_front ts _ h)) (canon_prod y (legal_back ts _ h).1)

  pub canon_expr : {d : ℕ} {ts : List Token} {x : RawExpr} → IsExpr d ts x → AllLegal ts → IsCanon 0 d x
  canon_expr (g.sum a) h = lower 0 (omega arith) (canon_sum a h)
  canon_expr (g.compare {ts = ts} a b g.less x y) h = bin refl (canon_sum x (legal_front ts _ h)) (canon_sum y (legal_back ts _ h).1)
  canon_expr (g.compare {ts = ts} a b g.same x y) h = bin refl (canon_sum x (legal_front ts _ h)) (canon_sum y (legal_back ts _ h).1)

  canon_exprs : {room d : ℕ} {ts : List Token} {xs : List RawExpr} → AreExprs room d ts xs → AllLegal ts → AllCanon d xs
  canon_exprs g.none h = none_expr
  canon_exprs (g.part {ts = ts} {us = us} p q) h = snoc (canon_exprs p (legal_front us ts h)) (canon_expr q (legal_back us ts h))
