-- What stands before the processes of a form, and a form without processes, as steps: single tokens, and parts of the grammar.
use Rattle.std.proofs.Common.{ℕ, suc, ◌≤◌, List, [], ◌∷◌, ◌++◌}
use Rattle.std.specs.Prelude.{pos}
use Rattle.np_syntax.specs.declared.types.Cap.TheVariants as cap
use Rattle.np_syntax.specs.declared.types.Ty.{Ty}
use Rattle.np_lex.specs.declared.token.Key.{Key}
use Rattle.np_lex.specs.declared.token.Key.TheVariants as key
use Rattle.np_lex.specs.declared.token.Sign.{Sign}
use Rattle.np_lex.specs.declared.token.Sign.TheVariants as mark
use Rattle.np_lex.specs.declared.token.Token.{Token}
use Rattle.np_lex.specs.declared.token.What.TheVariants as what
use Rattle.np_lex.specs.Tokens.{token, sign_at, word_at, name_at}
use Rattle.np_tree.specs.declared.tree.Ident.{Ident}
use Rattle.np_tree.specs.declared.tree.RawExpr.{RawExpr}
use Rattle.np_tree.specs.declared.tree.RawPat.{RawPat}
use Rattle.np_tree.specs.Grammar as g
use Rattle.np_tree.specs.Grammar.{ident, IsChan, IsPat, IsAtom, IsExpr}
use Rattle.np_parse.specs.Input.{Parser, ◌>>=◌, expect_sign, expect_word}
use Rattle.np_parse.specs.Input as input
use Rattle.np_parse.specs.Read.Tuples.{Sized}
use Rattle.np_parse.specs.Read.Types as types
use Rattle.np_parse.specs.Read.Patterns as patterns
use Rattle.np_parse.specs.Read.Expressions as expressions
use Rattle.np_parse.specs.Read.Heads as heads
use Rattle.np_parse.proofs.RaiseTypes.{raise_chan, raise_pat}
use Rattle.np_parse.proofs.RaiseExprs.{raise_atom, raise_expr}

pub data Kind : Type 0 where
  sign : Sign → Kind
  word : Key → Kind
  name : Kind
  chan : Kind
  pat : Kind
  expr : Kind
  atom : Kind
  message : Kind

-- what the tree has of a step
abbrev pub Held : Kind → Type 0
Held (Kind.sign s) = Unit {0}
Held (Kind.word k) = Unit {0}
Held Kind.name = Ident
Held Kind.chan = Ty
Held Kind.pat = RawPat
Held Kind.expr = RawExpr
Held Kind.atom = RawExpr
Held Kind.message = Ident × RawExpr

-- what its reader gives
abbrev pub Given : Kind → Type 0
Given (Kind.sign s) = ℕ
Given (Kind.word k) = ℕ
Given Kind.name = Ident
Given Kind.chan = Sized Ty
Given Kind.pat = Sized RawPat
Given Kind.expr = Sized RawExpr
Given Kind.atom = Sized RawExpr
Given Kind.message = Ident × RawExpr

abbrev pub held : (k : Kind) → Given k → Held k
held (Kind.sign s) o = tt
held (Kind.word k) o = tt
held Kind.name o = o
held Kind.chan o = o.0
held Kind.pat o = o.0
held Kind.expr o = o.0
held Kind.atom o = o.0
held Kind.message o = o

-- its reader, where the number is how deep each expression, pattern and type may be
abbrev pub reader : ℕ → (k : Kind) → Parser (Given k)
reader m (Kind.sign s) = expect_sign s
reader m (Kind.word k) = expect_word k
reader m Kind.name = input.name
reader m Kind.chan = types.chan m
reader m Kind.pat = patterns.pat m
reader m Kind.expr = expressions.expr m
reader m Kind.atom = expressions.atom m
reader m Kind.message = heads.message m

-- one step after another
pub data Steps (A : Type 0) : Type 0 where
  done : A → Steps A
  step : (k : Kind) → (Held k → Steps A) → Steps A

abbrev pub run : {A B : Type 0} → ℕ → Steps A → (A → Parser B) → Parser B
run m (Steps.done x) next = next x
run m (Steps.step k f) next = reader m k >>= (λ o. run m (f (held k o)) next)

-- ---- the tokens of a step

pub data IsSign (s : Sign) : List Token → Type 0 where
  is : {at end : ℕ} → IsSign s (sign_at at end s ∷ [])

pub data IsWord (k : Key) : List Token → Type 0 where
  is : {at end : ℕ} → IsWord k (word_at at end k ∷ [])

pub data IsName : List Token → Ident → Type 0 where
  is : {at end : ℕ} {text : List ℕ} → IsName (name_at at end text ∷ []) (ident at text)

-- a channel, and what is sent on it
pub data IsMessage (m : ℕ) : List Token → Ident × RawExpr → Type 0 where
  is : {at end i j : ℕ} {text : List ℕ} {ts : List Token} {x : RawExpr} → IsExpr m ts x → IsMessage m (name_at at end text ∷ sign_at i j mark.Bang ∷ ts) (ident at text, x)

abbrev pub IsStep : ℕ → (k : Kind) → List Token → Held k → Type 0
IsStep m (Kind.sign s) ts x = IsSign s ts
IsStep m (Kind.word k) ts x = IsWord k ts
IsStep m Kind.name ts x = IsName ts x
IsStep m Kind.chan ts x = IsChan m ts x
IsStep m Kind.pat ts x = IsPat m ts x
IsStep m Kind.expr ts x = IsExpr m ts x
IsStep m Kind.atom ts x = IsAtom m ts x
IsStep m Kind.message ts x = IsMessage m ts x

raise_message : {m : ℕ} {ts : List Token} {x : Ident × RawExpr} → IsMessage m ts x → (n : ℕ) → m ≤ n → IsMessage n ts x
raise_message (IsMessage.is p) n h = IsMessage.is (raise_expr p n h)

pub raise_step : (m : ℕ) (k : Kind) (ts : List Token) (x : Held k) → IsStep m k ts x → (n : ℕ) → m ≤ n → IsStep n k ts x
raise_step m (Kind.sign s) ts x p n h = p
raise_step m (Kind.word k) ts x p n h = p
raise_step m Kind.name ts x p n h = p
raise_step m Kind.chan ts x p n h = raise_chan p n h
raise_step m Kind.pat ts x p n h = raise_pat p n h
raise_step m Kind.expr ts x p n h = raise_expr p n h
raise_step m Kind.atom ts x p n h = raise_atom p n h
raise_step m Kind.message ts x p n h = raise_message p n h

-- there is always something to go on with
pub record Some (m : ℕ) (k : Kind) : Type 0 where
  pub tokens : List Token
  pub found : Held k
  pub is : IsStep m k tokens found

pub some_step : (m : ℕ) (k : Kind) → Some (suc (suc m)) k
some_step m (Kind.sign s) = record { tokens = sign_at 0 0 s ∷ []; found = tt; is = IsSign.is }
some_step m (Kind.word k) = record { tokens = word_at 0 0 k ∷ []; found = tt; is = IsWord.is }
some_step m Kind.name = record { tokens = name_at 0 0 [] ∷ []; found = ident 0 []; is = IsName.is }
some_step m Kind.chan = record { tokens = sign_at 0 0 mark.Caret ∷ word_at 0 0 key.IntType ∷ []; found = _; is = g.IsChan.carries {c = cap.Both} (g.IsType.ground g.IsGround.int) }
some_step m Kind.pat = record { tokens = sign_at 0 0 mark.Underscore ∷ []; found = _; is = g.IsPat.any }
some_step m Kind.expr = record { tokens = token 0 0 (what.Number (pos 0)) ∷ []; found = _; is = g.IsExpr.sum (g.IsSum.prod (g.IsProd.atom (g.IsAtom.literal g.IsLiteral.number))) }
some_step m Kind.atom = record { tokens = token 0 0 (what.Number (pos 0)) ∷ []; found = _; is = g.IsAtom.literal g.IsLiteral.number }
some_step m Kind.message = record {
  tokens = name_at 0 0 [] ∷ sign_at 0 0 mark.Bang ∷ token 0 0 (what.Number (pos 0)) ∷ [];
  found = _;
  is = IsMessage.is (g.IsExpr.sum (g.IsSum.prod (g.IsProd.atom (g.IsAtom.literal g.IsLiteral.number))));
}

-- ---- what holds of all that the steps can be

-- of all that one step can be
abbrev pub Each : ℕ → (k : Kind) → (List Token → Held k → Type 0) → Type 0
Each m (Kind.sign s) Q = (at end : ℕ) → Q (sign_at at end s ∷ []) tt
Each m (Kind.word k) Q = (at end : ℕ) → Q (word_at at end k ∷ []) tt
Each m Kind.name Q = (at end : ℕ) (text : List ℕ) → Q (name_at at end text ∷ []) (ident at text)
Each m Kind.chan Q = (ts : List Token) (t : Ty) → IsChan m ts t → Q ts t
Each m Kind.pat Q = (ts : List Token) (p : RawPat) → IsPat m ts p → Q ts p
Each m Kind.expr Q = (ts : List Token) (x : RawExpr) → IsExpr m ts x → Q ts x
Each m Kind.atom Q = (ts : List Token) (x : RawExpr) → IsAtom m ts x → Q ts x
Each m Kind.message Q = (at end : ℕ) (text : List ℕ) (i j : ℕ) (ts : List Token) (x : RawExpr) → IsExpr m ts x → Q (name_at at end text ∷ sign_at i j mark.Bang ∷ ts) (ident at text, x)

each_sign : (s : Sign) (Q : List Token → Unit {0} → Type 0) → ((at end : ℕ) → Q (sign_at at end s ∷ []) tt) → {ts : List Token} → IsSign s ts → Q ts tt
each_sign s Q h IsSign.is = h _ _

each_word : (k : Key) (Q : List Token → Unit {0} → Type 0) → ((at end : ℕ) → Q (word_at at end k ∷ []) tt) → {ts : List Token} → IsWord k ts → Q ts tt
each_word k Q h IsWord.is = h _ _

each_name : (Q : List Token → Ident → Type 0) → ((at end : ℕ) (text : List ℕ) → Q (name_at at end text ∷ []) (ident at text)) → {ts : List Token} {x : Ident} → IsName ts x → Q ts x
each_name Q h IsName.is = h _ _ _

each_message : (m : ℕ) (Q : List Token → Ident × RawExpr → Type 0) → Each m Kind.message Q → {ts : List Token} {x : Ident × RawExpr} → IsMessage m ts x → Q ts x
each_message m Q h (IsMessage.is p) = h _ _ _ _ _ _ _ p

each : (m : ℕ) (k : Kind) (Q : List Token → Held k → Type 0) → Each m k Q → (ts : List Token) (x : Held k) → IsStep m k ts x → Q ts x
each m (Kind.sign s) Q h ts x p = each_sign s Q h p
each m (Kind.word k) Q h ts x p = each_word k Q h p
each m Kind.name Q h ts x p = each_name Q h p
each m Kind.chan Q h ts x p = h ts x p
each m Kind.pat Q h ts x p = h ts x p
each m Kind.expr Q h ts x p = h ts x p
each m Kind.atom Q h ts x p = h ts x p
each m Kind.message Q h ts x p = each_message m Q h p

-- of all that the steps can be, in the order in which they stand
abbrev pub InOrder : {A : Type 0} → ℕ → Steps A → (List Token → A → Type 0) → Type 0
InOrder m (Steps.done x) Q = Q [] x
InOrder m (Steps.step k f) Q = Each m k (λ us v. InOrder m (f v) (λ ts x. Q (us ++ ts) x))

abbrev pub All : {A : Type 0} → ℕ → Steps A → (List Token → A → Type 0) → Type 0
All m (Steps.done x) Q = Q [] x
All m (Steps.step k f) Q = (us : List Token) (v : Held k) → IsStep m k us v → All m (f v) (λ ts x. Q (us ++ ts) x)

pub all_of : {A : Type 0} (m : ℕ) (s : Steps A) (Q : List Token → A → Type 0) → InOrder m s Q → All m s Q
all_of m (Steps.done x) Q h = h
all_of m (Steps.step k f) Q h = λ us v p. all_of m (f v) (λ ts x. Q (us ++ ts) x) (each m k (λ us v. InOrder m (f v) (λ ts x. Q (us ++ ts) x)) h us v p)

pub all_map : {A : Type 0} (m : ℕ) (s : Steps A) (Q R : List Token → A → Type 0) → ((ts : List Token) (x : A) → Q ts x → R ts x) → All m s Q → All m s R
all_map m (Steps.done x) Q R f h = f [] x h
all_map m (Steps.step k g) Q R f h = λ us v p. all_map m (g v) (λ ts x. Q (us ++ ts) x) (λ ts x. R (us ++ ts) x) (λ ts x q. f (us ++ ts) x q) (h us v p)

pub all_some : {A : Type 0} (m : ℕ) (s : Steps A) (Q : List Token → A → Type 0) → All (suc (suc m)) s Q → (ts : List Token) × (x : A) × Q ts x
all_some m (Steps.done x) Q h = ([], x, h)
all_some m (Steps.step k f) Q h =
    let v = some_step m k in
    let r = all_some m (f v.found) (λ ts x. Q (v.tokens ++ ts) x) (h v.tokens v.found v.is) in
    (v.tokens ++ r.0, r.1, r.2)
