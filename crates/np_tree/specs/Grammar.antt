-- Which tokens have which tree (docs/LANGUAGE.md, "Grammar" and "Depth"). The number before the tokens is how deep the
-- tree may be at most. Round brackets of expressions count, so a depth is that of a spelling and not of a tree.
use Rattle.std.specs.Prelude.{ℕ, suc, ℤ, pos, true, false, List, [], ◌∷◌, ◌++◌}
use Rattle.np_syntax.specs.declared.value.Value.{Value}
use Rattle.np_syntax.specs.declared.value.Value as value
use Rattle.np_syntax.specs.declared.types.Cap.{Cap}
use Rattle.np_syntax.specs.declared.types.Cap.TheVariants as cap
use Rattle.np_syntax.specs.declared.types.Ty.{Ty}
use Rattle.np_syntax.specs.declared.types.Ty as ty
use Rattle.np_syntax.specs.declared.expression.Op.{Op}
use Rattle.np_syntax.specs.declared.expression.Op.TheVariants as op
use Rattle.np_syntax.specs.declared.limits.TheConstants.{MOST_PARTS}
use Rattle.np_lex.specs.declared.token.Key.{Key}
use Rattle.np_lex.specs.declared.token.Key.TheVariants as key
use Rattle.np_lex.specs.declared.token.Sign.{Sign}
use Rattle.np_lex.specs.declared.token.Sign.TheVariants as sign
use Rattle.np_lex.specs.declared.token.Token.{Token}
use Rattle.np_lex.specs.declared.token.What.{What}
use Rattle.np_lex.specs.declared.token.What.TheVariants as what
use Rattle.np_lex.specs.Tokens.{token, sign_at, word_at, name_at}
use Rattle.np_tree.specs.declared.tree.Ident.{Ident}
use Rattle.np_tree.specs.declared.tree.Tree.{Tree}
use Rattle.np_tree.specs.declared.tree.RawExpr.{RawExpr}
use Rattle.np_tree.specs.declared.tree.RawExprForm.{RawExprForm}
use Rattle.np_tree.specs.declared.tree.RawExprForm as expr
use Rattle.np_tree.specs.declared.tree.RawPat.{RawPat}
use Rattle.np_tree.specs.declared.tree.RawPatForm.{RawPatForm}
use Rattle.np_tree.specs.declared.tree.RawPatForm as pat
use Rattle.np_tree.specs.declared.tree.RawProc.{RawProc}
use Rattle.np_tree.specs.declared.tree.RawProcForm.{RawProcForm}
use Rattle.np_tree.specs.declared.tree.RawProcForm as form

abbrev pub ident : ℕ → List ℕ → Ident
ident at text = record { at = at; text = text }

abbrev pub expression : ℕ → RawExprForm → RawExpr
expression at f = record { at = at; form = f }

abbrev pub pattern : ℕ → RawPatForm → RawPat
pattern at f = record { at = at; form = f }

abbrev pub process : ℕ → RawProcForm → RawProc
process at f = record { at = at; form = f }

-- ---- types

-- "Int" | "Bool" | "String" | "Site" | "Agent"
pub data IsGround : Key → Ty → Type 0 where
  int : IsGround key.IntType ty.Int
  truth : IsGround key.BoolType ty.Bool
  string : IsGround key.StringType ty.Str
  site : IsGround key.SiteType ty.Site
  agent : IsGround key.AgentType ty.Agent

abbrev pub cap_sign : Cap → Sign
cap_sign cap.Both = sign.Caret
cap_sign cap.Input = sign.Query
cap_sign cap.Output = sign.Bang

mutual
  -- type = "Int" | "Bool" | "String" | "Site" | "Agent" | chan | "[" {type} "]"
  pub data IsType : ℕ → List Token → Ty → Type 0 where
    ground : {d at end : ℕ} {k : Key} {t : Ty} → IsGround k t → IsType (suc d) (word_at at end k ∷ []) t
    channel : {d : ℕ} {ts : List Token} {t : Ty} → IsChan d ts t → IsType d ts t
    tuple : {d at end : ℕ} {ts : List Token} {xs : List Ty} (a b : ℕ) → AreTypes MOST_PARTS d ts xs
        → IsType (suc d) (sign_at at end sign.SquareOpen ∷ (ts ++ sign_at a b sign.SquareClose ∷ [])) (ty.Tuple xs)

  -- chan = ("^" | "?" | "!") type
  pub data IsChan : ℕ → List Token → Ty → Type 0 where
    carries : {d at end : ℕ} {c : Cap} {ts : List Token} {t : Ty} → IsType d ts t
        → IsChan (suc d) (sign_at at end (cap_sign c) ∷ ts) (ty.Chan c t)

  -- {type}, no more than the first number
  pub data AreTypes : ℕ → ℕ → List Token → List Ty → Type 0 where
    none : {room d : ℕ} → AreTypes room d [] []
    part : {room d : ℕ} {ts us : List Token} {x : Ty} {xs : List Ty} → AreTypes room d us xs → IsType d ts x
        → AreTypes (suc room) d (us ++ ts) (xs ++ x ∷ [])

-- ---- patterns

mutual
  -- pat = "_" | NAME | "[" {pat} "]"
  pub data IsPat : ℕ → List Token → RawPat → Type 0 where
    any : {d at end : ℕ} → IsPat (suc d) (sign_at at end sign.Underscore ∷ []) (pattern at pat.Any)
    bind : {d at end : ℕ} {text : List ℕ} → IsPat (suc d) (name_at at end text ∷ []) (pattern at (pat.Bind (ident at text)))
    tuple : {d at end : ℕ} {ts : List Token} {xs : List RawPat} (a b : ℕ) → ArePats MOST_PARTS d ts xs
        → IsPat (suc d) (sign_at at end sign.SquareOpen ∷ (ts ++ sign_at a b sign.SquareClose ∷ [])) (pattern at (pat.Tuple xs))

  -- {pat}, no more than the first number
  pub data ArePats : ℕ → ℕ → List Token → List RawPat → Type 0 where
    none : {room d : ℕ} → ArePats room d [] []
    part : {room d : ℕ} {ts us : List Token} {x : RawPat} {xs : List RawPat} → ArePats room d us xs → IsPat d ts x
        → ArePats (suc room) d (us ++ ts) (xs ++ x ∷ [])

-- ---- expressions

-- NUMBER | STRING | "true" | "false"
pub data IsLiteral : What → Value → Type 0 where
  number : {n : ℤ} → IsLiteral (what.Number n) (value.Int n)
  string : {text : List ℕ} → IsLiteral (what.Str text) (value.Str text)
  truth : IsLiteral (what.Word key.True) (value.Truth true)
  falsehood : IsLiteral (what.Word key.False) (value.Truth false)

-- "+" | "-"
pub data Adds : Sign → Op → Type 0 where
  add : Adds sign.Plus op.Add
  sub : Adds sign.Minus op.Sub

-- "<" | "=="
pub data Compares : Sign → Op → Type 0 where
  less : Compares sign.Less op.Less
  same : Compares sign.Same op.Equal

mutual
  -- atom = NUMBER | STRING | "true" | "false" | "main" | NAME | "(" expr ")" | "[" {expr} "]"
  pub data IsAtom : ℕ → List Token → RawExpr → Type 0 where
    literal : {d at end : ℕ} {w : What} {v : Value} → IsLiteral w v → IsAtom (suc d) (token at end w ∷ []) (expression at (expr.Val v))
    main : {d at end : ℕ} → IsAtom (suc d) (word_at at end key.Main ∷ []) (expression at expr.Main)
    variable : {d at end : ℕ} {text : List ℕ} → IsAtom (suc d) (name_at at end text ∷ []) (expression at (expr.Var (ident at text)))
    round : {d at end : ℕ} {ts : List Token} {x : RawExpr} (a b : ℕ) → IsExpr d ts x
        → IsAtom (suc d) (sign_at at end sign.RoundOpen ∷ (ts ++ sign_at a b sign.RoundClose ∷ [])) x
    tuple : {d at end : ℕ} {ts : List Token} {xs : List RawExpr} (a b : ℕ) → AreExprs MOST_PARTS d ts xs
        → IsAtom (suc d) (sign_at at end sign.SquareOpen ∷ (ts ++ sign_at a b sign.SquareClose ∷ [])) (expression at (expr.Tuple xs))

  -- prod = atom {"*" atom}, grouped to the left
  pub data IsProd : ℕ → List Token → RawExpr → Type 0 where
    atom : {d : ℕ} {ts : List Token} {x : RawExpr} → IsAtom d ts x → IsProd d ts x
    times : {d : ℕ} {ts us : List Token} {x y : RawExpr} (a b : ℕ) → IsProd d ts x → IsAtom d us y
        → IsProd (suc d) (ts ++ sign_at a b sign.Star ∷ us) (expression x.at (expr.Bin op.Mul x y))

  -- sum = prod {("+" | "-") prod}, grouped to the left
  pub data IsSum : ℕ → List Token → RawExpr → Type 0 where
    prod : {d : ℕ} {ts : List Token} {x : RawExpr} → IsProd d ts x → IsSum d ts x
    plus : {d : ℕ} {s : Sign} {o : Op} {ts us : List Token} {x y : RawExpr} (a b : ℕ) → Adds s o → IsSum d ts x → IsProd d us y
        → IsSum (suc d) (ts ++ sign_at a b s ∷ us) (expression x.at (expr.Bin o x y))

  -- expr = sum | sum "==" sum | sum "<" sum
  pub data IsExpr : ℕ → List Token → RawExpr → Type 0 where
    sum : {d : ℕ} {ts : List Token} {x : RawExpr} → IsSum d ts x → IsExpr d ts x
    compare : {d : ℕ} {s : Sign} {o : Op} {ts us : List Token} {x y : RawExpr} (a b : ℕ) → Compares s o → IsSum d ts x → IsSum d us y
        → IsExpr (suc d) (ts ++ sign_at a b s ∷ us) (expression x.at (expr.Bin o x y))

  -- {expr}, no more than the first number
  pub data AreExprs : ℕ → ℕ → List Token → List RawExpr → Type 0 where
    none : {room d : ℕ} → AreExprs room d [] []
    part : {room d : ℕ} {ts us : List Token} {x : RawExpr} {xs : List RawExpr} → AreExprs room d us xs → IsExpr d ts x
        → AreExprs (suc room) d (us ++ ts) (xs ++ x ∷ [])

-- ---- processes. The first number is how deep each expression, pattern and type in them may be.

mutual
  pub data IsProc (limit : ℕ) : ℕ → List Token → RawProc → Type 0 where
    -- "0"
    stop : {d at end : ℕ} → IsProc limit (suc d) (token at end (what.Number (pos 0)) ∷ []) (process at form.Stop)
    -- "(" proc "|" proc {"|" proc} ")"
    bracket : {d at end : ℕ} {ts : List Token} {x : RawProc} (a b : ℕ) → AreMany limit at d ts x
        → IsProc limit d (sign_at at end sign.RoundOpen ∷ (ts ++ sign_at a b sign.RoundClose ∷ [])) x
    -- "new" NAME ":" chan "in" proc
    channel : {d at end m n i j : ℕ} {text : List ℕ} {ts us : List Token} {t : Ty} {x : RawProc} (a b : ℕ) → IsChan limit ts t
        → IsProc limit d us x
        → IsProc limit (suc d) (word_at at end key.New ∷ name_at m n text ∷ sign_at i j sign.Colon ∷ (ts ++ word_at a b key.In ∷ us))
        (process at (form.New (ident m text) t x))
    -- NAME "!" expr
    output : {d at end a b : ℕ} {text : List ℕ} {ts : List Token} {x : RawExpr} → IsExpr limit ts x
        → IsProc limit (suc d) (name_at at end text ∷ sign_at a b sign.Bang ∷ ts) (process at (form.Out (ident at text) x))
    -- NAME "?" pat "->" proc
    input : {d at end m n : ℕ} {text : List ℕ} {ts us : List Token} {p : RawPat} {x : RawProc} (a b : ℕ) → IsPat limit ts p
        → IsProc limit d us x
        → IsProc limit (suc d) (name_at at end text ∷ sign_at m n sign.Query ∷ (ts ++ sign_at a b sign.Arrow ∷ us))
        (process at (form.Inp (ident at text) p x))
    -- "*" NAME "?" pat "->" proc
    replicated : {d at end m n i j : ℕ} {text : List ℕ} {ts us : List Token} {p : RawPat} {x : RawProc} (a b : ℕ) → IsPat limit ts p
        → IsProc limit d us x
        → IsProc limit (suc d) (sign_at at end sign.Star ∷ name_at m n text ∷ sign_at i j sign.Query ∷ (ts ++ sign_at a b sign.Arrow ∷ us))
        (process at (form.Rep (ident m text) p x))
    -- "agent" NAME "=" proc "in" proc
    agent : {d at end m n i j : ℕ} {text : List ℕ} {ts us : List Token} {x y : RawProc} (a b : ℕ) → IsProc limit d ts x
        → IsProc limit d us y
        → IsProc limit (suc d) (word_at at end key.AgentWord ∷ name_at m n text ∷ sign_at i j sign.Equals
        ∷ (ts ++ word_at a b key.In ∷ us)) (process at (form.Agent (ident m text) x y))
    -- "migrate" "to" expr "->" proc
    migrate : {d at end m n : ℕ} {ts us : List Token} {x : RawExpr} {y : RawProc} (a b : ℕ) → IsExpr limit ts x → IsProc limit d us y
        → IsProc limit (suc d) (word_at at end key.Migrate ∷ word_at m n key.To ∷ (ts ++ sign_at a b sign.Arrow ∷ us))
        (process at (form.Migrate x y))
    -- "iflocal" "<" atom ">" NAME "!" expr "then" proc "else" proc
    iflocal : {d at end m n : ℕ} {text : List ℕ} {ts us vs ws : List Token} {x z : RawExpr} {p q : RawProc} (a b i j e f g h k l : ℕ)
        → IsAtom limit ts x → IsExpr limit us z → IsProc limit d vs p → IsProc limit d ws q
        → IsProc limit (suc d) (word_at at end key.IfLocal ∷ sign_at m n sign.Less
        ∷ (ts ++ sign_at a b sign.Greater ∷ name_at i j text ∷ sign_at e f sign.Bang
        ∷ (us ++ word_at g h key.Then ∷ (vs ++ word_at k l key.Else ∷ ws)))) (process at (form.IfLocal x (ident i text) z p q))
    -- "<" atom "@" "?" ">" NAME "!" expr
    post : {d at end : ℕ} {text : List ℕ} {ts us : List Token} {x z : RawExpr} (a b m n i j e f g h : ℕ) → IsAtom limit ts x
        → IsExpr limit us z
        → IsProc limit (suc d) (sign_at at end sign.Less
        ∷ (ts ++ sign_at a b sign.At ∷ sign_at m n sign.Query ∷ sign_at i j sign.Greater ∷ name_at e f text
        ∷ sign_at g h sign.Bang ∷ us)) (process at (form.Post x (ident e text) z))
    -- "<" atom "@" atom ">" NAME "!" expr
    send : {d at end : ℕ} {text : List ℕ} {ts us vs : List Token} {x y z : RawExpr} (a b i j e f g h : ℕ) → IsAtom limit ts x
        → IsAtom limit us y → IsExpr limit vs z
        → IsProc limit (suc d) (sign_at at end sign.Less
        ∷ (ts ++ sign_at a b sign.At ∷ (us ++ sign_at i j sign.Greater ∷ name_at e f text ∷ sign_at g h sign.Bang ∷ vs)))
        (process at (form.Send x y (ident e text) z))
    -- "if" expr "then" proc "else" proc
    test : {d at end : ℕ} {ts us vs : List Token} {x : RawExpr} {p q : RawProc} (a b i j : ℕ) → IsExpr limit ts x → IsProc limit d us p
        → IsProc limit d vs q
        → IsProc limit (suc d) (word_at at end key.If ∷ (ts ++ word_at a b key.Then ∷ (us ++ word_at i j key.Else ∷ vs)))
        (process at (form.If x p q))
    -- "let" pat "=" expr "in" proc
    bind : {d at end : ℕ} {ts us vs : List Token} {p : RawPat} {x : RawExpr} {y : RawProc} (a b i j : ℕ) → IsPat limit ts p
        → IsExpr limit us x → IsProc limit d vs y
        → IsProc limit (suc d) (word_at at end key.Let ∷ (ts ++ sign_at a b sign.Equals ∷ (us ++ word_at i j key.In ∷ vs)))
        (process at (form.Let p x y))
    -- "print" expr
    print : {d at end : ℕ} {ts : List Token} {x : RawExpr} → IsExpr limit ts x
        → IsProc limit (suc d) (word_at at end key.Print ∷ ts) (process at (form.Print x))

  -- the processes of the bracket that stands at the offset, grouped to the left
  pub data AreMany (limit : ℕ) : ℕ → ℕ → List Token → RawProc → Type 0 where
    two : {at d : ℕ} {ts us : List Token} {x y : RawProc} (a b : ℕ) → IsProc limit d ts x → IsProc limit d us y
        → AreMany limit at (suc d) (ts ++ sign_at a b sign.Bar ∷ us) (process at (form.Par x y))
    more : {at d : ℕ} {ts us : List Token} {x y : RawProc} (a b : ℕ) → AreMany limit at d ts x → IsProc limit d us y
        → AreMany limit at (suc d) (ts ++ sign_at a b sign.Bar ∷ us) (process at (form.Par x y))

-- ---- programs

-- NAME {NAME}
pub data AreSites : List Token → List Ident → Type 0 where
  one : {at end : ℕ} {text : List ℕ} → AreSites (name_at at end text ∷ []) (ident at text ∷ [])
  more : {ts : List Token} {xs : List Ident} (at end : ℕ) (text : List ℕ) → AreSites ts xs
      → AreSites (ts ++ name_at at end text ∷ []) (xs ++ ident at text ∷ [])

-- program = "sites" NAME {NAME} ";" "main" "at" NAME "=" proc End, where each process, expression, pattern and type is so
-- deep at most
pub data IsProgram : ℕ → List Token → Tree → Type 0 where
  program : {d at end : ℕ} {text : List ℕ} {ts us : List Token} {sites : List Ident} {x : RawProc} (a b e f g h i j k l m n : ℕ)
      → AreSites ts sites → IsProc d d us x
      → IsProgram d (word_at at end key.Sites ∷ (ts ++ sign_at a b sign.Semi ∷ word_at e f key.Main ∷ word_at g h key.At ∷ name_at i j text
      ∷ sign_at k l sign.Equals
      ∷ (us ++ token m n what.End ∷ []))) (record { sites = sites; at = ident i text; main = x })
