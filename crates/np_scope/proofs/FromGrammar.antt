-- A tree that the grammar gives tokens has the values and types that a source can write. Where the tokens are those of at
-- most 1,048,576 bytes, its process nodes and binders have numbers.
use Rattle.std.proofs.Common.{◌≤◌, ℕ, List, [], ◌∷◌, ◌++◌, length, arith}
use Rattle.np_syntax.specs.declared.value.Value.{Value}
use Rattle.np_syntax.specs.declared.types.Ty.{Ty}
use Rattle.np_syntax.specs.declared.limits.TheConstants.{MOST_NODES, MOST_BINDERS, MOST_TOKENS}
use Rattle.np_lex.specs.declared.token.Token.{Token}
use Rattle.np_lex.specs.declared.token.What.{What}
use Rattle.np_lex.specs.declared.token.Key.{Key}
use Rattle.np_tree.specs.declared.tree.Tree.{Tree}
use Rattle.np_tree.specs.declared.tree.RawExpr.{RawExpr}
use Rattle.np_tree.specs.declared.tree.RawProc.{RawProc}
use Rattle.np_tree.specs.Grammar as grammar
use Rattle.np_tree.specs.Grammar.{IsGround, IsType, IsChan, AreTypes, IsAtom, IsProd, IsSum, IsExpr, AreExprs, IsProc, AreMany, IsProgram}
use Rattle.np_tree.specs.Sizes.{nodes, binders}
use Rattle.np_tree.proofs.Counted.{counted}
use Rattle.np_scope.specs.Written.{IsLiteral, IsSourceType, AreSourceTypes, IsChannelType, HasLiterals, HaveLiterals, IsWritten}

-- ---- types

ground : {k : Key} {t : Ty} → IsGround k t → IsSourceType t
ground IsGround.int = IsSourceType.int
ground IsGround.truth = IsSourceType.truth
ground IsGround.string = IsSourceType.string
ground IsGround.site = IsSourceType.site
ground IsGround.agent = IsSourceType.agent

last_type : {ts : List Ty} {t : Ty} → AreSourceTypes ts → IsSourceType t → AreSourceTypes (ts ++ t ∷ [])
last_type AreSourceTypes.none h = AreSourceTypes.more h AreSourceTypes.none
last_type (AreSourceTypes.more g gs) h = AreSourceTypes.more g (last_type gs h)

mutual
  type-written : {d : ℕ} {ts : List Token} {t : Ty} → IsType d ts t → IsSourceType t
  type-written (IsType.ground g) = ground g
  type-written (IsType.channel (IsChan.carries g)) = IsSourceType.channel (type-written g)
  type-written (IsType.tuple a b gs) = IsSourceType.tuple (types-written gs)

  types-written : {room d : ℕ} {ts : List Token} {xs : List Ty} → AreTypes room d ts xs → AreSourceTypes xs
  types-written AreTypes.none = AreSourceTypes.none
  types-written (AreTypes.part gs g) = last_type (types-written gs) (type-written g)

chan-written : {d : ℕ} {ts : List Token} {t : Ty} → IsChan d ts t → IsChannelType t
chan-written (IsChan.carries g) = IsChannelType.carries (type-written g)

-- ---- expressions

literal : {w : What} {v : Value} → grammar.IsLiteral w v → IsLiteral v
literal grammar.IsLiteral.number = IsLiteral.number
literal grammar.IsLiteral.string = IsLiteral.string
literal grammar.IsLiteral.truth = IsLiteral.truth
literal grammar.IsLiteral.falsehood = IsLiteral.truth

last_expr : {es : List RawExpr} {e : RawExpr} → HaveLiterals es → HasLiterals e → HaveLiterals (es ++ e ∷ [])
last_expr HaveLiterals.none h = HaveLiterals.more h HaveLiterals.none
last_expr (HaveLiterals.more g gs) h = HaveLiterals.more g (last_expr gs h)

mutual
  atom-written : {d : ℕ} {ts : List Token} {x : RawExpr} → IsAtom d ts x → HasLiterals x
  atom-written (IsAtom.literal g) = HasLiterals.literal (literal g)
  atom-written IsAtom.main = HasLiterals.main
  atom-written IsAtom.variable = HasLiterals.name
  atom-written (IsAtom.round a b g) = expr-written g
  atom-written (IsAtom.tuple a b gs) = HasLiterals.tuple (exprs-written gs)

  prod-written : {d : ℕ} {ts : List Token} {x : RawExpr} → IsProd d ts x → HasLiterals x
  prod-written (IsProd.atom g) = atom-written g
  prod-written (IsProd.times a b g h) = HasLiterals.operation (prod-written g) (atom-written h)

  sum-written : {d : ℕ} {ts : List Token} {x : RawExpr} → IsSum d ts x → HasLiterals x
  sum-written (IsSum.prod g) = prod-written g
  sum-written (IsSum.plus a b s g h) = HasLiterals.operation (sum-written g) (prod-written h)

  expr-written : {d : ℕ} {ts : List Token} {x : RawExpr} → IsExpr d ts x → HasLiterals x
  expr-written (IsExpr.sum g) = sum-written g
  expr-written (IsExpr.compare a b s g h) = HasLiterals.operation (sum-written g) (sum-written h)

  exprs-written : {room d : ℕ} {ts : List Token} {xs : List RawExpr} → AreExprs room d ts xs → HaveLiterals xs
  exprs-written AreExprs.none = HaveLiterals.none
  exprs-written (AreExprs.part gs g) = last_expr (exprs-written gs) (expr-written g)

-- ---- processes

mutual
  proc-written : {limit d : ℕ} {ts : List Token} {x : RawProc} → IsProc limit d ts x → IsWritten x
  proc-written IsProc.stop = IsWritten.stop
  proc-written (IsProc.bracket a b gs) = many-written gs
  proc-written (IsProc.channel a b t g) = IsWritten.channel (chan-written t) (proc-written g)
  proc-written (IsProc.output e) = IsWritten.output (expr-written e)
  proc-written (IsProc.input a b x g) = IsWritten.input (proc-written g)
  proc-written (IsProc.replicated a b x g) = IsWritten.replicated (proc-written g)
  proc-written (IsProc.agent a b g h) = IsWritten.agent (proc-written g) (proc-written h)
  proc-written (IsProc.migrate a b e g) = IsWritten.migrate (expr-written e) (proc-written g)
  proc-written (IsProc.iflocal a b i j m n o p k l x e g h) = IsWritten.iflocal (atom-written x) (expr-written e) (proc-written g) (proc-written h)
  proc-written (IsProc.post a b m n i j o p g h x e) = IsWritten.post (atom-written x) (expr-written e)
  proc-written (IsProc.send a b i j o p g h x y e) = IsWritten.send (atom-written x) (atom-written y) (expr-written e)
  proc-written (IsProc.test a b i j e g h) = IsWritten.test (expr-written e) (proc-written g) (proc-written h)
  proc-written (IsProc.bind a b i j x e g) = IsWritten.bind (expr-written e) (proc-written g)
  proc-written (IsProc.print e) = IsWritten.print (expr-written e)

  many-written : {limit at d : ℕ} {ts : List Token} {x : RawProc} → AreMany limit at d ts x → IsWritten x
  many-written (AreMany.two a b g h) = IsWritten.parallel (proc-written g) (proc-written h)
  many-written (AreMany.more a b g h) = IsWritten.parallel (many-written g) (proc-written h)

-- ---- programs

pub written : {d : ℕ} {tokens : List Token} {tree : Tree} → IsProgram d tokens tree → IsWritten tree.main
written (IsProgram.program a b e f g h i j k l m n s p) = proc-written p

pub few_nodes : {d : ℕ} {tokens : List Token} {tree : Tree} → IsProgram d tokens tree → length tokens ≤ MOST_TOKENS → nodes tree.main ≤ MOST_NODES
few_nodes h few = let c = counted h in omega (arith, c.0, few)

pub few_binders : {d : ℕ} {tokens : List Token} {tree : Tree} → IsProgram d tokens tree → length tokens ≤ MOST_TOKENS → binders tree.main ≤ MOST_BINDERS
few_binders h few = let c = counted h in omega (arith, c.1, few)

-- what `resolve` asks of a tree
pub ruleset resolvable = (written, few_nodes, few_binders)
