-- What the translation and the daemon write out (docs/TRANSLATION.md, "Translation and daemon"). It has the offset 0; what is
-- taken over from the source keeps its own.
use Rattle.std.specs.Prelude.{ℕ, ◌≡◌, [], ◌∷◌, Result, IfOk}
use Rattle.np_syntax.specs.declared.memory.Memory.{Memory}
use Rattle.np_syntax.specs.declared.value.Value as value
use Rattle.np_syntax.specs.declared.expression.Expr.{Expr}
use Rattle.np_syntax.specs.declared.expression.ExprForm.{ExprForm}
use Rattle.np_syntax.specs.declared.expression.ExprForm as expr
use Rattle.np_syntax.specs.declared.pattern.Pat.{Pat}
use Rattle.np_syntax.specs.declared.pattern.PatForm.{PatForm}
use Rattle.np_syntax.specs.declared.pattern.PatForm as pat
use Rattle.np_syntax.specs.declared.process.Role.{Role}
use Rattle.np_syntax.specs.declared.process.Role.TheVariants as role
use Rattle.np_syntax.specs.declared.process.Proc.{Proc}
use Rattle.np_syntax.specs.declared.process.ProcForm.{ProcForm}
use Rattle.np_syntax.specs.declared.process.ProcForm as form
use Rattle.np_calculus.specs.Starts.{own}

-- what was written out is x, unless memory was wanting
abbrev pub Writes : {A : Type 0} → Result A Memory → A → Type 0
Writes written x = IfOk written (λ y. y ≡ x)

-- ---- expressions and patterns

abbrev pub expression : ExprForm → Expr
expression f = record { at = 0; form = f }

abbrev pub pattern : PatForm → Pat
pattern f = record { at = 0; form = f }

abbrev pub variable : ℕ → Expr
variable x = expression (expr.Var x)

abbrev pub name : ℕ → Pat
name x = pattern (pat.Bind x)

abbrev pub nothing : Pat
nothing = pattern pat.Any

abbrev pub unit : Expr
unit = expression (expr.Tuple [])

abbrev pub pair : Expr → Expr → Expr
pair x y = expression (expr.Tuple (x ∷ y ∷ []))

abbrev pub two_names : ℕ → ℕ → Pat
two_names x y = pattern (pat.Tuple (name x ∷ name y ∷ []))

abbrev pub site : ℕ → Expr
site s = expression (expr.Val (value.Site s))

-- ---- the own names of a program of n sites

abbrev pub agent : ℕ → ℕ → Expr
agent n i = expression (expr.Val (value.Agent (own n i)))

abbrev pub channel : ℕ → ℕ → Expr
channel n i = expression (expr.Val (value.Chan (own n i)))

abbrev pub main : ℕ → Expr
main n = agent n 0

abbrev pub daemon : ℕ → Expr
daemon n = agent n 1

abbrev pub register : ℕ → Expr
register n = channel n 2

abbrev pub migrating : ℕ → Expr
migrating n = channel n 3

abbrev pub migrated : ℕ → Expr
migrated n = channel n 4

abbrev pub message : ℕ → Expr
message n = channel n 5

abbrev pub deliver : ℕ → Expr
deliver n = channel n 6

abbrev pub ack : ℕ → Expr
ack n = channel n 7

abbrev pub dack : ℕ → Expr
dack n = channel n 8

abbrev pub currentloc : ℕ → Expr
currentloc n = channel n 9

abbrev pub lock : ℕ → Expr
lock n = channel n 10

abbrev pub here : ℕ → Expr
here n = channel n 13

-- ---- processes that stand for the source node of this number

abbrev pub process : ℕ → Role → ProcForm → Proc
process k r f = record { tag = record { node = k; role = r }; at = 0; form = f }

abbrev pub infra : ℕ → ProcForm → Proc
infra k f = process k role.Infra f

abbrev pub stop : ℕ → Proc
stop k = infra k form.Stop

-- (P | Q)
abbrev pub beside : ℕ → Proc → Proc → Proc
beside k p q = infra k (form.Par p q)

-- c!e
abbrev pub gives : ℕ → Expr → Expr → Proc
gives k c e = infra k (form.Out c e)

-- c?p -> P
abbrev pub takes : ℕ → Expr → Pat → Proc → Proc
takes k c x p = infra k (form.Inp c x p)

-- *c?p -> P
abbrev pub serves : ℕ → Expr → Pat → Proc → Proc
serves k c x p = infra k (form.Rep c x p)

-- <b@s>c!e
abbrev pub sends : ℕ → Expr → Expr → Expr → Expr → Proc
sends k b s c e = infra k (form.Send b s c e)

-- the same as the sending of a post
abbrev pub posts : ℕ → Expr → Expr → Expr → Expr → Proc
posts k b s c e = process k role.Post (form.Send b s c e)

-- <D@SD>c!e, of n sites: the daemon stands at site 0
abbrev pub tells : ℕ → ℕ → Expr → Expr → Proc
tells n k c e = sends k (daemon n) (site 0) c e

-- lookup a in m then l -> P else 0
abbrev pub finds : ℕ → ℕ → ℕ → ℕ → Proc → Proc
finds k a m l p = infra k (form.Lookup (variable a) (variable m) l p (stop k))
