-- The program of a tree, or the first refusal in reading order (docs/LANGUAGE.md, "Scope"). Binders are numbered from 0 and
-- process nodes from 1, in reading order: a node before its parts and a left part before a right one. A pattern's names
-- are binders too, and a later one hides an earlier one that is equal.
use Rattle.std.specs.Prelude.{ℕ, ◌+◌, nat_lt, is_some, if◌then◌else◌, Option, Some, List, [], ◌∷◌, length, map, Ok, Err}
use Rattle.np_syntax.specs.declared.value.Name.{Name}
use Rattle.np_syntax.specs.declared.value.Value as value
use Rattle.np_syntax.specs.declared.types.Ty.{Ty}
use Rattle.np_syntax.specs.declared.expression.Expr.{Expr}
use Rattle.np_syntax.specs.declared.expression.ExprForm.{ExprForm}
use Rattle.np_syntax.specs.declared.expression.ExprForm as expr
use Rattle.np_syntax.specs.declared.pattern.Pat.{Pat}
use Rattle.np_syntax.specs.declared.pattern.PatForm.{PatForm}
use Rattle.np_syntax.specs.declared.pattern.PatForm as pat
use Rattle.np_syntax.specs.declared.process.Proc.{Proc}
use Rattle.np_syntax.specs.declared.process.ProcForm.{ProcForm}
use Rattle.np_syntax.specs.declared.process.ProcForm as form
use Rattle.np_syntax.specs.declared.process.Role.TheVariants as role
use Rattle.np_syntax.specs.declared.program.Program.{Program}
use Rattle.np_syntax.specs.declared.limits.TheConstants.{MOST_SITES}
use Rattle.np_tree.specs.declared.tree.Ident.{Ident}
use Rattle.np_tree.specs.declared.tree.Tree.{Tree}
use Rattle.np_tree.specs.declared.tree.RawExpr.{RawExpr, fold-RawExpr}
use Rattle.np_tree.specs.declared.tree.RawExprForm.{RawExprForm, RawExprForm-F, fold-RawExprForm}
use Rattle.np_tree.specs.declared.tree.RawPat.{RawPat, fold-RawPat}
use Rattle.np_tree.specs.declared.tree.RawPatForm.{RawPatForm, RawPatForm-F, fold-RawPatForm}
use Rattle.np_tree.specs.declared.tree.RawProc.{RawProc, fold-RawProc}
use Rattle.np_tree.specs.declared.tree.RawProcForm.{RawProcForm, RawProcForm-F, fold-RawProcForm}
use Rattle.np_scope.specs.declared.fail.ScopeFail.TheVariants as fail
use Rattle.np_scope.specs.declared.numbers.Numbers.{Numbers}
use Rattle.np_scope.specs.declared.numbers.Placed.{Placed}
use Rattle.np_scope.specs.declared.scope.Meaning.{Meaning}
use Rattle.np_scope.specs.declared.scope.Meaning.TheVariants as meaning
use Rattle.np_scope.specs.Naming.{Named, meaning_of, meant, use_of}
use Rattle.np_syntax.specs.Results.{◌>>=◌}
use Rattle.np_scope.specs.Outcomes.{Outcome}

-- ---- expressions. Of n sites, `main` stands for the name n.0.

abbrev pub expression : ℕ → ExprForm → Expr
expression at f = record { at = at; form = f }

abbrev pub main_name : ℕ → Name
main_name n = record { site = n; n = 0 }

abbrev pub ExprIn : Type 0
ExprIn = List Named → Outcome Expr

-- by its offset
abbrev pub ExprAt : Type 0
ExprAt = ℕ → ExprIn

abbrev pub in_turn : List ExprIn → List Named → Outcome (List Expr)
in_turn [] scope = Ok []
in_turn (e ∷ es) scope = do
  x ← e scope
  xs ← in_turn es scope
  Ok (x ∷ xs)

abbrev pub expr_step : ℕ → RawExprForm-F ExprAt ExprIn → ExprAt
expr_step n (RawExprForm-F.Val v) at scope = Ok (expression at (expr.Val v))
expr_step n RawExprForm-F.Main at scope = Ok (expression at (expr.Val (value.Agent (main_name n))))
expr_step n (RawExprForm-F.Var name) at scope = do
  f ← meant scope name
  Ok (expression at f)
expr_step n (RawExprForm-F.Tuple parts) at scope = do
  xs ← in_turn parts scope
  Ok (expression at (expr.Tuple xs))
expr_step n (RawExprForm-F.Bin o a b) at scope = do
  x ← a scope
  y ← b scope
  Ok (expression at (expr.Bin o x y))

unfoldable pub expr_of : ℕ → RawExpr → ExprIn
expr_of n = fold-RawExpr ExprAt ExprIn (expr_step n) (λ e. e.form e.at)

unfoldable pub expr_form_of : ℕ → RawExprForm → ExprAt
expr_form_of n = fold-RawExprForm ExprAt ExprIn (expr_step n) (λ e. e.form e.at)

abbrev pub exprs_of : ℕ → List RawExpr → List Named → Outcome (List Expr)
exprs_of n [] scope = Ok []
exprs_of n (e ∷ es) scope = do
  x ← expr_of n e scope
  xs ← exprs_of n es scope
  Ok (x ∷ xs)

-- ---- patterns

-- what a pattern or patterns become, the names in scope behind them, and the number of the next binder
pub record Bound (A : Type 0) : Type 0 where
  pub it : A
  pub scope : List Named
  pub next : ℕ

abbrev pub bound : {A : Type 0} → A → List Named → ℕ → Bound A
bound it scope next = record { it = it; scope = scope; next = next }

abbrev pub pattern : ℕ → PatForm → Pat
pattern at f = record { at = at; form = f }

abbrev pub PatIn : Type 0
PatIn = List Named → ℕ → Bound Pat

-- by its offset
abbrev pub PatAt : Type 0
PatAt = ℕ → PatIn

abbrev pub bound_in_turn : List PatIn → List Named → ℕ → Bound (List Pat)
bound_in_turn [] scope next = bound [] scope next
bound_in_turn (p ∷ ps) scope next =
    let first = p scope next in
    let rest = bound_in_turn ps first.scope first.next in
    bound (first.it ∷ rest.it) rest.scope rest.next

abbrev pub pat_step : RawPatForm-F PatAt PatIn → PatAt
pat_step RawPatForm-F.Any at scope next = bound (pattern at pat.Any) scope next
pat_step (RawPatForm-F.Bind name) at scope next = bound (pattern at (pat.Bind next)) ((name.text, meaning.Binder next) ∷ scope) (next + 1)
pat_step (RawPatForm-F.Tuple parts) at scope next = let inner = bound_in_turn parts scope next
    in bound (pattern at (pat.Tuple inner.it)) inner.scope inner.next

unfoldable pub pat_of : RawPat → PatIn
pat_of = fold-RawPat PatAt PatIn pat_step (λ p. p.form p.at)

unfoldable pub pat_form_of : RawPatForm → PatAt
pat_form_of = fold-RawPatForm PatAt PatIn pat_step (λ p. p.form p.at)

abbrev pub pats_of : List RawPat → List Named → ℕ → Bound (List Pat)
pats_of [] scope next = bound [] scope next
pats_of (p ∷ ps) scope next =
    let first = pat_of p scope next in
    let rest = pats_of ps first.scope first.next in
    bound (first.it ∷ rest.it) rest.scope rest.next

-- ---- processes

abbrev pub next_node : Numbers → Numbers
next_node next = record { node = next.node + 1; binder = next.binder }

abbrev pub next_both : Numbers → Numbers
next_both next = record { node = next.node + 1; binder = next.binder + 1 }

-- a process of this form with the next number, and the numbers behind it
abbrev pub placed : Numbers → ℕ → ProcForm → Numbers → Placed
placed next at f after = record { proc = record { tag = record { node = next.node; role = role.Plain }; at = at; form = f }; next = after }

abbrev pub ProcIn : Type 0
ProcIn = List Named → Numbers → Outcome Placed

-- the form of the process with the next number, and the numbers behind it
abbrev pub FormIn : Type 0
FormIn = List Named → Numbers → Outcome (ProcForm × Numbers)

-- the names in scope, where the next binder binds a name
abbrev pub with_binder : Ident → Numbers → List Named → List Named
with_binder name next scope = (name.text, meaning.Binder next.binder) ∷ scope

-- a channel, and then the value for it
unfoldable pub message : ℕ → Ident → RawExpr → List Named → Outcome (Expr × Expr)
message n c e scope = do
  chan ← use_of scope c
  v ← expr_of n e scope
  Ok (chan, v)

-- an agent, and then the message for it
unfoldable pub addressed : ℕ → RawExpr → Ident → RawExpr → List Named → Outcome (Expr × Expr × Expr)
addressed n b c e scope = do
  agent ← expr_of n b scope
  m ← message n c e scope
  Ok (agent, m.0, m.1)

-- an agent, and then the site where it is
unfoldable pub located : ℕ → RawExpr → RawExpr → List Named → Outcome (Expr × Expr)
located n b s scope = do
  agent ← expr_of n b scope
  site ← expr_of n s scope
  Ok (agent, site)

-- two processes, the second behind the first, and the numbers behind both
unfoldable pub two : ProcIn → ProcIn → List Named → Numbers → Outcome (Proc × Proc × Numbers)
two first second scope next = do
  p ← first scope next
  q ← second scope p.next
  Ok (p.proc, q.proc, q.next)

-- a body in the scope of a pattern's names, behind the pattern, and the numbers behind it
unfoldable pub under : RawPat → ProcIn → List Named → Numbers → Outcome (Pat × Proc × Numbers)
under x body scope next = do
  let b : Bound Pat = pat_of x scope next.binder
  p ← body b.scope (record { node = next.node; binder = b.next })
  Ok (b.it, p.proc, p.next)

abbrev pub stop_form : FormIn
stop_form scope next = Ok (form.Stop, next_node next)

unfoldable pub par_form : ProcIn → ProcIn → FormIn
par_form left right scope next = do
  r ← two left right scope (next_node next)
  Ok (form.Par r.0 r.1, r.2)

unfoldable pub new_form : Ident → Ty → ProcIn → FormIn
new_form c ty body scope next = do
  p ← body (with_binder c next scope) (next_both next)
  Ok (form.New next.binder ty p.proc, p.next)

unfoldable pub out_form : ℕ → Ident → RawExpr → FormIn
out_form n c e scope next = do
  m ← message n c e scope
  Ok (form.Out m.0 m.1, next_node next)

unfoldable pub inp_form : Ident → RawPat → ProcIn → FormIn
inp_form c x body scope next = do
  chan ← use_of scope c
  r ← under x body scope (next_node next)
  Ok (form.Inp chan r.0 r.1, r.2)

unfoldable pub rep_form : Ident → RawPat → ProcIn → FormIn
rep_form c x body scope next = do
  chan ← use_of scope c
  r ← under x body scope (next_node next)
  Ok (form.Rep chan r.0 r.1, r.2)

unfoldable pub agent_form : Ident → ProcIn → ProcIn → FormIn
agent_form b body rest scope next = do
  r ← two body rest (with_binder b next scope) (next_both next)
  Ok (form.Agent next.binder r.0 r.1, r.2)

unfoldable pub migrate_form : ℕ → RawExpr → ProcIn → FormIn
migrate_form n s body scope next = do
  site ← expr_of n s scope
  p ← body scope (next_node next)
  Ok (form.Migrate site p.proc, p.next)

unfoldable pub iflocal_form : ℕ → RawExpr → Ident → RawExpr → ProcIn → ProcIn → FormIn
iflocal_form n b c e met unmet scope next = do
  m ← addressed n b c e scope
  r ← two met unmet scope (next_node next)
  Ok (form.IfLocal m.0 m.1 m.2 r.0 r.1, r.2)

unfoldable pub send_form : ℕ → RawExpr → RawExpr → Ident → RawExpr → FormIn
send_form n b s c e scope next = do
  l ← located n b s scope
  m ← message n c e scope
  Ok (form.Send l.0 l.1 m.0 m.1, next_node next)

unfoldable pub post_form : ℕ → RawExpr → Ident → RawExpr → FormIn
post_form n b c e scope next = do
  m ← addressed n b c e scope
  Ok (form.Post m.0 m.1 m.2, next_node next)

unfoldable pub if_form : ℕ → RawExpr → ProcIn → ProcIn → FormIn
if_form n e met unmet scope next = do
  v ← expr_of n e scope
  r ← two met unmet scope (next_node next)
  Ok (form.If v r.0 r.1, r.2)

-- the pattern's names are in scope in the body, and not in the expression
unfoldable pub let_form : ℕ → RawPat → RawExpr → ProcIn → FormIn
let_form n x e body scope next = do
  v ← expr_of n e scope
  r ← under x body scope (next_node next)
  Ok (form.Let r.0 v r.1, r.2)

unfoldable pub print_form : ℕ → RawExpr → FormIn
print_form n e scope next = do
  v ← expr_of n e scope
  Ok (form.Print v, next_node next)

abbrev pub proc_step : ℕ → RawProcForm-F FormIn ProcIn → FormIn
proc_step n RawProcForm-F.Stop = stop_form
proc_step n (RawProcForm-F.Par left right) = par_form left right
proc_step n (RawProcForm-F.New c ty body) = new_form c ty body
proc_step n (RawProcForm-F.Out c e) = out_form n c e
proc_step n (RawProcForm-F.Inp c x body) = inp_form c x body
proc_step n (RawProcForm-F.Rep c x body) = rep_form c x body
proc_step n (RawProcForm-F.Agent b body rest) = agent_form b body rest
proc_step n (RawProcForm-F.Migrate s body) = migrate_form n s body
proc_step n (RawProcForm-F.IfLocal b c e met unmet) = iflocal_form n b c e met unmet
proc_step n (RawProcForm-F.Send b s c e) = send_form n b s c e
proc_step n (RawProcForm-F.Post b c e) = post_form n b c e
proc_step n (RawProcForm-F.If e met unmet) = if_form n e met unmet
proc_step n (RawProcForm-F.Let x e body) = let_form n x e body
proc_step n (RawProcForm-F.Print e) = print_form n e

-- the process with the next number that has this form, at this offset
abbrev pub at_place : ℕ → FormIn → ProcIn
at_place at f scope next = do
  r ← f scope next
  Ok (placed next at r.0 r.1)

unfoldable pub proc_of : ℕ → RawProc → ProcIn
proc_of n = fold-RawProc FormIn ProcIn (proc_step n) (λ p. at_place p.at p.form)

unfoldable pub proc_form_of : ℕ → RawProcForm → FormIn
proc_form_of n = fold-RawProcForm FormIn ProcIn (proc_step n) (λ p. at_place p.at p.form)

-- ---- programs

-- the names in scope with one more site of this number, which must be a new name, and the number one that a site may have
unfoldable pub with_site : Ident → ℕ → List Named → Outcome (List Named)
with_site site number scope =
    if is_some (meaning_of scope site.text) then Err (fail.SiteTwice site.at)
    else (if nat_lt number MOST_SITES then Ok ((site.text, meaning.Site number) ∷ scope) else Err (fail.TooManySites site.at))

-- the names in scope with these sites, whose numbers go on from this one
abbrev pub with_sites : List Ident → ℕ → List Named → Outcome (List Named)
with_sites [] number scope = Ok scope
with_sites (site ∷ sites) number scope = with_site site number scope >>= with_sites sites (number + 1)

abbrev pub home_at : ℕ → Option Meaning → Outcome ℕ
home_at at (Some (meaning.Site site)) = Ok site
home_at at _ = Err (fail.NotASite at)

-- the site that the name after `main at` names
abbrev pub home_of : List Named → Ident → Outcome ℕ
home_of scope name = home_at name.at (meaning_of scope name.text)

abbrev pub first_numbers : Numbers
first_numbers = record { node = 1; binder = 0 }

-- main's site and its process: the sites, the name after `main at`, and the process are read in this order
unfoldable pub main_of : Tree → Outcome (ℕ × Placed)
main_of tree = do
  scope ← with_sites tree.sites 0 []
  home ← home_of scope tree.at
  main ← proc_of (length tree.sites) tree.main scope first_numbers
  Ok (home, main)

unfoldable pub resolved : Tree → Outcome Program
resolved tree = do
  m ← main_of tree
  Ok (record { sites = map (λ site. site.text) tree.sites; at = m.0; main = m.1.proc; binders = m.1.next.binder })
