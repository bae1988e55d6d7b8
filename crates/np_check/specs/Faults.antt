-- The checks of a process, in reading order (docs/LANGUAGE.md, "Types"): each form has its lines of the table, and the
-- first check that fails ends the check of the whole program.
use Rattle.std.specs.Prelude.{◌≡◌, ℕ, Bool, Ok, List, [], is_some}
use Rattle.std.specs.FinMap as table
use Rattle.np_syntax.specs.declared.types.Cap.TheVariants as cap
use Rattle.np_syntax.specs.declared.types.Ty.{Ty, out-Ty}
use Rattle.np_syntax.specs.declared.types.Ty as ty
use Rattle.np_syntax.specs.declared.expression.Expr.{Expr}
use Rattle.np_syntax.specs.declared.pattern.Pat.{Pat}
use Rattle.np_syntax.specs.declared.process.Proc.{Proc, fold-Proc}
use Rattle.np_syntax.specs.declared.process.ProcForm.{ProcForm, ProcForm-F, fold-ProcForm}
use Rattle.np_syntax.specs.declared.program.Program.{Program}
use Rattle.np_types.specs.declared.fault.Rule.{Rule}
use Rattle.np_types.specs.declared.fault.Rule.TheVariants as rule
use Rattle.np_types.specs.declared.fault.TypeFault.{TypeFault}
use Rattle.np_types.specs.Sub.{TyLayer, is_bool, is_site, is_agent, is_letter, is_places}
use Rattle.np_syntax.specs.Parts.{as_channel}
use Rattle.np_types.specs.Widths.{narrow, printable}
use Rattle.np_syntax.specs.Results.{◌>>=◌, ◌>>◌}
use Rattle.np_types.specs.Checks.{Check, ensure, found}
use Rattle.np_types.specs.Worlds.{World, bare}
use Rattle.np_types.specs.Least.{Types, least_of, least, output, input}
use Rattle.np_types.specs.Covers.{cover}
use Rattle.np_scope.specs.Sound.{IsSound}

-- a check under the types of binders
abbrev pub Checking : Type 0
Checking = Types → Check (Unit {0})

-- ---- expressions

-- the least type of an expression is of a form
unfoldable pub is_of : World → (TyLayer → Bool) → Rule → Expr → Checking
is_of w test r e env = do
  t ← least w env e
  ensure (test (out-Ty t)) e.at r

unfoldable pub is_printable : World → Expr → Checking
is_printable w e env = do
  t ← least w env e
  ensure (printable t) e.at rule.NotPrintable

abbrev pub is_output : World → Expr → Expr → Checking
is_output w c e env = output (least_of w env c) (least_of w env e)

-- ---- what the lines of the table name

-- a process under one more binder
abbrev pub with_binder : ℕ → Ty → Checking → Checking
with_binder x t body env = body (table.insert env x t)

-- a process under the names of a pattern, against this type
unfoldable pub with_names : Pat → Ty → Checking → Checking
with_names x t body env = do
  inner ← cover x t env
  body inner

abbrev pub is_channel : TyLayer → Bool
is_channel t = is_some (as_channel t)

-- The table does not ask for a channel type at a `new`, since each resolved program has one there. It is asked for
-- here, so that in what has no fault each channel has a channel type.
unfoldable pub is_for_channels : Ty → ℕ → Check (Unit {0})
is_for_channels t at = do
  ensure (narrow t) at rule.Wide
  ensure (is_channel (out-Ty t)) at rule.NotChannel

-- ---- processes

-- new c : T in P
unfoldable pub check_new : ℕ → Ty → Checking → ℕ → Checking
check_new c t body at env = do
  is_for_channels t at
  with_binder c t body env

-- c?p -> P and *c?p -> P
unfoldable pub check_input : World → Expr → Pat → Checking → Checking
check_input w c x body env = do
  t ← input (least_of w env c)
  with_names x t body env

-- migrate to e -> P
unfoldable pub check_migrate : World → Expr → Checking → Checking
check_migrate w e body env = do
  is_of w is_site rule.NotSite e env
  body env

-- <b@s>c!e
unfoldable pub check_send : World → Expr → Expr → Expr → Expr → Checking
check_send w b s c e env = do
  is_of w is_agent rule.NotAgent b env
  is_of w is_site rule.NotSite s env
  is_output w c e env

-- <b@?>c!e, and what stands before the processes of iflocal <b>c!e then P else Q
unfoldable pub check_post : World → Expr → Expr → Expr → Checking
check_post w b c e env = do
  is_of w is_agent rule.NotAgent b env
  is_output w c e env

-- let p = e in P
unfoldable pub check_let : World → Pat → Expr → Checking → Checking
check_let w x e body env = do
  t ← least w env e
  with_names x t body env

-- what stands before the processes of lookup a in m then x -> P else Q
unfoldable pub check_places : World → Expr → Expr → Checking
check_places w a m env = do
  is_of w is_agent rule.NotAgent a env
  is_of w is_places rule.Mismatch m env

-- ^Site
abbrev pub lock_type : Ty
lock_type = ty.Chan cap.Both ty.Site

-- The two forms of the low level come last. No source has them, so which rule they have is never answered.
abbrev pub check_step : World → ProcForm-F (ℕ → Checking) Checking → ℕ → Checking
check_step w ProcForm-F.Stop at env = Ok tt
check_step w (ProcForm-F.Par p q) at env = do
  p env
  q env
check_step w (ProcForm-F.Out c e) at env = is_output w c e env
check_step w (ProcForm-F.Inp c x p) at env = check_input w c x p env
check_step w (ProcForm-F.Rep c x p) at env = check_input w c x p env
check_step w (ProcForm-F.New c t p) at env = check_new c t p at env
check_step w (ProcForm-F.Agent b p q) at env = do
  with_binder b ty.Agent p env
  with_binder b ty.Agent q env
check_step w (ProcForm-F.Migrate e p) at env = check_migrate w e p env
check_step w (ProcForm-F.Send b s c e) at env = check_send w b s c e env
check_step w (ProcForm-F.Post b c e) at env = check_post w b c e env
check_step w (ProcForm-F.IfLocal b c e p q) at env = do
  check_post w b c e env
  p env
  q env
check_step w (ProcForm-F.If e p q) at env = do
  is_of w is_bool rule.NotBool e env
  p env
  q env
check_step w (ProcForm-F.Let x e p) at env = check_let w x e p env
check_step w (ProcForm-F.Print e) at env = is_printable w e env
check_step w (ProcForm-F.Open e) at env = is_of w is_letter rule.Mismatch e env
check_step w (ProcForm-F.Lookup a m x p q) at env = do
  check_places w a m env
  with_binder x lock_type p env
  q env

-- a process has no fault, or its first one
unfoldable pub check : World → Proc → Checking
check w = fold-Proc (ℕ → Checking) Checking (check_step w) (λ p. p.form p.at)

unfoldable pub check_form : World → ProcForm → ℕ → Checking
check_form w = fold-ProcForm (ℕ → Checking) Checking (check_step w) (λ p. p.form p.at)

-- ---- programs

-- The faults of a program: none, or the first one. Each site that stands in a resolved program is one of its sites, so
-- that they are those in the world in which each number is a site.
abbrev pub faults : Program → List TypeFault
faults program = found (check bare program.main table.empty)

-- a resolved program without a fault
pub record IsAccepted (program : Program) : Type 0 where
  pub sound : IsSound program
  pub faultless : faults program ≡ []
