-- The least type of an expression, with its checks in reading order (docs/LANGUAGE.md, "Types").
use Rattle.std.specs.Prelude.{ℕ, Bool, true, false, Ok, List, [], ◌∷◌, map}
use Rattle.std.specs.Ordering.{nat_cmp}
use Rattle.std.specs.FinMap as table
use Rattle.np_syntax.specs.declared.types.Cap.{Cap}
use Rattle.np_syntax.specs.declared.types.Ty.{Ty, Ty-F, out-Ty}
use Rattle.np_syntax.specs.declared.types.Ty as ty
use Rattle.np_syntax.specs.declared.expression.Op.{Op}
use Rattle.np_syntax.specs.declared.expression.Op.TheVariants as op
use Rattle.np_syntax.specs.declared.expression.Expr.{Expr, fold-Expr}
use Rattle.np_syntax.specs.declared.expression.ExprForm.{ExprForm, ExprForm-F, fold-ExprForm}
use Rattle.np_types.specs.declared.fault.Rule.{Rule}
use Rattle.np_types.specs.declared.fault.Rule.TheVariants as rule
use Rattle.np_subtyping.specs.Sub.{reads, writes, sub, is_int, is_bool, is_str, is_site, is_agent, is_places, TyLayer}
use Rattle.np_syntax.specs.Parts.{as_channel}
use Rattle.np_types.specs.Widths.{narrow}
use Rattle.np_syntax.specs.Results.{◌>>=◌, ◌>>◌, all_ok}
use Rattle.np_types.specs.Checks.{Check, ensure, want}
use Rattle.np_types.specs.Worlds.{World, kind, is_lock_chan}

-- the types of binders
abbrev pub Types : Type 0
Types = table.FinMap nat_cmp Ty

-- an expression's place, and its least type or its first fault
pub record Least : Type 0 where
  pub at : ℕ
  pub type : Check Ty

-- the least type is of a form
abbrev pub test_of : (TyLayer → Bool) → Rule → Least → Check (Unit {0})
test_of test r x = do
  t ← x.type
  ensure (test (out-Ty t)) x.at r

abbrev pub number : Least → Check (Unit {0})
number x = test_of is_int rule.NotInt x

-- the types whose values can be compared
abbrev pub basic : TyLayer → Bool
basic Ty-F.Int = true
basic Ty-F.Bool = true
basic Ty-F.Str = true
basic Ty-F.Site = true
basic Ty-F.Agent = true
basic _ = false

abbrev pub same_basic : TyLayer → TyLayer → Bool
same_basic Ty-F.Int t = is_int t
same_basic Ty-F.Bool t = is_bool t
same_basic Ty-F.Str t = is_str t
same_basic Ty-F.Site t = is_site t
same_basic Ty-F.Agent t = is_agent t
same_basic _ t = false

abbrev pub least_op : Op → Least → Least → Check Ty
least_op op.Equal x y = do
  s ← x.type
  ensure (basic (out-Ty s)) x.at rule.NotComparable
  t ← y.type
  ensure (same_basic (out-Ty s) (out-Ty t)) y.at rule.Mismatch
  Ok ty.Bool
least_op op.Less x y = do
  number x
  number y
  Ok ty.Bool
least_op _ x y = do
  number x
  number y
  Ok ty.Int

-- the capability of a channel, and what it carries
abbrev pub channel : Least → Check (Cap × Ty)
channel c = do
  t ← c.type
  want (as_channel (out-Ty t)) c.at rule.NotChannel

-- an output: what is sent has a type below what the channel carries
abbrev pub output : Least → Least → Check (Unit {0})
output c x = do
  k ← channel c
  ensure (writes k.0) c.at rule.NoOutput
  t ← x.type
  ensure (sub t k.1) x.at rule.Mismatch

-- an input: what its channel carries
abbrev pub input : Least → Check Ty
input c = do
  k ← channel c
  ensure (reads k.0) c.at rule.NoInput
  Ok k.1

abbrev pub is_lock_type : TyLayer → Bool
is_lock_type t = is_lock_chan (as_channel t)

abbrev pub Leasts : Type 0
Leasts = ExprForm-F (ℕ → Check Ty) Least

-- A value or a variable without a type has a fault too, so that what has no fault uses only what there is.
abbrev pub least_step : World → Types → Leasts → ℕ → Check Ty
least_step w env (ExprForm-F.Val v) at = want (kind w v) at rule.Mismatch
least_step w env (ExprForm-F.Var x) at = want (table.get env x) at rule.Mismatch
least_step w env (ExprForm-F.Tuple parts) at = do
  ts ← all_ok (map (λ (p : Least). p.type) parts)
  ensure (narrow (ty.Tuple ts)) at rule.Wide
  Ok (ty.Tuple ts)
least_step w env (ExprForm-F.Bin o x y) at = least_op o x y
least_step w env (ExprForm-F.Pack c x) at = do
  output c x
  Ok ty.Letter
least_step w env (ExprForm-F.With m a l) at = do
  test_of is_places rule.Mismatch m
  test_of is_agent rule.NotAgent a
  test_of is_lock_type rule.Mismatch l
  Ok ty.Places

unfoldable pub least_of : World → Types → Expr → Least
least_of w env = fold-Expr (ℕ → Check Ty) Least (least_step w env) (λ e. record { at = e.at; type = e.form e.at })

unfoldable pub least_form : World → Types → ExprForm → ℕ → Check Ty
least_form w env f = fold-ExprForm (ℕ → Check Ty) Least (least_step w env) (λ e. record { at = e.at; type = e.form e.at }) f

-- the least type of an expression, or its first fault
abbrev pub least : World → Types → Expr → Check Ty
least w env e = (least_of w env e).type

abbrev pub leasts : World → Types → List Expr → Check (List Ty)
leasts w env [] = Ok []
leasts w env (e ∷ es) = do
  t ← least w env e
  ts ← leasts w env es
  Ok (t ∷ ts)
