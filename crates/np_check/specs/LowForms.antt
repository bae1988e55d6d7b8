-- What the checks say of the two forms that no source has (docs/LANGUAGE.md, "Types"): of processes at offset 1 whose operands stand at
-- 10 and 11 and are variables of these types.
use Rattle.std.specs.Prelude.{◌≡◌, ℕ, Some, Ok, Err}
use Rattle.std.specs.FinMap as table
use Rattle.np_syntax.specs.declared.types.Ty as ty
use Rattle.np_syntax.specs.declared.expression.Expr.{Expr}
use Rattle.np_syntax.specs.declared.expression.ExprForm as expr
use Rattle.np_syntax.specs.declared.process.Tag.{Tag}
use Rattle.np_syntax.specs.declared.process.Proc.{Proc}
use Rattle.np_syntax.specs.declared.process.ProcForm.{ProcForm}
use Rattle.np_syntax.specs.declared.process.ProcForm as form
use Rattle.np_syntax.specs.Results.{◌>>◌}
use Rattle.np_types.specs.declared.fault.Rule.TheVariants as rule
use Rattle.np_types.specs.Least.{Types}
use Rattle.np_types.specs.Worlds.{World}
use Rattle.np_check.specs.Faults.{check, lock_type}

abbrev pub variable : ℕ → ℕ → Expr
variable at x = record { at = at; form = expr.Var x }

abbrev pub process : Tag → ProcForm → Proc
process k f = record { tag = k; at = 1; form = f }

abbrev pub opens : Tag → ℕ → Proc
opens k x = process k (form.Open (variable 10 x))

abbrev pub looks_up : Tag → ℕ → ℕ → ℕ → Proc → Proc → Proc
looks_up k a m b p q = process k (form.Lookup (variable 10 a) (variable 11 m) b p q)

pub record LowForms : Type 0 where
  pub letter : (w : World) (env : Types) (k : Tag) (x : ℕ) → table.get env x ≡ Some ty.Letter → check w (opens k x) env ≡ Ok tt
  pub no_letter : (w : World) (env : Types) (k : Tag) (x : ℕ) → table.get env x ≡ Some ty.Int
      → check w (opens k x) env ≡ Err (record { at = 10; rule = rule.Mismatch })
  -- the binder, a lock channel, is in the first process alone
  pub places : (w : World) (env : Types) (k : Tag) (a m b : ℕ) (p q : Proc) → table.get env a ≡ Some ty.Agent
      → table.get env m ≡ Some ty.Places
      → check w (looks_up k a m b p q) env ≡ (check w p (table.insert env b lock_type) >> check w q env)
  pub no_agent : (w : World) (env : Types) (k : Tag) (a m b : ℕ) (p q : Proc) → table.get env a ≡ Some ty.Site
      → check w (looks_up k a m b p q) env ≡ Err (record { at = 10; rule = rule.NotAgent })
  pub no_places : (w : World) (env : Types) (k : Tag) (a m b : ℕ) (p q : Proc) → table.get env a ≡ Some ty.Agent
      → table.get env m ≡ Some ty.Site
      → check w (looks_up k a m b p q) env ≡ Err (record { at = 11; rule = rule.Mismatch })
