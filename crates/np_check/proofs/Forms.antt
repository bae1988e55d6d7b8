-- The check of each form of process.
use Rattle.std.proofs.Common.{◌≡◌, ℕ, Ok, ap, ◌∙◌}
use Rattle.np_syntax.specs.declared.types.Ty.{Ty}
use Rattle.np_syntax.specs.declared.types.Ty as ty
use Rattle.np_syntax.specs.declared.expression.Expr.{Expr}
use Rattle.np_syntax.specs.declared.pattern.Pat.{Pat}
use Rattle.np_syntax.specs.declared.process.Proc.{Proc, fold_out-Proc}
use Rattle.np_syntax.specs.declared.process.ProcForm.{ProcForm, ProcForm-F, out-ProcForm, map-ProcForm, fold_out-ProcForm}
use Rattle.np_syntax.specs.declared.process.ProcForm as form
use Rattle.np_syntax.specs.declared.process.ProcForm.TheVariants as layer
use Rattle.np_types.specs.declared.fault.Rule.TheVariants as rule
use Rattle.np_types.specs.Sub.{is_bool, is_letter}
use Rattle.np_syntax.specs.Results.{◌>>◌}
use Rattle.np_types.specs.Checks.{Check}
use Rattle.np_types.specs.Worlds.{World}
use Rattle.np_types.specs.Least.{Types}
use Rattle.np_check.specs.Faults.{Checking, is_of, is_printable, is_output, with_binder, check_new, check_input, check_migrate, check_send, check_post, check_let, check_places, lock_type, check_step, check, check_form}

pub check-form : (w : World) (p : Proc) (env : Types) → check w p env ≡ check_form w p.form p.at env
unfolding check check_form
check-form w p env = ap (λ (f : Checking). f env) (fold_out-Proc (ℕ → Checking) Checking (check_step w) (λ p. p.form p.at) p)

abbrev stepped : World → ℕ → Types → ProcForm-F ProcForm Proc → Check (Unit {0})
stepped w at env l = check_step w (map-ProcForm ProcForm Proc (ℕ → Checking) Checking (check_form w) (check w) l) at env

check-layer : (w : World) (f : ProcForm) (at : ℕ) (env : Types) → check_form w f at env ≡ stepped w at env (out-ProcForm f)
unfolding check check_form
check-layer w f at env = ap (λ (g : ℕ → Checking). g at env) (fold_out-ProcForm (ℕ → Checking) Checking (check_step w) (λ p. p.form p.at) f)

module _ (w : World) (at : ℕ) (env : Types) where
  pub form-stop : check_form w form.Stop at env ≡ Ok tt
  form-stop = check-layer w form.Stop at env ∙ ap (stepped w at env) layer.outs-Stop

  pub form-par : (p q : Proc) → check_form w (form.Par p q) at env ≡ (check w p env >> check w q env)
  form-par p q = check-layer w (form.Par p q) at env ∙ ap (stepped w at env) (layer.outs-Par p q)

  pub form-new : (c : ℕ) (t : Ty) (p : Proc) → check_form w (form.New c t p) at env ≡ check_new c t (check w p) at env
  form-new c t p = check-layer w (form.New c t p) at env ∙ ap (stepped w at env) (layer.outs-New c t p)

  pub form-out : (c e : Expr) → check_form w (form.Out c e) at env ≡ is_output w c e env
  form-out c e = check-layer w (form.Out c e) at env ∙ ap (stepped w at env) (layer.outs-Out c e)

  pub form-inp : (c : Expr) (x : Pat) (p : Proc) → check_form w (form.Inp c x p) at env ≡ check_input w c x (check w p) env
  form-inp c x p = check-layer w (form.Inp c x p) at env ∙ ap (stepped w at env) (layer.outs-Inp c x p)

  pub form-rep : (c : Expr) (x : Pat) (p : Proc) → check_form w (form.Rep c x p) at env ≡ check_input w c x (check w p) env
  form-rep c x p = check-layer w (form.Rep c x p) at env ∙ ap (stepped w at env) (layer.outs-Rep c x p)

  pub form-agent : (b : ℕ) (p q : Proc)
      → check_form w (form.Agent b p q) at env ≡ (with_binder b ty.Agent (check w p) env >> with_binder b ty.Agent (check w q) env)
  form-agent b p q = check-layer w (form.Agent b p q) at env ∙ ap (stepped w at env) (layer.outs-Agent b p q)

  pub form-migrate : (e : Expr) (p : Proc) → check_form w (form.Migrate e p) at env ≡ check_migrate w e (check w p) env
  form-migrate e p = check-layer w (form.Migrate e p) at env ∙ ap (stepped w at env) (layer.outs-Migrate e p)

  pub form-iflocal : (b c e : Expr) (p q : Proc)
      → check_form w (form.IfLocal b c e p q) at env ≡ (check_post w b c e env >> (check w p env >> check w q env))
  form-iflocal b c e p q = check-layer w (form.IfLocal b c e p q) at env ∙ ap (stepped w at env) (layer.outs-IfLocal b c e p q)

  pub form-send : (b s c e : Expr) → check_form w (form.Send b s c e) at env ≡ check_send w b s c e env
  form-send b s c e = check-layer w (form.Send b s c e) at env ∙ ap (stepped w at env) (layer.outs-Send b s c e)

  pub form-post : (b c e : Expr) → check_form w (form.Post b c e) at env ≡ check_post w b c e env
  form-post b c e = check-layer w (form.Post b c e) at env ∙ ap (stepped w at env) (layer.outs-Post b c e)

  pub form-if : (e : Expr) (p q : Proc)
      → check_form w (form.If e p q) at env ≡ (is_of w is_bool rule.NotBool e env >> (check w p env >> check w q env))
  form-if e p q = check-layer w (form.If e p q) at env ∙ ap (stepped w at env) (layer.outs-If e p q)

  pub form-let : (x : Pat) (e : Expr) (p : Proc) → check_form w (form.Let x e p) at env ≡ check_let w x e (check w p) env
  form-let x e p = check-layer w (form.Let x e p) at env ∙ ap (stepped w at env) (layer.outs-Let x e p)

  pub form-print : (e : Expr) → check_form w (form.Print e) at env ≡ is_printable w e env
  form-print e = check-layer w (form.Print e) at env ∙ ap (stepped w at env) (layer.outs-Print e)

  pub form-open : (e : Expr) → check_form w (form.Open e) at env ≡ is_of w is_letter rule.Mismatch e env
  form-open e = check-layer w (form.Open e) at env ∙ ap (stepped w at env) (layer.outs-Open e)

  pub form-lookup : (a m : Expr) (x : ℕ) (p q : Proc)
      → check_form w (form.Lookup a m x p q) at env ≡ (check_places w a m env >> (with_binder x lock_type (check w p) env >> check w q env))
  form-lookup a m x p q = check-layer w (form.Lookup a m x p q) at env ∙ ap (stepped w at env) (layer.outs-Lookup a m x p q)

pub ruleset forms =
    (check-form, form-stop, form-par, form-new, form-out, form-inp, form-rep, form-agent, form-migrate, form-iflocal, form-send, form-post, form-if, form-let, form-print, form-open, form-lookup)
