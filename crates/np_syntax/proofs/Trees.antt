-- Induction over types, values, expressions and patterns, by their layers.
use Rattle.std.proofs.Common.{◌≡◌, ℕ, subst, sym, ◌∙◌}
use Rattle.np_syntax.specs.declared.value.Value.{Value, Value-F, out-Value, roll-Value, map-Value, ind-Value, out-roll-Value}
use Rattle.np_syntax.specs.declared.types.Ty.{Ty, Ty-F, out-Ty, roll-Ty, map-Ty, ind-Ty, out-roll-Ty}
use Rattle.np_syntax.specs.declared.expression.Expr.{Expr, ind-Expr, roll-Expr}
use Rattle.np_syntax.specs.declared.expression.ExprForm.{ExprForm, ExprForm-F, out-ExprForm, roll-ExprForm, map-ExprForm, out-roll-ExprForm}
use Rattle.np_syntax.specs.declared.pattern.Pat.{Pat, ind-Pat, roll-Pat}
use Rattle.np_syntax.specs.declared.pattern.PatForm.{PatForm, PatForm-F, out-PatForm, roll-PatForm, map-PatForm, out-roll-PatForm}

-- a value of a type with a fact of it
abbrev pub With : (A : Type 0) → (A → Type 0) → Type 0
With A P = (a : A) × P a

module _ (P : Ty → Type 0) where
  abbrev pub TyHyps : Type 0
  TyHyps = Ty-F (With Ty P)

  abbrev pub ty_of : TyHyps → Ty-F Ty
  ty_of y = map-Ty (With Ty P) Ty (λ e. e.0) y

  pub ty_ind : ((t : Ty) (y : TyHyps) → out-Ty t ≡ ty_of y → P t) → (t : Ty) → P t
  ty_ind step = ind-Ty P (λ x y is. step (roll-Ty x) y (out-roll-Ty x ∙ sym is))

module _ (P : Value → Type 0) where
  abbrev pub ValueHyps : Type 0
  ValueHyps = Value-F (With Value P)

  abbrev pub value_of : ValueHyps → Value-F Value
  value_of y = map-Value (With Value P) Value (λ e. e.0) y

  pub value_ind : ((t : Value) (y : ValueHyps) → out-Value t ≡ value_of y → P t) → (t : Value) → P t
  value_ind step = ind-Value P (λ x y is. step (roll-Value x) y (out-roll-Value x ∙ sym is))

module _ (P : Expr → Type 0) where
  abbrev pub OfExprForm : ExprForm → Type 0
  OfExprForm f = (at : ℕ) → P (record { at = at; form = f })

  abbrev pub ExprHyps : Type 0
  ExprHyps = ExprForm-F (With ExprForm OfExprForm) (With Expr P)

  abbrev pub expr_of : ExprHyps → ExprForm-F ExprForm Expr
  expr_of y = map-ExprForm (With ExprForm OfExprForm) (With Expr P) ExprForm Expr (λ f. f.0) (λ e. e.0) y

  pub expr_ind : ((e : Expr) (y : ExprHyps) → out-ExprForm e.form ≡ expr_of y → P e) → (e : Expr) → P e
  expr_ind step = ind-Expr OfExprForm P
      (λ x y is at. step (record { at = at; form = roll-ExprForm x }) y (out-roll-ExprForm x ∙ sym is))
      (λ x y is. subst (λ x. P (roll-Expr x)) is (y.form.1 y.at))

module _ (P : Pat → Type 0) where
  abbrev pub OfPatForm : PatForm → Type 0
  OfPatForm f = (at : ℕ) → P (record { at = at; form = f })

  abbrev pub PatHyps : Type 0
  PatHyps = PatForm-F (With PatForm OfPatForm) (With Pat P)

  abbrev pub pat_of : PatHyps → PatForm-F PatForm Pat
  pat_of y = map-PatForm (With PatForm OfPatForm) (With Pat P) PatForm Pat (λ f. f.0) (λ e. e.0) y

  pub pat_ind : ((e : Pat) (y : PatHyps) → out-PatForm e.form ≡ pat_of y → P e) → (e : Pat) → P e
  pat_ind step = ind-Pat OfPatForm P
      (λ x y is at. step (record { at = at; form = roll-PatForm x }) y (out-roll-PatForm x ∙ sym is))
      (λ x y is. subst (λ x. P (roll-Pat x)) is (y.form.1 y.at))
