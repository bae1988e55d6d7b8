-- The checks of what is resolved do not rest on more than its sites.
use Rattle.std.proofs.Common.{◌≡◌, ◌<◌, ℕ, Bool, true, false, Option, None, Ok, List, ◌∷◌, refl, sym, ap, ◌∙◌}
use Rattle.np_syntax.specs.declared.value.Name.{Name}
use Rattle.np_syntax.specs.declared.value.Value.{Value, Value-F}
use Rattle.np_syntax.specs.declared.value.Value as value
use Rattle.np_syntax.specs.declared.value.Value.TheVariants.{outs-Int, outs-Truth, outs-Str, outs-Site, outs-Agent}
use Rattle.np_syntax.specs.declared.types.Ty.{Ty, out-Ty}
use Rattle.np_syntax.specs.declared.types.Ty as ty
use Rattle.np_syntax.specs.declared.types.Ty.TheVariants.{outs-Chan}
use Rattle.np_syntax.specs.declared.expression.Expr.{Expr}
use Rattle.np_syntax.specs.declared.expression.ExprForm.{ExprForm}
use Rattle.np_syntax.specs.declared.expression.ExprForm as expr
use Rattle.np_syntax.specs.declared.pattern.Pat.{Pat}
use Rattle.np_syntax.specs.declared.process.Proc.{Proc}
use Rattle.np_syntax.specs.declared.process.ProcForm.{ProcForm}
use Rattle.np_syntax.specs.declared.process.ProcForm as form
use Rattle.np_types.specs.declared.fault.Rule.{Rule}
use Rattle.np_types.specs.declared.fault.Rule.TheVariants as rule
use Rattle.np_types.specs.Sub.{TyLayer, is_bool, is_site, is_agent}
use Rattle.np_types.specs.Widths.{narrow, printable}
use Rattle.np_syntax.specs.Results.{◌>>=◌, ◌>>◌}
use Rattle.np_types.specs.Checks.{ensure, want}
use Rattle.np_types.specs.Worlds.{World, bare, kind, kind_step}
use Rattle.np_types.specs.Least.{Types, least, leasts, least_of, least_form, input, output}
use Rattle.np_types.proofs.ValueTypes.{kind_of}
use Rattle.np_types.proofs.Leasts.{least-form, least-val, least-var, least-tuple, least-bin, least_parts, tupling, operation}
use Rattle.np_scope.specs.Resolved.{expression, main_name}
use Rattle.np_scope.specs.Written.{IsLiteral, IsChannelType}
use Rattle.np_scope.specs.Sound.{IsSoundExpr, AreSoundExprs, IsSoundProc, process}
use Rattle.np_check.specs.Faults.{Checking, is_of, is_printable, is_output, with_binder, with_names, is_channel, is_for_channels, check_new, check_input, check_migrate, check_send, check_post, check_let, check, check_form}
use Rattle.np_check.specs.Laws.{HasSites}
use Rattle.np_check.proofs.Forms.{check-form, form-stop, form-par, form-new, form-out, form-inp, form-rep, form-agent, form-migrate, form-iflocal, form-send, form-post, form-if, form-let, form-print}

-- the type of a site where each number is a site, or none is
abbrev kind_site : Bool → Option Ty
kind_site b = kind_step (record { site = λ s. b; chan = λ c. None }) (Value-F.Site 0)

module _ (n : ℕ) (w : World) (sites : HasSites n w) where
  same_kind : {v : Value} → IsLiteral v → kind w v ≡ kind bare v
  same_kind (IsLiteral.number {n = m}) = kind_of w (value.Int m) _ (outs-Int m) ∙ sym (kind_of bare (value.Int m) _ (outs-Int m))
  same_kind (IsLiteral.truth {b = b}) = kind_of w (value.Truth b) _ (outs-Truth b) ∙ sym (kind_of bare (value.Truth b) _ (outs-Truth b))
  same_kind (IsLiteral.string {text = text}) = kind_of w (value.Str text) _ (outs-Str text) ∙ sym (kind_of bare (value.Str text) _ (outs-Str text))

  same_site : (s : ℕ) → s < n → kind w (value.Site s) ≡ kind bare (value.Site s)
  same_site s within =
      kind_of w (value.Site s) _ (outs-Site s)
      ∙ ap (λ b. kind_site b) (sites s within)
      ∙ sym (kind_of bare (value.Site s) _ (outs-Site s))

  same_agent : (a : Name) → kind w (value.Agent a) ≡ kind bare (value.Agent a)
  same_agent a = kind_of w (value.Agent a) _ (outs-Agent a) ∙ sym (kind_of bare (value.Agent a) _ (outs-Agent a))

  module _ (env : Types) where
    from_form : (e : Expr) → least_form w env e.form e.at ≡ least_form bare env e.form e.at → least w env e ≡ least bare env e
    from_form e h = least-form w env e ∙ h ∙ sym (least-form bare env e)

    same_value : (at : ℕ) (v : Value) → kind w v ≡ kind bare v → least w env (expression at (expr.Val v)) ≡ least bare env (expression at (expr.Val v))
    same_value at v h = from_form (expression at (expr.Val v)) (least-val w env at v ∙ ap (λ o. want o at rule.Mismatch) h ∙ sym (least-val bare env at v))

    mutual
      same_least : {scope : List ℕ} {e : Expr} → IsSoundExpr n scope e → least w env e ≡ least bare env e
      same_least (IsSoundExpr.literal {at = at} {v = v} l) = same_value at v (same_kind l)
      same_least (IsSoundExpr.site {at = at} {s = s} within) = same_value at (value.Site s) (same_site s within)
      same_least (IsSoundExpr.main {at = at}) = same_value at (value.Agent (main_name n)) (same_agent (main_name n))
      same_least (IsSoundExpr.variable {at = at} {x = x} h) = from_form (expression at (expr.Var x)) (least-var w env at x ∙ sym (least-var bare env at x))
      same_least (IsSoundExpr.tuple {at = at} {es = es} hs) =
          from_form (expression at (expr.Tuple es)) (least-tuple w env at es ∙ ap (tupling at) (same_leasts hs) ∙ sym (least-tuple bare env at es))
      same_least (IsSoundExpr.operation {at = at} {o = o} {a = a} {b = b} g h) =
          from_form (expression at (expr.Bin o a b))
          (least-bin w env at o a b ∙ (λ i. operation o a.at (same_least g i) b.at (same_least h i)) ∙ sym (least-bin bare env at o a b))

      same_leasts : {scope : List ℕ} {es : List Expr} → AreSoundExprs n scope es → leasts w env es ≡ leasts bare env es
      same_leasts AreSoundExprs.none = refl
      same_leasts (AreSoundExprs.more g hs) = λ i. same_least g i >>= λ t. same_leasts hs i >>= λ ts. Ok (t ∷ ts)

    same_parts : {scope : List ℕ} {e : Expr} → IsSoundExpr n scope e → least_of w env e ≡ least_of bare env e
    same_parts {scope} {e} h = least_parts w env e ∙ (λ i. record { at = e.at; type = same_least h i }) ∙ sym (least_parts bare env e)

    same_is : {scope : List ℕ} {e : Expr} (test : TyLayer → Bool) (r : Rule) → IsSoundExpr n scope e → is_of w test r e env ≡ is_of bare test r e env
    unfolding is_of
    same_is {scope} {e} test r h = λ i. same_least h i >>= λ t. ensure (test (out-Ty t)) e.at r

    same_print : {scope : List ℕ} {e : Expr} → IsSoundExpr n scope e → is_printable w e env ≡ is_printable bare e env
    unfolding is_printable
    same_print {scope} {e} h = λ i. same_least h i >>= λ t. ensure (printable t) e.at rule.NotPrintable

    same_output : {scope : List ℕ} {c e : Expr} → IsSoundExpr n scope c → IsSoundExpr n scope e → is_output w c e env ≡ is_output bare c e env
    same_output g h = λ i. output (same_parts g i) (same_parts h i)

    same_send : {scope : List ℕ} {b s c e : Expr} → IsSoundExpr n scope b → IsSoundExpr n scope s → IsSoundExpr n scope c → IsSoundExpr n scope e
        → check_send w b s c e env ≡ check_send bare b s c e env
    unfolding check_send
    same_send hb hs hc he = λ i. same_is is_agent rule.NotAgent hb i >> (same_is is_site rule.NotSite hs i >> same_output hc he i)

    same_post : {scope : List ℕ} {b c e : Expr} → IsSoundExpr n scope b → IsSoundExpr n scope c → IsSoundExpr n scope e → check_post w b c e env ≡ check_post bare b c e env
    unfolding check_post
    same_post hb hc he = λ i. same_is is_agent rule.NotAgent hb i >> same_output hc he i

    module _ (p q : Checking) (same : p ≡ q) where
      same_input : {scope : List ℕ} {c : Expr} (x : Pat) → IsSoundExpr n scope c → check_input w c x p env ≡ check_input bare c x q env
      unfolding check_input
      same_input x h = λ i. input (same_parts h i) >>= λ t. with_names x t (same i) env

      same_migrate : {scope : List ℕ} {e : Expr} → IsSoundExpr n scope e → check_migrate w e p env ≡ check_migrate bare e q env
      unfolding check_migrate
      same_migrate h = λ i. same_is is_site rule.NotSite h i >> same i env

      same_let : {scope : List ℕ} {e : Expr} (x : Pat) → IsSoundExpr n scope e → check_let w x e p env ≡ check_let bare x e q env
      unfolding check_let
      same_let x h = λ i. same_least h i >>= λ t. with_names x t (same i) env

  by_form : (p : Proc) → ((env : Types) → check_form w p.form p.at env ≡ check_form bare p.form p.at env) → check w p ≡ check bare p
  by_form p h = λ i env. (check-form w p env ∙ h env ∙ sym (check-form bare p env)) i

  -- each world with the sites has the same faults
  pub same_check : {scope bound : List ℕ} {node after : ℕ} {p : Proc} → IsSoundProc n scope node p after bound → check w p ≡ check bare p
  same_check {node = node} (IsSoundProc.stop {at = at}) = by_form (process node at form.Stop) (λ env. form-stop w at env ∙ sym (form-stop bare at env))
  same_check {node = node} (IsSoundProc.parallel {at = at} {p = p} {q = q} g h) =
      let sp = same_check g in
      let sq = same_check h in
      by_form (process node at (form.Par p q)) (λ env. form-par w at env p q ∙ (λ i. sp i env >> sq i env) ∙ sym (form-par bare at env p q))
  same_check {node = node} (IsSoundProc.channel {at = at} {c = c} {t = t} {p = p} k g) =
      let sp = same_check g in
      by_form (process node at (form.New c t p))
      (λ env. form-new w at env c t p ∙ (λ i. check_new c t (sp i) at env) ∙ sym (form-new bare at env c t p))
  same_check {node = node} (IsSoundProc.output {at = at} {c = c} {e = e} hc he) =
      by_form (process node at (form.Out c e)) (λ env. form-out w at env c e ∙ same_output env hc he ∙ sym (form-out bare at env c e))
  same_check {node = node} (IsSoundProc.input {at = at} {c = c} {x = x} {p = p} hc b g) =
      let sp = same_check g in
      by_form (process node at (form.Inp c x p)) (λ env. form-inp w at env c x p ∙ same_input env _ _ sp x hc ∙ sym (form-inp bare at env c x p))
  same_check {node = node} (IsSoundProc.replicated {at = at} {c = c} {x = x} {p = p} hc b g) =
      let sp = same_check g in
      by_form (process node at (form.Rep c x p)) (λ env. form-rep w at env c x p ∙ same_input env _ _ sp x hc ∙ sym (form-rep bare at env c x p))
  same_check {node = node} (IsSoundProc.agent {at = at} {b = b} {p = p} {q = q} g h) =
      let sp = same_check g in
      let sq = same_check h in
      by_form (process node at (form.Agent b p q))
      (λ env. form-agent w at env b p q
      ∙ (λ i. with_binder b ty.Agent (sp i) env >> with_binder b ty.Agent (sq i) env)
      ∙ sym (form-agent bare at env b p q))
  same_check {node = node} (IsSoundProc.migrate {at = at} {s = s} {p = p} hs g) =
      let sp = same_check g in
      by_form (process node at (form.Migrate s p)) (λ env. form-migrate w at env s p ∙ same_migrate env _ _ sp hs ∙ sym (form-migrate bare at env s p))
  same_check {node = node} (IsSoundProc.iflocal {at = at} {b = b} {c = c} {e = e} {p = p} {q = q} hb hc he g h) =
      let sp = same_check g in
      let sq = same_check h in
      by_form (process node at (form.IfLocal b c e p q))
      (λ env. form-iflocal w at env b c e p q ∙ (λ i. same_post env hb hc he i >> (sp i env >> sq i env)) ∙ sym (form-iflocal bare at env b c e p q))
  same_check {node = node} (IsSoundProc.send {at = at} {b = b} {s = s} {c = c} {e = e} hb hs hc he) =
      by_form (process node at (form.Send b s c e)) (λ env. form-send w at env b s c e ∙ same_send env hb hs hc he ∙ sym (form-send bare at env b s c e))
  same_check {node = node} (IsSoundProc.post {at = at} {b = b} {c = c} {e = e} hb hc he) =
      by_form (process node at (form.Post b c e)) (λ env. form-post w at env b c e ∙ same_post env hb hc he ∙ sym (form-post bare at env b c e))
  same_check {node = node} (IsSoundProc.test {at = at} {e = e} {p = p} {q = q} he g h) =
      let sp = same_check g in
      let sq = same_check h in
      by_form (process node at (form.If e p q))
      (λ env. form-if w at env e p q ∙ (λ i. same_is env is_bool rule.NotBool he i >> (sp i env >> sq i env)) ∙ sym (form-if bare at env e p q))
  same_check {node = node} (IsSoundProc.bind {at = at} {x = x} {e = e} {p = p} b he g) =
      let sp = same_check g in
      by_form (process node at (form.Let x e p)) (λ env. form-let w at env x e p ∙ same_let env _ _ sp x he ∙ sym (form-let bare at env x e p))
  same_check {node = node} (IsSoundProc.print {at = at} {e = e} he) =
      by_form (process node at (form.Print e)) (λ env. form-print w at env e ∙ same_print env he ∙ sym (form-print bare at env e))

only_narrow : (b : Bool) (at : ℕ) → (ensure b at rule.Wide >> ensure true at rule.NotChannel) ≡ ensure b at rule.Wide
only_narrow true at = refl
only_narrow false at = refl

-- a channel type is only asked for the number of its nodes
pub for_channels : (t : Ty) (at : ℕ) → IsChannelType t → is_for_channels t at ≡ ensure (narrow t) at rule.Wide
unfolding is_for_channels
for_channels t at (IsChannelType.carries {c = c} {t = s} h) =
    ap (λ y. ensure (narrow (ty.Chan c s)) at rule.Wide >> ensure (is_channel y) at rule.NotChannel) (outs-Chan c s) ∙ only_narrow (narrow (ty.Chan c s)) at
