-- A resolved process names no agent but main.
use Rattle.std.proofs.Common.{◌≡◌, ℕ, List, length, map, refl}
use Rattle.np_safety.proofs.Common.{Name, Value, Expr, Proc}
use Rattle.np_syntax.specs.declared.value.Value.TheVariants.{outs-Int, outs-Truth, outs-Str, outs-Site}
use Rattle.np_syntax.specs.declared.value.Value as value
use Rattle.np_syntax.specs.declared.expression.ExprForm.TheVariants as exprs
use Rattle.np_syntax.specs.declared.process.ProcForm.TheVariants as forms
use Rattle.np_syntax.specs.declared.program.Program.{Program}
use Rattle.np_scope.specs.Sound.{IsSound, IsSoundExpr, AreSoundExprs, IsSoundProc}
use Rattle.np_scope.specs.Written.{IsLiteral}
use Rattle.np_calculus.specs.Agents.{Each, joined, expr_agents, proc_agents}
use Rattle.np_calculus.specs.Starts.{main_agent}
use Rattle.np_calculus.proofs.AgentForms.{OfExpr, OfProc, nobody, both-parts, of-proc}
use Rattle.np_calculus.proofs.AgentValues.{OfValue, agent-fits, of-value, of-expr, expr_value}

-- a literal names no agent
pub literal : (P : Name → Type 0) {v : Value} → IsLiteral v → OfValue P v
literal P (IsLiteral.number {n = m}) = of-value P _ _ (outs-Int m) (nobody P)
literal P (IsLiteral.truth {b = b}) = of-value P _ _ (outs-Truth b) (nobody P)
literal P (IsLiteral.string {text = text}) = of-value P _ _ (outs-Str text) (nobody P)

module _ (n : ℕ) where
  -- the agent is main
  abbrev P : Name → Type 0
  P a = a ≡ main_agent n

  site : (s : ℕ) → OfValue P (value.Site s)
  site s = of-value P _ _ (outs-Site s) (nobody P)

  mutual
    sound-expr : {scope : List ℕ} {e : Expr} → IsSoundExpr n scope e → OfExpr P e
    sound-expr (IsSoundExpr.literal {at = at} {v = v} l) = expr_value P at v (literal P l)
    sound-expr (IsSoundExpr.site {at = at} {s = s} within) = expr_value P at (value.Site s) (site s)
    sound-expr (IsSoundExpr.main {at = at}) = expr_value P at (value.Agent (main_agent n)) (agent-fits P (main_agent n) refl)
    sound-expr (IsSoundExpr.variable {x = x} h) = of-expr P _ _ (exprs.outs-Var x) (nobody P)
    sound-expr (IsSoundExpr.tuple {es = es} hs) = of-expr P _ _ (exprs.outs-Tuple es) (sound-exprs hs)
    sound-expr (IsSoundExpr.operation {o = o} {a = a} {b = b} g h) = of-expr P _ _ (exprs.outs-Bin o a b) (both-parts P _ _ (sound-expr g) (sound-expr h))

    sound-exprs : {scope : List ℕ} {es : List Expr} → AreSoundExprs n scope es → Each P (joined (map expr_agents es))
    sound-exprs AreSoundExprs.none = nobody P
    sound-exprs (AreSoundExprs.more g hs) = both-parts P _ _ (sound-expr g) (sound-exprs hs)

  sound-proc : {scope bound : List ℕ} {node after : ℕ} {p : Proc} → IsSoundProc n scope node p after bound → OfProc P p
  sound-proc IsSoundProc.stop = of-proc P _ _ forms.outs-Stop (nobody P)
  sound-proc (IsSoundProc.parallel {p = p} {q = q} g h) = of-proc P _ _ (forms.outs-Par p q) (both-parts P _ _ (sound-proc g) (sound-proc h))
  sound-proc (IsSoundProc.channel {c = c} {t = t} {p = p} k g) = of-proc P _ _ (forms.outs-New c t p) (sound-proc g)
  sound-proc (IsSoundProc.output {c = c} {e = e} hc he) = of-proc P _ _ (forms.outs-Out c e) (both-parts P _ _ (sound-expr hc) (sound-expr he))
  sound-proc (IsSoundProc.input {c = c} {x = x} {p = p} hc b g) = of-proc P _ _ (forms.outs-Inp c x p) (both-parts P _ _ (sound-expr hc) (sound-proc g))
  sound-proc (IsSoundProc.replicated {c = c} {x = x} {p = p} hc b g) = of-proc P _ _ (forms.outs-Rep c x p) (both-parts P _ _ (sound-expr hc) (sound-proc g))
  sound-proc (IsSoundProc.agent {b = b} {p = p} {q = q} g h) = of-proc P _ _ (forms.outs-Agent b p q) (both-parts P _ _ (sound-proc g) (sound-proc h))
  sound-proc (IsSoundProc.migrate {s = s} {p = p} hs g) = of-proc P _ _ (forms.outs-Migrate s p) (both-parts P _ _ (sound-expr hs) (sound-proc g))
  sound-proc (IsSoundProc.iflocal {b = b} {c = c} {e = e} {p = p} {q = q} hb hc he g h) =
      let operands = both-parts P _ _ (both-parts P _ _ (sound-expr hb) (sound-expr hc)) (sound-expr he) in
      of-proc P _ _ (forms.outs-IfLocal b c e p q) (both-parts P _ _ (both-parts P _ _ operands (sound-proc g)) (sound-proc h))
  sound-proc (IsSoundProc.send {b = b} {s = s} {c = c} {e = e} hb hs hc he) =
      let operands = both-parts P _ _ (both-parts P _ _ (sound-expr hb) (sound-expr hs)) (sound-expr hc) in
      of-proc P _ _ (forms.outs-Send b s c e) (both-parts P _ _ operands (sound-expr he))
  sound-proc (IsSoundProc.post {b = b} {c = c} {e = e} hb hc he) =
      of-proc P _ _ (forms.outs-Post b c e) (both-parts P _ _ (both-parts P _ _ (sound-expr hb) (sound-expr hc)) (sound-expr he))
  sound-proc (IsSoundProc.test {e = e} {p = p} {q = q} he g h) =
      of-proc P _ _ (forms.outs-If e p q) (both-parts P _ _ (both-parts P _ _ (sound-expr he) (sound-proc g)) (sound-proc h))
  sound-proc (IsSoundProc.bind {x = x} {e = e} {p = p} b he g) = of-proc P _ _ (forms.outs-Let x e p) (both-parts P _ _ (sound-expr he) (sound-proc g))
  sound-proc (IsSoundProc.print {e = e} he) = of-proc P _ _ (forms.outs-Print e) (sound-expr he)

-- main's process in a resolved program names no agent but main
pub own-agents : (p : Program) → IsSound p → Each (λ a. a ≡ main_agent (length p.sites)) (proc_agents p.main)
own-agents p s = sound-proc (length p.sites) s.main
