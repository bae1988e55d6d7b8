-- The low program of a resolved program names no agents but main and the daemon, and its start can run.
use Rattle.std.proofs.Common.{◌≤◌, ℕ, inl, inr, List, length, map, refl}
use Rattle.np_syntax.specs.declared.value.Name.{Name}
use Rattle.np_syntax.specs.declared.value.Value.{Value}
use Rattle.np_syntax.specs.declared.value.Value.TheVariants as values
use Rattle.np_syntax.specs.declared.expression.Expr.{Expr}
use Rattle.np_syntax.specs.declared.expression.ExprForm.TheVariants as exprs
use Rattle.np_syntax.specs.declared.process.Proc.{Proc}
use Rattle.np_syntax.specs.declared.process.ProcForm.TheVariants as forms
use Rattle.np_syntax.specs.declared.program.LowProgram.{LowProgram}
use Rattle.np_syntax.specs.declared.limits.TheConstants.{MOST_SITES}
use Rattle.np_calculus.specs.Agents.{Each, expr_agents, joined}
use Rattle.np_calculus.specs.Runs.{RunsWell}
use Rattle.np_calculus.specs.Starts.{start_low, main_agent, daemon_agent, own}
use Rattle.np_calculus.proofs.AgentForms.{OfExpr, OfProc, nobody, both-parts, of-proc}
use Rattle.np_calculus.proofs.AgentValues.{OfValue, agent-fits, chan-fits, of-value, of-expr, expr_value}
use Rattle.np_calculus.proofs.Housed.{IsOwn, low-housed, stays-lodged}
use Rattle.np_safety.specs.Low.{IsFaultless}
use Rattle.np_safety.proofs.Lows.{low-well-typed}
use Rattle.np_safety.proofs.SoundAgents.{literal}
use Rattle.daemon_encode.specs.Encoded.{encoded}
use Rattle.daemon_encode.specs.LowSound.{IsLowValue, IsLowExpr, AreLowExprs, IsLowProc, IsLowSound}
use Rattle.daemon_encode.specs.Typed.{EncodesRunsWell}
use Rattle.daemon_encode.proofs.LowSounds.{encodes-sound}
use Rattle.daemon_encode.proofs.ProgramsTyped.{encodes-faultless}

module _ (n : ℕ) where
  abbrev P : Name → Type 0
  P = IsOwn n

  low-value : {v : Value} → IsLowValue n v → OfValue P v
  low-value (IsLowValue.literal l) = literal P l
  low-value (IsLowValue.site {s = s} within) = of-value P _ _ (values.outs-Site s) (nobody P)
  low-value IsLowValue.main = agent-fits P (main_agent n) (inl refl)
  low-value IsLowValue.daemon = agent-fits P (daemon_agent n) (inr refl)
  low-value (IsLowValue.channel {i = i} listed) = chan-fits P (own n i)
  low-value IsLowValue.places = of-value P _ _ (values.outs-Places _) (nobody P)
  low-value IsLowValue.no_places = of-value P _ _ (values.outs-Places _) (nobody P)

  mutual
    low-expr : {scope : List ℕ} {e : Expr} → IsLowExpr n scope e → OfExpr P e
    low-expr (IsLowExpr.constant {at = at} {v = v} h) = expr_value P at v (low-value h)
    low-expr (IsLowExpr.variable {x = x} h) = of-expr P _ _ (exprs.outs-Var x) (nobody P)
    low-expr (IsLowExpr.tuple {es = es} hs) = of-expr P _ _ (exprs.outs-Tuple es) (low-exprs hs)
    low-expr (IsLowExpr.operation {o = o} {a = a} {b = b} g h) = of-expr P _ _ (exprs.outs-Bin o a b) (both-parts P _ _ (low-expr g) (low-expr h))
    low-expr (IsLowExpr.letter {c = c} {v = v} g h) = of-expr P _ _ (exprs.outs-Pack c v) (both-parts P _ _ (low-expr g) (low-expr h))
    low-expr (IsLowExpr.with_lock {m = m} {a = a} {l = l} f g h) =
        of-expr P _ _ (exprs.outs-With m a l) (both-parts P _ _ (both-parts P _ _ (low-expr f) (low-expr g)) (low-expr h))

    low-exprs : {scope : List ℕ} {es : List Expr} → AreLowExprs n scope es → Each P (joined (map expr_agents es))
    low-exprs AreLowExprs.none = nobody P
    low-exprs (AreLowExprs.more g hs) = both-parts P _ _ (low-expr g) (low-exprs hs)

  low-proc : {scope : List ℕ} {p : Proc} → IsLowProc n scope p → OfProc P p
  low-proc IsLowProc.stop = of-proc P _ _ forms.outs-Stop (nobody P)
  low-proc (IsLowProc.parallel {p = p} {q = q} g h) =
      let sp = low-proc g in
      let sq = low-proc h in
      of-proc P _ _ (forms.outs-Par p q) (both-parts P _ _ sp sq)
  low-proc (IsLowProc.channel {c = c} {t = t} {p = p} k g) = let sp = low-proc g in of-proc P _ _ (forms.outs-New c t p) sp
  low-proc (IsLowProc.output {c = c} {e = e} hc he) = of-proc P _ _ (forms.outs-Out c e) (both-parts P _ _ (low-expr hc) (low-expr he))
  low-proc (IsLowProc.input {c = c} {x = x} {p = p} hc b g) =
      let sp = low-proc g in
      of-proc P _ _ (forms.outs-Inp c x p) (both-parts P _ _ (low-expr hc) sp)
  low-proc (IsLowProc.replicated {c = c} {x = x} {p = p} hc b g) =
      let sp = low-proc g in
      of-proc P _ _ (forms.outs-Rep c x p) (both-parts P _ _ (low-expr hc) sp)
  low-proc (IsLowProc.agent {b = b} {p = p} {q = q} g h) =
      let sp = low-proc g in
      let sq = low-proc h in
      of-proc P _ _ (forms.outs-Agent b p q) (both-parts P _ _ sp sq)
  low-proc (IsLowProc.migrate {s = s} {p = p} hs g) =
      let sp = low-proc g in
      of-proc P _ _ (forms.outs-Migrate s p) (both-parts P _ _ (low-expr hs) sp)
  low-proc (IsLowProc.iflocal {b = b} {c = c} {e = e} {p = p} {q = q} hb hc he g h) =
      let sp = low-proc g in
      let sq = low-proc h in
      let operands = both-parts P _ _ (both-parts P _ _ (low-expr hb) (low-expr hc)) (low-expr he) in
      of-proc P _ _ (forms.outs-IfLocal b c e p q) (both-parts P _ _ (both-parts P _ _ operands sp) sq)
  low-proc (IsLowProc.send {b = b} {s = s} {c = c} {e = e} hb hs hc he) =
      let operands = both-parts P _ _ (both-parts P _ _ (low-expr hb) (low-expr hs)) (low-expr hc) in
      of-proc P _ _ (forms.outs-Send b s c e) (both-parts P _ _ operands (low-expr he))
  low-proc (IsLowProc.test {e = e} {p = p} {q = q} he g h) =
      let sp = low-proc g in
      let sq = low-proc h in
      of-proc P _ _ (forms.outs-If e p q) (both-parts P _ _ (both-parts P _ _ (low-expr he) sp) sq)
  low-proc (IsLowProc.bind {x = x} {e = e} {p = p} he b g) =
      let sp = low-proc g in
      of-proc P _ _ (forms.outs-Let x e p) (both-parts P _ _ (low-expr he) sp)
  low-proc (IsLowProc.print {e = e} he) = of-proc P _ _ (forms.outs-Print e) (low-expr he)
  low-proc (IsLowProc.open_letter {e = e} he) = of-proc P _ _ (forms.outs-Open e) (low-expr he)
  low-proc (IsLowProc.lookup {x = x} {a = a} {m = m} {p = p} {q = q} ha hm g h) =
      let sp = low-proc g in
      let sq = low-proc h in
      of-proc P _ _ (forms.outs-Lookup a m x p q) (both-parts P _ _ (both-parts P _ _ (both-parts P _ _ (low-expr ha) (low-expr hm)) sp) sq)

-- whatever translation makes it
pub low-runs-well : (q : LowProgram) → length q.sites ≤ MOST_SITES → IsLowSound q → IsFaultless q → RunsWell (start_low q) q.at
unfolding start_low
low-runs-well q few s f = record {
  sites = few;
  site = s.at;
  lodged = stays-lodged (start_low q) (low-housed q (low-proc (length q.sites) s.main) (low-proc (length q.sites) s.daemon));
  well = λ events d h. (low-well-typed q f events d h).1;
}

pub encodes-runs-well : EncodesRunsWell
encodes-runs-well p a = low-runs-well (encoded p) a.sound.sites (encodes-sound p a.sound) (encodes-faultless p a)
