-- What a source computes and binds is known.
use Rattle.std.proofs.Common.{◌≡◌, ◌<◌, ℕ, Bool, true, false, cond, Some, List, [], ◌∷◌, sym, ap, subst, ◌∙◌}
use Rattle.std.specs.FinMap as map
use Rattle.std.specs.Ordering.{nat_cmp, eq_by_cmp}
use Rattle.np_syntax.specs.declared.value.Name.{Name}
use Rattle.np_syntax.specs.declared.value.Value.{Value, Value-F, out-Value}
use Rattle.np_syntax.specs.declared.value.Value as value
use Rattle.np_syntax.specs.declared.value.Value.TheVariants as outs
use Rattle.np_syntax.specs.declared.expression.Op.{Op}
use Rattle.np_syntax.specs.declared.expression.Op.TheVariants as op
use Rattle.np_syntax.specs.declared.expression.Expr.{Expr}
use Rattle.np_syntax.specs.declared.expression.ExprForm as expr
use Rattle.np_syntax.specs.declared.pattern.Pat.{Pat}
use Rattle.np_syntax.specs.declared.pattern.PatForm as pat
use Rattle.np_syntax.specs.Options.{◌>>=◌}
use Rattle.np_syntax.proofs.Options.{then, done}
use Rattle.np_eval.specs.Eval.{Env, ValueLayer, as_tuple, bind, equal_at, eval, operate, operate_at}
use Rattle.np_eval.specs.Levels.{eval_all, bind_all}
use Rattle.np_eval.proofs.Evals.{eval-form, eval-val, eval-var, eval-bin, eval-tuple}
use Rattle.np_eval.proofs.Binds.{bind-form, bind-any, bind-bind, bind-tuple}
use Rattle.np_calculus.proofs.AgentValues.{slot_put}
use Rattle.np_calculus.specs.Starts.{main_agent}
use Rattle.np_scope.specs.Resolved.{expression, main_name, pattern}
use Rattle.np_scope.specs.Sound.{AllBelow, Binds, BindAll, IsSoundExpr, AreSoundExprs}
use Rattle.np_scope.specs.Written.{IsLiteral}
use Rattle.daemon_encode.proofs.Binders.{among-below}
use Rattle.simulate_laws.specs.things.Known.{AreKnown, IsKnown, Knows}
use Rattle.simulate_laws.specs.things.ValueLaws.{KeepsKnown, KnownMore, ValueIsKnown}

module _ (agents chans : Name → Bool) where
  abbrev Good : Value → Type 0
  Good = IsKnown agents chans

  abbrev AllGood : List Value → Type 0
  AllGood = AreKnown agents chans

  good_as : (v w : Value) → w ≡ v → Good v → Good w
  good_as v w e g = subst Good (sym e) g

  number : (i : _) (w : Value) → Some (value.Int i) ≡ Some w → Good w
  number i w e = good_as (value.Int i) w (done e) (IsKnown.literal IsLiteral.number)

  truth : (b : Bool) (w : Value) → Some (value.Truth b) ≡ Some w → Good w
  truth b w e = good_as (value.Truth b) w (done e) (IsKnown.literal IsLiteral.truth)

  operated : (o : Op) (x y : ValueLayer) (w : Value) → operate_at o x y ≡ Some w → Good w
  operated op.Add (Value-F.Int x) (Value-F.Int y) w e = number _ w e
  operated op.Sub (Value-F.Int x) (Value-F.Int y) w e = number _ w e
  operated op.Mul (Value-F.Int x) (Value-F.Int y) w e = number _ w e
  operated op.Less (Value-F.Int x) (Value-F.Int y) w e = truth _ w e
  operated op.Equal x y w e = then (equal_at x y) (λ same. Some (value.Truth same)) e λ b is rest. truth b w rest
  operated _ _ _ w e = absurd cc

  -- the parts of a tuple that is known
  parts : (v : Value) → Good v → (vs : List Value) → as_tuple (out-Value v) ≡ Some vs → AllGood vs
  parts v (IsKnown.literal (IsLiteral.number {n = i})) vs e = absurd (let h = ap as_tuple (outs.outs-Int i) in cc)
  parts v (IsKnown.literal (IsLiteral.truth {b = b})) vs e = absurd (let h = ap as_tuple (outs.outs-Truth b) in cc)
  parts v (IsKnown.literal (IsLiteral.string {text = t})) vs e = absurd (let h = ap as_tuple (outs.outs-Str t) in cc)
  parts v (IsKnown.site {s = s}) vs e = absurd (let h = ap as_tuple (outs.outs-Site s) in cc)
  parts v (IsKnown.agent {a = a} g) vs e = absurd (let h = ap as_tuple (outs.outs-Agent a) in cc)
  parts v (IsKnown.channel {c = c} g) vs e = absurd (let h = ap as_tuple (outs.outs-Chan c) in cc)
  parts v (IsKnown.tuple {vs = us} g) vs e = subst AllGood (let h = ap as_tuple (outs.outs-Tuple us) in let same : us ≡ vs = cc in same) g

  module _ (n from : ℕ) (scope : List ℕ) (env : Env) (main : agents (main_agent n) ≡ true) (below : AllBelow from scope) (knows : Knows agents chans from env) where
    mutual
      good : {e : Expr} → IsSoundExpr n scope e → (w : Value) → eval e env ≡ Some w → Good w
      good (IsSoundExpr.literal {at = at} {v = v} l) w h = good_as v w (done (sym (eval-form (expression at (expr.Val v)) env ∙ eval-val v env) ∙ h)) (IsKnown.literal l)
      good (IsSoundExpr.site {at = at} {s = s} l) w h =
          good_as (value.Site s) w (done (sym (eval-form (expression at (expr.Val (value.Site s))) env ∙ eval-val (value.Site s) env) ∙ h)) IsKnown.site
      good (IsSoundExpr.main {at = at}) w h =
          good_as (value.Agent (main_name n)) w (done (sym (eval-form (expression at (expr.Val (value.Agent (main_name n)))) env ∙ eval-val (value.Agent (main_name n)) env) ∙ h)) (IsKnown.agent main)
      good (IsSoundExpr.variable {at = at} {x = x} m) w h = knows.each x w (among-below from scope below x m) (sym (eval-form (expression at (expr.Var x)) env ∙ eval-var x env) ∙ h)
      good (IsSoundExpr.tuple {at = at} {es = es} hs) w h =
          then (eval_all es env) (λ vs. Some (value.Tuple vs)) (sym (eval-form (expression at (expr.Tuple es)) env ∙ eval-tuple es env) ∙ h) λ vs is rest.
          good_as (value.Tuple vs) w (done rest) (IsKnown.tuple (all_good hs vs is))
      good (IsSoundExpr.operation {at = at} {o = o} {a = a} {b = b} ha hb) w h =
          then (eval a env) (λ x. eval b env >>= λ y. operate o x y) (sym (eval-form (expression at (expr.Bin o a b)) env ∙ eval-bin o a b env) ∙ h) λ x is rest.
          then (eval b env) (λ y. operate o x y) rest λ y is_too last. operated o (out-Value x) (out-Value y) w last

      all_good : {es : List Expr} → AreSoundExprs n scope es → (ws : List Value) → eval_all es env ≡ Some ws → AllGood ws
      all_good AreSoundExprs.none ws h = subst AllGood (sym (done h)) AreKnown.none
      all_good (AreSoundExprs.more {e = e} {es = es} g gs) ws h =
          then (eval e env) (λ v. eval_all es env >>= λ vs. Some (v ∷ vs)) h λ v is rest.
          then (eval_all es env) (λ vs. Some (v ∷ vs)) rest λ vs is_too last. subst AllGood (sym (done last)) (AreKnown.more (good g v is) (all_good gs vs is_too))

  module _ (from : ℕ) where
    knows-put : (x : ℕ) (v : Value) (env : Env) → Knows agents chans from env → Good v → Knows agents chans from (map.insert env x v)
    knows-put x v env k g = record { each = λ y w h is. go (eq_by_cmp nat_cmp y x) y w h (sym (slot_put env x v y) ∙ is) }
      where
        go : (t : Bool) (y : ℕ) (w : Value) → y < from → cond t (Some v) (map.get env y) ≡ Some w → Good w
        go true y w h is = good_as v w (done is) g
        go false y w h is = k.each y w h is

    mutual
      bound : {scope inner xs : List ℕ} {p : Pat} → Binds scope p inner xs → (v : Value) (env next : Env) → Knows agents chans from env → Good v → bind p v env ≡ Some next → Knows agents chans from next
      bound (Binds.any {at = at}) v env next k g h = subst (Knows agents chans from) (sym (done (sym (bind-form (pattern at pat.Any) v env ∙ bind-any v env) ∙ h))) k
      bound (Binds.name {at = at} {x = x}) v env next k g h =
          subst (Knows agents chans from) (sym (done (sym (bind-form (pattern at (pat.Bind x)) v env ∙ bind-bind x v env) ∙ h))) (knows-put x v env k g)
      bound (Binds.tuple {at = at} {ps = ps} bs) v env next k g h =
          then (as_tuple (out-Value v)) (λ vs. bind_all ps vs env) (sym (bind-form (pattern at (pat.Tuple ps)) v env ∙ bind-tuple ps v env) ∙ h) λ vs is rest. bound_all bs vs env next k (parts v g vs is) rest

      bound_all : {scope inner xs : List ℕ} {ps : List Pat} → BindAll scope ps inner xs → (vs : List Value) (env next : Env) → Knows agents chans from env → AllGood vs → bind_all ps vs env ≡ Some next
          → Knows agents chans from next
      bound_all BindAll.none [] env next k g h = subst (Knows agents chans from) (sym (done h)) k
      bound_all BindAll.none (v ∷ vs) env next k g h = absurd cc
      bound_all (BindAll.more b bs) [] env next k g h = absurd cc
      bound_all (BindAll.more {p = p} {ps = ps} b bs) (v ∷ vs) env next k (AreKnown.more g gs) h =
          then (bind p v env) (bind_all ps vs) h λ mid first rest. bound_all bs vs mid next (bound b v env mid k g first) gs rest

pub value-is-known : ValueIsKnown
value-is-known agents chans n from scope e env v main h below knows is = good agents chans n from scope env main below knows h v is

pub keeps-known : KeepsKnown
keeps-known agents chans from scope inner bounds p v env next b knows g h = bound agents chans from b v env next knows g h

module _ (agents chans more wider : Name → Bool) (f : (a : Name) → agents a ≡ true → more a ≡ true) (g : (c : Name) → chans c ≡ true → wider c ≡ true) where
  mutual
    pub more_known : {v : Value} → IsKnown agents chans v → IsKnown more wider v
    more_known (IsKnown.literal l) = IsKnown.literal l
    more_known IsKnown.site = IsKnown.site
    more_known (IsKnown.agent h) = IsKnown.agent (f _ h)
    more_known (IsKnown.channel h) = IsKnown.channel (g _ h)
    more_known (IsKnown.tuple h) = IsKnown.tuple (more_all h)

    more_all : {vs : List Value} → AreKnown agents chans vs → AreKnown more wider vs
    more_all AreKnown.none = AreKnown.none
    more_all (AreKnown.more h hs) = AreKnown.more (more_known h) (more_all hs)

pub known-more : KnownMore
known-more agents chans more wider from env f g k = record { each = λ x v h is. more_known agents chans more wider f g (k.each x v h is) }
