-- The agents of the value of an expression, and of what a pattern binds.
use Rattle.std.proofs.Common.{◌≡◌, ℕ, Bool, true, false, cond, inl, inr, List, [], ◌∷◌, map, Option, Some, refl, subst, sym, ap, ◌∙◌}
use Rattle.std.specs.FinMap as table
use Rattle.std.specs.FinMap.{get-insert}
use Rattle.std.specs.Cmp.{nat_cmp_total}
use Rattle.std.specs.Ordering.{nat_cmp, eq_by_cmp}
use Rattle.np_calculus.proofs.Common.{Name, Value, out-Value, Expr, Pat, then, done, Env, agent_of, letter_of, eval, bind}
use Rattle.np_syntax.specs.declared.value.Value.{Value-F, map-Value, fold_out-Value}
use Rattle.np_syntax.specs.declared.value.Value as value
use Rattle.np_syntax.specs.declared.value.Value.TheVariants as outs
use Rattle.np_syntax.specs.declared.expression.Op.{Op}
use Rattle.np_syntax.specs.declared.expression.Op.TheVariants as op
use Rattle.np_syntax.specs.declared.expression.Expr.{fold_out-Expr}
use Rattle.np_syntax.specs.declared.expression.ExprForm.{ExprForm, ExprForm-F, out-ExprForm, map-ExprForm, fold-ExprForm, fold_out-ExprForm}
use Rattle.np_syntax.specs.declared.expression.ExprForm as expr
use Rattle.np_syntax.specs.declared.expression.ExprForm.TheVariants.{outs-Val}
use Rattle.np_syntax.specs.declared.pattern.PatForm.{PatForm-F}
use Rattle.np_syntax.specs.Options.{all_some}
use Rattle.np_eval.specs.Eval.{ValueLayer, Binding, as_agent, as_chan, as_places, as_tuple, as_letter, put_place, with_place}
use Rattle.np_eval.specs.Eval.{eval_step, operate_at, equal_at, bind_each, bind_step}
use Rattle.np_calculus.specs.Agents.{Agents, Each, joined, value_step, value_agents, expr_step, expr_agents}
use Rattle.np_syntax.proofs.Trees.{With, ExprHyps, expr_of, expr_ind, PatHyps, pat_of, pat_ind}
use Rattle.np_eval.proofs.Layers.{eval_layer, eval-out, bind_layer, bind-out}
use Rattle.np_calculus.proofs.AgentForms.{OfExpr, nobody, first-part, last-part, both-parts}

-- the agents in a value's form
abbrev layer_agents : ValueLayer → Agents
layer_agents l = value_step (map-Value Value Agents value_agents l)

value-out : (v : Value) → value_agents v ≡ layer_agents (out-Value v)
unfolding value_agents
value-out v = fold_out-Value Agents value_step v

value-of : (v : Value) (l : ValueLayer) → out-Value v ≡ l → value_agents v ≡ layer_agents l
value-of v l is = value-out v ∙ ap layer_agents is

abbrev expr_layer : ExprForm-F ExprForm Expr → ExprForm-F Agents Agents
expr_layer y = map-ExprForm ExprForm Expr Agents Agents (fold-ExprForm Agents Agents expr_step (λ e. e.form)) expr_agents y

expr-out : (e : Expr) → expr_agents e ≡ expr_step (expr_layer (out-ExprForm e.form))
unfolding expr_agents
expr-out e = fold_out-Expr Agents Agents expr_step (λ e. e.form) e ∙ fold_out-ExprForm Agents Agents expr_step (λ e. e.form) e.form

pub slot_put : {X : Type 0} (m : table.FinMap nat_cmp X) (k : ℕ) (v : X) (q : ℕ) → table.get (table.insert m k v) q ≡ cond (eq_by_cmp nat_cmp q k) (Some v) (table.get m q)
slot_put = get-insert nat_cmp_total

module _ (P : Name → Type 0) where
  abbrev pub OfValue : Value → Type 0
  OfValue v = Each P (value_agents v)

  abbrev pub OfEnv : Env → Type 0
  OfEnv env = (x : ℕ) (v : Value) → table.get env x ≡ Some v → OfValue v

  -- ---- values

  pub of-value : (v : Value) (l : ValueLayer) → out-Value v ≡ l → Each P (layer_agents l) → OfValue v
  of-value v l is h = subst (Each P) (sym (value-of v l is)) h

  its-form : (v : Value) → OfValue v → Each P (layer_agents (out-Value v))
  its-form v h = subst (Each P) (value-out v) h

  truth-fits : (b : Bool) → OfValue (value.Truth b)
  truth-fits b = of-value _ _ (outs.outs-Truth b) (nobody P)

  int-fits : (n : _) → OfValue (value.Int n)
  int-fits n = of-value _ _ (outs.outs-Int n) (nobody P)

  pub chan-fits : (c : Name) → OfValue (value.Chan c)
  chan-fits c = of-value _ _ (outs.outs-Chan c) (nobody P)

  pub agent-fits : (b : Name) → P b → OfValue (value.Agent b)
  agent-fits b h = of-value _ _ (outs.outs-Agent b) (record { each = λ a i. elim i [ inl e ↦ subst P (sym e) h | inr none ↦ absurd none ] })

  places-fits : (ps : List (Name × Name)) → OfValue (value.Places ps)
  places-fits ps = of-value _ _ (outs.outs-Places ps) (nobody P)

  letter-fits : (c : Name) (v : Value) → OfValue v → OfValue (value.Letter c v)
  letter-fits c v h = of-value _ _ (outs.outs-Letter c v) h

  tuple-fits : (vs : List Value) → Each P (joined (map value_agents vs)) → OfValue (value.Tuple vs)
  tuple-fits vs h = of-value _ _ (outs.outs-Tuple vs) h

  agent-in : (l : ValueLayer) (a : Name) → as_agent l ≡ Some a → Each P (layer_agents l) → P a
  agent-in (Value-F.Agent b) a is h = subst P (sym (done is)) (h.each b (inl refl))
  agent-in _ a is h = absurd cc

  letter-in : (l : ValueLayer) (s : Name × Value) → as_letter l ≡ Some s → Each P (layer_agents l) → OfValue s.1
  letter-in (Value-F.Letter c v) s is h = let e : s ≡ (c, v) = done is in rw e h
  letter-in _ s is h = absurd cc

  tuple-in : (l : ValueLayer) (vs : List Value) → as_tuple l ≡ Some vs → Each P (layer_agents l) → Each P (joined (map value_agents vs))
  tuple-in (Value-F.Tuple us) vs is h = let e : vs ≡ us = done is in rw e h
  tuple-in _ vs is h = absurd cc

  pub of-expr : (e : Expr) (l : ExprForm-F ExprForm Expr) → out-ExprForm e.form ≡ l → Each P (expr_step (expr_layer l)) → OfExpr P e
  of-expr e l is h = subst (Each P) (sym (expr-out e ∙ ap (λ l. expr_step (expr_layer l)) is)) h

  -- the expression of a value
  pub expr_value : (at : ℕ) (v : Value) → OfValue v → OfExpr P (record { at = at; form = expr.Val v })
  expr_value at v h = of-expr _ _ (outs-Val v) h

  -- ---- operations

  operate-fits : (o : Op) (l m : ValueLayer) (v : Value) → operate_at o l m ≡ Some v → OfValue v
  operate-fits op.Equal l m v h = then (equal_at l m) _ h λ b same h. subst OfValue (sym (done h)) (truth-fits b)
  operate-fits op.Less (Value-F.Int x) (Value-F.Int y) v h = subst OfValue (sym (done h)) (truth-fits _)
  operate-fits op.Add (Value-F.Int x) (Value-F.Int y) v h = subst OfValue (sym (done h)) (int-fits _)
  operate-fits op.Sub (Value-F.Int x) (Value-F.Int y) v h = subst OfValue (sym (done h)) (int-fits _)
  operate-fits op.Mul (Value-F.Int x) (Value-F.Int y) v h = subst OfValue (sym (done h)) (int-fits _)
  operate-fits _ _ _ v h = absurd cc

  with-fits : (x y z v : Value) → with_place x y z ≡ Some v → OfValue v
  with-fits x y z v h =
      then (as_places (out-Value x)) _ h λ ps p h. then (as_agent (out-Value y)) _ h λ b q h. then (as_chan (out-Value z)) _ h λ n r h.
      subst OfValue (sym (done h)) (places-fits (put_place ps b n))

  -- ---- expressions

  module _ (env : Env) (of_env : OfEnv env) where
    abbrev Keeps : Expr → Type 0
    Keeps e = (v : Value) → eval e env ≡ Some v → OfExpr P e → OfValue v

    parts : (es : List (With Expr Keeps)) (vs : List Value) → all_some (map (λ e. eval e env) (map (λ e. e.0) es)) ≡ Some vs
        → Each P (joined (map expr_agents (map (λ e. e.0) es))) → Each P (joined (map value_agents vs))
    parts [] vs h i = let e : vs ≡ [] = done h in rw e i
    parts (e ∷ es) vs h i =
        then (eval e.0 env) _ h λ v is h. then (all_some (map (λ e. eval e env) (map (λ e. e.0) es))) _ h λ rest are h.
        let o : vs ≡ v ∷ rest = done h in
        rw o (both-parts P _ _ (e.1 v is (first-part P _ _ i)) (parts es rest are (last-part P _ _ i)))

    keeps_layer : (y : ExprHyps Keeps) (v : Value) → eval_step env (eval_layer env (expr_of Keeps y)) ≡ Some v
        → Each P (expr_step (expr_layer (expr_of Keeps y))) → OfValue v
    keeps_layer (ExprForm-F.Val u) v h i = subst OfValue (sym (done h)) i
    keeps_layer (ExprForm-F.Var x) v h i = of_env x v h
    keeps_layer (ExprForm-F.Tuple es) v h i =
        then (all_some (map (λ e. eval e env) (map (λ e. e.0) es))) _ h λ vs are h.
        subst OfValue (sym (done h)) (tuple-fits vs (parts es vs are i))
    keeps_layer (ExprForm-F.Bin o a b) v h i =
        then (eval a.0 env) _ h λ x first h. then (eval b.0 env) _ h λ y second h. operate-fits o (out-Value x) (out-Value y) v h
    keeps_layer (ExprForm-F.Pack c e) v h i =
        then (eval c.0 env) _ h λ x first h. then (eval e.0 env) _ h λ y second h. then (as_chan (out-Value x)) _ h λ n on h.
        subst OfValue (sym (done h)) (letter-fits n y (e.1 y second (last-part P _ _ i)))
    keeps_layer (ExprForm-F.With m a l) v h i =
        then (eval m.0 env) _ h λ x first h. then (eval a.0 env) _ h λ y second h. then (eval l.0 env) _ h λ z third h.
        with-fits x y z v h

    -- the agents in the value of an expression stand in the expression or in the environment
    pub eval-fits : (e : Expr) (v : Value) → eval e env ≡ Some v → OfExpr P e → OfValue v
    eval-fits = expr_ind Keeps (λ e y is v h i.
        keeps_layer y v (ap (λ x. eval_step env (eval_layer env x)) (sym is) ∙ sym (eval-out env e) ∙ h)
        (subst (λ x. Each P (expr_step (expr_layer x))) is (subst (Each P) (expr-out e) i)))

    pub agent_of-fits : (e : Expr) (a : Name) → agent_of e env ≡ Some a → OfExpr P e → P a
    agent_of-fits e a h i = then (eval e env) _ h λ v is h. agent-in (out-Value v) a h (its-form v (eval-fits e v is i))

    pub letter_of-fits : (e : Expr) (s : Name × Value) → letter_of e env ≡ Some s → OfExpr P e → OfValue s.1
    letter_of-fits e s h i = then (eval e env) _ h λ v is h. letter-in (out-Value v) s h (its-form v (eval-fits e v is i))

  -- ---- environments

  put-entry : (b : Bool) (v u : Value) (o : Option Value) → OfValue v → (o ≡ Some u → OfValue u) → cond b (Some v) o ≡ Some u → OfValue u
  put-entry true v u o h k e = subst OfValue (sym (done e)) h
  put-entry false v u o h k e = k e

  pub env-put : (env : Env) (x : ℕ) (v : Value) → OfValue v → OfEnv env → OfEnv (table.insert env x v)
  env-put env x v h k y u e = put-entry (eq_by_cmp nat_cmp y x) v u _ h (k y u) (sym (slot_put env x v y) ∙ e)

  abbrev BindsKept : Pat → Type 0
  BindsKept p = (v : Value) (env inner : Env) → bind p v env ≡ Some inner → OfValue v → OfEnv env → OfEnv inner

  bind-parts : (ps : List (With Pat BindsKept)) (vs : List Value) (env inner : Env) → bind_each (map bind (map (λ p. p.0) ps)) vs env ≡ Some inner
      → Each P (joined (map value_agents vs)) → OfEnv env → OfEnv inner
  bind-parts [] [] env inner h i k = subst OfEnv (sym (done h)) k
  bind-parts (p ∷ ps) (v ∷ vs) env inner h i k =
      then (bind p.0 v env) _ h λ next is h. bind-parts ps vs next inner h (last-part P _ _ i) (p.1 v env next is (first-part P _ _ i) k)
  bind-parts _ _ env inner h i k = absurd cc

  bind-kept : (y : PatHyps BindsKept) (v : Value) (env inner : Env) → bind_step (bind_layer (pat_of BindsKept y)) v env ≡ Some inner
      → OfValue v → OfEnv env → OfEnv inner
  bind-kept PatForm-F.Any v env inner h i k = subst OfEnv (sym (done h)) k
  bind-kept (PatForm-F.Bind x) v env inner h i k = subst OfEnv (sym (done h)) (env-put env x v i k)
  bind-kept (PatForm-F.Tuple ps) v env inner h i k =
      then (as_tuple (out-Value v)) _ h λ vs is h. bind-parts ps vs env inner h (tuple-in (out-Value v) vs is (its-form v i)) k

  -- the agents that a pattern's names are bound to stand in the value
  pub bind-fits : (p : Pat) (v : Value) (env inner : Env) → bind p v env ≡ Some inner → OfValue v → OfEnv env → OfEnv inner
  bind-fits = pat_ind BindsKept (λ p y is v env inner h i k.
      bind-kept y v env inner (ap (λ x. bind_step (bind_layer x) v env) (sym is) ∙ ap (λ (g : Binding). g v env) (sym (bind-out p)) ∙ h) i k)
