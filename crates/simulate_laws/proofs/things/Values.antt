-- Under environments that agree, expressions of a source have the same values, and patterns bind the same.
use Rattle.std.proofs.Common.{◌≡◌, inl, inr, ℕ, Bool, true, false, cond, Option, Some, List, [], ◌∷◌, ◌++◌, refl, sym, ap, subst, ◌∙◌}
use Rattle.std.specs.FinMap as map
use Rattle.std.specs.FinMap.{nat_cmp-IsAntisymmetric}
use Rattle.std.specs.Ordering.{nat_cmp, eq_by_cmp}
use Rattle.np_syntax.specs.declared.value.Value.{Value, out-Value}
use Rattle.np_syntax.specs.declared.expression.Expr.{Expr}
use Rattle.np_syntax.specs.declared.pattern.Pat.{Pat}
use Rattle.np_syntax.specs.declared.expression.ExprForm as expr
use Rattle.np_syntax.specs.declared.value.Value as value
use Rattle.np_syntax.specs.declared.pattern.PatForm as pat
use Rattle.np_scope.specs.Resolved.{expression, main_name, pattern}
use Rattle.np_syntax.specs.Options.{◌>>=◌}
use Rattle.np_syntax.proofs.Options.{then, done}
use Rattle.np_tables.proofs.Tables.{is_equal}
use Rattle.np_eval.specs.Eval.{Env, as_tuple, bind, eval, operate}
use Rattle.np_eval.specs.Levels.{eval_all, eval_form, bind_all}
use Rattle.np_eval.proofs.Evals.{eval-form, eval-val, eval-var, eval-bin, eval-tuple}
use Rattle.np_eval.proofs.Binds.{bind-form, bind-any, bind-bind, bind-tuple}
use Rattle.np_calculus.proofs.AgentValues.{slot_put}
use Rattle.np_scope.specs.Sound.{Among, AllBelow, Binds, BindAll, IsSoundExpr, AreSoundExprs}
use Rattle.infrastructure_texts.specs.Pieces.{main, variable}
use Rattle.daemon_encode.proofs.Binders.{among-below}
use Rattle.simulate_laws.specs.things.ValueLaws.{AgentStays, BoundAlike, SameBinding, SameValue}
use Rattle.simulate_laws.specs.things.Sources.{Agrees, Names}

-- the value of an expression is that of its form
by_form : (e : Expr) (low high : Env) (o : Option Value) → eval_form e.form low ≡ o → eval_form e.form high ≡ o → eval e low ≡ eval e high
by_form e low high o h k = eval-form e low ∙ h ∙ sym k ∙ sym (eval-form e high)

module _ (n from : ℕ) (scope : List ℕ) (low high : Env) (below : AllBelow from scope) (agrees : Agrees from low high) where
  mutual
    same_expr : {e : Expr} → IsSoundExpr n scope e → eval e low ≡ eval e high
    same_expr (IsSoundExpr.literal {at = at} {v = v} l) = by_form (expression at (expr.Val v)) low high (Some v) (eval-val v low) (eval-val v high)
    same_expr (IsSoundExpr.site {at = at} {s = s} h) = by_form (expression at (expr.Val (value.Site s))) low high (Some (value.Site s)) (eval-val (value.Site s) low) (eval-val (value.Site s) high)
    same_expr (IsSoundExpr.main {at = at}) =
        by_form (expression at (expr.Val (value.Agent (main_name n)))) low high (Some (value.Agent (main_name n))) (eval-val (value.Agent (main_name n)) low) (eval-val (value.Agent (main_name n)) high)
    same_expr (IsSoundExpr.variable {at = at} {x = x} m) =
        by_form (expression at (expr.Var x)) low high (map.get high x) (eval-var x low ∙ agrees.same x (among-below from scope below x m)) (eval-var x high)
    same_expr (IsSoundExpr.tuple {at = at} {es = es} h) =
        by_form (expression at (expr.Tuple es)) low high (eval_all es high >>= λ vs. Some (value.Tuple vs)) (eval-tuple es low ∙ ap (λ o. o >>= λ vs. Some (value.Tuple vs)) (same_exprs h)) (eval-tuple es high)
    same_expr (IsSoundExpr.operation {at = at} {o = o} {a = a} {b = b} h k) =
        by_form (expression at (expr.Bin o a b)) low high (eval a high >>= λ x. eval b high >>= λ y. operate o x y)
        (eval-bin o a b low ∙ ap (λ p. p >>= λ x. eval b low >>= λ y. operate o x y) (same_expr h) ∙ ap (λ q. eval a high >>= λ x. q >>= λ y. operate o x y) (same_expr k)) (eval-bin o a b high)

    same_exprs : {es : List Expr} → AreSoundExprs n scope es → eval_all es low ≡ eval_all es high
    same_exprs AreSoundExprs.none = refl
    same_exprs (AreSoundExprs.more {e = e} {es = es} h hs) =
        ap (λ o. o >>= λ v. eval_all es low >>= λ vs. Some (v ∷ vs)) (same_expr h) ∙ ap (λ p. eval e high >>= λ v. p >>= λ vs. Some (v ∷ vs)) (same_exprs hs)

pub same-value : SameValue
same-value n from scope e low high h below agrees = same_expr n from scope low high below agrees h

-- ---- patterns

-- one more binder on both sides
pub agrees-put : (from x : ℕ) (v : Value) (low high : Env) → Agrees from low high → Agrees from (map.insert low x v) (map.insert high x v)
agrees-put from x v low high a = record { same = λ y h. slot_put low x v y ∙ ap (cond (eq_by_cmp nat_cmp y x) (Some v)) (a.same y h) ∙ sym (slot_put high x v y) }

other-put : (x y : ℕ) (v : Value) (env : Env) → (y ≡ x → ⊥) → map.get (map.insert env x v) y ≡ map.get env y
other-put x y v env apart = slot_put env x v y ∙ go (eq_by_cmp nat_cmp y x) refl
  where
    go : (t : Bool) → eq_by_cmp nat_cmp y x ≡ t → cond t (Some v) (map.get env y) ≡ map.get env y
    go true e = absurd (apart (nat_cmp-IsAntisymmetric y x (is_equal (nat_cmp y x) e)))
    go false e = refl

record AllBoundAlike (from : ℕ) (bound : List ℕ) (high : Env) (given : Env) (ps : List Pat) (vs : List Value) : Type 0 where
  env : Env
  is : bind_all ps vs high ≡ Some env
  agrees : Agrees from given env
  others : (y : ℕ) → (Among y bound → ⊥) → map.get env y ≡ map.get high y

not-first : (y : ℕ) (xs ys : List ℕ) → (Among y (xs ++ ys) → ⊥) → Among y xs → ⊥
not-first y (x ∷ xs) ys h (inl e) = h (inl e)
not-first y (x ∷ xs) ys h (inr m) = not-first y xs ys (λ k. h (inr k)) m
not-first y [] ys h m = absurd m

not-second : (y : ℕ) (xs ys : List ℕ) → (Among y (xs ++ ys) → ⊥) → Among y ys → ⊥
not-second y [] ys h m = h m
not-second y (x ∷ xs) ys h m = not-second y xs ys (λ k. h (inr k)) m

module _ (from : ℕ) where
  mutual
    bound_alike : {scope inner bound : List ℕ} {p : Pat} → Binds scope p inner bound → (v : Value) (low high given : Env) → Agrees from low high → bind p v low ≡ Some given → BoundAlike from bound high given p v
    bound_alike (Binds.any {at = at}) v low high given a h = record {
      env = high;
      is = bind-form (pattern at pat.Any) v high ∙ bind-any v high;
      agrees = subst (λ e. Agrees from e high) (sym (done (sym (bind-form (pattern at pat.Any) v low ∙ bind-any v low) ∙ h))) a;
      others = λ y n. refl;
    }
    bound_alike (Binds.name {at = at} {x = x}) v low high given a h = record {
      env = map.insert high x v;
      is = bind-form (pattern at (pat.Bind x)) v high ∙ bind-bind x v high;
      agrees = subst (λ e. Agrees from e (map.insert high x v)) (sym (done (sym (bind-form (pattern at (pat.Bind x)) v low ∙ bind-bind x v low) ∙ h))) (agrees-put from x v low high a);
      others = λ y n. other-put x y v high (λ e. n (inl e));
    }
    bound_alike (Binds.tuple {at = at} {ps = ps} bs) v low high given a h =
        then (as_tuple (out-Value v)) (λ vs. bind_all ps vs low) (sym (bind-form (pattern at (pat.Tuple ps)) v low ∙ bind-tuple ps v low) ∙ h) λ vs is rest.
        let r = all_alike bs vs low high given a rest in
        record {
          env = r.env;
          is = bind-form (pattern at (pat.Tuple ps)) v high ∙ bind-tuple ps v high ∙ ap (λ o. o >>= λ vs. bind_all ps vs high) is ∙ r.is;
          agrees = r.agrees;
          others = r.others;
        }

    all_alike : {scope inner bound : List ℕ} {ps : List Pat} → BindAll scope ps inner bound → (vs : List Value) (low high given : Env) → Agrees from low high → bind_all ps vs low ≡ Some given
        → AllBoundAlike from bound high given ps vs
    all_alike BindAll.none [] low high given a h = record { env = high; is = refl; agrees = subst (λ e. Agrees from e high) (sym (done h)) a; others = λ y n. refl }
    all_alike BindAll.none (v ∷ vs) low high given a h = absurd cc
    all_alike (BindAll.more b bs) [] low high given a h = absurd cc
    all_alike (BindAll.more {xs = xs} {ys = ys} {p = p} {ps = ps} b bs) (v ∷ vs) low high given a h =
        then (bind p v low) (bind_all ps vs) h λ mid first rest.
        let r = bound_alike b v low high mid a first in
        let s = all_alike bs vs mid r.env given r.agrees rest in
        record {
          env = s.env;
          is = ap (λ o. o >>= bind_all ps vs) r.is ∙ s.is;
          agrees = s.agrees;
          others = λ y n. s.others y (not-second y xs ys n) ∙ r.others y (not-first y xs ys n);
        }

pub same-binding : SameBinding
same-binding from scope inner bound p v low high given b a h = bound_alike from b v low high given a h

pub agent-stays : AgentStays
agent-stays n from bound a env next Names.as_main others =
    by_form (main n) next env (Some (value.Agent (main_name n))) (eval-val (value.Agent (main_name n)) next) (eval-val (value.Agent (main_name n)) env)
agent-stays n from bound a env next (Names.as_binder {y = y} below apart) others = by_form (variable y) next env (map.get env y) (eval-var y next ∙ others y apart) (eval-var y env)
