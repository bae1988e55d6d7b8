-- Values of the infrastructure's expressions, and what its patterns bind.
use Rattle.std.proofs.Common.{◌≡◌, ◌≤◌, ℕ, cond, Some, [], ◌∷◌, refl, sym, ap, ◌∙◌, arith, List, None}
use Rattle.std.specs.FinMap as map
use Rattle.std.specs.FinMap.{nat_cmp-IsAntisymmetric}
use Rattle.std.specs.Cmp.{nat_cmp_total, tied_itself}
use Rattle.std.specs.Ordering.{nat_cmp, eq_by_cmp, is_eq}
use Rattle.np_syntax.specs.declared.value.Name.{Name}
use Rattle.np_syntax.specs.declared.value.Value.{Value, out-Value, Value-F, roll-Value, roll-out-Value}
use Rattle.np_syntax.specs.declared.value.Value as value
use Rattle.np_syntax.specs.declared.value.Value.TheVariants as outs
use Rattle.np_syntax.specs.declared.process.ProcForm.TheVariants as forms
use Rattle.np_syntax.specs.declared.process.Proc.{Proc}
use Rattle.np_syntax.specs.declared.expression.Expr.{Expr}
use Rattle.np_syntax.specs.declared.expression.ExprForm as expr
use Rattle.np_syntax.proofs.Options.{done, then}
use Rattle.np_tables.proofs.Tables.{is_equal}
use Rattle.np_eval.specs.Eval.{Env, agent_of, bind, chan_of, eval, as_agent}
use Rattle.np_eval.proofs.Evals.{eval-form, eval-tuple, eval-var, eval-pack}
use Rattle.np_eval.proofs.Binds.{bind-bind, bind-form, bind-tuples}
use Rattle.np_calculus.proofs.AgentValues.{slot_put}
use Rattle.np_calculus.proofs.OwnNames.{not_true}
use Rattle.np_calculus.specs.Starts.{own}
use Rattle.np_calculus.specs.Reductions.{sends, goes_under}
use Rattle.np_calculus.specs.declared.config.Atom.{Atom}
use Rattle.infrastructure_texts.specs.Pieces.{expression, name, pair, two_names, variable, gives, channel}
use Rattle.infrastructure_texts.specs.Texts.{letter}
use Rattle.simulate_laws.specs.things.Sources.{Names}
use Rattle.simulate_laws.proofs.things.Starts.{constant-is}
use Rattle.simulate_laws.specs.things.Shapes.{StandsFor}

pub no_value : {A B : Type 0} {x : A} → None ≡ Some x → B
no_value e = absurd cc

pub variable-is : (x : ℕ) (env : Env) → eval (variable x) env ≡ map.get env x
variable-is x env = eval-form (variable x) env ∙ eval-var x env

pub pair-is : (x y : Expr) (u w : Value) (env : Env) → eval x env ≡ Some u → eval y env ≡ Some w → eval (pair x y) env ≡ Some (value.Tuple (u ∷ w ∷ []))
pair-is x y u w env h k = rw (eval-form (pair x y) env, eval-tuple (x ∷ y ∷ []) env, h, k) refl

pub unit-is : (env : Env) → eval (expression (expr.Tuple [])) env ≡ Some (value.Tuple [])
unit-is env = rw (eval-form (expression (expr.Tuple [])) env, eval-tuple [] env) refl

pub channel-is : (c : Name) (env : Env) → chan_of (expression (expr.Val (value.Chan c))) env ≡ Some c
channel-is c env = rw (constant-is (value.Chan c) env, outs.outs-Chan c) refl

pub agent-is : (a : Name) (env : Env) → agent_of (expression (expr.Val (value.Agent a))) env ≡ Some a
agent-is a env = rw (constant-is (value.Agent a) env, outs.outs-Agent a) refl

pub bind-one : (x : ℕ) (u : Value) (env : Env) → bind (name x) u env ≡ Some (map.insert env x u)
bind-one x u env = rw (bind-form (name x) u env, bind-bind x u env) refl

pub bind-two : (x y : ℕ) (u w : Value) (env : Env) → bind (two_names x y) (value.Tuple (u ∷ w ∷ [])) env ≡ Some (map.insert (map.insert env x u) y w)
bind-two x y u w env = rw (bind-form (two_names x y) (value.Tuple (u ∷ w ∷ [])) env, bind-tuples (name x ∷ name y ∷ []) (u ∷ w ∷ []) env, bind-one x u env, bind-one y w (map.insert env x u)) refl

pub here_is : (env : Env) (x : ℕ) (u : Value) → map.get (map.insert env x u) x ≡ Some u
here_is env x u = slot_put env x u x ∙ ap (λ o. cond (is_eq o) (Some u) (map.get env x)) (tied_itself nat_cmp_total x)

pub there_is : (env : Env) (x y : ℕ) (u : Value) → (y ≡ x → ⊥) → map.get (map.insert env x u) y ≡ map.get env y
there_is env x y u apart = slot_put env x u y ∙ ap (λ t. cond t (Some u) (map.get env y)) (not_true (eq_by_cmp nat_cmp y x) (λ e. apart (nat_cmp-IsAntisymmetric y x (is_equal (nat_cmp y x) e))))

-- what names an agent keeps its value where binders of the infrastructure are bound
pub named_kept : (n from : ℕ) (a : Expr) (env : Env) (x : ℕ) (u : Value) → Names n from [] a → from ≤ x → eval a (map.insert env x u) ≡ eval a env
named_kept n from a env x u Names.as_main above = constant-is (value.Agent (own n 0)) (map.insert env x u) ∙ sym (constant-is (value.Agent (own n 0)) env)
named_kept n from a env x u (Names.as_binder {y = y} below apart) above = variable-is y (map.insert env x u) ∙ there_is env x y u (λ e. let bad : ⊥ = omega arith in bad) ∙ sym (variable-is y env)

-- an output of two variables
pub gives_two : (a : Name) (k x y : ℕ) (env : Env) (c : Name) (v : Value) → map.get env x ≡ Some (value.Chan c) → map.get env y ≡ Some v
    → sends (record { agent = a; proc = gives k (variable x) (variable y); env = env }) ≡ Some (c, v)
gives_two a k x y env c v on at = rw (forms.outs-Out (variable x) (variable y), variable-is x env, on, outs.outs-Chan c, variable-is y env, at) refl

-- an output of a variable on an own channel
pub gives_own : (n i k x : ℕ) (a : Name) (env : Env) (v : Value) → map.get env x ≡ Some v
    → sends (record { agent = a; proc = gives k (channel n i) (variable x); env = env }) ≡ Some (own n i, v)
gives_own n i k x a env v at = rw (forms.outs-Out (channel n i) (variable x), channel-is (own n i) env, variable-is x env, at) refl

-- what names the agent has the same value at both levels
pub named_is : {n from : ℕ} {named : Expr} {hi lo : Atom} → StandsFor n from named hi lo → eval named lo.env ≡ Some (value.Agent hi.agent)
named_is {n} {from} {named} {hi} {lo} i = go named i.source.named i.called
  where
    go : {bound : List ℕ} (a : Expr) → Names n from bound a → eval a hi.env ≡ Some (value.Agent hi.agent) → eval a lo.env ≡ Some (value.Agent hi.agent)
    go a Names.as_main called = constant-is (value.Agent (own n 0)) lo.env ∙ sym (constant-is (value.Agent (own n 0)) hi.env) ∙ called
    go a (Names.as_binder {y = y} below apart) called = variable-is y lo.env ∙ i.agrees.same y below ∙ sym (variable-is y hi.env) ∙ called

-- what has an agent as its value is that agent
pub agent-value : (u : Value) (a : Name) → as_agent (out-Value u) ≡ Some a → u ≡ value.Agent a
agent-value u a h = sym (roll-out-Value u) ∙ ap roll-Value (layer_is (out-Value u) h) ∙ outs.rolls-Agent a
  where
    layer_is : (l : Value-F Value) → as_agent l ≡ Some a → l ≡ Value-F.Agent a
    layer_is (Value-F.Agent b) k = ap Value-F.Agent (sym (done k))
    layer_is _ k = absurd cc

-- an atom that goes on, and binds none of the source's, stands for the same
pub stands_on : {n from : ℕ} {named : Expr} {hi lo : Atom} (p : Proc) (env : Env) → env ≡ lo.env → StandsFor n from named hi lo
    → StandsFor n from named hi (goes_under lo p env)
stands_on p env is i = record {
  agent = i.agent;
  apart = i.apart;
  source = i.source;
  agrees = record { same = λ y below. ap (λ (e : Env). map.get e y) is ∙ i.agrees.same y below };
  called = i.called;
}

pub stands_under : {n from : ℕ} {named : Expr} {hi lo : Atom} (p : Proc) (env : Env) (x : ℕ) (u : Value) → env ≡ map.insert lo.env x u → from ≤ x
    → StandsFor n from named hi lo → StandsFor n from named hi (goes_under lo p env)
stands_under {lo = lo} p env x u is above i = record {
  agent = i.agent;
  apart = i.apart;
  source = i.source;
  agrees = record { same = λ y below. ap (λ (e : Env). map.get e y) is ∙ there_is lo.env x y u (λ e. let bad : ⊥ = omega arith in bad) ∙ i.agrees.same y below };
  called = i.called;
}

pub named-agent : (x : Expr) (env : Env) (a : Name) → agent_of x env ≡ Some a → eval x env ≡ Some (value.Agent a)
named-agent x env a names = then (eval x env) _ names λ u at is. at ∙ ap Some (agent-value u a is)

-- what a post sends
pub letter-is : (b x e : Expr) (env : Env) (a n : Name) (u : Value) → agent_of b env ≡ Some a → chan_of x env ≡ Some n → eval e env ≡ Some u
    → eval (pair b (letter x e)) env ≡ Some (value.Tuple (value.Agent a ∷ value.Letter n u ∷ []))
letter-is b x e env a n u ab xn eu =
    then (eval b env) _ ab λ vb at_b is_b. then (eval x env) _ xn λ vx at_x is_x.
    let packed : eval (letter x e) env ≡ Some (value.Letter n u) = rw (eval-form (letter x e) env, eval-pack x e env, at_x, eu, is_x) refl in
    pair-is b (letter x e) (value.Agent a) (value.Letter n u) env (at_b ∙ ap Some (agent-value vb a is_b)) packed
