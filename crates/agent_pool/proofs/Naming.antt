-- Only a value and a variable name an agent or a site, and the form of a value tells what it is.
use Rattle.std.proofs.Common.{◌≡◌, ℕ, ℤ, Bool, List, Option, None, Some, refl, ap, ◌∙◌}
use Rattle.std.specs.Prelude.{is_some, option_map}
use Rattle.std.specs.FinMap as table
use Rattle.np_eval.proofs.Common.{Name, Value, Value-F, out-Value, outs-Int, outs-Truth, outs-Letter, outs-Places, Op, Expr, ExprForm, ◌>>=◌, Env, ValueLayer}
use Rattle.np_eval.proofs.Common.{as_chan, as_agent, as_places, operate_at, equal_at, eval, eval_all, eval_form}
use Rattle.np_syntax.specs.declared.value.Value as value
use Rattle.np_syntax.specs.declared.value.Value.TheVariants.{outs-Tuple}
use Rattle.np_syntax.specs.declared.expression.Op.TheVariants as op
use Rattle.np_syntax.specs.declared.expression.ExprForm as expr
use Rattle.np_eval.specs.Eval.{as_site, as_truth, as_letter}
use Rattle.np_eval.specs.Fitting.{shape_at, shape_of}
use Rattle.np_eval.proofs.Evals.{eval-val, eval-var, eval-tuple, eval-bin, eval-pack, eval-with}
use Rattle.agent_pool.specs.Operands.{is_truth, is_letter, is_places}

module _ {A : Type 0} (as_it : ValueLayer → Option A) where
  abbrev pub it_in : Option Value → Option A
  it_in o = o >>= λ v. as_it (out-Value v)

  abbrev pub it_form : ExprForm → Env → Option A
  it_form f env = it_in (eval_form f env)

  pub it-val : (v : Value) (env : Env) → it_form (expr.Val v) env ≡ as_it (out-Value v)
  it-val v env = ap it_in (eval-val v env)

  pub it-var : (x : ℕ) (env : Env) → it_form (expr.Var x) env ≡ (table.get env x >>= λ v. as_it (out-Value v))
  it-var x env = ap it_in (eval-var x env)

  none_then : {B : Type 0} (o : Option B) (f : B → Option Value) → ((b : B) → it_in (f b) ≡ None) → it_in (o >>= f) ≡ None
  none_then None f h = refl
  none_then (Some b) f h = h b

  -- nothing that is made of other values is one
  pub record IsPlain : Type 0 where
    pub int : (i : ℤ) → as_it (Value-F.Int i) ≡ None
    pub truth : (b : Bool) → as_it (Value-F.Truth b) ≡ None
    pub tuple : (vs : List Value) → as_it (Value-F.Tuple vs) ≡ None
    pub letter : (c : Name) (v : Value) → as_it (Value-F.Letter c v) ≡ None
    pub places : (ps : List (Name × Name)) → as_it (Value-F.Places ps) ≡ None

  module _ (plain : IsPlain) where
    it-tuple : (es : List Expr) (env : Env) → it_form (expr.Tuple es) env ≡ None
    it-tuple es env = ap it_in (eval-tuple es env) ∙ none_then (eval_all es env) _ (λ vs. ap as_it (outs-Tuple vs) ∙ plain.tuple vs)

    no_number : (i : ℤ) → it_in (Some (value.Int i)) ≡ None
    no_number i = ap as_it (outs-Int i) ∙ plain.int i

    no_truth : (b : Bool) → it_in (Some (value.Truth b)) ≡ None
    no_truth b = ap as_it (outs-Truth b) ∙ plain.truth b

    it-operate : (o : Op) (x y : ValueLayer) → it_in (operate_at o x y) ≡ None
    it-operate op.Add (Value-F.Int x) (Value-F.Int y) = no_number _
    it-operate op.Sub (Value-F.Int x) (Value-F.Int y) = no_number _
    it-operate op.Mul (Value-F.Int x) (Value-F.Int y) = no_number _
    it-operate op.Less (Value-F.Int x) (Value-F.Int y) = no_truth _
    it-operate op.Equal x y = none_then (equal_at x y) _ no_truth
    it-operate _ _ _ = refl

    it-bin : (o : Op) (a b : Expr) (env : Env) → it_form (expr.Bin o a b) env ≡ None
    it-bin o a b env = ap it_in (eval-bin o a b env) ∙ none_then (eval a env) _ (λ x. none_then (eval b env) _ (λ y. it-operate o (out-Value x) (out-Value y)))

    it-pack : (c e : Expr) (env : Env) → it_form (expr.Pack c e) env ≡ None
    it-pack c e env =
        ap it_in (eval-pack c e env) ∙ none_then (eval c env) _ (λ x. none_then (eval e env) _ (λ v. none_then (as_chan (out-Value x)) _ (λ n. ap as_it (outs-Letter n v) ∙ plain.letter n v)))

    it-with : (m a l : Expr) (env : Env) → it_form (expr.With m a l) env ≡ None
    it-with m a l env =
        ap it_in (eval-with m a l env) ∙ none_then (eval m env) _ (λ x. none_then (eval a env) _ (λ y. none_then (eval l env) _ (λ z.
        none_then (as_places (out-Value x)) _ (λ ps. none_then (as_agent (out-Value y)) _ (λ b. none_then (as_chan (out-Value z)) _ (λ n. ap as_it (outs-Places _) ∙ plain.places _))))))

plain_agent : IsPlain as_agent
plain_agent = record { int = λ i. refl; truth = λ b. refl; tuple = λ vs. refl; letter = λ c v. refl; places = λ ps. refl }

plain_site : IsPlain as_site
plain_site = record { int = λ i. refl; truth = λ b. refl; tuple = λ vs. refl; letter = λ c v. refl; places = λ ps. refl }

pub agent-val : (v : Value) (env : Env) → it_form as_agent (expr.Val v) env ≡ as_agent (out-Value v)
agent-val = it-val as_agent

pub agent-var : (x : ℕ) (env : Env) → it_form as_agent (expr.Var x) env ≡ (table.get env x >>= λ v. as_agent (out-Value v))
agent-var = it-var as_agent

pub agent-tuple : (es : List Expr) (env : Env) → it_form as_agent (expr.Tuple es) env ≡ None
agent-tuple = it-tuple as_agent plain_agent

pub agent-bin : (o : Op) (a b : Expr) (env : Env) → it_form as_agent (expr.Bin o a b) env ≡ None
agent-bin = it-bin as_agent plain_agent

pub agent-pack : (c e : Expr) (env : Env) → it_form as_agent (expr.Pack c e) env ≡ None
agent-pack = it-pack as_agent plain_agent

pub agent-with : (m a l : Expr) (env : Env) → it_form as_agent (expr.With m a l) env ≡ None
agent-with = it-with as_agent plain_agent

pub site-val : (v : Value) (env : Env) → it_form as_site (expr.Val v) env ≡ as_site (out-Value v)
site-val = it-val as_site

pub site-var : (x : ℕ) (env : Env) → it_form as_site (expr.Var x) env ≡ (table.get env x >>= λ v. as_site (out-Value v))
site-var = it-var as_site

pub site-tuple : (es : List Expr) (env : Env) → it_form as_site (expr.Tuple es) env ≡ None
site-tuple = it-tuple as_site plain_site

pub site-bin : (o : Op) (a b : Expr) (env : Env) → it_form as_site (expr.Bin o a b) env ≡ None
site-bin = it-bin as_site plain_site

pub site-pack : (c e : Expr) (env : Env) → it_form as_site (expr.Pack c e) env ≡ None
site-pack = it-pack as_site plain_site

pub site-with : (m a l : Expr) (env : Env) → it_form as_site (expr.With m a l) env ≡ None
site-with = it-with as_site plain_site

truth_at : (l : ValueLayer) → is_truth (Some (shape_at l)) ≡ is_some (as_truth l)
truth_at (Value-F.Truth b) = refl
truth_at _ = refl

letter_at : (l : ValueLayer) → is_letter (Some (shape_at l)) ≡ is_some (as_letter l)
letter_at (Value-F.Letter c v) = refl
letter_at _ = refl

places_at : (l : ValueLayer) → is_places (Some (shape_at l)) ≡ is_some (as_places l)
places_at (Value-F.Places ps) = refl
places_at _ = refl

pub truth-told : (o : Option Value) → is_truth (option_map shape_of o) ≡ is_some (o >>= λ v. as_truth (out-Value v))
truth-told None = refl
truth-told (Some v) = truth_at (out-Value v)

pub letter-told : (o : Option Value) → is_letter (option_map shape_of o) ≡ is_some (o >>= λ v. as_letter (out-Value v))
letter-told None = refl
letter-told (Some v) = letter_at (out-Value v)

pub places-told : (o : Option Value) → is_places (option_map shape_of o) ≡ is_some (o >>= λ v. as_places (out-Value v))
places-told None = refl
places-told (Some v) = places_at (out-Value v)

pub ruleset agents = (agent-val, agent-var, agent-tuple, agent-bin, agent-pack, agent-with)

pub ruleset places = (site-val, site-var, site-tuple, site-bin, site-pack, site-with)

pub ruleset told = (truth-told, letter-told, places-told)
