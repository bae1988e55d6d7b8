-- What each form of pattern binds.
use Rattle.std.proofs.Common.{◌≡◌, ℕ, List, [], ◌∷◌, map, length, suc, Option, None, Some, refl, ap, ◌∙◌}
use Rattle.std.specs.FinMap as table
use Rattle.np_eval.proofs.Common.{Value, out-Value, Pat, fold_out-Pat, PatForm, PatForm-F, out-PatForm, map-PatForm, fold_out-PatForm, ◌>>=◌, Env, Binding}
use Rattle.np_eval.proofs.Common.{as_tuple, bind_step, bind, bind_all, bind_form}
use Rattle.np_syntax.specs.declared.value.Value as value
use Rattle.np_syntax.specs.declared.value.Value.TheVariants.{outs-Tuple as outs-tuple_value}
use Rattle.np_syntax.specs.declared.pattern.PatForm as pat
use Rattle.np_syntax.specs.declared.pattern.PatForm.TheVariants.{outs-Any, outs-Bind, outs-Tuple}
use Rattle.np_eval.specs.Eval.{bind_each}

pub bind-form : (p : Pat) (v : Value) (env : Env) → bind p v env ≡ bind_form p.form v env
unfolding bind bind_form
bind-form p v env = ap (λ (f : Binding). f v env) (fold_out-Pat Binding Binding bind_step (λ p. p.form) p)

abbrev stepped : PatForm-F PatForm Pat → Binding
stepped l = bind_step (map-PatForm PatForm Pat Binding Binding bind_form bind l)

bind-out : (f : PatForm) (v : Value) (env : Env) → bind_form f v env ≡ stepped (out-PatForm f) v env
unfolding bind bind_form
bind-out f v env = ap (λ (g : Binding). g v env) (fold_out-PatForm Binding Binding bind_step (λ p. p.form) f)

pub bind-any : (v : Value) (env : Env) → bind_form pat.Any v env ≡ Some env
bind-any v env = bind-out pat.Any v env ∙ ap (λ l. stepped l v env) outs-Any

pub bind-bind : (x : ℕ) (v : Value) (env : Env) → bind_form (pat.Bind x) v env ≡ Some (table.insert env x v)
bind-bind x v env = bind-out (pat.Bind x) v env ∙ ap (λ l. stepped l v env) (outs-Bind x)

each-all : (ps : List Pat) (vs : List Value) (env : Env) → bind_each (map bind ps) vs env ≡ bind_all ps vs env
each-all [] [] env = refl
each-all [] (v ∷ vs) env = refl
each-all (p ∷ ps) [] env = refl
each-all (p ∷ ps) (v ∷ vs) env = ap (λ f. bind p v env >>= f) (λ i e. each-all ps vs e i)

pub bind-tuple : (ps : List Pat) (v : Value) (env : Env) → bind_form (pat.Tuple ps) v env ≡ (as_tuple (out-Value v) >>= λ vs. bind_all ps vs env)
bind-tuple ps v env = bind-out (pat.Tuple ps) v env ∙ ap (λ l. stepped l v env) (outs-Tuple ps) ∙ ap (λ f. as_tuple (out-Value v) >>= f) (λ i vs. each-all ps vs env i)

none_after : (o : Option Env) (f : Env → Option Env) → ((env : Env) → f env ≡ None) → (o >>= f) ≡ None
none_after None f h = refl
none_after (Some env) f h = h env

pub bind_all-lengths : (ps : List Pat) (vs : List Value) (env : Env) → ¬ (length ps ≡ length vs) → bind_all ps vs env ≡ None
bind_all-lengths [] [] env h = absurd (h refl)
bind_all-lengths [] (v ∷ vs) env h = refl
bind_all-lengths (p ∷ ps) [] env h = refl
bind_all-lengths (p ∷ ps) (v ∷ vs) env h = none_after (bind p v env) (bind_all ps vs) (λ e. bind_all-lengths ps vs e (λ same. h (ap suc same)))

pub bind-tuples : (ps : List Pat) (vs : List Value) (env : Env) → bind_form (pat.Tuple ps) (value.Tuple vs) env ≡ bind_all ps vs env
bind-tuples ps vs env = rw (bind-tuple ps (value.Tuple vs) env, outs-tuple_value vs) refl

pub ruleset binds = (bind-tuples, bind_all-lengths, bind-form, bind-any, bind-bind, bind-tuple)
