-- Whether a pattern matches a value depends on no environment.
use Rattle.std.proofs.Common.{◌≡◌, ℕ, ◌+◌, ◌<◌, true, ◌&&◌, List, [], ◌∷◌, map, length, drop, get_or, Option, None, Some, refl, sym, subst, ap, ◌∙◌}
use Rattle.std.proofs.lemmas.List.{drop_more}
use Rattle.np_eval.proofs.Common.{is_some, Value, out-Value, Pat, PatForm, PatForm-F, map-PatForm, ◌>>=◌, Env, as_tuple, bind, bind_all, bind_form}
use Rattle.np_syntax.specs.declared.value.Value as value
use Rattle.np_syntax.specs.declared.pattern.Pat.{ind-Pat, roll-Pat}
use Rattle.np_syntax.specs.declared.pattern.PatForm.{roll-PatForm}
use Rattle.np_syntax.specs.declared.pattern.PatForm as pat
use Rattle.np_syntax.specs.declared.pattern.PatForm.TheVariants.{rolls-Any, rolls-Bind, rolls-Tuple}
use Rattle.np_eval.proofs.Binds.{bind-form, bind-any, bind-bind, bind-tuple, bind-tuples}

-- two steps that may fail, where the second fails or not whatever the first gave
both : {A B C : Type 0} (o : Option A) (f : A → Option B) (q : Option C) → ((a : A) → is_some (f a) ≡ is_some q) → is_some (o >>= f) ≡ (is_some o && is_some q)
both None f q h = refl
both (Some a) f q h = h a

-- whether it matches depends on no environment
abbrev Anywhere : Pat → Type 0
Anywhere p = (v : Value) (env other : Env) → is_some (bind p v env) ≡ is_some (bind p v other)

abbrev FormAnywhere : PatForm → Type 0
FormAnywhere f = (v : Value) (env other : Env) → is_some (bind_form f v env) ≡ is_some (bind_form f v other)

abbrev Parts : Type 0
Parts = List ((p : Pat) × Anywhere p)

abbrev pats : Parts → List Pat
pats ps = map (λ p. p.0) ps

parts-anywhere : (ps : Parts) (vs : List Value) (env other : Env) → is_some (bind_all (pats ps) vs env) ≡ is_some (bind_all (pats ps) vs other)
parts-anywhere [] [] env other = refl
parts-anywhere [] (v ∷ vs) env other = refl
parts-anywhere (p ∷ ps) [] env other = refl
parts-anywhere (p ∷ ps) (v ∷ vs) env other =
    both (bind p.0 v env) _ (bind_all (pats ps) vs env) (λ e. parts-anywhere ps vs e env)
    ∙ ap (λ b. b && is_some (bind_all (pats ps) vs env)) (p.1 v env other)
    ∙ sym (both (bind p.0 v other) _ (bind_all (pats ps) vs env) (λ e. parts-anywhere ps vs e env))

tuple-anywhere : (ps : Parts) (o : Option (List Value)) (env other : Env)
    → is_some (o >>= λ vs. bind_all (pats ps) vs env) ≡ is_some (o >>= λ vs. bind_all (pats ps) vs other)
tuple-anywhere ps None env other = refl
tuple-anywhere ps (Some vs) env other = parts-anywhere ps vs env other

form-anywhere : (y : PatForm-F ((f : PatForm) × FormAnywhere f) ((p : Pat) × Anywhere p))
    → FormAnywhere (roll-PatForm (map-PatForm ((f : PatForm) × FormAnywhere f) ((p : Pat) × Anywhere p) PatForm Pat (λ f. f.0) (λ p. p.0) y))
form-anywhere PatForm-F.Any = subst FormAnywhere (sym rolls-Any) (λ v env other. rw (bind-any v env, bind-any v other) refl)
form-anywhere (PatForm-F.Bind x) = subst FormAnywhere (sym (rolls-Bind x)) (λ v env other. rw (bind-bind x v env, bind-bind x v other) refl)
form-anywhere (PatForm-F.Tuple ps) = subst FormAnywhere (sym (rolls-Tuple (pats ps)))
    (λ v env other. rw (bind-tuple (pats ps) v env, bind-tuple (pats ps) v other) (tuple-anywhere ps (as_tuple (out-Value v)) env other))

pub bind-anywhere : (p : Pat) (v : Value) (env other : Env) → is_some (bind p v env) ≡ is_some (bind p v other)
bind-anywhere = ind-Pat FormAnywhere Anywhere
    (λ x y is. subst (λ x. FormAnywhere (roll-PatForm x)) is (form-anywhere y))
    (λ x y is. subst (λ x. Anywhere (roll-Pat x)) is (λ v env other.
    ap is_some (bind-form _ v env) ∙ y.form.1 v env other ∙ ap is_some (sym (bind-form _ v other))))

bind_form-anywhere : (f : PatForm) (v : Value) (env other : Env) → is_some (bind_form f v env) ≡ is_some (bind_form f v other)
bind_form-anywhere f v env other =
    let p : Pat = record { at = 0; form = f } in
    ap is_some (sym (bind-form p v env)) ∙ bind-anywhere p v env other ∙ ap is_some (bind-form p v other)

bind_all-anywhere : (ps : List Pat) (vs : List Value) (env other : Env) → is_some (bind_all ps vs env) ≡ is_some (bind_all ps vs other)
bind_all-anywhere ps vs env other =
    ap is_some (sym (bind-tuples ps vs env)) ∙ bind_form-anywhere (pat.Tuple ps) (value.Tuple vs) env other ∙ ap is_some (bind-tuples ps vs other)

pub bind_all-cons : (p : Pat) (ps : List Pat) (v : Value) (vs : List Value) (env : Env)
    → is_some (bind_all (p ∷ ps) (v ∷ vs) env) ≡ (is_some (bind p v env) && is_some (bind_all ps vs env))
bind_all-cons p ps v vs env = both (bind p v env) _ (bind_all ps vs env) (λ e. bind_all-anywhere ps vs e env)

-- what is left of a list whose next item is x
pub rest : {X : Type 0} (xs : List X) (at : ℕ) (x : X) → at < length xs → x ≡ get_or xs at x → drop at xs ≡ x ∷ drop (at + 1) xs
rest xs at x h is = drop_more xs at x h ∙ ap (λ y. y ∷ drop (at + 1) xs) (sym is)

-- a part that is met leaves the question to those after it
pub bind_all-next : (ps : List Pat) (vs : List Value) (at : ℕ) (p : Pat) (v : Value) (env : Env)
    → at < length ps → length ps ≡ length vs → p ≡ get_or ps at p → v ≡ get_or vs at v → true ≡ is_some (bind p v env)
    → is_some (bind_all (drop at ps) (drop at vs) env) ≡ is_some (bind_all (drop (at + 1) ps) (drop (at + 1) vs) env)
bind_all-next ps vs at p v env h same p_is v_is met =
    ap (λ qs. is_some (bind_all qs (drop at vs) env)) (rest ps at p h p_is)
    ∙ ap (λ ws. is_some (bind_all (p ∷ drop (at + 1) ps) ws env)) (rest vs at v (subst (λ n. at < n) same h) v_is)
    ∙ bind_all-cons p (drop (at + 1) ps) v (drop (at + 1) vs) env
    ∙ ap (λ b. b && is_some (bind_all (drop (at + 1) ps) (drop (at + 1) vs) env)) (sym met)
