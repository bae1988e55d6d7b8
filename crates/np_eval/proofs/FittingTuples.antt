-- Which expressions a tuple of patterns fits: part by part a tuple of its own length, and no form that makes other values.
use Rattle.std.proofs.Common.{◌≡◌, ℕ, ℤ, ◌+◌, ◌<◌, Bool, true, false, ◌&&◌, List, [], ◌∷◌, length, drop, get_or, suc, Option, None, Some, refl, sym, subst, ap, ◌∙◌}
use Rattle.np_eval.proofs.Common.{is_some, Value, Value-F, out-Value, outs-Int, outs-Truth, outs-Letter, outs-Places, Op, Expr, Pat, ◌>>=◌, Env, ValueLayer}
use Rattle.np_eval.proofs.Common.{as_chan, as_agent, as_places, as_tuple, operate_at, equal_at, eval, bind, eval_all, bind_all, bind_form}
use Rattle.std.specs.FinMap as table
use Rattle.np_syntax.specs.declared.value.Value as value
use Rattle.np_syntax.specs.declared.expression.Op.TheVariants as op
use Rattle.np_syntax.specs.declared.expression.ExprForm as expr
use Rattle.np_syntax.specs.declared.pattern.PatForm as pat
use Rattle.np_syntax.proofs.Bools.{and-false}
use Rattle.np_eval.specs.Fitting.{fits, fits_tuple, fits_all}
use Rattle.np_eval.proofs.Binds.{bind-tuple, bind-tuples}
use Rattle.np_eval.proofs.Evals.{eval-form, eval-val, eval-var, eval-tuple, eval-bin, eval-pack, eval-with}
use Rattle.np_eval.proofs.FittingPatterns.{bind_all-cons, rest}

-- the first part of two tuples beside the others
fits_both : (o : Option Value) (os : Option (List Value)) (p : Pat) (ps : List Pat) (env : Env)
    → is_some ((o >>= λ v. os >>= λ vs. Some (v ∷ vs)) >>= λ vs. bind_all (p ∷ ps) vs env) ≡ (is_some (o >>= λ v. bind p v env) && is_some (os >>= λ vs. bind_all ps vs env))
fits_both None os p ps env = refl
fits_both (Some v) None p ps env = sym (and-false (is_some (bind p v env)))
fits_both (Some v) (Some vs) p ps env = bind_all-cons p ps v vs env

pub fits_all-cons : (p : Pat) (ps : List Pat) (e : Expr) (es : List Expr) (env : Env) → fits_all (p ∷ ps) (e ∷ es) env ≡ (fits p e env && fits_all ps es env)
fits_all-cons p ps e es env = fits_both (eval e env) (eval_all es env) p ps env

-- an expression more than there are patterns
longer : (o : Option Value) (os : Option (List Value)) (env : Env) → is_some ((o >>= λ v. os >>= λ vs. Some (v ∷ vs)) >>= λ vs. bind_all [] vs env) ≡ false
longer None os env = refl
longer (Some v) None env = refl
longer (Some v) (Some vs) env = refl

pub fits_all-lengths : (ps : List Pat) (es : List Expr) (env : Env) → ¬ (length ps ≡ length es) → fits_all ps es env ≡ false
fits_all-lengths [] [] env h = absurd (h refl)
fits_all-lengths [] (e ∷ es) env h = longer (eval e env) (eval_all es env) env
fits_all-lengths (p ∷ ps) [] env h = refl
fits_all-lengths (p ∷ ps) (e ∷ es) env h =
    fits_all-cons p ps e es env ∙ ap (λ b. fits p e env && b) (fits_all-lengths ps es env (λ same. h (ap suc same))) ∙ and-false (fits p e env)

-- a part that fits leaves the question to those after it
pub fits_all-next : (ps : List Pat) (es : List Expr) (at : ℕ) (p : Pat) (e : Expr) (env : Env)
    → at < length ps → length ps ≡ length es → p ≡ get_or ps at p → e ≡ get_or es at e → true ≡ fits p e env
    → fits_all (drop at ps) (drop at es) env ≡ fits_all (drop (at + 1) ps) (drop (at + 1) es) env
fits_all-next ps es at p e env h same p_is e_is met =
    ap (λ qs. fits_all qs (drop at es) env) (rest ps at p h p_is)
    ∙ ap (λ ws. fits_all (p ∷ drop (at + 1) ps) ws env) (rest es at e (subst (λ n. at < n) same h) e_is)
    ∙ fits_all-cons p (drop (at + 1) ps) e (drop (at + 1) es) env
    ∙ ap (λ b. b && fits_all (drop (at + 1) ps) (drop (at + 1) es) env) (sym met)

-- whether the tuple of the patterns matches a value that there may be
abbrev tuple_in : List Pat → Env → Option Value → Bool
tuple_in ps env o = is_some (o >>= λ v. bind_form (pat.Tuple ps) v env)

pub fits-tuple : (ps : List Pat) (e : Expr) (env : Env) → fits_tuple ps e.form env ≡ is_some (eval e env >>= λ v. bind_form (pat.Tuple ps) v env)
unfolding fits_tuple
fits-tuple ps e env = ap (tuple_in ps env) (sym (eval-form e env))

pub fits-val : (ps : List Pat) (v : Value) (env : Env) → fits_tuple ps (expr.Val v) env ≡ is_some (bind_form (pat.Tuple ps) v env)
unfolding fits_tuple
fits-val ps v env = ap (tuple_in ps env) (eval-val v env)

pub fits-var : (ps : List Pat) (x : ℕ) (env : Env) → fits_tuple ps (expr.Var x) env ≡ is_some (table.get env x >>= λ v. bind_form (pat.Tuple ps) v env)
unfolding fits_tuple
fits-var ps x env = ap (tuple_in ps env) (eval-var x env)

parts : (ps : List Pat) (env : Env) (o : Option (List Value)) → tuple_in ps env (o >>= λ vs. Some (value.Tuple vs)) ≡ is_some (o >>= λ vs. bind_all ps vs env)
parts ps env None = refl
parts ps env (Some vs) = ap is_some (bind-tuples ps vs env)

pub fits-parts : (ps : List Pat) (es : List Expr) (env : Env) → fits_tuple ps (expr.Tuple es) env ≡ fits_all ps es env
unfolding fits_tuple
fits-parts ps es env = ap (tuple_in ps env) (eval-tuple es env) ∙ parts ps env (eval_all es env)

-- what is made of values in two or three steps is no tuple where the last step never gives one
module _ (ps : List Pat) (env : Env) where
  abbrev NoTuple : Option Value → Type 0
  NoTuple o = tuple_in ps env o ≡ false

  then : {A : Type 0} (o : Option A) (f : A → Option Value) → ((a : A) → NoTuple (f a)) → NoTuple (o >>= f)
  then None f h = refl
  then (Some a) f h = h a

  other : (v : Value) (l : ValueLayer) → out-Value v ≡ l → as_tuple l ≡ None → NoTuple (Some v)
  other v l is none = ap is_some (bind-tuple ps v env ∙ ap (λ o. o >>= λ vs. bind_all ps vs env) (ap as_tuple is ∙ none))

  number : (i : ℤ) → NoTuple (Some (value.Int i))
  number i = other (value.Int i) _ (outs-Int i) refl

  truth : (b : Bool) → NoTuple (Some (value.Truth b))
  truth b = other (value.Truth b) _ (outs-Truth b) refl

  operated : (o : Op) (x y : ValueLayer) → NoTuple (operate_at o x y)
  operated op.Add (Value-F.Int x) (Value-F.Int y) = number _
  operated op.Sub (Value-F.Int x) (Value-F.Int y) = number _
  operated op.Mul (Value-F.Int x) (Value-F.Int y) = number _
  operated op.Less (Value-F.Int x) (Value-F.Int y) = truth _
  operated op.Equal x y = then (equal_at x y) _ truth
  operated _ _ _ = refl

  pub fits-bin : (o : Op) (a b : Expr) → fits_tuple ps (expr.Bin o a b) env ≡ false
  unfolding fits_tuple
  fits-bin o a b = ap (tuple_in ps env) (eval-bin o a b env) ∙ then (eval a env) _ (λ x. then (eval b env) _ (λ y. operated o (out-Value x) (out-Value y)))

  pub fits-pack : (c e : Expr) → fits_tuple ps (expr.Pack c e) env ≡ false
  unfolding fits_tuple
  fits-pack c e =
      ap (tuple_in ps env) (eval-pack c e env)
      ∙ then (eval c env) _ (λ x. then (eval e env) _ (λ v. then (as_chan (out-Value x)) _ (λ n. other (value.Letter n v) _ (outs-Letter n v) refl)))

  pub fits-with : (m a l : Expr) → fits_tuple ps (expr.With m a l) env ≡ false
  unfolding fits_tuple
  fits-with m a l =
      ap (tuple_in ps env) (eval-with m a l env)
      ∙ then (eval m env) _ (λ x. then (eval a env) _ (λ y. then (eval l env) _ (λ z.
      then (as_places (out-Value x)) _ (λ qs. then (as_agent (out-Value y)) _ (λ b. then (as_chan (out-Value z)) _ (λ n. other (value.Places _) _ (outs-Places _) refl))))))

pub ruleset fitting = (fits_all-cons, fits_all-lengths, fits-tuple, fits-val, fits-var, fits-parts, fits-bin, fits-pack, fits-with)
