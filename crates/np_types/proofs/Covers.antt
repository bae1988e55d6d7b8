-- Each form of pattern against a type.
use Rattle.std.proofs.Common.{◌≡◌, ℕ, true, false, List, [], ◌∷◌, map, length, suc, Option, Ok, Err, refl, sym, ap, subst, ◌∙◌, ◌++◌, ◌+◌, ◌<◌, ◌≤◌, drop, get_or, arith}
use Rattle.std.proofs.lemmas.List.{drop_more, drop_all}
use Rattle.std.specs.FinMap as table
use Rattle.np_syntax.specs.declared.types.Ty.{Ty, out-Ty}
use Rattle.np_syntax.specs.declared.types.Ty as ty
use Rattle.np_syntax.specs.declared.types.Ty.TheVariants as types
use Rattle.np_types.specs.Trails.{restored, rewound, Held}
use Rattle.np_types.specs.Told.{LeadsBack, LeadsOn}
use Rattle.np_types.proofs.Slots.{put_back, put_there, held_push, rewound-push}
use Rattle.np_syntax.specs.declared.pattern.Pat.{Pat, fold_out-Pat}
use Rattle.np_syntax.specs.declared.pattern.PatForm.{PatForm, PatForm-F, out-PatForm, map-PatForm, fold_out-PatForm}
use Rattle.np_syntax.specs.declared.pattern.PatForm as pat
use Rattle.np_syntax.specs.declared.pattern.PatForm.TheVariants.{outs-Any, outs-Bind, outs-Tuple}
use Rattle.np_types.specs.declared.fault.Rule.TheVariants as rule
use Rattle.np_subtyping.specs.Sub.{as_tuple}
use Rattle.np_syntax.specs.Results.{◌>>=◌, ◌>>◌}
use Rattle.np_types.specs.Checks.{Check, ensure, want}
use Rattle.np_types.specs.Least.{Types}
use Rattle.np_types.specs.Covers.{Covering, cover, cover_form, cover_all, cover_parts, cover_each, cover_step, as_long}

abbrev pub cover_layer : PatForm-F PatForm Pat → PatForm-F (ℕ → Covering) Covering
cover_layer y = map-PatForm PatForm Pat (ℕ → Covering) Covering cover_form cover y

pub cover-form : (p : Pat) (t : Ty) (env : Types) → cover p t env ≡ cover_form p.form p.at t env
unfolding cover cover_form
cover-form p t env = ap (λ (f : Covering). f t env) (fold_out-Pat (ℕ → Covering) Covering cover_step (λ p. p.form p.at) p)

cover_form-out : (f : PatForm) (at : ℕ) (t : Ty) (env : Types) → cover_form f at t env ≡ cover_step (cover_layer (out-PatForm f)) at t env
unfolding cover cover_form
cover_form-out f at t env = ap (λ (g : ℕ → Covering). g at t env) (fold_out-PatForm (ℕ → Covering) Covering cover_step (λ p. p.form p.at) f)

pub cover-out : (p : Pat) → cover p ≡ cover_step (cover_layer (out-PatForm p.form)) p.at
unfolding cover cover_form
cover-out p = fold_out-Pat (ℕ → Covering) Covering cover_step (λ p. p.form p.at) p
    ∙ ap (λ (f : ℕ → Covering). f p.at) (fold_out-PatForm (ℕ → Covering) Covering cover_step (λ p. p.form p.at) p.form)

layered : (f : PatForm) (y : PatForm-F PatForm Pat) (at : ℕ) (t : Ty) (env : Types) → out-PatForm f ≡ y → cover_form f at t env ≡ cover_step (cover_layer y) at t env
layered f y at t env is = cover_form-out f at t env ∙ ap (λ y. cover_step (cover_layer y) at t env) is

pub cover-any : (at : ℕ) (t : Ty) (env : Types) → cover_form pat.Any at t env ≡ Ok env
cover-any at t env = layered pat.Any _ at t env outs-Any

pub cover-bind : (x at : ℕ) (t : Ty) (env : Types) → cover_form (pat.Bind x) at t env ≡ Ok (table.insert env x t)
cover-bind x at t env = layered (pat.Bind x) _ at t env (outs-Bind x)

onward_each : {X : Type 0} (o : Check X) (f g : X → Check Types) → ((x : X) → f x ≡ g x) → (o >>= f) ≡ (o >>= g)
onward_each (Ok x) f g h = h x
onward_each (Err e) f g h = refl

each-all : (ps : List Pat) (ts : List Ty) (at : ℕ) (env : Types) → cover_each (map cover ps) ts at env ≡ cover_all ps ts at env
each-all [] [] at env = refl
each-all [] (t ∷ ts) at env = refl
each-all (p ∷ ps) [] at env = refl
each-all (p ∷ ps) (t ∷ ts) at env = onward_each (cover p t env) _ _ (λ inner. each-all ps ts at inner)

long-map : (ps : List Pat) (ts : List Ty) → as_long (map cover ps) ts ≡ as_long ps ts
long-map [] [] = refl
long-map [] (t ∷ ts) = refl
long-map (p ∷ ps) [] = refl
long-map (p ∷ ps) (t ∷ ts) = long-map ps ts

pub cover-tuple : (ps : List Pat) (at : ℕ) (t : Ty) (env : Types) → cover_form (pat.Tuple ps) at t env ≡ (want (as_tuple (out-Ty t)) at rule.Shape >>= λ ts. cover_parts ps ts at env)
cover-tuple ps at t env =
    layered (pat.Tuple ps) _ at t env (outs-Tuple ps)
    ∙ onward_each (want (as_tuple (out-Ty t)) at rule.Shape) _ _ (λ ts i. ensure (long-map ps ts i) at rule.Shape >> each-all ps ts at env i)

pub long_lengths : (ps : List Pat) (ts : List Ty) → length ps ≡ length ts → as_long ps ts ≡ true
long_lengths [] [] e = refl
long_lengths [] (t ∷ ts) e = absurd cc
long_lengths (p ∷ ps) [] e = absurd cc
long_lengths (p ∷ ps) (t ∷ ts) e = long_lengths ps ts cc

pub other_lengths : (ps : List Pat) (ts : List Ty) → ¬ (length ps ≡ length ts) → as_long ps ts ≡ false
other_lengths [] [] h = absurd (h refl)
other_lengths [] (t ∷ ts) h = refl
other_lengths (p ∷ ps) [] h = refl
other_lengths (p ∷ ps) (t ∷ ts) h = other_lengths ps ts (λ e. h (ap suc e))

-- a tuple pattern against a tuple type
pub cover-tuples : (ps : List Pat) (ts : List Ty) (at : ℕ) (env : Types) → cover_form (pat.Tuple ps) at (ty.Tuple ts) env ≡ cover_parts ps ts at env
cover-tuples ps ts at env = cover-tuple ps at (ty.Tuple ts) env ∙ ap (λ y. want (as_tuple y) at rule.Shape >>= λ ts. cover_parts ps ts at env) (types.outs-Tuple ts)

pub parts-lengths : (ps : List Pat) (ts : List Ty) (at : ℕ) (env : Types) → length ps ≡ length ts → cover_parts ps ts at env ≡ cover_all ps ts at env
parts-lengths ps ts at env h = ap (λ b. ensure b at rule.Shape >> cover_all ps ts at env) (long_lengths ps ts h)

module _ (ps : List Pat) (ts : List Ty) (at : ℕ) (env : Types) (i : ℕ) where
  -- the component at an index, and the rest
  pub cover_all-more : (p : Pat) (t : Ty) → length ps ≡ length ts → i < length ps → p ≡ get_or ps i p → t ≡ get_or ts i t
      → cover_all (drop i ps) (drop i ts) at env ≡ (cover p t env >>= cover_all (drop (i + 1) ps) (drop (i + 1) ts) at)
  cover_all-more p t same within p_is t_is =
      let p_same = sym p_is in
      let t_same = sym t_is in
      (λ j. cover_all (drop_more ps i p within j) (drop_more ts i t (omega (arith, same, within)) j) at env)
      ∙ (λ j. cover (p_same j) (t_same j) env >>= cover_all (drop (i + 1) ps) (drop (i + 1) ts) at)

  pub cover_all-end : length ps ≡ length ts → length ps ≤ i → cover_all (drop i ps) (drop i ts) at env ≡ Ok env
  cover_all-end same past = λ j. cover_all (drop_all i ps past j) (drop_all i ts (omega (arith, same, past)) j) at env

-- a binder that is put, and noted on the trail
pub leads_put : (trail : List (ℕ × Option Ty)) (env : Types) (binder : ℕ) (t : Ty) (old : Option Ty) → old ≡ table.get env binder
    → LeadsOn trail env (trail ++ (binder, old) ∷ []) (table.insert env binder t)
leads_put trail env binder t old is = record {
  on = λ before h. let back = put_back env binder t old is in record {
    held = held_push trail (binder, old) (table.insert env binder t) (put_there env binder t) (subst (Held trail) (sym back) h.held);
    same = rewound-push trail (binder, old) (table.insert env binder t) ∙ ap (rewound trail) back ∙ h.same;
  };
}

-- a binder that is put, and gets back what it had
pub leads_undone : (trail : List (ℕ × Option Ty)) (env put new : Types) (binder : ℕ) (t : Ty) (old : Option Ty) (noted : ℕ × Option Ty) → old ≡ table.get env binder
    → put ≡ table.insert env binder t → noted ≡ (binder, old) → new ≡ restored put noted.0 noted.1 → LeadsOn trail env trail new
leads_undone trail env put new binder t old noted held there same is =
    let undone : new ≡ env = is ∙ (λ i. restored (there i) (same i).0 (same i).1) ∙ put_back env binder t old held in
    record { on = λ before h. subst (λ (e : Types). LeadsBack trail e before) (sym undone) h }

pub leads_then : (a b c : List (ℕ × Option Ty)) (x y z : Types) → LeadsOn a x b y → LeadsOn b y c z → LeadsOn a x c z
leads_then a b c x y z f g = record { on = λ before h. g.on before (f.on before h) }

pub ruleset coverings = (cover-form, cover-any, cover-bind, cover-tuple, long_lengths, other_lengths)
