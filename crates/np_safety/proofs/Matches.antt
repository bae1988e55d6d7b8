-- A pattern that covers a type matches each value that fits the type.
use Rattle.std.proofs.Common.{◌≡◌, ℕ, Bool, true, false, cond, Option, Some, Ok, refl, subst, map, List, [], ◌∷◌, sym, ap, ◌∙◌}
use Rattle.std.specs.FinMap as table
use Rattle.np_safety.proofs.Common.{nat_cmp, Value, Ty, Pat, then, done, With, World, kind, Types, cover, when, Env, Fits, LeastOf}
use Rattle.std.specs.Ordering.{eq_by_cmp}
use Rattle.np_syntax.specs.declared.pattern.PatForm.{PatForm-F}
use Rattle.np_types.specs.Covers.{Covering, cover_each, cover_step}
use Rattle.np_syntax.proofs.Trees.{PatHyps, pat_of, pat_ind}
use Rattle.np_types.proofs.Covers.{cover_layer, cover-out}
use Rattle.np_eval.specs.Eval.{Binding, bind, bind_each, bind_step}
use Rattle.np_eval.proofs.Layers.{bind_layer, bind-out}
pub use Rattle.np_calculus.proofs.AgentValues.{slot_put}
use Rattle.np_safety.proofs.Fitting.{Agrees, FitAll, Known, Valued}
use Rattle.np_types.proofs.Passed.{take}
use Rattle.np_safety.proofs.Shapes.{tuple_value}

put_value : (w : World) (b : Bool) (v : Value) (t u : Ty) (o : Option Value) (p : Option Ty) → Fits w v t → (p ≡ Some u → Valued w o u) → cond b (Some t) p ≡ Some u
    → Valued w (cond b (Some v) o) u
put_value w true v t u o p f h e = let same : t ≡ u = cc in record { value = v; is = refl; fits = subst (Fits w v) same f }
put_value w false v t u o p f h e = h e

least_put : (w : World) (b : Bool) (v : Value) (t : Ty) (o : Option Value) (p : Option Ty) → kind w v ≡ Some t → LeastOf w o p → LeastOf w (cond b (Some v) o) (cond b (Some t) p)
least_put w true v t o p is h = is
least_put w false v t o p is h = h

known-put : (w : World) (env : Env) (x : ℕ) (v : Value) (t : Ty) → kind w v ≡ Some t → Known w env → Known w (table.insert env x v)
known-put w env x v t is k = record {
  types = table.insert k.types x t;
  least = record { each = λ y. rw (slot_put env x v y, slot_put k.types x t y) (least_put w (eq_by_cmp nat_cmp y x) v t _ _ is (k.least.each y)) };
}

-- one more binder, with a value that fits its type
pub agrees-put : (w : World) (env : Env) (types : Types) (x : ℕ) (v : Value) (t : Ty) → Fits w v t → Agrees w env types → Agrees w (table.insert env x v) (table.insert types x t)
agrees-put w env types x v t f a = record {
  known = known-put w env x v f.type f.is a.known;
  all = λ y u h. subst (λ o. Valued w o u) (sym (slot_put env x v y)) (put_value w (eq_by_cmp nat_cmp y x) v t u _ _ f (a.all y u) (sym (slot_put types x t y) ∙ h));
}

-- an environment that fits the types of a pattern's binders
pub record Bound (w : World) (o : Option Env) (inner : Types) : Type 0 where
  pub env : Env
  pub is : o ≡ Some env
  pub agrees : Agrees w env inner

module _ (w : World) where
  abbrev Matches : Pat → Type 0
  Matches p = (v : Value) (t : Ty) (env : Env) (types inner : Types) → Fits w v t → Agrees w env types → cover p t types ≡ Ok inner → Bound w (bind p v env) inner

  match_all : (ps : List (With Pat Matches)) (vs : List Value) (ts : List Ty) (at : ℕ) (env : Env) (types inner : Types) → FitAll w vs ts → Agrees w env types
      → cover_each (map cover (map (λ e. e.0) ps)) ts at types ≡ Ok inner → Bound w (bind_each (map bind (map (λ e. e.0) ps)) vs env) inner
  match_all [] [] [] at env types inner f a h = record { env = env; is = refl; agrees = subst (Agrees w env) (sym (done h)) a }
  match_all (p ∷ ps) (v ∷ vs) (t ∷ ts) at env types inner f a h =
      then (cover p.0 t types) (cover_each (map cover (map (λ e. e.0) ps)) ts at) h λ mid first rest.
      let b = p.1 v t env types mid f.0 a first in
      let r = match_all ps vs ts at b.env mid inner f.1 b.agrees rest in
      record { env = r.env; is = rw b.is r.is; agrees = r.agrees }
  match_all _ (v ∷ vs) [] at env types inner f a h = absurd f
  match_all [] _ (t ∷ ts) at env types inner f a h = absurd cc
  match_all (p ∷ ps) [] [] at env types inner f a h = absurd cc
  match_all (p ∷ ps) [] (t ∷ ts) at env types inner f a h = absurd f

  match_layer : (y : PatHyps Matches) (at : ℕ) (v : Value) (t : Ty) (env : Env) (types inner : Types) → Fits w v t → Agrees w env types
      → cover_step (cover_layer (pat_of Matches y)) at t types ≡ Ok inner → Bound w (bind_step (bind_layer (pat_of Matches y)) v env) inner
  match_layer PatForm-F.Any at v t env types inner f a h = record { env = env; is = refl; agrees = subst (Agrees w env) (sym (done h)) a }
  match_layer (PatForm-F.Bind x) at v t env types inner f a h =
      record { env = table.insert env x v; is = refl; agrees = subst (Agrees w (table.insert env x v)) (sym (done h)) (agrees-put w env types x v t f a) }
  match_layer (PatForm-F.Tuple ps) at v t env types inner f a h =
      take _ _ _ _ h λ ts is h. when _ _ _ _ h λ long h.
      let u = tuple_value w v t ts f is in
      let b = match_all ps u.0 ts at env types inner u.2 a h in
      record { env = b.env; is = rw u.1 b.is; agrees = b.agrees }

  pub matches : (p : Pat) → Matches p
  matches = pat_ind Matches (λ p y is v t env types inner f a h.
      subst (λ o. Bound w o inner) (sym (ap (λ (g : Binding). g v env) (bind-out p ∙ ap (λ x. bind_step (bind_layer x)) is)))
      (match_layer y p.at v t env types inner f a (ap (λ x. cover_step (cover_layer x) p.at t types) (sym is) ∙ sym (ap (λ (g : Covering). g t types) (cover-out p)) ∙ h)))
