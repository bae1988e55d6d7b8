-- How what is written out has no fault, form by form.
use Rattle.std.proofs.Common.{◌≡◌, ℕ, Bool, true, false, cond, nat_eq, Option, None, Some, Ok, List, [], ◌∷◌, refl, subst, sym, ap, ◌∙◌, arith}
use Rattle.std.specs.FinMap as table
use Rattle.std.specs.FinMap.{nat_cmp-IsAntisymmetric}
use Rattle.std.specs.Ordering.{nat_cmp, is_eq}
use Rattle.std.specs.Cmp.{tied_itself, nat_cmp_total}
use Rattle.std.specs.declared.cmp.Ordering.{Ordering}
use Rattle.std.specs.declared.cmp.Ordering.TheVariants.{Less, Equal, Greater}
use Rattle.np_syntax.specs.declared.value.Value as value
use Rattle.np_syntax.specs.declared.types.Cap.{Cap}
use Rattle.np_syntax.specs.declared.types.Cap.TheVariants as cap
use Rattle.np_syntax.specs.declared.types.Ty.{Ty, out-Ty}
use Rattle.np_syntax.specs.declared.types.Ty as ty
use Rattle.np_syntax.specs.declared.types.Ty.TheVariants.{outs-Chan, outs-Agent, outs-Site, outs-Places}
use Rattle.np_syntax.specs.declared.expression.Expr.{Expr}
use Rattle.np_syntax.specs.declared.expression.ExprForm as expr
use Rattle.np_syntax.specs.declared.pattern.Pat.{Pat}
use Rattle.np_syntax.specs.declared.process.Proc.{Proc}
use Rattle.np_tables.specs.Names.{same_name}
use Rattle.np_tables.proofs.Tables.{get-none, get-put}
use Rattle.np_types.specs.declared.fault.Rule.TheVariants as rule
use Rattle.np_types.specs.Sub.{TyLayer, sub, is_agent, is_site, is_places}
use Rattle.np_syntax.specs.Parts.{as_channel}
use Rattle.np_types.specs.Widths.{nodes}
use Rattle.np_types.specs.Checks.{want}
use Rattle.np_types.specs.Worlds.{World, kind}
use Rattle.np_types.specs.Least.{Types, least}
use Rattle.np_types.specs.Covers.{cover}
use Rattle.np_types.proofs.Counts.{nodes-tuple}
use Rattle.np_types.proofs.Covers.{cover-form, cover-any, cover-bind, cover-tuples}
use Rattle.np_types.proofs.Leasts.{least-form, least-val, least-var, least-with, tuple-3}
use Rattle.np_eval.specs.Forms.{Layer, layer}
use Rattle.np_calculus.specs.Starts.{own}
use Rattle.np_check.specs.Faults.{lock_type}
use Rattle.np_safety.specs.Low.{channels_of}
use Rattle.np_safety.proofs.Backs.{good-back}
use Rattle.np_safety.proofs.Evaluates.{agent-kind, chan-kind}
use Rattle.np_safety.proofs.Forms.{Good, GoodForm, Tested, OnChannel, Sending, Taking}
use Rattle.np_safety.proofs.Matches.{slot_put}
use Rattle.np_types.proofs.ValueTypes.{kind-out}
use Rattle.np_syntax.specs.declared.value.Value.TheVariants.{outs-Site as site-value}
use Rattle.infrastructure_texts.specs.Pieces.{expression, variable, name, nothing, unit, pair, two_names, site, agent, channel}

-- ---- binders in types

pub differ : (r : Ordering) → (r ≡ Equal → ⊥) → is_eq r ≡ false
differ Less h = refl
differ Equal h = absurd (h refl)
differ Greater h = refl

module _ {X : Type 0} where
  pub slot_here : (m : table.FinMap nat_cmp X) (k : ℕ) (v : X) → table.get (table.insert m k v) k ≡ Some v
  slot_here m k v = slot_put m k v k ∙ rw (tied_itself nat_cmp_total k) refl

  pub slot_past : (m : table.FinMap nat_cmp X) (k : ℕ) (v : X) (q : ℕ) → (q ≡ k → ⊥) → table.get (table.insert m k v) q ≡ table.get m q
  slot_past m k v q h = slot_put m k v q ∙ rw (differ (nat_cmp q k) (λ e. h (nat_cmp-IsAntisymmetric q k e))) refl

-- ---- the infrastructure's channels

abbrev pub listed : List (ℕ × Ty) → ℕ → Option (Cap × Ty)
listed [] i = None
listed (e ∷ es) i = cond (nat_eq i e.0) (Some (cap.Both, e.1)) (listed es i)

same_own : (n i j : ℕ) → same_name (own n i) (own n j) ≡ nat_eq i j
same_own n i j = grind arith

pub carries : (n : ℕ) (es : List (ℕ × Ty)) (i : ℕ) → table.get (channels_of n es) (own n i) ≡ listed es i
carries n [] i = get-none (own n i)
carries n (e ∷ es) i = get-put (channels_of n es) (own n e.0) (cap.Both, e.1) (own n i) ∙ rw (same_own n i e.0, carries n es i) refl

-- ---- expressions

pub good-made : (w : World) (types : Types) (p : Proc) (l : Layer) → layer p ≡ l → GoodForm w types l → Good w types p
good-made w types p l is g = good-back w types p (subst (GoodForm w types) (sym is) g)

pub site-kind : (w : World) (s : ℕ) → w.site s ≡ true → kind w (value.Site s) ≡ Some ty.Site
site-kind w s h = kind-out w (value.Site s) ∙ rw (site-value s, h) refl

module _ (w : World) (types : Types) where
  pub least-variable : (x : ℕ) (t : Ty) → table.get types x ≡ Some t → least w types (variable x) ≡ Ok t
  least-variable x t h = least-form w types (variable x) ∙ least-var w types 0 x ∙ ap (λ o. want o 0 rule.Mismatch) h

  pub least-channel : (n i : ℕ) (t : Ty) → w.chan (own n i) ≡ Some (cap.Both, t) → least w types (channel n i) ≡ Ok (ty.Chan cap.Both t)
  least-channel n i t h =
      least-form w types (channel n i) ∙ least-val w types 0 (value.Chan (own n i)) ∙ ap (λ o. want o 0 rule.Mismatch) (chan-kind w (own n i) (cap.Both, t) h)

  pub least-agent : (n i : ℕ) → least w types (agent n i) ≡ Ok ty.Agent
  least-agent n i = least-form w types (agent n i) ∙ least-val w types 0 (value.Agent (own n i)) ∙ ap (λ o. want o 0 rule.Mismatch) (agent-kind w (own n i))

  pub least-site : (s : ℕ) → w.site s ≡ true → least w types (site s) ≡ Ok ty.Site
  least-site s h = least-form w types (site s) ∙ least-val w types 0 (value.Site s) ∙ ap (λ o. want o 0 rule.Mismatch) (site-kind w s h)

  pub least-unit : least w types unit ≡ Ok (ty.Tuple [])
  least-unit = least-form w types unit ∙ tuple-3 w types 0 [] [] refl (rw (nodes-tuple []) refl)

  pub least-pair : (x y : Expr) (s t : Ty) → least w types x ≡ Ok s → least w types y ≡ Ok t → nodes s ≡ 1 → nodes t ≡ 1 → least w types (pair x y) ≡ Ok (ty.Tuple (s ∷ t ∷ []))
  least-pair x y s t hx hy ns nt = least-form w types (pair x y) ∙ tuple-3 w types 0 (x ∷ y ∷ []) (s ∷ t ∷ []) (rw (hx, hy) refl) (rw (nodes-tuple (s ∷ t ∷ []), ns, nt) refl)

  pub tested-variable : (x : ℕ) (t : Ty) (test : TyLayer → Bool) → table.get types x ≡ Some t → test (out-Ty t) ≡ true → Tested w types test (variable x)
  tested-variable x t test h passes = record { type = t; is = least-variable x t h; passes = passes }

  pub an_agent : (x : ℕ) → table.get types x ≡ Some ty.Agent → Tested w types is_agent (variable x)
  an_agent x h = tested-variable x ty.Agent is_agent h (ap is_agent outs-Agent)

  pub a_site : (x : ℕ) → table.get types x ≡ Some ty.Site → Tested w types is_site (variable x)
  a_site x h = tested-variable x ty.Site is_site h (ap is_site outs-Site)

  pub a_map : (x : ℕ) → table.get types x ≡ Some ty.Places → Tested w types is_places (variable x)
  a_map x h = tested-variable x ty.Places is_places h (ap is_places outs-Places)

  -- a channel of capability ^ that carries this type
  pub on-channel : (c : Expr) (t : Ty) → least w types c ≡ Ok (ty.Chan cap.Both t) → OnChannel w types c (cap.Both, t)
  on-channel c t h = record { type = ty.Chan cap.Both t; is = h; chan = ap as_channel (outs-Chan cap.Both t) }

  pub sends-on : (c e : Expr) (s t : Ty) → least w types c ≡ Ok (ty.Chan cap.Both t) → least w types e ≡ Ok s → sub s t ≡ true → Sending w types c e
  sends-on c e s t h is below = record { carries = (cap.Both, t); on = on-channel c t h; may_write = refl; type = s; is = is; below = below }

  pub takes-from : (c : Expr) (x : Pat) (t : Ty) (inner : Types) (p : Proc) → least w types c ≡ Ok (ty.Chan cap.Both t) → cover x t types ≡ Ok inner → Good w inner p
      → Taking w types c x p
  takes-from c x t inner p h covers body = record { carries = (cap.Both, t); on = on-channel c t h; may_read = refl; inner = inner; covers = covers; body = body }

  pub least-with_lock : (m a l : ℕ) → table.get types m ≡ Some ty.Places → table.get types a ≡ Some ty.Agent → table.get types l ≡ Some lock_type
      → least w types (expression (expr.With (variable m) (variable a) (variable l))) ≡ Ok ty.Places
  least-with_lock m a l hm ha hl =
      least-form w types _ ∙ least-with w types 0 (variable m) (variable a) (variable l)
      ∙ rw (least-variable m ty.Places hm, outs-Places, least-variable a ty.Agent ha, outs-Agent, least-variable l lock_type hl, outs-Chan cap.Both ty.Site, outs-Site) refl

-- ---- patterns

module _ (types : Types) where
  pub cover-nothing : (t : Ty) → cover nothing t types ≡ Ok types
  cover-nothing t = cover-form nothing t types ∙ cover-any 0 t types

  pub cover-name : (x : ℕ) (t : Ty) → cover (name x) t types ≡ Ok (table.insert types x t)
  cover-name x t = cover-form (name x) t types ∙ cover-bind x 0 t types

pub cover-two : (types : Types) (x y : ℕ) (s t : Ty) → cover (two_names x y) (ty.Tuple (s ∷ t ∷ [])) types ≡ Ok (table.insert (table.insert types x s) y t)
cover-two types x y s t =
    cover-form (two_names x y) (ty.Tuple (s ∷ t ∷ [])) types ∙ cover-tuples (name x ∷ name y ∷ []) (s ∷ t ∷ []) 0 types
    ∙ rw (cover-name types x s, cover-name (table.insert types x s) y t) refl
