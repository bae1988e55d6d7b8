-- An expression with a type has a value, which fits the type.
use Rattle.std.proofs.Common.{◌≡◌, ℕ, ℤ, Bool, true, Option, Some, Ok, refl, subst, map, List, [], ◌∷◌, sym, ap, ◌∙◌}
use Rattle.std.specs.Prelude.{nat_eq}
use Rattle.std.specs.Ordering.{int_eq}
use Rattle.std.specs.Str.{bytes_eq}
use Rattle.np_safety.proofs.Common.{Name, Value, Value-F, out-Value, Cap, Ty, Ty-F, out-Ty, outs-Tuple, Expr, ◌>>=◌, ◌>>◌, and-in, and-out, then, done, With}
use Rattle.np_safety.proofs.Common.{same_name, TyLayer, reads, writes, sub, sub_all, is_int, is_site, is_agent, is_places, as_channel, ensure}
use Rattle.np_safety.proofs.Common.{World, kinds, is_lock_chan, all_locks, kind, Types, least, least_of, sub-trans, site_below, when, ensured}
use Rattle.np_safety.proofs.Common.{wanted, Env, eval, Fits}
use Rattle.np_syntax.specs.declared.value.Value as value
use Rattle.np_syntax.specs.declared.value.Value.TheVariants as outs
use Rattle.np_syntax.specs.declared.types.Cap.TheVariants as cap
use Rattle.np_syntax.specs.declared.types.Ty as ty
use Rattle.np_syntax.specs.declared.expression.Op.{Op}
use Rattle.np_syntax.specs.declared.expression.Op.TheVariants as op
use Rattle.np_syntax.specs.declared.expression.ExprForm.{ExprForm-F}
use Rattle.np_syntax.specs.Options as may
use Rattle.np_syntax.specs.Options.{all_some}
use Rattle.np_types.specs.declared.fault.Rule.TheVariants as rule
use Rattle.np_syntax.specs.Results.{all_ok}
use Rattle.np_types.specs.Worlds.{is_lock}
use Rattle.np_types.specs.Least.{Least, least_step, least_op, basic, same_basic, number, test_of, output, is_lock_type}
use Rattle.np_syntax.proofs.Trees.{ExprHyps, expr_of, expr_ind}
use Rattle.np_types.proofs.Subs.{sub-out}
use Rattle.np_types.proofs.ValueTypes.{kind_of, kinds-map}
use Rattle.np_types.proofs.Leasts.{least_layer, least-out}
use Rattle.np_eval.specs.Eval.{eval_step, operate, operate_at, equal_at, same_truth, put_place, pack, with_place}
use Rattle.np_calculus.proofs.Puts.{picked}
use Rattle.np_safety.proofs.Fitting.{Agrees, Valued}
use Rattle.np_eval.proofs.Layers.{eval_layer, eval-out}
use Rattle.np_safety.proofs.Forms.{sending, tested}
use Rattle.np_safety.proofs.Shapes.{fits-itself, chan_value, value_as}

-- ---- the least types of values

pub int-kind : (w : World) (i : ℤ) → kind w (value.Int i) ≡ Some ty.Int
int-kind w i = kind_of w (value.Int i) _ (outs.outs-Int i)

pub truth-kind : (w : World) (b : Bool) → kind w (value.Truth b) ≡ Some ty.Bool
truth-kind w b = kind_of w (value.Truth b) _ (outs.outs-Truth b)

pub agent-kind : (w : World) (a : Name) → kind w (value.Agent a) ≡ Some ty.Agent
agent-kind w a = kind_of w (value.Agent a) _ (outs.outs-Agent a)

pub chan-kind : (w : World) (n : Name) (k : Cap × Ty) → w.chan n ≡ Some k → kind w (value.Chan n) ≡ Some (ty.Chan k.0 k.1)
chan-kind w n k h = kind_of w (value.Chan n) _ (outs.outs-Chan n) ∙ rw h refl

pub tuple-kind : (w : World) (vs : List Value) (ts : List Ty) → kinds w vs ≡ Some ts → kind w (value.Tuple vs) ≡ Some (ty.Tuple ts)
tuple-kind w vs ts h = kind_of w (value.Tuple vs) _ (outs.outs-Tuple vs) ∙ ap (λ o. may.◌>>=◌ o (λ ts. Some (ty.Tuple ts))) (kinds-map w vs ∙ h)

pub letter-kind : (w : World) (c : Name) (v : Value) (t : Ty) (k : Cap × Ty) → kind w v ≡ Some t → w.chan c ≡ Some k → writes k.0 ≡ true → sub t k.1 ≡ true
    → kind w (value.Letter c v) ≡ Some ty.Letter
letter-kind w c v t k is on may below = kind_of w (value.Letter c v) _ (outs.outs-Letter c v) ∙ rw (on, is, may, below) refl

pub places-kind : (w : World) (ps : List (Name × Name)) → all_locks w ps ≡ true → kind w (value.Places ps) ≡ Some ty.Places
places-kind w ps h = kind_of w (value.Places ps) _ (outs.outs-Places ps) ∙ rw h refl

-- ---- maps of places

put_locks : (w : World) (ps : List (Name × Name)) (a l : Name) → all_locks w ps ≡ true → is_lock_chan (w.chan l) ≡ true → all_locks w (put_place ps a l) ≡ true
put_locks w [] a l h k = and-in k refl
put_locks w (p ∷ ps) a l h k =
    let b = and-out _ _ h in
    picked (λ qs. all_locks w qs ≡ true) (same_name p.0 a) ((a, l) ∷ ps) (p ∷ put_place ps a l) (and-in k b.1) (and-in b.0 (put_locks w ps a l b.1 k))

pub both_ways : (c : Cap) (t : Ty) → reads c ≡ true → writes c ≡ true → is_site (out-Ty t) ≡ true → is_lock c t ≡ true
both_ways cap.Both t r w h = h
both_ways _ t r w h = absurd cc

-- a channel type that is ^Site
pub lock_is : (y : TyLayer) → is_lock_chan (as_channel y) ≡ true → (t : Ty) × (as_channel y ≡ Some (cap.Both, t)) × (is_site (out-Ty t) ≡ true)
lock_is (Ty-F.Chan cap.Both t) h = (t, refl, h)
lock_is _ h = absurd cc

-- a channel that fits ^Site has just this type
lock_value : (w : World) (v : Value) (t : Ty) → Fits w v t → is_lock_type (out-Ty t) ≡ true → (l : Name) × (out-Value v ≡ Value-F.Chan l) × (is_lock_chan (w.chan l) ≡ true)
lock_value w v t f h =
    let s = lock_is (out-Ty t) h in
    let c = chan_value w v t (cap.Both, s.0) f s.1 in
    let r = c.reading refl in let q = c.writing refl in
    (c.name, c.is, ap (λ o. is_lock_chan o) c.carries ∙ both_ways c.own.0 c.own.1 r.0 q.0 (site_below c.own.1 s.0 s.2 r.1))

-- ---- expressions

module _ (w : World) (env : Env) (types : Types) (agrees : Agrees w env types) where
  abbrev Sound : Expr → Type 0
  Sound e = (t : Ty) → least w types e ≡ Ok t → Valued w (eval e env) t

  record Parts (o : Option (List Value)) (ts : List Ty) : Type 0 where
    values : List Value
    is : o ≡ Some values
    own : List Ty
    kinds_are : kinds w values ≡ Some own
    below : sub_all own ts ≡ true

  parts : (es : List (With Expr Sound)) (ts : List Ty) → all_ok (map (λ (p : Least). p.type) (map (least_of w types) (map (λ e. e.0) es))) ≡ Ok ts
      → Parts (all_some (map (λ e. eval e env) (map (λ e. e.0) es))) ts
  parts [] ts h = let e : ts ≡ [] = done h in rw e (record { values = []; is = refl; own = []; kinds_are = refl; below = refl })
  parts (e ∷ es) ts h =
      then (least w types e.0) (λ t. all_ok (map (λ (p : Least). p.type) (map (least_of w types) (map (λ e. e.0) es))) >>= λ rest. Ok (t ∷ rest)) h λ t is h.
      then (all_ok (map (λ (p : Least). p.type) (map (least_of w types) (map (λ e. e.0) es)))) (λ rest. Ok (t ∷ rest)) h λ rest are h.
      let v = e.1 t is in
      let r = parts es rest are in
      let same : ts ≡ t ∷ rest = done h in
      rw same (record {
        values = v.value ∷ r.values;
        is = rw (v.is, r.is) refl;
        own = v.fits.type ∷ r.own;
        kinds_are = rw (v.fits.is, r.kinds_are) refl;
        below = and-in v.fits.below r.below;
      })

  record IntOf (e : Expr) : Type 0 where
    value : Value
    is : eval e env ≡ Some value
    number : ℤ
    has : out-Value value ≡ Value-F.Int number

  int_of : (e : With Expr Sound) → number (least_of w types e.0) ≡ Ok tt → IntOf e.0
  int_of e h =
      then (least w types e.0) (λ t. ensure (is_int (out-Ty t)) (least_of w types e.0).at _) h λ t is h.
      let v = e.1 t is in
      let i = value_as w v.value Ty-F.Int t v.fits (ensured _ _ _ h) in
      record { value = v.value; is = v.is; number = i.0; has = i.1 }

  ints : (a b : With Expr Sound) (r t : Ty) → (number (least_of w types a.0) >> (number (least_of w types b.0) >> Ok r)) ≡ Ok t → IntOf a.0 × IntOf b.0 × (t ≡ r)
  ints a b r t h =
      then (number (least_of w types a.0)) (λ _. number (least_of w types b.0) >> Ok r) h λ u first h.
      then (number (least_of w types b.0)) (λ _. Ok r) h λ u second h. (int_of a first, int_of b second, done h)

  abbrev both : Op → Expr → Expr → Option Value
  both o a b = may.◌>>=◌ (eval a env) (λ x. may.◌>>=◌ (eval b env) (λ y. operate o x y))

  sound_arith : (o : Op) (z : ℤ → ℤ → Value) (r : Ty) → ((i j : ℤ) → operate_at o (Value-F.Int i) (Value-F.Int j) ≡ Some (z i j)) → ((i j : ℤ) → kind w (z i j) ≡ Some r)
      → (a b : With Expr Sound) (t : Ty) → (number (least_of w types a.0) >> (number (least_of w types b.0) >> Ok r)) ≡ Ok t → Valued w (both o a.0 b.0) t
  sound_arith o z r gives kinded a b t h =
      let n = ints a b r t h in
      rw n.2 (record {
        value = z n.0.number n.1.number;
        is = rw (n.0.is, n.1.is, n.0.has, n.1.has) (gives n.0.number n.1.number);
        fits = fits-itself w _ r (kinded n.0.number n.1.number);
      })

  equals : (s t : Ty) (l : TyLayer) (x y : Value) → out-Ty s ≡ l → basic l ≡ true → same_basic l (out-Ty t) ≡ true → Fits w x s → Fits w y t
      → (b : Bool) × (equal_at (out-Value x) (out-Value y) ≡ Some b)
  equals s t Ty-F.Int x y h k e f g =
      let i = value_as w x Ty-F.Int s f (rw h refl) in let j = value_as w y Ty-F.Int t g e in
      (int_eq i.0 j.0, rw (i.1, j.1) refl)
  equals s t Ty-F.Bool x y h k e f g =
      let i = value_as w x Ty-F.Bool s f (rw h refl) in let j = value_as w y Ty-F.Bool t g e in
      (same_truth i.0 j.0, rw (i.1, j.1) refl)
  equals s t Ty-F.Str x y h k e f g =
      let i = value_as w x Ty-F.Str s f (rw h refl) in let j = value_as w y Ty-F.Str t g e in
      (bytes_eq i.0 j.0, rw (i.1, j.1) refl)
  equals s t Ty-F.Site x y h k e f g =
      let i = value_as w x Ty-F.Site s f (rw h refl) in let j = value_as w y Ty-F.Site t g e in
      (nat_eq i.0 j.0, rw (i.1, j.1) refl)
  equals s t Ty-F.Agent x y h k e f g =
      let i = value_as w x Ty-F.Agent s f (rw h refl) in let j = value_as w y Ty-F.Agent t g e in
      (same_name i.0 j.0, rw (i.1, j.1) refl)
  equals s t _ x y h k e f g = absurd cc

  sound_op : (o : Op) (a b : With Expr Sound) (t : Ty) → least_op o (least_of w types a.0) (least_of w types b.0) ≡ Ok t → Valued w (both o a.0 b.0) t
  sound_op op.Add a b t h = sound_arith op.Add _ ty.Int (λ i j. refl) (λ i j. int-kind w _) a b t h
  sound_op op.Sub a b t h = sound_arith op.Sub _ ty.Int (λ i j. refl) (λ i j. int-kind w _) a b t h
  sound_op op.Mul a b t h = sound_arith op.Mul _ ty.Int (λ i j. refl) (λ i j. int-kind w _) a b t h
  sound_op op.Less a b t h = sound_arith op.Less _ ty.Bool (λ i j. refl) (λ i j. truth-kind w _) a b t h
  sound_op op.Equal a b t h =
      then (least w types a.0) _ h λ s first h. when _ _ _ _ h λ ok h. then (least w types b.0) _ h λ u second h. when _ _ _ _ h λ same h.
      let x = a.1 s first in let y = b.1 u second in
      let q = equals s u (out-Ty s) x.value y.value refl ok same x.fits y.fits in
      let r : t ≡ ty.Bool = done h in
      rw r (record { value = value.Truth q.0; is = rw (x.is, y.is, q.1) refl; fits = fits-itself w _ ty.Bool (truth-kind w q.0) })

  sound_pack : (a b : With Expr Sound) (t : Ty) → (output (least_of w types a.0) (least_of w types b.0) >> Ok ty.Letter) ≡ Ok t
      → Valued w (may.◌>>=◌ (eval a.0 env) (λ x. may.◌>>=◌ (eval b.0 env) (λ v. pack x v))) t
  sound_pack a b t h =
      then (output (least_of w types a.0) (least_of w types b.0)) (λ _. Ok ty.Letter) h λ u sent h.
      let s = sending w types a.0 b.0 sent in
      let x = a.1 s.on.type s.on.is in let y = b.1 s.type s.is in
      let c = chan_value w x.value s.on.type s.carries x.fits s.on.chan in
      let q = c.writing s.may_write in
      let f = sub-trans y.fits.type s.type c.own.1 y.fits.below (sub-trans s.type s.carries.1 c.own.1 s.below q.1) in
      let same : t ≡ ty.Letter = done h in
      rw same (record {
        value = value.Letter c.name y.value;
        is = rw (x.is, y.is, c.is) refl;
        fits = fits-itself w _ ty.Letter (letter-kind w c.name y.value y.fits.type c.own y.fits.is c.carries q.0 f);
      })

  sound_with : (m a l : With Expr Sound) (t : Ty)
      → (test_of is_places rule.Mismatch (least_of w types m.0) >> (test_of is_agent rule.NotAgent (least_of w types a.0)
      >> (test_of is_lock_type rule.Mismatch (least_of w types l.0) >> Ok ty.Places))) ≡ Ok t
      → Valued w (may.◌>>=◌ (eval m.0 env) (λ x. may.◌>>=◌ (eval a.0 env) (λ y. may.◌>>=◌ (eval l.0 env) (λ z. with_place x y z)))) t
  sound_with m a l t h =
      then (test_of is_places _ (least_of w types m.0)) _ h λ u first h. then (test_of is_agent _ (least_of w types a.0)) _ h λ u second h.
      then (test_of is_lock_type _ (least_of w types l.0)) _ h λ u third h.
      let i = tested w types is_places _ m.0 _ first in let j = tested w types is_agent _ a.0 _ second in
      let k = tested w types is_lock_type _ l.0 _ third in
      let x = m.1 i.type i.is in let y = a.1 j.type j.is in
      let z = l.1 k.type k.is in
      let p = value_as w x.value Ty-F.Places i.type x.fits i.passes in
      let b = value_as w y.value Ty-F.Agent j.type y.fits j.passes in
      let n = lock_value w z.value k.type z.fits k.passes in
      let same : t ≡ ty.Places = done h in
      rw same (record {
        value = value.Places (put_place p.0 b.0 n.0);
        is = rw (x.is, y.is, z.is, p.1, b.1, n.1) refl;
        fits = fits-itself w _ ty.Places (places-kind w (put_place p.0 b.0 n.0) (put_locks w p.0 b.0 n.0 p.2 n.2));
      })

  sound_layer : (y : ExprHyps Sound) (at : ℕ) (t : Ty) → least_step w types (least_layer w types (expr_of Sound y)) at ≡ Ok t → Valued w (eval_step env (eval_layer env (expr_of Sound y))) t
  sound_layer (ExprForm-F.Val v) at t h = record { value = v; is = refl; fits = fits-itself w v t (wanted _ _ _ h) }
  sound_layer (ExprForm-F.Var x) at t h = agrees.all x t (wanted _ _ _ h)
  sound_layer (ExprForm-F.Tuple es) at t h =
      then (all_ok (map (λ (p : Least). p.type) (map (least_of w types) (map (λ e. e.0) es)))) _ h λ ts are h. when _ _ _ _ h λ ok h.
      let r = parts es ts are in
      let same : t ≡ ty.Tuple ts = done h in
      rw same (record {
        value = value.Tuple r.values;
        is = rw r.is refl;
        fits = record { type = ty.Tuple r.own; is = tuple-kind w r.values r.own r.kinds_are; below = sub-out _ _ ∙ rw (outs-Tuple r.own, outs-Tuple ts) r.below };
      })
  sound_layer (ExprForm-F.Bin o a b) at t h = sound_op o a b t h
  sound_layer (ExprForm-F.Pack a b) at t h = sound_pack a b t h
  sound_layer (ExprForm-F.With m a l) at t h = sound_with m a l t h

  pub evaluates : (e : Expr) → Sound e
  evaluates = expr_ind Sound (λ e y is t h.
      subst (λ o. Valued w o t) (sym (eval-out env e ∙ ap (λ x. eval_step env (eval_layer env x)) is))
      (sound_layer y e.at t (ap (λ x. least_step w types (least_layer w types x) e.at) (sym is) ∙ sym (least-out w types e) ∙ h)))
