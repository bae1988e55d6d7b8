-- Under types of binders that are below, and with more channels and sites, a process still has no fault.
use Rattle.std.proofs.Common.{◌≡◌, ℕ, Bool, true, false, cond, Option, None, Some, Ok, refl, subst, map, List, [], ◌∷◌, nat_le, sym, ap, ◌∙◌}
use Rattle.std.specs.FinMap as table
use Rattle.np_safety.proofs.Common.{nat_cmp, Name, Value, Value-F, Cap, Ty, Ty-F, out-Ty, outs-Tuple, Expr, Pat, Proc, ProcForm-F, ◌>>=◌, ◌>>◌, and-in}
use Rattle.np_safety.proofs.Common.{and-out, then, done, With, Rule, TyLayer, reads, writes, sub, sub_all, is_int, is_bool, is_site, is_agent, is_letter}
use Rattle.np_safety.proofs.Common.{is_places, Check, World, is_lock_chan, all_locks, kind, Types, least, least_of, cover, sub-itself}
use Rattle.np_safety.proofs.Common.{sub-trans, site_below, when, wanted, kind-out, lock_type}
use Rattle.std.specs.Ordering.{eq_by_cmp}
use Rattle.np_syntax.specs.declared.types.Cap.TheVariants as cap
use Rattle.np_syntax.specs.declared.types.Ty as ty
use Rattle.np_syntax.specs.declared.expression.Op.{Op}
use Rattle.np_syntax.specs.declared.expression.Op.TheVariants as op
use Rattle.np_syntax.specs.declared.expression.ExprForm.{ExprForm-F}
use Rattle.np_syntax.specs.declared.pattern.PatForm.{PatForm-F}
use Rattle.np_syntax.specs.Options as may
use Rattle.np_syntax.specs.Options.{all_some}
use Rattle.np_syntax.proofs.Options as maybe
use Rattle.np_types.specs.declared.fault.Rule.TheVariants as rule
use Rattle.np_types.specs.Sub.{sub_at}
use Rattle.np_types.specs.Widths.{narrow}
use Rattle.np_syntax.specs.Results.{all_ok}
use Rattle.np_types.specs.Least.{Least, least_step, least_op, number, basic, same_basic, output, test_of, is_lock_type}
use Rattle.np_types.specs.Covers.{Covering, cover_each, cover_step, as_long}
use Rattle.np_syntax.proofs.Trees.{ValueHyps, value_of, value_ind, ExprHyps, expr_of, expr_ind, PatHyps, pat_of, pat_ind}
use Rattle.np_types.proofs.Subs.{sub-out}
use Rattle.np_types.proofs.Below.{Down, int_below, bool_below, agent_below, letter_below, places_below, chan_below, tuple_below, as_many, printable_below}
use Rattle.np_types.proofs.ValueTypes.{kind_layer}
use Rattle.np_types.proofs.Leasts.{least_layer, least-out}
use Rattle.np_types.proofs.Covers.{cover_layer, cover-out}
use Rattle.np_types.proofs.Passed.{take}
use Rattle.np_safety.proofs.Matches.{slot_put}
use Rattle.np_safety.proofs.Evaluates.{lock_is, both_ways}
use Rattle.np_safety.proofs.Forms.{Good, GoodForm, Tested, OnChannel, Sending, Taking, good-form, sending, tested}
use Rattle.np_safety.proofs.Backs.{good-back, sending-back}
use Rattle.np_safety.proofs.Processes.{ProcHyps, proc_of, proc_ind}

-- a world that has all that another one has
pub record Wider (w v : World) : Type 0 where
  pub site : (s : ℕ) → w.site s ≡ true → v.site s ≡ true
  pub chan : (c : Name) (k : Cap × Ty) → w.chan c ≡ Some k → v.chan c ≡ Some k

pub record Smaller (o : Option Ty) (t : Ty) : Type 0 where
  pub type : Ty
  pub is : o ≡ Some type
  pub below : sub type t ≡ true

-- types of binders that are below others
pub record Narrower (small large : Types) : Type 0 where
  pub all : (x : ℕ) (t : Ty) → table.get large x ≡ Some t → Smaller (table.get small x) t

put_smaller : (b : Bool) (s t u : Ty) (o p : Option Ty) → sub s t ≡ true → (p ≡ Some u → Smaller o u) → cond b (Some t) p ≡ Some u → Smaller (cond b (Some s) o) u
put_smaller true s t u o p f h e = let same : t ≡ u = cc in record { type = s; is = refl; below = subst (λ t. sub s t ≡ true) same f }
put_smaller false s t u o p f h e = h e

pub narrower-put : (small large : Types) (x : ℕ) (s t : Ty) → sub s t ≡ true → Narrower small large → Narrower (table.insert small x s) (table.insert large x t)
narrower-put small large x s t f a = record {
  all = λ y u h. subst (λ o. Smaller o u) (sym (slot_put small x s y)) (put_smaller (eq_by_cmp nat_cmp y x) s t u _ _ f (a.all y u) (sym (slot_put large x t y) ∙ h));
}

same_layer : (y x : TyLayer) → basic y ≡ true → sub_at x y ≡ true → x ≡ y
same_layer Ty-F.Int Ty-F.Int h b = refl
same_layer Ty-F.Bool Ty-F.Bool h b = refl
same_layer Ty-F.Site Ty-F.Site h b = refl
same_layer Ty-F.Agent Ty-F.Agent h b = refl
same_layer Ty-F.Str Ty-F.Str h b = refl
same_layer _ _ h b = absurd cc

basic_too : (y u : TyLayer) → same_basic y u ≡ true → basic y ≡ true → basic u ≡ true
basic_too Ty-F.Int Ty-F.Int h b = refl
basic_too Ty-F.Bool Ty-F.Bool h b = refl
basic_too Ty-F.Site Ty-F.Site h b = refl
basic_too Ty-F.Agent Ty-F.Agent h b = refl
basic_too Ty-F.Str Ty-F.Str h b = refl
basic_too _ _ h b = absurd cc

weak_basic : (x y z u : TyLayer) → basic y ≡ true → same_basic y u ≡ true → sub_at x y ≡ true → sub_at z u ≡ true → (basic x ≡ true) × (same_basic x z ≡ true)
weak_basic x y z u h k a b =
    let e = same_layer y x h a in let f = same_layer u z (basic_too y u k h) b in
    (ap basic e ∙ h, (λ i. same_basic (e i) (f i)) ∙ k)

-- a type below ^Site is this type
lock_below : Down is_lock_type
lock_below s t h b =
    let l = lock_is (out-Ty t) h in
    let n = chan_below s t (cap.Both, l.0) l.1 b in
    let r = n.reading refl in let q = n.writing refl in
    ap (λ o. is_lock_chan o) n.is ∙ both_ways n.chan.0 n.chan.1 r.0 q.0 (site_below n.chan.1 l.0 l.2 r.1)

module _ (w v : World) (wider : Wider w v) where
  abbrev SameKind : Value → Type 0
  SameKind x = (t : Ty) → kind w x ≡ Some t → kind v x ≡ Some t

  lock_kept : (o : Option (Cap × Ty)) (c : Name) → w.chan c ≡ o → is_lock_chan o ≡ true → is_lock_chan (v.chan c) ≡ true
  lock_kept None c e h = absurd cc
  lock_kept (Some k) c e h = ap (λ o. is_lock_chan o) (wider.chan c k e) ∙ h

  locks : (ps : List (Name × Name)) → all_locks w ps ≡ true → all_locks v ps ≡ true
  locks [] h = refl
  locks (p ∷ ps) h = let a = and-out _ _ h in and-in (lock_kept (w.chan p.1) p.1 refl a.0) (locks ps a.1)

  kinds_kept : (xs : List (With Value SameKind)) (ts : List Ty) → all_some (map (kind w) (map (λ e. e.0) xs)) ≡ Some ts → all_some (map (kind v) (map (λ e. e.0) xs)) ≡ Some ts
  kinds_kept [] ts h = h
  kinds_kept (x ∷ xs) ts h =
      maybe.then (kind w x.0) (λ t. may.◌>>=◌ (all_some (map (kind w) (map (λ e. e.0) xs))) (λ rest. Some (t ∷ rest))) h λ t is h.
      maybe.then (all_some (map (kind w) (map (λ e. e.0) xs))) (λ rest. Some (t ∷ rest)) h λ rest are h. rw (x.1 t is, kinds_kept xs rest are) h

  kind_kept : (y : ValueHyps SameKind) (t : Ty) → kind_layer w (value_of SameKind y) ≡ Some t → kind_layer v (value_of SameKind y) ≡ Some t
  kind_kept (Value-F.Site s) t h = maybe.when (w.site s) (Some ty.Site) h λ ok h. rw (wider.site s ok) h
  kind_kept (Value-F.Chan c) t h = maybe.then (w.chan c) (λ k. Some (ty.Chan k.0 k.1)) h λ k is h. rw (wider.chan c k is) h
  kind_kept (Value-F.Tuple xs) t h = maybe.then (all_some (map (kind w) (map (λ e. e.0) xs))) (λ ts. Some (ty.Tuple ts)) h λ ts are h. rw (kinds_kept xs ts are) h
  kind_kept (Value-F.Letter c x) t h = maybe.then (w.chan c) _ h λ k on h. maybe.then (kind w x.0) _ h λ s is h. rw (wider.chan c k on, x.1 s is) h
  kind_kept (Value-F.Places ps) t h = maybe.when (all_locks w ps) (Some ty.Places) h λ ok h. rw (locks ps ok) h
  kind_kept _ t h = h

  pub same-kind : (x : Value) → SameKind x
  same-kind = value_ind SameKind (λ x y is t h. kind-out v x ∙ ap (kind_layer v) is ∙ kind_kept y t (ap (kind_layer w) (sym is) ∙ sym (kind-out w x) ∙ h))

  pub record Lesser (o : Check Ty) (t : Ty) : Type 0 where
    type : Ty
    is : o ≡ Ok type
    below : sub type t ≡ true

  module _ (small large : Types) (less : Narrower small large) where
    abbrev Weak : Expr → Type 0
    Weak e = (t : Ty) → least w large e ≡ Ok t → Lesser (least v small e) t

    record LesserAll (o : Check (List Ty)) (ts : List Ty) : Type 0 where
      types : List Ty
      is : o ≡ Ok types
      below : sub_all types ts ≡ true

    weak_all : (es : List (With Expr Weak)) (ts : List Ty) → all_ok (map (λ (p : Least). p.type) (map (least_of w large) (map (λ e. e.0) es))) ≡ Ok ts
        → LesserAll (all_ok (map (λ (p : Least). p.type) (map (least_of v small) (map (λ e. e.0) es)))) ts
    weak_all [] ts h = let e : ts ≡ [] = done h in rw e (record { types = []; is = refl; below = refl })
    weak_all (e ∷ es) ts h =
        then (least w large e.0) (λ t. all_ok (map (λ (p : Least). p.type) (map (least_of w large) (map (λ e. e.0) es))) >>= λ rest. Ok (t ∷ rest)) h λ t is h.
        then (all_ok (map (λ (p : Least). p.type) (map (least_of w large) (map (λ e. e.0) es)))) (λ rest. Ok (t ∷ rest)) h λ rest are h.
        let x = e.1 t is in
        let r = weak_all es rest are in
        let same : ts ≡ t ∷ rest = done h in
        rw same (record { types = x.type ∷ r.types; is = rw (x.is, r.is) refl; below = and-in x.below r.below })

    lesser_tested : (test : TyLayer → Bool) → Down test → (e : With Expr Weak) → Tested w large test e.0 → Tested v small test e.0
    lesser_tested test down e t = let x = e.1 t.type t.is in record { type = x.type; is = x.is; passes = down x.type t.type t.passes x.below }

    record NewChannel (c : Expr) (k : Cap × Ty) : Type 0 where
      own : Cap × Ty
      on : OnChannel v small c own
      reading : reads k.0 ≡ true → (reads own.0 ≡ true) × (sub own.1 k.1 ≡ true)
      writing : writes k.0 ≡ true → (writes own.0 ≡ true) × (sub k.1 own.1 ≡ true)

    weak_channel : (c : With Expr Weak) (k : Cap × Ty) → OnChannel w large c.0 k → NewChannel c.0 k
    weak_channel c k on =
        let x = c.1 on.type on.is in
        let y = chan_below x.type on.type k on.chan x.below in
        record { own = y.chan; on = record { type = x.type; is = x.is; chan = y.is }; reading = y.reading; writing = y.writing }

    weak_sending : (c e : With Expr Weak) → Sending w large c.0 e.0 → Sending v small c.0 e.0
    weak_sending c e s =
        let x = weak_channel c s.carries s.on in
        let y = e.1 s.type s.is in
        let q = x.writing s.may_write in
        let below = sub-trans y.type s.type x.own.1 y.below (sub-trans s.type s.carries.1 x.own.1 s.below q.1) in
        record { carries = x.own; on = x.on; may_write = q.0; type = y.type; is = y.is; below = below }

    weak_test : (e : With Expr Weak) (test : TyLayer → Bool) (r : Rule) → Down test → test_of test r (least_of w large e.0) ≡ Ok tt → test_of test r (least_of v small e.0) ≡ Ok tt
    weak_test e test r down h = let t = lesser_tested test down e (tested w large test r e.0 _ h) in rw (t.is, t.passes) refl

    weak_numbers : (a b : With Expr Weak) (r t : Ty) → (number (least_of w large a.0) >> (number (least_of w large b.0) >> Ok r)) ≡ Ok t
        → Lesser (number (least_of v small a.0) >> (number (least_of v small b.0) >> Ok r)) t
    weak_numbers a b r t h =
        then (number (least_of w large a.0)) (λ _. number (least_of w large b.0) >> Ok r) h λ u first h.
        then (number (least_of w large b.0)) (λ _. Ok r) h λ u second h.
        let same : t ≡ r = done h in
        rw same (record { type = r; is = rw (weak_test a is_int rule.NotInt int_below first, weak_test b is_int rule.NotInt int_below second) refl; below = sub-itself r })

    weak_op : (o : Op) (a b : With Expr Weak) (t : Ty) → least_op o (least_of w large a.0) (least_of w large b.0) ≡ Ok t → Lesser (least_op o (least_of v small a.0) (least_of v small b.0)) t
    weak_op op.Add a b t h = weak_numbers a b ty.Int t h
    weak_op op.Sub a b t h = weak_numbers a b ty.Int t h
    weak_op op.Mul a b t h = weak_numbers a b ty.Int t h
    weak_op op.Less a b t h = weak_numbers a b ty.Bool t h
    weak_op op.Equal a b t h =
        then (least w large a.0) _ h λ s first h. when _ _ _ _ h λ ok h. then (least w large b.0) _ h λ u second h. when _ _ _ _ h λ same h.
        let x = a.1 s first in let y = b.1 u second in
        let q = weak_basic (out-Ty x.type) (out-Ty s) (out-Ty y.type) (out-Ty u) ok same (sym (sub-out x.type s) ∙ x.below) (sym (sub-out y.type u) ∙ y.below) in
        let r : t ≡ ty.Bool = done h in
        rw r (record { type = ty.Bool; is = rw (x.is, q.0, y.is, q.1) refl; below = sub-itself ty.Bool })

    weak_layer : (y : ExprHyps Weak) (at : ℕ) (t : Ty) → least_step w large (least_layer w large (expr_of Weak y)) at ≡ Ok t → Lesser (least_step v small (least_layer v small (expr_of Weak y)) at) t
    weak_layer (ExprForm-F.Val x) at t h = record { type = t; is = rw (same-kind x t (wanted _ _ _ h)) refl; below = sub-itself t }
    weak_layer (ExprForm-F.Var x) at t h = let s = less.all x t (wanted _ _ _ h) in record { type = s.type; is = rw s.is refl; below = s.below }
    weak_layer (ExprForm-F.Tuple es) at t h =
        then (all_ok (map (λ (p : Least). p.type) (map (least_of w large) (map (λ e. e.0) es)))) _ h λ ts are h. when _ _ _ _ h λ ok h.
        let r = weak_all es ts are in
        let same : t ≡ ty.Tuple ts = done h in
        let below : sub (ty.Tuple r.types) (ty.Tuple ts) ≡ true = sub-out _ _ ∙ rw (outs-Tuple r.types, outs-Tuple ts) r.below in
        let thin : narrow (ty.Tuple r.types) ≡ true = ap (λ n. nat_le n 1024) ((as_many (ty.Tuple ts) (ty.Tuple r.types)).0 below) ∙ ok in
        rw same (record { type = ty.Tuple r.types; is = rw (r.is, thin) refl; below = below })
    weak_layer (ExprForm-F.Bin o a b) at t h = weak_op o a b t h
    weak_layer (ExprForm-F.Pack a b) at t h =
        then (output (least_of w large a.0) (least_of w large b.0)) (λ _. Ok ty.Letter) h λ u sent h.
        let same : t ≡ ty.Letter = done h in
        rw same (record { type = ty.Letter; is = rw (sending-back v small a.0 b.0 (weak_sending a b (sending w large a.0 b.0 sent))) refl; below = sub-itself ty.Letter })
    weak_layer (ExprForm-F.With m a l) at t h =
        then (test_of is_places rule.Mismatch (least_of w large m.0)) _ h λ u first h.
        then (test_of is_agent rule.NotAgent (least_of w large a.0)) _ h λ u second h.
        then (test_of is_lock_type rule.Mismatch (least_of w large l.0)) _ h λ u third h.
        let same : t ≡ ty.Places = done h in
        rw same (record {
          type = ty.Places;
          is = rw (weak_test m is_places rule.Mismatch places_below first, weak_test a is_agent rule.NotAgent agent_below second, weak_test l is_lock_type rule.Mismatch lock_below third) refl;
          below = sub-itself ty.Places;
        })

    pub weak_least : (e : Expr) → Weak e
    weak_least = expr_ind Weak (λ e y is t h.
        subst (λ o. Lesser o t) (sym (least-out v small e ∙ ap (λ x. least_step v small (least_layer v small x) e.at) is))
        (weak_layer y e.at t (ap (λ x. least_step w large (least_layer w large x) e.at) (sym is) ∙ sym (least-out w large e) ∙ h)))

-- ---- patterns

record Covered (o : Check Types) (large : Types) : Type 0 where
  types : Types
  is : o ≡ Ok types
  less : Narrower types large

abbrev WeakPat : Pat → Type 0
WeakPat p = (s t : Ty) (small large inner : Types) → sub s t ≡ true → Narrower small large → cover p t large ≡ Ok inner → Covered (cover p s small) inner

weak_each : (ps : List (With Pat WeakPat)) (ss ts : List Ty) (at : ℕ) (small large inner : Types) → sub_all ss ts ≡ true → Narrower small large
    → cover_each (map cover (map (λ e. e.0) ps)) ts at large ≡ Ok inner → Covered (cover_each (map cover (map (λ e. e.0) ps)) ss at small) inner
weak_each [] [] [] at small large inner b n h = record { types = small; is = refl; less = subst (Narrower small) (sym (done h)) n }
weak_each (p ∷ ps) (s ∷ ss) (t ∷ ts) at small large inner b n h =
    then (cover p.0 t large) (cover_each (map cover (map (λ e. e.0) ps)) ts at) h λ mid first rest.
    let a = and-out _ _ b in
    let c = p.1 s t small large mid a.0 n first in
    let r = weak_each ps ss ts at c.types mid inner a.1 c.less rest in
    record { types = r.types; is = rw c.is r.is; less = r.less }
weak_each _ _ [] at small large inner b n h = absurd cc
weak_each _ _ (t ∷ ts) at small large inner b n h = absurd cc

weak_pat : (y : PatHyps WeakPat) (at : ℕ) (s t : Ty) (small large inner : Types) → sub s t ≡ true → Narrower small large
    → cover_step (cover_layer (pat_of WeakPat y)) at t large ≡ Ok inner → Covered (cover_step (cover_layer (pat_of WeakPat y)) at s small) inner
weak_pat PatForm-F.Any at s t small large inner b n h = record { types = small; is = refl; less = subst (Narrower small) (sym (done h)) n }
weak_pat (PatForm-F.Bind x) at s t small large inner b n h =
    record { types = table.insert small x s; is = refl; less = subst (Narrower (table.insert small x s)) (sym (done h)) (narrower-put small large x s t b n) }
weak_pat (PatForm-F.Tuple ps) at s t small large inner b n h =
    take _ _ _ _ h λ ts is h. when _ _ _ _ h λ long h.
    let u = tuple_below s t ts is b in
    let r = weak_each ps u.0 ts at small large inner u.2 n h in
    record { types = r.types; is = rw (u.1, long_map ps u.0 ts u.2 long) r.is; less = r.less }
  where
    long_map : (ps : List (With Pat WeakPat)) (ss ts : List Ty) → sub_all ss ts ≡ true → as_long (map cover (map (λ e. e.0) ps)) ts ≡ true → as_long (map cover (map (λ e. e.0) ps)) ss ≡ true
    long_map [] [] [] h k = refl
    long_map (p ∷ ps) (s ∷ ss) (t ∷ ts) h k = long_map ps ss ts (and-out _ _ h).1 k
    long_map _ _ [] h k = absurd cc
    long_map _ _ (t ∷ ts) h k = absurd cc

weak_cover : (p : Pat) → WeakPat p
weak_cover = pat_ind WeakPat (λ p y is s t small large inner b n h.
    subst (λ o. Covered o inner) (sym (ap (λ (g : Covering). g s small) (cover-out p ∙ ap (λ x. cover_step (cover_layer x) p.at) is)))
    (weak_pat y p.at s t small large inner b n (ap (λ x. cover_step (cover_layer x) p.at t large) (sym is) ∙ sym (ap (λ (g : Covering). g t large) (cover-out p)) ∙ h)))

-- ---- processes

module _ (w v : World) (wider : Wider w v) where
  abbrev WeakProc : Proc → Type 0
  WeakProc p = (small large : Types) → Narrower small large → Good w large p → Good v small p

  module _ (small large : Types) (n : Narrower small large) where
    pub weak_tested : (test : TyLayer → Bool) → Down test → (e : Expr) → Tested w large test e → Tested v small test e
    weak_tested test down e t = lesser_tested w v wider small large n test down (e, weak_least w v wider small large n e) t

    sends : (c e : Expr) → Sending w large c e → Sending v small c e
    sends c e s = weak_sending w v wider small large n (c, weak_least w v wider small large n c) (e, weak_least w v wider small large n e) s

    -- with one more binder, of one type in both
    more : (x : ℕ) (t : Ty) → Narrower (table.insert small x t) (table.insert large x t)
    more x t = narrower-put small large x t t (sub-itself t) n

    weak_taking : (c : Expr) (x : Pat) (p : With Proc WeakProc) → Taking w large c x p.0 → Taking v small c x p.0
    weak_taking c x p t =
        let k = weak_channel w v wider small large n (c, weak_least w v wider small large n c) t.carries t.on in
        let q = k.reading t.may_read in
        let r = weak_cover x k.own.1 t.carries.1 small large t.inner q.1 n t.covers in
        record { carries = k.own; on = k.on; may_read = q.0; inner = r.types; covers = r.is; body = p.1 r.types t.inner r.less t.body }

    weak_form : (y : ProcHyps WeakProc) → GoodForm w large (proc_of WeakProc y) → GoodForm v small (proc_of WeakProc y)
    weak_form ProcForm-F.Stop g = tt
    weak_form (ProcForm-F.Par p q) g = (p.1 small large n g.0, q.1 small large n g.1)
    weak_form (ProcForm-F.New x t p) g = record { carries = g.carries; chan = g.chan; small = g.small; body = p.1 _ _ (more x t) g.body }
    weak_form (ProcForm-F.Out c e) g = sends c e g
    weak_form (ProcForm-F.Inp c x p) g = weak_taking c x p g
    weak_form (ProcForm-F.Rep c x p) g = weak_taking c x p g
    weak_form (ProcForm-F.Agent b p q) g = (p.1 _ _ (more b ty.Agent) g.0, q.1 _ _ (more b ty.Agent) g.1)
    weak_form (ProcForm-F.Migrate e p) g = (weak_tested is_site site_below e g.0, p.1 small large n g.1)
    weak_form (ProcForm-F.IfLocal b c e p q) g = (weak_tested is_agent agent_below b g.0, sends c e g.1, p.1 small large n g.2, q.1 small large n g.3)
    weak_form (ProcForm-F.Send b s c e) g = (weak_tested is_agent agent_below b g.0, weak_tested is_site site_below s g.1, sends c e g.2)
    weak_form (ProcForm-F.Post b c e) g = (weak_tested is_agent agent_below b g.0, sends c e g.1)
    weak_form (ProcForm-F.If e p q) g = (weak_tested is_bool bool_below e g.0, p.1 small large n g.1, q.1 small large n g.2)
    weak_form (ProcForm-F.Let x e p) g =
        let y = weak_least w v wider small large n e g.type g.is in
        let r = weak_cover x y.type g.type small large g.inner y.below n g.covers in
        record { type = y.type; is = y.is; inner = r.types; covers = r.is; body = p.1 r.types g.inner r.less g.body }
    weak_form (ProcForm-F.Print e) g =
        let y = weak_least w v wider small large n e g.type g.is in
        record { type = y.type; is = y.is; shows = printable_below g.type y.type y.below g.shows }
    weak_form (ProcForm-F.Open e) g = weak_tested is_letter letter_below e g
    weak_form (ProcForm-F.Lookup a m x p q) g =
        (weak_tested is_agent agent_below a g.0, weak_tested is_places places_below m g.1, p.1 _ _ (more x lock_type) g.2, q.1 small large n g.3)

  pub weaker : (p : Proc) → WeakProc p
  weaker = proc_ind WeakProc (λ p y is small large n g.
      good-back v small p (subst (GoodForm v small) (sym is) (weak_form small large n y (subst (GoodForm w large) is (good-form w large p g)))))

pub same_world : (w : World) → Wider w w
same_world w = record { site = λ s h. h; chan = λ c k h. h }
