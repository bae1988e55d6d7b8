-- Atoms in which each value fits: what they send and take, and how they go on.
use Rattle.std.proofs.Common.{◌≡◌, true, List, Option, None, Some, Ok, refl, subst, sym, ap, ◌∙◌}
use Rattle.std.specs.FinMap as table
use Rattle.std.specs.FinMap.{get-empty}
use Rattle.np_safety.proofs.Common.{nat_cmp, Name, Value, Cap, Ty, Ty-F, Expr, Pat, Proc, same_name-is, reads, writes, sub, is_letter}
use Rattle.np_safety.proofs.Common.{is_places, World, all_locks, kind, Types, least, sub-trans, Checking, check_step, Env, eval, layer, Atom, Config, Fits}
use Rattle.np_safety.proofs.Common.{Sent, LeastOf}
use Rattle.np_syntax.specs.declared.value.Value as value
use Rattle.np_syntax.specs.declared.types.Ty.TheVariants.{outs-Chan}
use Rattle.np_syntax.specs.declared.expression.ExprForm as expr
use Rattle.np_syntax.specs.declared.process.Tag.{Tag}
use Rattle.np_syntax.specs.declared.process.ProcForm.TheVariants.{outs-Out}
use Rattle.np_syntax.proofs.Options as maybe
use Rattle.np_types.specs.declared.fault.Rule.TheVariants as rule
use Rattle.np_types.specs.Checks.{want}
use Rattle.np_types.proofs.Leasts.{least-form, least-val, output-parts}
use Rattle.np_eval.specs.Eval.{bind, chan_of, letter_of, places_of, as_letter, as_places}
use Rattle.np_eval.specs.Forms.{as_out}
use Rattle.np_calculus.specs.Reductions.{sends, output_in}
use Rattle.np_calculus.specs.Seen.{offered}
use Rattle.np_eval.proofs.FormsByParts.{out-form}
use Rattle.np_calculus.specs.Reductions as made
use Rattle.np_calculus.proofs.Steps.{offered-step}
use Rattle.np_safety.proofs.Fitting.{Agrees, FittingAtom, FittingAtoms}
use Rattle.np_safety.proofs.Shapes.{chan_value, fits-below, value_as}
use Rattle.np_safety.proofs.Evaluates.{evaluates, chan-kind}
use Rattle.np_safety.proofs.Matches.{Bound, matches}
use Rattle.np_safety.proofs.Forms.{OnChannel, Tested, Sending, Taking, checks, check-out, good-as}

pub same_answer : {A : Type 0} {o : Option A} {x y : A} → o ≡ Some x → o ≡ Some y → x ≡ y
same_answer e f = maybe.done (sym f ∙ e)

-- a channel, and both bounds on what it carries
pub record Owned (w : World) (n : Name) (k : Cap × Ty) : Type 0 where
  pub own : Cap × Ty
  pub carries : w.chan n ≡ Some own
  pub reading : reads k.0 ≡ true → (reads own.0 ≡ true) × (sub own.1 k.1 ≡ true)
  pub writing : writes k.0 ≡ true → (writes own.0 ≡ true) × (sub k.1 own.1 ≡ true)

-- an expression's channel
pub record Found (w : World) (c : Expr) (env : Env) (k : Cap × Ty) : Type 0 where
  pub name : Name
  pub is : chan_of c env ≡ Some name
  pub owned : Owned w name k

module _ (w : World) (env : Env) (types : Types) (agrees : Agrees w env types) where
  pub find : (c : Expr) (k : Cap × Ty) → OnChannel w types c k → Found w c env k
  find c k on =
      let v = evaluates w env types agrees c on.type on.is in
      let n = chan_value w v.value on.type k v.fits on.chan in
      record { name = n.name; is = rw (v.is, n.is) refl; owned = record { own = n.own; carries = n.carries; reading = n.reading; writing = n.writing } }

  pub owns : (c : Expr) (k : Cap × Ty) (n : Name) → OnChannel w types c k → chan_of c env ≡ Some n → Owned w n k
  owns c k n on h = let f = find c k on in subst (λ n. Owned w n k) (same_answer f.is h) f.owned

  -- the value of an expression fits the expression's type
  pub fits-value : (e : Expr) (t : Ty) (v : Value) → least w types e ≡ Ok t → eval e env ≡ Some v → Fits w v t
  fits-value e t v is gives = let y = evaluates w env types agrees e t is in subst (λ v. Fits w v t) (same_answer y.is gives) y.fits

  pub sent_on : (c x : Expr) (n : Name) (v : Value) → Sending w types c x → chan_of c env ≡ Some n → eval x env ≡ Some v → Sent w n v
  sent_on c x n v s on gives =
      let o = owns c s.carries n s.on on in
      let f = fits-value x s.type v s.is gives in
      let q = o.writing s.may_write in
      record { own = o.own; carries = o.carries; may_write = q.0; fits = fits-below w v s.type o.own.1 f (sub-trans s.type s.carries.1 o.own.1 s.below q.1) }

  -- what an input takes off its channel matches its pattern
  pub takes : (c : Expr) (x : Pat) (p : Proc) (n : Name) (v : Value) → (t : Taking w types c x p) → chan_of c env ≡ Some n → Sent w n v → Bound w (bind x v env) t.inner
  takes c x p n v t on s =
      let o = owns c t.carries n t.on on in
      let same : s.own ≡ o.own = same_answer s.carries o.carries in
      let f : Fits w v o.own.1 = subst (λ (k : Cap × Ty). Fits w v k.1) same s.fits in
      matches w x v t.carries.1 env types t.inner (fits-below w v o.own.1 t.carries.1 f (o.reading t.may_read).1) agrees t.covers

  -- the value of a letter fits the letter's channel
  pub letter_sent : (e : Expr) (l : Name × Value) → Tested w types is_letter e → letter_of e env ≡ Some l → Sent w l.0 l.1
  letter_sent e l t h = maybe.then (eval e env) _ h λ v gives h.
      let k = value_as w v Ty-F.Letter t.type (fits-value e t.type v t.is gives) t.passes in
      let same : k.0 ≡ l = same_answer (ap as_letter k.1) h in
      subst (λ (l : Name × Value). Sent w l.0 l.1) same (record { own = k.2; carries = k.3; may_write = k.4; fits = k.5 })

  -- each channel of a map of places is a lock channel
  pub places_locked : (e : Expr) (ps : List (Name × Name)) → Tested w types is_places e → places_of e env ≡ Some ps → all_locks w ps ≡ true
  places_locked e ps t h = maybe.then (eval e env) _ h λ v gives h.
      let k = value_as w v Ty-F.Places t.type (fits-value e t.type v t.is gives) t.passes in
      let same : k.0 ≡ ps = same_answer (ap as_places k.1) h in
      subst (λ ps. all_locks w ps ≡ true) same k.2

pub bound-as : (w : World) (o : Option Env) (env : Env) (inner : Types) → Bound w o inner → o ≡ Some env → Agrees w env inner
bound-as w o env inner b h = subst (λ e. Agrees w e inner) (same_answer b.is h) b.agrees

-- what an output sends
pub sends-typed : (w : World) (a : Atom) (s : Name × Value) → FittingAtom w a → sends a ≡ Some s → Sent w s.0 s.1
sends-typed w a s t h =
    maybe.then (as_out (layer a.proc)) _ h λ parts form h. maybe.then (chan_of parts.0 a.env) _ h λ n on h. maybe.then (eval parts.1 a.env) _ h λ v gives h.
    let same : s ≡ (n, v) = maybe.done h in
    let g = good-as w t.types a.proc _ (out-form (layer a.proc) parts form) t.good in
    rw same (sent_on w a.env t.types t.agrees parts.0 parts.1 n v g on gives)

-- what an atom of a mark offers on a channel
pub offered-typed : (w : World) (c : Config) (mark agent chan : Name) (v : Value) → FittingAtoms w c.atoms → offered c mark agent chan ≡ Some v → Sent w chan v
offered-typed w c mark agent chan v i h =
    let o = offered-step c mark agent chan v h in
    let s = sends-typed w o.mate o.sent (i mark o.mate o.waits) o.sends_it in
    subst (λ n. Sent w n v) (sym (same_name-is chan o.sent.0 o.agree)) (subst (λ v. Sent w o.sent.0 v) (sym o.is) s)

least_none : (w : World) (o : Option Value) (p : Option Ty) → o ≡ None → p ≡ None → LeastOf w o p
least_none w None None h k = tt
least_none w None (Some t) h k = absurd cc
least_none w (Some v) p h k = absurd cc

-- no binder has a value or a type
pub nothing-agrees : (w : World) → Agrees w table.empty table.empty
nothing-agrees w = record {
  known = record { types = table.empty; least = record { each = λ x. least_none w _ _ (get-empty nat_cmp x) (get-empty nat_cmp x) } };
  all = λ x t h. absurd (let e = sym (get-empty nat_cmp x) ∙ h in cc);
}

value-least : (w : World) (types : Types) (v : Value) (t : Ty) → kind w v ≡ Some t → least w types (record { at = 0; form = expr.Val v }) ≡ Ok t
value-least w types v t h = least-form w types _ ∙ least-val w types 0 v ∙ ap (λ o. want o 0 rule.Mismatch) h

-- an output that an event makes
pub made-typed : (w : World) (agent n : Name) (v : Value) (tag : Tag) → Sent w n v → FittingAtom w (output_in agent n v tag)
made-typed w agent n v tag s =
    let c : Expr = record { at = 0; form = expr.Val (value.Chan n) } in
    let x : Expr = record { at = 0; form = expr.Val v } in
    record {
      types = table.empty;
      agrees = nothing-agrees w;
      good =
          ap (λ (f : Checking). f table.empty) (check-out w (made.output n v tag))
          ∙ ap (λ y. check_step w (checks w y) 0 table.empty) (outs-Out _ _)
          ∙ output-parts w table.empty c x
          ∙ rw (value-least w table.empty (value.Chan n) _ (chan-kind w n s.own s.carries), outs-Chan s.own.0 s.own.1, s.may_write, value-least w table.empty v s.fits.type s.fits.is, s.fits.below) refl;
    }
