-- A translated process has no fault where its source has none.
use Rattle.std.proofs.Common.{◌≡◌, ℕ, ◌+◌, ◌≤◌, ◌<◌, Bool, true, false, not, cond, Option, None, Some, Ok, map, List, [], ◌∷◌, refl, subst, sym, ap, ◌∙◌, arith}
use Rattle.std.specs.Prelude.{nat_lt}
use Rattle.std.specs.FinMap as table
use Rattle.std.specs.Ordering.{nat_cmp, eq_by_cmp, is_eq}
use Rattle.std.specs.Cmp.{tied_itself, nat_cmp_total}
use Rattle.np_syntax.specs.declared.types.Ty.{Ty, out-Ty}
use Rattle.np_syntax.specs.declared.types.Ty as ty
use Rattle.np_syntax.specs.declared.expression.Expr.{Expr}
use Rattle.np_syntax.specs.declared.pattern.Pat.{Pat}
use Rattle.np_syntax.specs.declared.pattern.PatForm.{PatForm-F}
use Rattle.np_syntax.specs.declared.process.Tag.{Tag}
use Rattle.np_syntax.specs.declared.process.Proc.{Proc}
use Rattle.np_syntax.specs.declared.process.ProcForm.{ProcForm, ProcForm-F, map-ProcForm}
use Rattle.np_syntax.specs.declared.process.ProcForm as form
use Rattle.np_syntax.specs.declared.process.ProcForm.TheVariants.{outs-Stop, outs-Par, outs-New, outs-Out, outs-Inp, outs-Rep, outs-IfLocal, outs-Send, outs-If, outs-Let, outs-Print, outs-Open, outs-Lookup}
use Rattle.np_syntax.proofs.Bools.{and-out}
use Rattle.np_syntax.proofs.Options as maybe
use Rattle.np_syntax.proofs.Results.{then, done}
use Rattle.np_syntax.proofs.Trees.{With, PatHyps, pat_of, pat_ind}
use Rattle.np_types.specs.declared.fault.Rule.TheVariants as rule
use Rattle.np_types.specs.Sub.{is_agent, as_tuple}
use Rattle.np_syntax.specs.Results.{◌>>◌}
use Rattle.np_types.specs.Checks.{ensure}
use Rattle.np_types.specs.Worlds.{World}
use Rattle.np_types.specs.Least.{Types}
use Rattle.np_types.specs.Covers.{Covering, cover, cover_each, cover_step, as_long}
use Rattle.np_types.proofs.Below.{agent_below}
use Rattle.np_types.proofs.Covers.{cover_layer, cover-out}
use Rattle.np_types.proofs.Subs.{sub-itself, sub-trans}
use Rattle.np_types.proofs.Passed.{when, take}
use Rattle.np_eval.specs.Forms.{Layer, layer}
use Rattle.np_check.specs.Faults.{lock_type}
use Rattle.np_safety.proofs.Forms.{Good, GoodForm, Tested, good-form}
use Rattle.np_safety.proofs.Narrowing.{Narrower, weaker, weak_tested, narrower-put, same_world}
use Rattle.np_safety.proofs.Processes.{ProcHyps, proc_of, proc_ind}
use Rattle.daemon_encode.specs.declared.translated.Translated.{Translated}
use Rattle.infrastructure_texts.specs.Pieces.{variable}
use Rattle.daemon_encode.specs.Encoded.{Translation, around_both, translate_step, translated, translated_form}
use Rattle.np_safety.proofs.Widening.{itself}
use Rattle.daemon_encode.proofs.Binding.{Free, without, taken, taken_all, taken_step, after, clean, clean_step, Takes, takens, taken-out, Cleans, cleans, clean-out}
use Rattle.daemon_encode.proofs.DaemonTyped.{low}
use Rattle.daemon_encode.proofs.Forms.{translated-form, translated-layer}
use Rattle.daemon_encode.proofs.Making.{slot_here, slot_past, good-made, an_agent}
use Rattle.daemon_encode.proofs.TextsTyped.{created, good-post, good-migrate, good-agent}

-- a binder that no one has yet
pub newer : (types : Types) (s : ℕ) (t : Ty) → table.get types s ≡ None → Narrower (table.insert types s t) types
newer types s t none = record { all = λ x u h. record { type = u; is = slot_past types s t x (λ e. differs x u e h) ∙ h; below = sub-itself u } }
  where
    differs : (x : ℕ) (u : Ty) → x ≡ s → table.get types x ≡ Some u → ⊥
    differs x u e h = let y = sym none ∙ ap (table.get types) (sym e) ∙ h in cc

-- the binders that have types, those that may be bound, and those that nobody has
pub record Room (types : Types) (free : Free) (k : ℕ) : Type 0 where
  pub unbound : (x : ℕ) → free x ≡ true → table.get types x ≡ None
  pub small : (x : ℕ) → free x ≡ true → x < k
  pub fresh : (x : ℕ) → k ≤ x → table.get types x ≡ None

other : (y x : ℕ) → not (eq_by_cmp nat_cmp y x) ≡ true → y ≡ x → ⊥
other y x h e =
    let r : not (eq_by_cmp nat_cmp x x) ≡ true = subst (λ y. not (eq_by_cmp nat_cmp y x) ≡ true) e h in
    let s : not (is_eq (nat_cmp x x)) ≡ false = rw (tied_itself nat_cmp_total x) refl in
    let c : true ≡ false = sym r ∙ s in
    cc

pub room-bind : (types : Types) (free : Free) (k x : ℕ) (t : Ty) → free x ≡ true → Room types free k → Room (table.insert types x t) (without free x) k
room-bind types free k x t f r = record {
  unbound = λ y h. let a = and-out (free y) (not (eq_by_cmp nat_cmp y x)) h in slot_past types x t y (other y x a.1) ∙ r.unbound y a.0;
  small = λ y h. r.small y (and-out (free y) (not (eq_by_cmp nat_cmp y x)) h).0;
  fresh = λ y h. slot_past types x t y (λ e. let l = r.small x f in omega (arith, e)) ∙ r.fresh y h;
}

pub room-new : (types : Types) (free : Free) (k : ℕ) (t : Ty) → Room types free k → Room (table.insert types k t) free (k + 1)
room-new types free k t r = record {
  unbound = λ y h. slot_past types k t y (λ e. let l = r.small y h in omega (arith, e)) ∙ r.unbound y h;
  small = λ y h. let l = r.small y h in omega arith;
  fresh = λ y h. slot_past types k t y (λ e. omega (arith, e)) ∙ r.fresh y (omega arith);
}

pub room-rise : (types : Types) (free : Free) (k j : ℕ) → k ≤ j → Room types free k → Room types free j
room-rise types free k j l r = record { unbound = r.unbound; small = λ y h. let s = r.small y h in omega arith; fresh = λ y h. r.fresh y (omega arith) }

pub both-narrower : (a b c : Types) → Narrower a b → Narrower b c → Narrower a c
both-narrower a b c h k = record { all = λ x t is. let y = k.all x t is in let z = h.all x y.type y.is in record { type = z.type; is = z.is; below = sub-trans z.type y.type t z.below y.below } }

module _ (k : ℕ) where
  abbrev Keeps : Pat → Type 0
  Keeps p = (t : Ty) (types inner : Types) (free left : Free) → Room types free k → taken p free ≡ Some left → cover p t types ≡ Ok inner → Room inner left k × Narrower inner types

  keeps_all : (ps : List (With Pat Keeps)) (ts : List Ty) (o : ℕ) (types inner : Types) (free left : Free) → Room types free k
      → taken_all (map taken (map (λ e. e.0) ps)) free ≡ Some left → cover_each (map cover (map (λ e. e.0) ps)) ts o types ≡ Ok inner → Room inner left k × Narrower inner types
  keeps_all [] [] o types inner free left r h c = let e : inner ≡ types = done c in let f : left ≡ free = maybe.done h in rw (e, f) (r, itself types)
  keeps_all (p ∷ ps) (t ∷ ts) o types inner free left r h c =
      maybe.then (taken p.0 free) (taken_all (map taken (map (λ e. e.0) ps))) h λ mid first h.
      then (cover p.0 t types) (cover_each (map cover (map (λ e. e.0) ps)) ts o) c λ between second c.
      let x = p.1 t types between free mid r first second in
      let y = keeps_all ps ts o between inner mid left x.0 h c in
      (y.0, both-narrower inner between types y.1 x.1)
  keeps_all [] (t ∷ ts) o types inner free left r h c = absurd cc
  keeps_all (p ∷ ps) [] o types inner free left r h c = absurd cc

  keep_bind : (x : ℕ) (t : Ty) (types inner : Types) (free left : Free) (b : Bool) → free x ≡ b → Room types free k
      → cond b (Some (without free x)) None ≡ Some left → inner ≡ table.insert types x t → Room inner left k × Narrower inner types
  keep_bind x t types inner free left true e r h is =
      let f : left ≡ without free x = maybe.done h in
      rw (is, f) (room-bind types free k x t e r, newer types x t (r.unbound x e))
  keep_bind x t types inner free left false e r h is = absurd cc

  keeps_layer : (y : PatHyps Keeps) (o : ℕ) (t : Ty) (types inner : Types) (free left : Free) → Room types free k
      → taken_step (takens (pat_of Keeps y)) free ≡ Some left → cover_step (cover_layer (pat_of Keeps y)) o t types ≡ Ok inner → Room inner left k × Narrower inner types
  keeps_layer PatForm-F.Any o t types inner free left r h c = let e : inner ≡ types = done c in let f : left ≡ free = maybe.done h in rw (e, f) (r, itself types)
  keeps_layer (PatForm-F.Bind x) o t types inner free left r h c = keep_bind x t types inner free left (free x) refl r h (done c)
  keeps_layer (PatForm-F.Tuple ps) o t types inner free left r h c =
      take (as_tuple (out-Ty t)) o rule.Shape (λ ts. ensure (as_long (map cover (map (λ e. e.0) ps)) ts) o rule.Shape >> cover_each (map cover (map (λ e. e.0) ps)) ts o types) c λ ts is c.
      when (as_long (map cover (map (λ e. e.0) ps)) ts) o rule.Shape (cover_each (map cover (map (λ e. e.0) ps)) ts o types) c λ long c. keeps_all ps ts o types inner free left r h c

  keeps : (p : Pat) → Keeps p
  keeps = pat_ind Keeps (λ p y is t types inner free left r h c. keeps_layer y p.at t types inner free left r
      (sym (ap (λ (g : Takes). g free) (taken-out p ∙ ap (λ x. taken_step (takens x)) is)) ∙ h)
      (sym (ap (λ (g : Covering). g t types) (cover-out p ∙ ap (λ x. cover_step (cover_layer x) p.at) is)) ∙ c))

module _ (n : ℕ) (some : nat_lt 0 n ≡ true) where
  abbrev pub w : World
  w = low n

  abbrev Steps : Type 0
  Steps = Tag → ℕ → Translation

  abbrev steps : Layer → ProcForm-F Steps Translation
  steps y = map-ProcForm ProcForm Proc Steps Translation (translated_form n) (translated n) y

  translated-out : (p : Proc) (a : Expr) (k : ℕ) → translated n p a k ≡ translate_step n (steps (layer p)) p.tag p.at a k
  translated-out p a k = translated-form n p a k ∙ translated-layer n p.form p.tag p.at a k

  pub record Done (types : Types) (k : ℕ) (r : Translated) : Type 0 where
    pub good : Good w types r.proc
    pub next : k ≤ r.next

  -- what is known where a process is translated
  pub record Place (types : Types) (free : Free) (a : Expr) (k : ℕ) : Type 0 where
    pub room : Room types free k
    pub agent : Tested w types is_agent a

  abbrev pub Keep : Proc → Type 0
  Keep p = (types : Types) (free : Free) (a : Expr) (k : ℕ) → Place types free a k → clean p free ≡ true → Good w types p → Done types k (translated n p a k)

  pub moved : (small large : Types) → Narrower small large → (a : Expr) → Tested w large is_agent a → Tested w small is_agent a
  moved small large less a t = weak_tested w w (same_world w) small large less is_agent agent_below a t

  pub inside : (types : Types) (free : Free) (a : Expr) (k x : ℕ) (t : Ty) → free x ≡ true → Place types free a k → Place (table.insert types x t) (without free x) a k
  inside types free a k x t f pl = record { room = room-bind types free k x t f pl.room; agent = moved _ types (newer types x t (pl.room.unbound x f)) a pl.agent }

  pub later : (types : Types) (free : Free) (a : Expr) (k j : ℕ) → k ≤ j → Place types free a k → Place types free a j
  later types free a k j l pl = record { room = room-rise types free k j l pl.room; agent = pl.agent }

  pub covered : (x : Pat) (t : Ty) (types inner : Types) (free left : Free) (a : Expr) (k : ℕ) → Place types free a k → taken x free ≡ Some left → cover x t types ≡ Ok inner → Place inner left a k
  covered x t types inner free left a k pl h c = let r = keeps k x t types inner free left pl.room h c in record { room = r.0; agent = moved inner types r.1 a pl.agent }

  pub after_out : (o : Option Free) (p : Free → Bool) → after o p ≡ true → (left : Free) × (o ≡ Some left) × (p left ≡ true)
  after_out None p h = absurd cc
  after_out (Some left) p h = (left, refl, h)

  pub two_done : (types tp tq : Types) (k : ℕ) (f : Proc → Proc → ProcForm) (tag : Tag) (o : ℕ) (p q : Translation) (a : Expr)
      → ((p' q' : Proc) → Good w tp p' → Good w tq q' → Good w types (record { tag = tag; at = o; form = f p' q' }))
      → Done tp k (p a k) → ((j : ℕ) → k ≤ j → Done tq j (q a j)) → Done types k (around_both f tag o p q a k)
  two_done types tp tq k f tag o p q a make d e =
      let s = e (p a k).next d.next in
      let on : k ≤ (p a k).next = d.next in
      let further : (p a k).next ≤ (q a (p a k).next).next = s.next in
      record { good = make (p a k).proc (q a (p a k).next).proc d.good s.good; next = omega (arith, on, further) }

  keep_layer : (y : ProcHyps Keep) (t : Tag) (o : ℕ) (types : Types) (free : Free) (a : Expr) (k : ℕ) → Place types free a k
      → clean_step (cleans (proc_of Keep y)) free ≡ true → GoodForm w types (proc_of Keep y) → Done types k (translate_step n (steps (proc_of Keep y)) t o a k)
  keep_layer ProcForm-F.Stop t o types free a k pl c g = record { good = good-made w types _ _ outs-Stop tt; next = omega arith }
  keep_layer (ProcForm-F.Par p q) t o types free a k pl c g = let b = and-out _ _ c in
      two_done types types types k (form.Par) t o (translated n p.0) (translated n q.0) a (λ p' q' x y. good-made w types _ _ (outs-Par p' q') (x, y)) (p.1 types free a k pl b.0 g.0)
      (λ j l. q.1 types free a j (later types free a k j l pl) b.1 g.1)
  keep_layer (ProcForm-F.New x ty p) t o types free a k pl c g = let b = and-out _ _ c in
      let d = p.1 _ _ a k (inside types free a k x ty b.0 pl) b.1 g.body in
      record { good = good-made w types _ _ (outs-New x ty _) (record { carries = g.carries; chan = g.chan; small = g.small; body = d.good }); next = d.next }
  keep_layer (ProcForm-F.Out x e) t o types free a k pl c g = record { good = good-made w types _ _ (outs-Out x e) g; next = omega arith }
  keep_layer (ProcForm-F.Inp x q p) t o types free a k pl c g = let b = after_out (taken q free) (clean p.0) c in
      let d = p.1 g.inner b.0 a k (covered q g.carries.1 types g.inner free b.0 a k pl b.1 g.covers) b.2 g.body in
      record { good = good-made w types _ _ (outs-Inp x q _) (record { carries = g.carries; on = g.on; may_read = g.may_read; inner = g.inner; covers = g.covers; body = d.good }); next = d.next }
  keep_layer (ProcForm-F.Rep x q p) t o types free a k pl c g = let b = after_out (taken q free) (clean p.0) c in
      let d = p.1 g.inner b.0 a k (covered q g.carries.1 types g.inner free b.0 a k pl b.1 g.covers) b.2 g.body in
      record { good = good-made w types _ _ (outs-Rep x q _) (record { carries = g.carries; on = g.on; may_read = g.may_read; inner = g.inner; covers = g.covers; body = d.good }); next = d.next }
  keep_layer (ProcForm-F.Agent x p q) t o types free a k pl c g =
      let none : table.get types k ≡ None = pl.room.fresh k (omega arith) in
      let b = and-out _ _ c in
      let d = and-out _ _ b.1 in
      let first = table.insert types k ty.Site in
      let inner = created n some types k x in
      let below : x < k = pl.room.small x b.0 in
      let less : Narrower inner (table.insert types x ty.Agent) = narrower-put first types x ty.Agent ty.Agent (sub-itself ty.Agent) (newer types k ty.Site none) in
      let room : Room inner (without free x) (k + 1) = room-bind first free (k + 1) x ty.Agent b.0 (room-new types free k ty.Site pl.room) in
      let mine : Tested w inner is_agent (variable x) = an_agent w inner x (slot_here first x ty.Agent) in
      let r = p.1 inner (without free x) (variable x) (k + 1) (record { room = room; agent = mine }) d.0 (weaker w w (same_world w) p.0 inner (table.insert types x ty.Agent) less g.0) in
      let j = (translated n p.0 (variable x) (k + 1)).next in
      let up : k + 1 ≤ j = r.next in
      let theirs : Tested w inner is_agent a =
      moved inner first (newer first x ty.Agent (slot_past types k ty.Site x (λ e. omega (arith, e, below)) ∙ pl.room.unbound x b.0)) a (moved first types (newer types k ty.Site none) a pl.agent) in
      let u =
      q.1 inner (without free x) a (j + 2) (record { room = room-rise inner (without free x) (k + 1) (j + 2) (omega (arith, up)) room; agent = theirs }) d.1
      (weaker w w (same_world w) q.0 inner (table.insert types x ty.Agent) less g.1) in
      let on : j + 2 ≤ (translated n q.0 a (j + 2)).next = u.next in
      record {
        good = good-agent n some types t.node a x k j (j + 1) _ _ (λ e. omega (arith, e, below)) (λ e. omega (arith, e, below, up)) (λ e. omega (arith, e, below, up)) (λ e. omega (arith, e)) theirs r.good u.good;
        next = omega (arith, up, on);
      }
  keep_layer (ProcForm-F.Migrate e p) t o types free a k pl c g =
      let d = p.1 types free a k pl c g.1 in record { good = good-migrate n some types t.node a e _ pl.agent g.0 d.good; next = d.next }
  keep_layer (ProcForm-F.IfLocal b x e p q) t o types free a k pl c g = let h = and-out _ _ c in
      two_done types types types k (form.IfLocal b x e) t o (translated n p.0) (translated n q.0) a (λ p' q' y z. good-made w types _ _ (outs-IfLocal b x e p' q') (g.0, g.1, y, z)) (p.1 types free a k pl h.0 g.2)
      (λ j l. q.1 types free a j (later types free a k j l pl) h.1 g.3)
  keep_layer (ProcForm-F.Send b s x e) t o types free a k pl c g = record { good = good-made w types _ _ (outs-Send b s x e) g; next = omega arith }
  keep_layer (ProcForm-F.Post b x e) t o types free a k pl c g = record { good = good-post n some types t.node b x e g.0 g.1; next = omega arith }
  keep_layer (ProcForm-F.If e p q) t o types free a k pl c g = let h = and-out _ _ c in
      two_done types types types k (form.If e) t o (translated n p.0) (translated n q.0) a (λ p' q' y z. good-made w types _ _ (outs-If e p' q') (g.0, y, z)) (p.1 types free a k pl h.0 g.1)
      (λ j l. q.1 types free a j (later types free a k j l pl) h.1 g.2)
  keep_layer (ProcForm-F.Let q e p) t o types free a k pl c g = let b = after_out (taken q free) (clean p.0) c in
      let d = p.1 g.inner b.0 a k (covered q g.type types g.inner free b.0 a k pl b.1 g.covers) b.2 g.body in
      record { good = good-made w types _ _ (outs-Let q e _) (record { type = g.type; is = g.is; inner = g.inner; covers = g.covers; body = d.good }); next = d.next }
  keep_layer (ProcForm-F.Print e) t o types free a k pl c g = record { good = good-made w types _ _ (outs-Print e) g; next = omega arith }
  keep_layer (ProcForm-F.Open e) t o types free a k pl c g = record { good = good-made w types _ _ (outs-Open e) g; next = omega arith }
  keep_layer (ProcForm-F.Lookup b m x p q) t o types free a k pl c g = let h = and-out _ _ c in let i = and-out _ _ h.1 in
      two_done types (table.insert types x lock_type) types k (form.Lookup b m x) t o (translated n p.0) (translated n q.0) a (λ p' q' y z. good-made w types _ _ (outs-Lookup b m x p' q') (g.0, g.1, y, z))
      (p.1 _ _ a k (inside types free a k x lock_type h.0 pl) i.0 g.2)
      (λ j l. q.1 types free a j (later types free a k j l pl) i.1 g.3)

  pub translated-good : (p : Proc) → Keep p
  translated-good = proc_ind Keep (λ p y is types free a k pl c g.
      subst (Done types k) (sym (translated-out p a k ∙ ap (λ x. translate_step n (steps x) p.tag p.at a k) is))
      (keep_layer y p.tag p.at types free a k pl (sym (ap (λ (f : Cleans). f free) (clean-out p ∙ ap (λ x. clean_step (cleans x)) is)) ∙ c) (subst (GoodForm w types) is (good-form w types p g))))
