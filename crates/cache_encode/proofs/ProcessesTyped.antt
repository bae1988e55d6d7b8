-- A process that is translated for agents with caches has no fault where its source has none.
use Rattle.std.proofs.Common.{◌≡◌, ℕ, ◌+◌, ◌≤◌, ◌<◌, true, None, subst, sym, ap, ◌∙◌, arith}
use Rattle.std.specs.Prelude.{nat_lt}
use Rattle.std.specs.FinMap as table
use Rattle.np_syntax.specs.declared.types.Ty as ty
use Rattle.np_syntax.specs.declared.expression.Expr.{Expr}
use Rattle.np_syntax.specs.declared.process.Tag.{Tag}
use Rattle.np_syntax.specs.declared.process.Proc.{Proc}
use Rattle.np_syntax.specs.declared.process.ProcForm.{ProcForm, ProcForm-F, map-ProcForm}
use Rattle.np_syntax.specs.declared.process.ProcForm as form
use Rattle.np_syntax.specs.declared.process.ProcForm.TheVariants.{outs-Stop, outs-Par, outs-New, outs-Out, outs-Inp, outs-Rep, outs-IfLocal, outs-Send, outs-Post}
use Rattle.np_syntax.specs.declared.process.ProcForm.TheVariants.{outs-If, outs-Let, outs-Print, outs-Open, outs-Lookup}
use Rattle.np_syntax.proofs.Bools.{and-out}
use Rattle.np_types.specs.Sub.{is_agent}
use Rattle.np_types.specs.Worlds.{World}
use Rattle.np_types.specs.Least.{Types}
use Rattle.np_types.proofs.Subs.{sub-itself}
use Rattle.np_eval.specs.Forms.{Layer, layer}
use Rattle.np_check.specs.Faults.{lock_type}
use Rattle.np_safety.proofs.Forms.{Good, GoodForm, Tested, good-form}
use Rattle.np_safety.proofs.Narrowing.{Narrower, weaker, narrower-put, same_world}
use Rattle.np_safety.proofs.Processes.{ProcHyps, proc_of, proc_ind}
use Rattle.infrastructure_texts.specs.Pieces.{variable}
use Rattle.daemon_encode.specs.Encoded.{Translation}
use Rattle.daemon_encode.proofs.Binding.{Free, without, taken, clean, clean_step, Cleans, cleans, clean-out}
use Rattle.daemon_encode.proofs.DaemonTyped.{low}
use Rattle.daemon_encode.proofs.Making.{slot_here, slot_past, good-made, an_agent}
use Rattle.daemon_encode.proofs.ProcessesTyped.{Room, Place, Done, newer, room-bind, room-new, room-rise, both-narrower, moved, inside, later, covered, after_out, two_done}
use Rattle.daemon_encode.proofs.TextsTyped.{created, good-migrate}
use Rattle.cache_encode.specs.Encoded.{cached_step, cached, cached_form}
use Rattle.cache_encode.proofs.Forms.{cached-form, cached-layer}
use Rattle.cache_encode.proofs.TextsTyped.{with_map, with_hint, with_site, with_messenger, Sends, good-post, good-agent}

module _ (n : ℕ) (some : nat_lt 0 n ≡ true) where
  -- the parts of a post, where binders that it makes are bound
  sends-at : (large small : Types) (a : Expr) (p : Proc) (b c v : Expr) → layer p ≡ ProcForm-F.Post b c v → Narrower small large → Tested (low n) large is_agent a → Good (low n) large p
      → Sends n some small a b c v
  sends-at large small a p b c v is less t g =
      let f = subst (GoodForm (low n) small) is (good-form (low n) small p (weaker (low n) (low n) (same_world (low n)) p small large less g)) in
      record { from = moved n some small large less a t; to = f.0; letter = f.1 }

  pub sends-where : (types : Types) (free : Free) (a : Expr) (k : ℕ) (p : Proc) (b c v : Expr) → layer p ≡ ProcForm-F.Post b c v → Place n some types free a k → Good (low n) types p
      → Sends n some (with_map types k) a b c v × Sends n some (with_messenger types k) a b c v
  sends-where types free a k p b c v is pl g =
      let map = with_map types k in
      let hint = with_hint types k in
      let site = with_site types k in
      let r1 : Room map free (k + 1) = room-new types free k ty.Places pl.room in
      let r2 : Room hint free (k + 2) = room-rise hint free (k + 1 + 1) (k + 2) (omega arith) (room-new map free (k + 1) lock_type r1) in
      let r3 : Room site free (k + 3) = room-rise site free (k + 2 + 1) (k + 3) (omega arith) (room-new hint free (k + 2) ty.Site r2) in
      let m1 : Narrower map types = newer types k ty.Places (pl.room.fresh k (omega arith)) in
      let m2 : Narrower hint types = both-narrower hint map types (newer map (k + 1) lock_type (r1.fresh (k + 1) (omega arith))) m1 in
      let m3 : Narrower site types = both-narrower site hint types (newer hint (k + 2) ty.Site (r2.fresh (k + 2) (omega arith))) m2 in
      let m4 : Narrower (with_messenger types k) types = both-narrower (with_messenger types k) site types (newer site (k + 3) ty.Agent (r3.fresh (k + 3) (omega arith))) m3 in
      (sends-at types map a p b c v is m1 pl.agent g, sends-at types (with_messenger types k) a p b c v is m4 pl.agent g)

module _ (n : ℕ) (some : nat_lt 0 n ≡ true) where
  abbrev w : World
  w = low n

  abbrev Steps : Type 0
  Steps = Tag → ℕ → Translation

  abbrev steps : Layer → ProcForm-F Steps Translation
  steps y = map-ProcForm ProcForm Proc Steps Translation (cached_form n) (cached n) y

  cached-out : (p : Proc) (a : Expr) (k : ℕ) → cached n p a k ≡ cached_step n (steps (layer p)) p.tag p.at a k
  cached-out p a k = cached-form n p a k ∙ cached-layer n p.form p.tag p.at a k

  abbrev pub Keep : Proc → Type 0
  Keep p = (types : Types) (free : Free) (a : Expr) (k : ℕ) → Place n some types free a k → clean p free ≡ true → Good w types p → Done n some types k (cached n p a k)

  keep_layer : (y : ProcHyps Keep) (t : Tag) (o : ℕ) (types : Types) (free : Free) (a : Expr) (k : ℕ) → Place n some types free a k
      → clean_step (cleans (proc_of Keep y)) free ≡ true → GoodForm w types (proc_of Keep y) → Done n some types k (cached_step n (steps (proc_of Keep y)) t o a k)
  keep_layer ProcForm-F.Stop t o types free a k pl c g = record { good = good-made w types _ _ outs-Stop tt; next = omega arith }
  keep_layer (ProcForm-F.Par p q) t o types free a k pl c g = let b = and-out _ _ c in
      two_done n some types types types k (form.Par) t o (cached n p.0) (cached n q.0) a (λ p' q' x y. good-made w types _ _ (outs-Par p' q') (x, y)) (p.1 types free a k pl b.0 g.0)
      (λ j l. q.1 types free a j (later n some types free a k j l pl) b.1 g.1)
  keep_layer (ProcForm-F.New x ty p) t o types free a k pl c g = let b = and-out _ _ c in
      let d = p.1 _ _ a k (inside n some types free a k x ty b.0 pl) b.1 g.body in
      record { good = good-made w types _ _ (outs-New x ty _) (record { carries = g.carries; chan = g.chan; small = g.small; body = d.good }); next = d.next }
  keep_layer (ProcForm-F.Out x e) t o types free a k pl c g = record { good = good-made w types _ _ (outs-Out x e) g; next = omega arith }
  keep_layer (ProcForm-F.Inp x q p) t o types free a k pl c g = let b = after_out n some (taken q free) (clean p.0) c in
      let d = p.1 g.inner b.0 a k (covered n some q g.carries.1 types g.inner free b.0 a k pl b.1 g.covers) b.2 g.body in
      record { good = good-made w types _ _ (outs-Inp x q _) (record { carries = g.carries; on = g.on; may_read = g.may_read; inner = g.inner; covers = g.covers; body = d.good }); next = d.next }
  keep_layer (ProcForm-F.Rep x q p) t o types free a k pl c g = let b = after_out n some (taken q free) (clean p.0) c in
      let d = p.1 g.inner b.0 a k (covered n some q g.carries.1 types g.inner free b.0 a k pl b.1 g.covers) b.2 g.body in
      record { good = good-made w types _ _ (outs-Rep x q _) (record { carries = g.carries; on = g.on; may_read = g.may_read; inner = g.inner; covers = g.covers; body = d.good }); next = d.next }
  keep_layer (ProcForm-F.Agent x p q) t o types free a k pl c g =
      let none : table.get types k ≡ None = pl.room.fresh k (omega arith) in
      let b = and-out _ _ c in
      let d = and-out _ _ b.1 in
      let first = table.insert types k ty.Site in
      let inner = created n some types k x in
      let below : x < k = pl.room.small x b.0 in
      let less : Narrower inner (table.insert types x ty.Agent) = narrower-put first types x ty.Agent ty.Agent (sub-itself ty.Agent) (newer types k ty.Site none) in
      let room : Room inner (without free x) (k + 1) = room-bind first free (k + 1) x ty.Agent b.0 (room-new types free k ty.Site pl.room) in
      let mine : Tested w inner is_agent (variable x) = an_agent w inner x (slot_here first x ty.Agent) in
      let r = p.1 inner (without free x) (variable x) (k + 1) (record { room = room; agent = mine }) d.0
      (weaker w w (same_world w) p.0 inner (table.insert types x ty.Agent) less g.0) in
      let j = (cached n p.0 (variable x) (k + 1)).next in
      let up : k + 1 ≤ j = r.next in
      let theirs : Tested w inner is_agent a =
      moved n some inner first (newer first x ty.Agent (slot_past types k ty.Site x (λ e. omega (arith, e, below)) ∙ pl.room.unbound x b.0)) a
      (moved n some first types (newer types k ty.Site none) a pl.agent) in
      let u =
      q.1 inner (without free x) a (j + 7) (record { room = room-rise inner (without free x) (k + 1) (j + 7) (omega (arith, up)) room; agent = theirs }) d.1
      (weaker w w (same_world w) q.0 inner (table.insert types x ty.Agent) less g.1) in
      let on : j + 7 ≤ (cached n q.0 a (j + 7)).next = u.next in
      record {
        good = good-agent n some types t.node a x k j (j + 1) (j + 2) _ _ (λ e. omega (arith, e, below)) (λ e. omega (arith, e, below, up)) (λ e. omega (arith, e, below, up)) (λ e. omega (arith, e)) theirs r.good u.good;
        next = omega (arith, up, on);
      }
  keep_layer (ProcForm-F.Migrate e p) t o types free a k pl c g =
      let d = p.1 types free a k pl c g.1 in record { good = good-migrate n some types t.node a e _ pl.agent g.0 d.good; next = d.next }
  keep_layer (ProcForm-F.IfLocal b x e p q) t o types free a k pl c g = let h = and-out _ _ c in
      two_done n some types types types k (form.IfLocal b x e) t o (cached n p.0) (cached n q.0) a (λ p' q' y z. good-made w types _ _ (outs-IfLocal b x e p' q') (g.0, g.1, y, z))
      (p.1 types free a k pl h.0 g.2)
      (λ j l. q.1 types free a j (later n some types free a k j l pl) h.1 g.3)
  keep_layer (ProcForm-F.Send b s x e) t o types free a k pl c g = record { good = good-made w types _ _ (outs-Send b s x e) g; next = omega arith }
  keep_layer (ProcForm-F.Post b x e) t o types free a k pl c g =
      let made : Proc = record { tag = t; at = o; form = form.Post b x e } in
      let s = sends-where n some types free a k made b x e (outs-Post b x e) pl (good-made w types made _ (outs-Post b x e) g) in
      record { good = good-post n some types t.node a b x e k s.0 s.1; next = omega arith }
  keep_layer (ProcForm-F.If e p q) t o types free a k pl c g = let h = and-out _ _ c in
      two_done n some types types types k (form.If e) t o (cached n p.0) (cached n q.0) a (λ p' q' y z. good-made w types _ _ (outs-If e p' q') (g.0, y, z)) (p.1 types free a k pl h.0 g.1)
      (λ j l. q.1 types free a j (later n some types free a k j l pl) h.1 g.2)
  keep_layer (ProcForm-F.Let q e p) t o types free a k pl c g = let b = after_out n some (taken q free) (clean p.0) c in
      let d = p.1 g.inner b.0 a k (covered n some q g.type types g.inner free b.0 a k pl b.1 g.covers) b.2 g.body in
      record { good = good-made w types _ _ (outs-Let q e _) (record { type = g.type; is = g.is; inner = g.inner; covers = g.covers; body = d.good }); next = d.next }
  keep_layer (ProcForm-F.Print e) t o types free a k pl c g = record { good = good-made w types _ _ (outs-Print e) g; next = omega arith }
  keep_layer (ProcForm-F.Open e) t o types free a k pl c g = record { good = good-made w types _ _ (outs-Open e) g; next = omega arith }
  keep_layer (ProcForm-F.Lookup b m x p q) t o types free a k pl c g = let h = and-out _ _ c in let i = and-out _ _ h.1 in
      two_done n some types (table.insert types x lock_type) types k (form.Lookup b m x) t o (cached n p.0) (cached n q.0) a
      (λ p' q' y z. good-made w types _ _ (outs-Lookup b m x p' q') (g.0, g.1, y, z))
      (p.1 _ _ a k (inside n some types free a k x lock_type h.0 pl) i.0 g.2)
      (λ j l. q.1 types free a j (later n some types free a k j l pl) i.1 g.3)

  pub cached-good : (p : Proc) → Keep p
  cached-good = proc_ind Keep (λ p y is types free a k pl c g.
      subst (Done n some types k) (sym (cached-out p a k ∙ ap (λ x. cached_step n (steps x) p.tag p.at a k) is))
      (keep_layer y p.tag p.at types free a k pl (sym (ap (λ (f : Cleans). f free) (clean-out p ∙ ap (λ x. clean_step (cleans x)) is)) ∙ c)
      (subst (GoodForm w types) is (good-form w types p g))))
