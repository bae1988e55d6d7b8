-- The daemon makes a lock for a new agent, and enters it in its map.
use Rattle.std.proofs.Common.{◌≡◌, inl, inr, ◌+◌, ℕ, Bool, true, false, cond, ◌||◌, is_some, None, Some, List, [], ◌∷◌, refl, sym, ap, subst, ◌∙◌, arith}
use Rattle.std.specs.List.{All, AllByRecursion, list_any}
use Rattle.std.proofs.lemmas.List.Elements.{All-from_recursion, All-weaker, recursion_from_All}
use Rattle.std.specs.FinMap as map
use Rattle.std.specs.FinSet as set
use Rattle.np_syntax.specs.declared.value.Name.{Name}
use Rattle.np_syntax.specs.declared.value.Value as value
use Rattle.np_syntax.specs.declared.value.Value.TheVariants as outs
use Rattle.np_syntax.specs.declared.types.Ty.{Ty}
use Rattle.np_syntax.specs.declared.expression.Expr.{Expr}
use Rattle.np_syntax.specs.declared.process.Proc.{Proc}
use Rattle.np_syntax.specs.declared.process.Role.TheVariants as role
use Rattle.np_syntax.specs.declared.process.ProcForm.{ProcForm-F}
use Rattle.np_syntax.specs.declared.process.ProcForm.TheVariants as forms
use Rattle.np_syntax.specs.declared.event.Event.{Event}
use Rattle.np_syntax.specs.declared.event.Kind.TheVariants as kind
use Rattle.np_syntax.specs.declared.event.Made.TheVariants as made
use Rattle.np_syntax.specs.Options.{◌>>=◌}
use Rattle.np_syntax.specs.Reordering.{and_then, behind, swapped}
use Rattle.np_syntax.proofs.Options.{then, done}
use Rattle.np_tables.specs.Names.{NameMap, same_name}
use Rattle.np_tables.proofs.Tables.{born_here, get-put, put_here, same_name-is, same_name-swap}
use Rattle.np_calculus.specs.declared.config.Atom.{Atom}
use Rattle.np_calculus.specs.Begins.{begun_by}
use Rattle.np_calculus.specs.Changes.{effect, put, still, with_made}
use Rattle.np_calculus.specs.Config.{Config}
use Rattle.np_calculus.specs.Reductions.{apply, goes_under, row}
use Rattle.np_calculus.specs.Starts.{main_agent, own, own_names}
use Rattle.np_calculus.proofs.Rows.{parts}
use Rattle.np_calculus.proofs.OwnNames.{not_true}
use Rattle.np_eval.specs.Eval.{Env, eval, find_place, put_place}
use Rattle.np_eval.specs.Forms.{Layer, layer}
use Rattle.np_eval.proofs.Evals.{eval-form, eval-with}
use Rattle.np_check.specs.Faults.{lock_type}
use Rattle.simulate_laws.specs.protocol.Chips.{Chip, Service}
use Rattle.simulate_laws.specs.protocol.Phases.{Phase}
use Rattle.simulate_laws.specs.protocol.Protocol.{IsTrueOf, Protocol}
use Rattle.simulate_laws.specs.protocol.Rules.{Rule}
use Rattle.simulate_laws.specs.protocol.Scenes.{Locks, changed, with_lock}
use Rattle.simulate_laws.specs.protocol.Steps.{Step}
use Rattle.simulate_laws.proofs.protocol.Keeps.{keeps-protocol}
use Rattle.simulate_laws.proofs.protocol.Steps.{all_taken}
use Rattle.infrastructure_texts.specs.Pieces.{ack, beside, gives, lock, unit, variable}
use Rattle.infrastructure_texts.specs.Daemon.{acks, enters, with_lock as with_text}
use Rattle.infrastructure_texts.specs.Infrastructures.{Infrastructure}
use Rattle.infrastructure_texts.specs.CacheTexts.{cache}
use Rattle.simulate_laws.specs.things.Acting.{begins}
use Rattle.simulate_laws.specs.things.Desks.{Took, desk}
use Rattle.simulate_laws.specs.things.Mail.{Mail}
use Rattle.simulate_laws.specs.things.Shapes.{Are, Is, IsLooking, IsAgents}
use Rattle.simulate_laws.specs.things.Things.{Stage, Thing, first_atom_of, first_packet_of, high_atom, show_all, shows, shows_caches}
use Rattle.simulate_laws.specs.things.CacheShapes.{IsAdding}
use Rattle.simulate_laws.specs.levels.Coupled.{Coupled, IsShaped, KnowsOnly, View, chips, is_channel, is_child_of, may_know, scene, IsCarrier}
use Rattle.simulate_laws.proofs.levels.Becomes.{cancel, becomes}
use Rattle.np_calculus.proofs.BornKept.{born-kept, made-kept}
use Rattle.simulate_laws.proofs.levels.Letters.{same-letters}
use Rattle.simulate_laws.proofs.levels.Marks.{may_know_more, reshape, step_at, same_chips}
use Rattle.simulate_laws.proofs.levels.Orders.{permuted}
use Rattle.simulate_laws.proofs.levels.Quiet.{any_kept, knows_more, or_cases, or_second, quiet_with}
use Rattle.simulate_laws.proofs.levels.Shapes.{of_actor, same_role}
use Rattle.simulate_laws.proofs.levels.Values.{channel-is, here_is, there_is, unit-is, variable-is, gives_two}
use Rattle.simulate_laws.proofs.levels.Caches.{handed_on, by_step, carry_put}
use Rattle.simulate_laws.specs.levels.Letters.{SameLetters}
use Rattle.simulate_laws.specs.protocol.CacheSteps.{CacheStep}
use Rattle.simulate_laws.proofs.levels.Naming.{IsNaming, naming}

new_parts : (x y : ℕ) (t u : Ty) (p q : Proc) → ◌≡◌ {A = Layer} (ProcForm-F.New x t p) (ProcForm-F.New y u q) → (p ≡ q) × (x ≡ y)
new_parts x y t u p q same = (cc, cc)

-- the map with an agent entered
find-put : (ps : List (Name × Name)) (b l a : Name) → find_place (put_place ps b l) a ≡ cond (same_name a b) (Some l) (find_place ps a)
find-put [] b l a = ap (λ t. cond t (Some l) None) (same_name-swap b a)
find-put (p ∷ ps) b l a = go (same_name p.0 b) refl (find-put ps b l a)
  where
    go : (t : Bool) → same_name p.0 b ≡ t → find_place (put_place ps b l) a ≡ cond (same_name a b) (Some l) (find_place ps a)
        → find_place (cond t ((b, l) ∷ ps) (p ∷ put_place ps b l)) a ≡ cond (same_name a b) (Some l) (cond (same_name p.0 a) (Some p.1) (find_place ps a))
    go true e rest = ap (λ t. cond t (Some l) (find_place ps a)) (same_name-swap b a) ∙ at (same_name a b) refl
      where
        at : (u : Bool) → same_name a b ≡ u → cond u (Some l) (find_place ps a) ≡ cond u (Some l) (cond (same_name p.0 a) (Some p.1) (find_place ps a))
        at true f = refl
        at false f = sym (ap (λ t. cond t (Some p.1) (find_place ps a)) (ap (λ x. same_name x a) (same_name-is p.0 b e) ∙ same_name-swap b a ∙ f))
    go false e rest = ap (λ o. cond (same_name p.0 a) (Some p.1) o) rest ∙ at (same_name p.0 a) (same_name a b) refl refl
      where
        at : (t u : Bool) → same_name p.0 a ≡ t → same_name a b ≡ u → cond t (Some p.1) (cond u (Some l) (find_place ps a)) ≡ cond u (Some l) (cond t (Some p.1) (find_place ps a))
        at true true f g = absurd (let bad : false ≡ true = sym e ∙ ap (λ x. same_name x b) (same_name-is p.0 a f) ∙ g in cc)
        at true false f g = refl
        at false u f g = refl

-- the value of (m with a -> l)
with-is : (m a l : ℕ) (env : Env) (ps : List (Name × Name)) (b k : Name) → map.get env m ≡ Some (value.Places ps) → map.get env a ≡ Some (value.Agent b) → map.get env l ≡ Some (value.Chan k)
    → eval (with_text m a l) env ≡ Some (value.Places (put_place ps b k))
with-is m a l env ps b k x y z =
    rw (eval-form (with_text m a l) env, eval-with (variable m) (variable a) (variable l) env, variable-is m env, x, variable-is a env, y, variable-is l env, z, outs.outs-Places ps, outs.outs-Agent b, outs.outs-Chan k) refl

module _ {i : Infrastructure} {n from first : ℕ} {low high : Config} {v : View} (c : Coupled i n from first low high v) where
  entered : (e : Event) (next : Config) (s : IsNaming low e next) (b : Name) (t : ℕ) (ps : List (Name × Name)) → IsLooking n first (Mail.register b t) ps s.atom
      → s.atom.proc ≡ (desk n first Service.registers).body → Took first Service.registers (Mail.register b t) s.atom.env
      → map.get s.atom.env (first + 2) ≡ Some (value.Places ps) → map.get low.packets e.actor ≡ None → map.get v.things e.actor ≡ Some (Thing.looking (Mail.register b t) ps ∷ []) → apply low e ≡ Some next
      → (w : View) × (w.standing ≡ v.standing) × Coupled i n from first next high w × SameLetters v w
  entered e next s b t ps looks text took map_is no_packet there h = (
    record v { things = things; lock = lock_now; phase = protocol.0 },
    refl,
    quiet_with c next things lock_now protocol.0 (record {
      sites = ap (λ (d : Config). d.sites) s.is;
      places = λ q _. ap (λ (d : Config). map.get d.places q) s.is;
      said = ap (λ (d : Config). d.said) s.is;
      born = still_born;
      stand_born = born-kept low next e c.stand_born h;
      shaped = λ q. shaped q (same_name q e.actor) refl;
      atoms = λ q. atoms q (same_name q e.actor) refl;
      packets = λ q. packets q (same_name q e.actor) refl;
      protocol = protocol.1;
      locks_born = λ a k j. lock_born a k (same_name a b) j;
      locks_apart = λ a k j o. lock_apart a k (same_name a b) j o;
      main = entered_some (main_agent n) c.main;
      known = λ q vs j. known q vs (same_name q e.actor) refl j;
      hints = by_step low high next high v.things things
          (step_at shows_caches v.things e.actor (Thing.looking (Mail.register b t) ps ∷ []) us there) (handed_on low high next);
      carriers = carry_put v.standing.messengers v.things e.actor c.carriers us (All-from_recursion (IsCarrier v.standing.messengers) us (tt, (tt, (tt, tt))));
    }),
    same-letters v.things e.actor us (Thing.looking (Mail.register b t) ps ∷ []) there refl,
  )
    where
      env : Env
      env = map.insert s.atom.env (first + 3) (value.Chan s.new)

      texts : ◌≡◌ {A = Layer} (ProcForm-F.New s.binder s.type s.body) (ProcForm-F.New (first + 3) lock_type (enters n first (first + 1) (first + 2) (first + 3)))
      texts = sym s.form ∙ ap layer text ∙ forms.outs-New (first + 3) lock_type (enters n first (first + 1) (first + 2) (first + 3))

      body : s.body ≡ enters n first (first + 1) (first + 2) (first + 3)
      body = (new_parts s.binder (first + 3) s.type lock_type s.body (enters n first (first + 1) (first + 2) (first + 3)) texts).0

      binder : s.binder ≡ first + 3
      binder = (new_parts s.binder (first + 3) s.type lock_type s.body (enters n first (first + 1) (first + 2) (first + 3)) texts).1

      low_atom : Atom
      low_atom = goes_under s.atom (enters n first (first + 1) (first + 2) (first + 3)) env

      is : next ≡ effect low e (record still { atoms = put e.actor low_atom ∷ [] })
      is = s.is ∙ ap (λ x. effect low e (record still { atoms = put e.actor (goes_under s.atom s.body (map.insert s.atom.env x (value.Chan s.new))) ∷ [] })) binder
          ∙ ap (λ x. effect low e (record still { atoms = put e.actor (goes_under s.atom x env) ∷ [] })) body

      us : List Thing
      us = Thing.places (put_place ps b s.new) ∷ Thing.free s.new t ∷ Thing.mail (Mail.ack b t) (Stage.in_agent s.atom.agent) ∷ []

      things : NameMap (List Thing)
      things = map.insert v.things e.actor us

      lock_now : Locks
      lock_now = changed v.lock b (Some s.new)

      step : Step (chips v.things) (chips things) (show_all (Thing.looking (Mail.register b t) ps ∷ [])) (show_all us)
      step = step_at shows v.things e.actor (Thing.looking (Mail.register b t) ps ∷ []) us there

      told : AllByRecursion (IsTrueOf (scene v high) v.phase) (Chip.locks (find_place ps) ∷ Chip.registration b t ∷ [])
      told = recursion_from_All (IsTrueOf (scene v high) v.phase) (Chip.locks (find_place ps) ∷ Chip.registration b t ∷ []) (all_taken step (IsTrueOf (scene v high) v.phase) c.protocol.true_chips)

      no_such : (a : Name) → v.lock a ≡ Some s.new → ⊥
      no_such a j = let bad : false ≡ true = sym s.is_new ∙ c.locks_born a s.new j in cc

      protocol : (then : Name → Phase) × Protocol (with_lock (scene v high) b s.new) then (chips things)
      protocol = keeps-protocol (scene v high) (with_lock (scene v high) b s.new) v.phase (chips v.things) (chips things) (Chip.registration b t ∷ Chip.locks (find_place ps) ∷ [])
          (Chip.ack_sent b t ∷ Chip.locks (find_place (put_place ps b s.new)) ∷ Chip.free s.new t ∷ [])
          (Rule.registers {b = b} {l = s.new} {s = t} {m = find_place ps} {n = find_place (put_place ps b s.new)} no_such (λ a. find-put ps b s.new a ∙ ap (λ o. cond (same_name a b) (Some s.new) o) (told.0 a)))
          (cancel (Chip.registration b t ∷ Chip.locks (find_place ps) ∷ []) (Chip.ack_sent b t ∷ Chip.locks (find_place (put_place ps b s.new)) ∷ Chip.free s.new t ∷ []) [] step
          (permuted swapped) (permuted (and_then (behind swapped) swapped))) c.protocol

      still_born : (q : Name) → set.contains low.born q ≡ true → set.contains next.born q ≡ true
      still_born q j = ap (λ (d : Config). set.contains d.born q) s.is ∙ made-kept low.born e.made q j

      new_born : set.contains next.born s.new ≡ true
      new_born = ap (λ (d : Config). set.contains d.born s.new) s.is ∙ ap (λ m. set.contains (with_made low.born m) s.new) s.made_one ∙ born_here low.born s.new

      lock_born : (a k : Name) (u : Bool) → cond u (Some s.new) (v.lock a) ≡ Some k → set.contains next.born k ≡ true
      lock_born a k true j = ap (set.contains next.born) (done j) ∙ new_born
      lock_born a k false j = still_born k (c.locks_born a k j)

      lock_apart : (a k : Name) (u : Bool) → cond u (Some s.new) (v.lock a) ≡ Some k → set.contains (own_names n) k ≡ true → k ≡ own n 13
      lock_apart a k true j o = absurd (let bad : false ≡ true = sym s.is_new ∙ c.born s.new (c.own_born s.new (ap (set.contains (own_names n)) (sym (done j)) ∙ o)) in cc)
      lock_apart a k false j o = c.locks_apart a k j o

      entered_some : (a : Name) → is_some (v.lock a) ≡ true → is_some (lock_now a) ≡ true
      entered_some a j = go (same_name a b)
        where
          go : (u : Bool) → is_some (cond u (Some s.new) (v.lock a)) ≡ true
          go true = refl
          go false = j

      unchanged : (q : Name) → same_name q e.actor ≡ false → map.get things q ≡ map.get v.things q
      unchanged q f = get-put v.things e.actor us q ∙ ap (λ x. cond x (Some us) (map.get v.things q)) f

      its : (q : Name) → same_name q e.actor ≡ true → map.get things q ≡ Some us
      its q f = get-put v.things e.actor us q ∙ ap (λ x. cond x (Some us) (map.get v.things q)) f

      was : (q : Name) → same_name q e.actor ≡ true → map.get v.things q ≡ Some (Thing.looking (Mail.register b t) ps ∷ [])
      was q f = ap (map.get v.things) (same_name-is q e.actor f) ∙ there

      agent_is : map.get env first ≡ Some (value.Agent b)
      agent_is = there_is s.atom.env (first + 3) first (value.Chan s.new) (λ e. let bad : ⊥ = omega arith in bad) ∙ took.0

      site_is : map.get env (first + 1) ≡ Some (value.Site t)
      site_is = there_is s.atom.env (first + 3) (first + 1) (value.Chan s.new) (λ e. let bad : ⊥ = omega arith in bad) ∙ took.1

      places_is : map.get env (first + 2) ≡ Some (value.Places ps)
      places_is = there_is s.atom.env (first + 3) (first + 2) (value.Chan s.new) (λ e. let bad : ⊥ = omega arith in bad) ∙ map_is

      lock_is : map.get env (first + 3) ≡ Some (value.Chan s.new)
      lock_is = here_is s.atom.env (first + 3) (value.Chan s.new)

      are : Are i n from first low_atom us
      are = Are.both {k = 0} {p = beside 0 (gives 0 (lock n) (with_text (first + 2) first (first + 3))) (gives 0 (variable (first + 3)) (variable (first + 1)))} {q = acks n first (first + 1)} refl
          (Are.both {k = 0} {p = gives 0 (lock n) (with_text (first + 2) first (first + 3))} {q = gives 0 (variable (first + 3)) (variable (first + 1))} refl
          (Are.one (record {
            agent = looks.agent;
            gives = rw (
              forms.outs-Out (lock n) (with_text (first + 2) first (first + 3)),
              channel-is (own n 10) env,
              with-is (first + 2) first
                  (first + 3) env ps b s.new places_is agent_is lock_is,
            ) refl;
          }))
          (Are.one (record { agent = looks.agent; gives = gives_two s.atom.agent 0 (first + 3) (first + 1) env s.new (value.Site t) lock_is site_is })))
          (Are.one (
            record {
              agent = refl;
              receiver = variable first;
              to = variable (first + 1);
              chan = ack n;
              sent = unit;
              role = refl;
              is = forms.outs-Send (variable first) (variable (first + 1)) (ack n) unit;
              for_agent = rw (variable-is first env, agent_is, outs.outs-Agent b) refl;
              for_site = variable-is (first + 1) env ∙ site_is;
              on = channel-is (own n 7) env;
              holds = unit-is env;
            },
            tt,
          ))

      shaped : (q : Name) (u : Bool) → same_name q e.actor ≡ u → IsShaped i n from first next things q
      shaped q true f = subst (IsShaped i n from first next things) (sym (same_name-is q e.actor f))
          (IsShaped.atom (ap (λ (d : Config). map.get d.atoms e.actor) is ∙ put_here low.atoms e.actor low_atom) (ap (λ (d : Config). map.get d.packets e.actor) is ∙ no_packet) (put_here v.things e.actor us)
          (All-from_recursion (λ u. high_atom u ≡ None) (Thing.free s.new t ∷ Thing.mail (Mail.ack b t) (Stage.in_agent s.atom.agent) ∷ []) (refl, (refl, tt))) are)
      shaped q false f = reshape q (ap (λ (d : Config). map.get d.atoms q) is ∙ get-put low.atoms e.actor low_atom q ∙ ap (λ x. cond x (Some low_atom) (map.get low.atoms q)) f)
          (ap (λ (d : Config). map.get d.packets q) is) (unchanged q f) (c.shaped q)

      atoms : (q : Name) (u : Bool) → same_name q e.actor ≡ u → (map.get things q >>= first_atom_of) ≡ (map.get v.things q >>= first_atom_of)
      atoms q true f = ap (λ o. o >>= first_atom_of) (its q f) ∙ sym (ap (λ o. o >>= first_atom_of) (was q f))
      atoms q false f = ap (λ o. o >>= first_atom_of) (unchanged q f)

      packets : (q : Name) (u : Bool) → same_name q e.actor ≡ u → (map.get things q >>= first_packet_of) ≡ (map.get v.things q >>= first_packet_of)
      packets q true f = ap (λ o. o >>= first_packet_of) (its q f) ∙ sym (ap (λ o. o >>= first_packet_of) (was q f))
      packets q false f = ap (λ o. o >>= first_packet_of) (unchanged q f)

      lock_more : (x : Thing) (a : Name) → may_know v.lock (chips things) x a ≡ true → may_know lock_now (chips things) x a ≡ true
      lock_more (Thing.settling y hi u) a k = elim (or_cases _ (list_any (is_child_of hi.agent a) (chips things)) k) [ inl j ↦ ap (λ o. o || list_any (is_child_of hi.agent a) (chips things)) (entered_some a j) | inr j ↦ or_second _ _ j ]
      lock_more (Thing.beginning y hi p u) a k = elim (or_cases _ (same_name a hi.agent) k) [ inl j ↦ ap (λ o. o || same_name a hi.agent) (entered_some a j) | inr j ↦ or_second _ _ j ]
      lock_more _ a k = entered_some a k

      known : (q : Name) (vs : List Thing) (u : Bool) → same_name q e.actor ≡ u → map.get things q ≡ Some vs → All (λ t. KnowsOnly (may_know lock_now (chips things) t) (is_channel n high.born) from t) vs
      known q vs true f j = subst (All (λ t. KnowsOnly (may_know lock_now (chips things) t) (is_channel n high.born) from t)) (sym (done (sym (its q f) ∙ j)))
          (All-from_recursion (λ t. KnowsOnly (may_know lock_now (chips things) t) (is_channel n high.born) from t) us (tt, (tt, (tt, tt))))
      known q vs false f j = All-weaker (λ t. KnowsOnly (may_know v.lock (chips v.things) t) (is_channel n high.born) from t) (λ t. KnowsOnly (may_know lock_now (chips things) t) (is_channel n high.born) from t)
          (λ x k. knows_more (may_know v.lock (chips v.things) x) (may_know lock_now (chips things) x) (is_channel n high.born) from
          (λ a m. lock_more x a (may_know_more v.lock (chips v.things) (chips things) (λ y z any. any_kept (is_child_of y z) step (λ w. w) any) x a m)) x k)
          vs (c.known q vs (sym (unchanged q f) ∙ j))

  -- a hint is added to an agent's cache
  added : (e : Event) (next : Config) (s : IsNaming low e next) → i ≡ Infrastructure.cached → (a : Name) (ps : List (Name × Name)) (b : Name) → IsAdding n a ps b s.atom → IsAgents n a
      → map.get low.packets e.actor ≡ None → map.get v.things e.actor ≡ Some (Thing.adding a ps b ∷ []) → apply low e ≡ Some next
      → (w : View) × (w.standing ≡ v.standing) × Coupled i n from first next high w × SameLetters v w
  added e next s cached a ps b j apart no_packet there h =
      let left : Proc = gives j.node (cache n) (with_text (j.x + 2) j.x (j.x + 4)) in
      let right : Proc = gives j.node (variable (j.x + 4)) (variable (j.x + 1)) in
      let parts = new_parts s.binder (j.x + 4) s.type lock_type s.body (beside j.node left right)
      (sym s.form ∙ ap layer j.is ∙ forms.outs-New (j.x + 4) lock_type (beside j.node left right)) in
      let env : Env = map.insert s.atom.env (j.x + 4) (value.Chan s.new) in
      let goes_as : goes_under s.atom s.body (map.insert s.atom.env s.binder (value.Chan s.new)) ≡ goes_under s.atom (beside j.node left right) env =
      ap (λ (p : Proc). goes_under s.atom p (map.insert s.atom.env s.binder (value.Chan s.new))) parts.0
      ∙ ap (λ x. goes_under s.atom (beside j.node left right) (map.insert s.atom.env x (value.Chan s.new))) parts.1 in
      let kept = λ (y : ℕ) (other : y ≡ j.x + 4 → ⊥). there_is s.atom.env (j.x + 4) y (value.Chan s.new) other in
      let lock_is = here_is s.atom.env (j.x + 4) (value.Chan s.new) in
      becomes c next e e.actor (goes_under s.atom (beside j.node left right) env) (Thing.adding a ps b ∷ []) (Thing.cache a (put_place ps b s.new) ∷ Thing.hint a s.new ∷ []) refl (record {
        applies = h;
        is = s.is ∙ ap (λ x. effect low e (record still { atoms = put e.actor x ∷ [] })) goes_as;
        no_packet = no_packet;
        there = there;
        headed = All-from_recursion (λ u. high_atom u ≡ None) (Thing.hint a s.new ∷ []) (refl, tt);
        are = Are.both {k = j.node} {p = left} {q = right} refl
            (Are.one (
              cached,
              record {
                agent = j.answer.agent;
                gives = rw (
                  forms.outs-Out (cache n) (with_text (j.x + 2) j.x (j.x + 4)),
                  channel-is (own n 14) env,
                  with-is (j.x + 2) j.x (j.x + 4) env ps b s.new
                      (kept (j.x + 2) (λ e. let bad : ⊥ = omega arith in bad) ∙ j.holds) (kept j.x (λ e. let bad : ⊥ = omega arith in bad) ∙ j.other) lock_is,
                ) refl;
              },
              apart,
            ))
            (Are.one (
              cached,
              (
                j.answer.site,
                record {
                  agent = j.answer.agent;
                  gives = gives_two s.atom.agent j.node (j.x + 4) (j.x + 1) env s.new j.answer.site lock_is
                      (kept (j.x + 1) (λ e. let bad : ⊥ = omega arith in bad) ∙ j.answer.its_site);
                },
              ),
              apart,
            ));
        atoms = refl;
        packets = refl;
        protocol = λ step. same_chips step c.protocol;
        children = λ a b any. any;
        known = λ k. (tt, (tt, tt));
        hints = λ is. CacheStep.adds (λ q. refl) (new_born, high_new) b (λ q. find-put ps b s.new q);
        carriers = λ k. (tt, (tt, tt));
      })
    where
      new_born : set.contains next.born s.new ≡ true
      new_born = ap (λ (d : Config). set.contains d.born s.new) s.is ∙ ap (λ m. set.contains (with_made low.born m) s.new) s.made_one ∙ born_here low.born s.new

      high_new : set.contains high.born s.new ≡ false
      high_new = not_true (set.contains high.born s.new) (λ t. let bad : false ≡ true = sym s.is_new ∙ c.born s.new t in cc)

  pub registers : (e : Event) (next : Config) → e.kind ≡ kind.New → e.tag.role ≡ role.Infra → apply low e ≡ Some next
      → (w : View) × (w.standing ≡ v.standing) × Coupled i n from first next high w × SameLetters v w
  registers e next is_new infra h =
      let s = naming low e next (ap (λ k. row k low e) (sym is_new) ∙ h) in
      let o = of_actor c e.actor s.atom kind.New role.Infra s.acts.there (ap begun_by s.form) (same_role s.atom.proc.tag e.tag s.acts.tag ∙ infra) (λ k r. cc) in
      by_thing s o.thing o.is o.its_kind o.no_packet o.there
    where
      no_new : {A : Type 0} (e : Event) (next : Config) (s : IsNaming low e next) (a m : Expr) (x : ℕ) (p q : Proc) → layer s.atom.proc ≡ ProcForm-F.Lookup a m x p q → A
      no_new e next s a m x p q j = absurd (let bad = sym s.form ∙ j in cc)

      by_service : (e : Event) (next : Config) (s : IsNaming low e next) (m : Mail) (ps : List (Name × Name)) → IsLooking n first m ps s.atom → (k : Service)
          → Took first k m s.atom.env → map.get s.atom.env (desk n first k).map ≡ Some (value.Places ps)
          → s.atom.proc ≡ (desk n first k).body → map.get low.packets e.actor ≡ None → map.get v.things e.actor ≡ Some (Thing.looking m ps ∷ []) → apply low e ≡ Some next
          → (w : View) × (w.standing ≡ v.standing) × Coupled i n from first next high w × SameLetters v w
      by_service e next s (Mail.register b t) ps i Service.registers took map_is text no_packet there h = entered e next s b t ps i text took map_is no_packet there h
      by_service e next s m ps i Service.grants took map_is text no_packet there h = no_new e next s _ _ _ _ _ (ap layer text ∙ forms.outs-Lookup _ _ _ _ _)
      by_service e next s m ps i Service.notes_moves took map_is text no_packet there h = no_new e next s _ _ _ _ _ (ap layer text ∙ forms.outs-Lookup _ _ _ _ _)
      by_service e next s m ps i Service.passes_on took map_is text no_packet there h = no_new e next s _ _ _ _ _ (ap layer text ∙ forms.outs-Lookup _ _ _ _ _)
      by_service e next s m ps i Service.tells took map_is text no_packet there h = no_new e next s _ _ _ _ _ (ap layer text ∙ forms.outs-Lookup _ _ _ _ _)
      by_service e next s m ps i Service.ends_deliveries took map_is text no_packet there h = no_new e next s _ _ _ _ _ (ap layer text ∙ forms.outs-Lookup _ _ _ _ _)
      by_service e next s _ ps i Service.registers took map_is text no_packet there h = absurd took

      by_thing : (s : IsNaming low e next) (t : Thing) → Is i n from first t s.atom → begins t role.Infra kind.New ≡ true → map.get low.packets e.actor ≡ None
          → map.get v.things e.actor ≡ Some (t ∷ []) → (w : View) × (w.standing ≡ v.standing) × Coupled i n from first next high w × SameLetters v w
      by_thing s (Thing.looking m ps) j b no_packet there = by_service e next s m ps j j.service j.took j.map j.is no_packet there h
      by_thing s (Thing.adding a ps y) j b no_packet there = added e next s j.0 a ps y j.1 j.2 no_packet there h
      by_thing s (Thing.mail m (Stage.in_agent x)) j b no_packet there = absurd cc
      by_thing s _ j b no_packet there = absurd cc
