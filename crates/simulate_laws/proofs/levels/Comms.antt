-- The communications of the infrastructure: with the daemon's map and agents' locks, with acknowledgements, and with `currentloc`.
use Rattle.std.proofs.Common.{◌≡◌, ◌⊎◌, inl, inr, ◌+◌, ◌≤◌, ℕ, Bool, true, false, ◌||◌, ◌&&◌, is_some, None, Some, List, [], ◌∷◌, ◌++◌, refl, sym, ap, subst, ◌∙◌, arith}
use Rattle.std.specs.List.{list_any, sum_by}
use Rattle.std.proofs.lemmas.List.Sorted.{IsPermutation-refl, list_any-IsPermutation}
use Rattle.std.proofs.lemmas.List.Sums.{sum_by-cons}
use Rattle.std.proofs.lemmas.List.Elements.{All-from_recursion, All-nil, recursion_from_All}
use Rattle.std.specs.FinMap as map
use Rattle.np_syntax.specs.declared.value.Name.{Name}
use Rattle.np_syntax.specs.declared.value.Value.{Value}
use Rattle.np_syntax.specs.declared.value.Value as value
use Rattle.np_syntax.specs.declared.value.Value.TheVariants as outs
use Rattle.np_syntax.specs.declared.expression.Expr.{Expr}
use Rattle.np_syntax.specs.declared.pattern.Pat.{Pat}
use Rattle.np_syntax.specs.declared.process.Tag.{Tag}
use Rattle.np_syntax.specs.declared.process.Proc.{Proc}
use Rattle.np_syntax.specs.declared.process.Role.TheVariants as role
use Rattle.np_syntax.specs.declared.process.ProcForm.{ProcForm-F}
use Rattle.np_syntax.specs.declared.process.ProcForm as form
use Rattle.np_syntax.specs.declared.process.ProcForm.TheVariants as forms
use Rattle.np_syntax.specs.declared.event.Event.{Event}
use Rattle.np_syntax.specs.declared.event.Kind.TheVariants as kind
use Rattle.np_syntax.proofs.Options.{done}
use Rattle.np_syntax.proofs.Bools.{and-out}
use Rattle.np_tables.specs.Names.{same_name}
use Rattle.np_tables.proofs.Tables.{same_name-is, same_name-itself}
use Rattle.np_calculus.specs.declared.config.Atom.{Atom}
use Rattle.np_calculus.specs.Begins.{begun_by}
use Rattle.np_calculus.specs.Config.{Config}
use Rattle.np_calculus.specs.Reductions.{apply, row, sends}
use Rattle.np_calculus.specs.Starts.{daemon_agent, own}
use Rattle.np_eval.specs.Eval.{Env, bind, chan_of, eval}
use Rattle.np_eval.specs.Forms.{layer}
use Rattle.np_eval.proofs.Binds.{bind-any, bind-form}
use Rattle.simulate_laws.specs.protocol.Chips.{Chip, Service, counted}
use Rattle.simulate_laws.specs.protocol.Columns.{Column}
use Rattle.simulate_laws.specs.protocol.Protocol.{IsTrueOf}
use Rattle.simulate_laws.specs.protocol.Rules.{Rule, IsKnowledge, IsLearnt}
use Rattle.simulate_laws.specs.protocol.Steps.{Step}
use Rattle.simulate_laws.proofs.protocol.Gives.{acknowledged}
use Rattle.simulate_laws.proofs.protocol.Keeps.{keeps-protocol}
use Rattle.simulate_laws.proofs.protocol.Moves.{only-zero}
use Rattle.simulate_laws.proofs.protocol.Tallies.{only}
use Rattle.simulate_laws.proofs.protocol.Steps.{all_taken}
use Rattle.np_syntax.specs.declared.expression.ExprForm as expr
use Rattle.np_syntax.specs.Reordering.{and_then, behind, swapped}
use Rattle.infrastructure_texts.specs.Pieces.{ack, beside, currentloc, daemon, deliver, expression, gives, lock, migrating, name, nothing, pair, process, sends as sends_text, site, takes, tells, unit, variable}
use Rattle.infrastructure_texts.specs.Texts.{migrate_text, move_text, settles}
use Rattle.infrastructure_texts.specs.Daemon.{acks}
use Rattle.infrastructure_texts.specs.Infrastructures.{Infrastructure}
use Rattle.infrastructure_texts.specs.InfrastructureTexts.{agent_text_of, child_of, post_of}
use Rattle.daemon_encode.specs.Translates.{Translates, source}
use Rattle.infrastructure_texts.specs.CacheTexts.{cache, goes_by_daemon, goes_by_hint, looks, makes_messenger, post_text, found}
use Rattle.infrastructure_texts.specs.CacheDaemon.{hints}
use Rattle.simulate_laws.specs.things.Acting.{begins}
use Rattle.simulate_laws.specs.things.Desks.{Took, desk}
use Rattle.simulate_laws.specs.things.Mail.{Mail, on_channel, receiver}
use Rattle.simulate_laws.specs.things.Shapes.{Are, HasTaken, Is, IsAsking, IsBeginning, IsOfSource, IsSettling, IsWanting, StandsFor, WaitsFor, IsAgents}
use Rattle.simulate_laws.specs.things.Things.{Stage, Thing, high_atom, shows}
use Rattle.simulate_laws.specs.things.CacheShapes.{HasAnswer, IsHoping, IsReplacing, IsTold, changes, IsReading, IsReadingBack}
use Rattle.simulate_laws.proofs.things.Acting.{source-plain}
use Rattle.simulate_laws.proofs.things.Starts.{constant-is}
use Rattle.simulate_laws.specs.levels.Coupled.{Coupled, View, chips, is_channel, is_child_of, may_know, scene}
use Rattle.simulate_laws.proofs.levels.Becomes.{cancel}
use Rattle.simulate_laws.proofs.levels.Marks.{same_chips, step_at}
use Rattle.simulate_laws.proofs.levels.Meets.{IsMeeting, meeting, meets}
use Rattle.simulate_laws.proofs.levels.Orders.{permuted}
use Rattle.simulate_laws.proofs.levels.Outputs.{by_lock, by_map, by_number, by_token, given_by, is-own, number-of, IsHintsLock, awaited_lock, by_cache, by_hint}
use Rattle.simulate_laws.proofs.levels.Quiet.{any_in, any_kept, any_out, knows_more, or_cases}
use Rattle.simulate_laws.proofs.levels.Serves.{no_lock_at}
use Rattle.simulate_laws.proofs.levels.Shapes.{of_actor, of_atom, same_role}
use Rattle.simulate_laws.proofs.levels.Values.{agent-is, bind-one, channel-is, here_is, pair-is, there_is, unit-is, variable-is, gives_two, named_is, stands_on, stands_under}
use Rattle.simulate_laws.proofs.levels.Caches.{handed_on}
use Rattle.simulate_laws.specs.levels.Letters.{SameLetters}
use Rattle.simulate_laws.specs.protocol.CacheSteps.{CacheStep}

-- what a server's copy took it still has when it has the map
took_kept : (n x : ℕ) (k : Service) (m : Mail) (env : Env) (u : Value) → Took x k m env → Took x k m (map.insert env (desk n x k).map u)
took_kept n x Service.registers (Mail.register b s) env u t = (there_is env (x + 2) x u (λ e. let bad : ⊥ = omega arith in bad) ∙ t.0, there_is env (x + 2) (x + 1) u (λ e. let bad : ⊥ = omega arith in bad) ∙ t.1)
took_kept n x Service.grants (Mail.migrating a) env u t = there_is env (x + 5) (x + 4) u (λ e. let bad : ⊥ = omega arith in bad) ∙ t
took_kept n x Service.notes_moves (Mail.migrated a s) env u t = (there_is env (x + 10) (x + 8) u (λ e. let bad : ⊥ = omega arith in bad) ∙ t.0, there_is env (x + 10) (x + 9) u (λ e. let bad : ⊥ = omega arith in bad) ∙ t.1)
took_kept n x Service.passes_on (Mail.message p) env u t = (there_is env (x + 14) (x + 12) u (λ e. let bad : ⊥ = omega arith in bad) ∙ t.0, there_is env (x + 14) (x + 13) u (λ e. let bad : ⊥ = omega arith in bad) ∙ t.1)
took_kept n x Service.ends_deliveries (Mail.dack b s) env u t = (there_is env (x + 19) (x + 17) u (λ e. let bad : ⊥ = omega arith in bad) ∙ t.0, there_is env (x + 19) (x + 18) u (λ e. let bad : ⊥ = omega arith in bad) ∙ t.1)
took_kept n x Service.tells (Mail.asks a b) env u t = (there_is env (x + 23) (x + 21) u (λ e. let bad : ⊥ = omega arith in bad) ∙ t.0, there_is env (x + 23) (x + 22) u (λ e. let bad : ⊥ = omega arith in bad) ∙ t.1)
took_kept n x _ _ env u t = absurd t

-- an agent to which no other is owed has no child that waits
no_owed : (a b : Name) (cs : List Chip) → sum_by (counted a Column.owed) cs ≡ 0 → list_any (is_child_of a b) cs ≡ true → ⊥
no_owed a b [] none h = cc
no_owed a b (ch ∷ cs) none h =
    let whole : sum_by (counted a Column.owed) (ch ∷ cs) ≡ counted a Column.owed ch + sum_by (counted a Column.owed) cs = sum_by-cons (counted a Column.owed) ch cs in
    let rest : sum_by (counted a Column.owed) cs ≡ 0 = omega arith in
    elim (or_cases (is_child_of a b ch) (list_any (is_child_of a b) cs) h) [
      | inl i ↦ (let one : 1 ≤ counted a Column.owed ch = counts ch i in let bad : ⊥ = omega arith in bad)
      | inr j ↦ no_owed a b cs rest j
    ]
  where
    counts : (ch : Chip) → is_child_of a b ch ≡ true → 1 ≤ counted a Column.owed ch
    counts (Chip.child x p t) i =
        let both = and-out (same_name x b) (same_name p a) i in
        let same : only (same_name a p) 1 ≡ 1 = ap (λ y. only (same_name a y) 1) (same_name-is p a both.1) ∙ ap (λ t. only t 1) (same_name-itself a) in
        let other : only (same_name a x) 0 ≡ 0 = only-zero (same_name a x) in
        omega arith
    counts _ i = absurd cc

module _ {i : Infrastructure} {n from first : ℕ} {low high : Config} {v : View} (c : Coupled i n from first low high v) (e : Event) (next : Config) (s : IsMeeting low e next)
    (no_packet : map.get low.packets e.actor ≡ None) (h : apply low e ≡ Some next) where
  abbrev Done : Type 0
  Done = (w : View) × (w.standing ≡ v.standing) × Coupled i n from first next high w × SameLetters v w

  -- what the text of the input says
  record Reads (a : Expr) (x : Pat) (p : Proc) : Type 0 where
    on : s.on ≡ a
    pattern : s.pattern ≡ x
    body : s.body ≡ p

  reads : (k : ℕ) (a : Expr) (x : Pat) (p : Proc) → s.atom.proc ≡ takes k a x p → Reads a x p
  reads k a x p is = let same : ProcForm-F.Inp s.on s.pattern s.body ≡ ProcForm-F.Inp a x p = sym s.form ∙ ap layer is ∙ forms.outs-Inp a x p in record { on = cc; pattern = cc; body = cc }

  chan_at : (i : ℕ) → s.on ≡ expression (expr.Val (value.Chan (own n i))) → s.chan ≡ own n i
  chan_at i on = done (sym (ap (λ x. chan_of x s.atom.env) on ∙ channel-is (own n i) s.atom.env) ∙ s.its_chan)

  sent-is : (x : Name) → s.chan ≡ x → s.offers.sent.0 ≡ x
  sent-is x on = sym (same_name-is s.chan s.offers.sent.0 s.offers.agree) ∙ on

  -- ---- a server's copy takes the map

  takes_the_map : (m : Mail) → HasTaken n first m s.atom → map.get v.things e.actor ≡ Some (Thing.taken m ∷ []) → Done
  takes_the_map m i there =
      let d = desk n first i.service in
      let r = reads 0 (lock n) (name d.map) d.body i.is in
      let o = of_atom c s.other s.offers.mate s.offers.waits in
      let g = given_by c s.other s.offers.mate s.offers.sent s.offers.waits s.offers.sends_it o.things o.there o.are in
      let other : map.get v.things s.other ≡ Some (g.thing ∷ []) = o.there ∙ ap Some g.alone in
      by_map n high.born s.offers.mate s.offers.sent.0 s.offers.sent.1 g.thing (no_lock_at c s.other 10 g.thing refl (λ e. let bad : ⊥ = omega arith in bad) other) (sent-is (own n 10) (chan_at 10 r.on)) g.gift λ ps thing what.
      let env : s.env ≡ map.insert s.atom.env d.map (value.Places ps) =
      done (sym (ap (λ q. bind q s.what s.atom.env) r.pattern ∙ ap (λ u. bind (name d.map) u s.atom.env) (s.offers.is ∙ what) ∙ bind-one d.map (value.Places ps) s.atom.env) ∙ s.binds) in
      meets c next e s (Thing.taken m ∷ []) (Thing.looking m ps ∷ []) (Thing.places ps) (record {
        applies = h;
        no_packet = no_packet;
        no_other_packet = o.no_packet;
        there = there;
        other_there = other ∙ ap (λ t. Some (t ∷ [])) thing;
        headed = All-nil (λ u. high_atom u ≡ None);
        are = Are.one (record {
          agent = i.agent;
          service = i.service;
          took = subst (Took first i.service m) (sym env) (took_kept n first i.service m s.atom.env (value.Places ps) i.took);
          map = ap (λ (e : Env). map.get e d.map) env ∙ here_is s.atom.env d.map (value.Places ps);
          is = r.body;
        });
        atoms = refl;
        packets = refl;
        letters = refl;
        no_atom = refl;
        no_high_packet = refl;
        protocol = λ step. same_chips step c.protocol;
        children = λ step a b any. inl (any_kept (is_child_of a b) step (λ x. x) any);
        known = λ step k. k;
        hints = handed_on low high next;
        carriers = λ k. (tt, tt);
      })

  -- ---- with an agent's lock

  together : s.atom.agent ≡ s.offers.mate.agent
  together = same_name-is s.atom.agent s.offers.mate.agent s.offers.together

  -- the site that a lock says is bound
  bound : (x : ℕ) (u : Value) → s.pattern ≡ name x → s.what ≡ u → s.env ≡ map.insert s.atom.env x u
  bound x u p w = done (sym (ap (λ q. bind q s.what s.atom.env) p ∙ ap (λ z. bind (name x) z s.atom.env) w ∙ bind-one x u s.atom.env) ∙ s.binds)

  chan_var : (x : ℕ) (l : Name) → s.on ≡ variable x → map.get s.atom.env x ≡ Some (value.Chan l) → s.chan ≡ l
  chan_var x l on at =
      let is : chan_of (variable x) s.atom.env ≡ Some l = rw (variable-is x s.atom.env, at, outs.outs-Chan l) refl in
      done (sym (ap (λ y. chan_of y s.atom.env) on ∙ is) ∙ s.its_chan)

  -- the lock is that of the agent
  record TakesFree (l : Name) : Type 0 where
    no_packet_there : map.get low.packets s.other ≡ None
    site_of : ℕ
    lock_there : map.get v.things s.other ≡ Some (Thing.free l site_of ∷ [])
    what : s.what ≡ value.Site site_of

  takes_free : (a l : Name) → v.lock a ≡ Some l → s.atom.agent ≡ daemon_agent n → s.chan ≡ l → TakesFree l
  takes_free a l its here chan =
      let o = of_atom c s.other s.offers.mate s.offers.waits in
      let g = given_by c s.other s.offers.mate s.offers.sent s.offers.waits s.offers.sends_it o.things o.there o.are in
      let on : s.offers.sent.0 ≡ l = sent-is l chan in
      by_lock n high.born s.offers.mate s.offers.sent.0 s.offers.sent.1 g.thing
      (λ i o e. number-of n i 13 (c.locks_apart a (own n i) (its ∙ ap Some (sym on ∙ e)) (is-own n i o))) (sym together ∙ here) g.gift λ t thing what.
      record {
        no_packet_there = o.no_packet;
        site_of = t;
        lock_there = o.there ∙ ap Some g.alone ∙ ap (λ t. Some (t ∷ [])) (thing ∙ ap (λ x. Thing.free x t) on);
        what = s.offers.is ∙ what;
      }

  takes_lock : (m : Mail) (l : Name) → IsWanting n first m l s.atom → map.get v.things e.actor ≡ Some (Thing.wanting m l ∷ []) → Done
  takes_lock m l waits there = go m waits.waits there
    where
      go : (m : Mail) → WaitsFor n first m l s.atom → map.get v.things e.actor ≡ Some (Thing.wanting m l ∷ []) → Done
      go (Mail.migrating a) w there =
          let told = recursion_from_All (IsTrueOf (scene v high) v.phase) (Chip.request a ∷ Chip.wants a l ∷ [])
          (all_taken (step_at shows v.things e.actor (Thing.wanting (Mail.migrating a) l ∷ []) [] there) (IsTrueOf (scene v high) v.phase) c.protocol.true_chips) in
          let r = reads 0 (variable (first + 6)) (name (first + 7)) (acks n (first + 4) (first + 7)) w.0 in
          let k = takes_free a l told.1.0 waits.agent (chan_var (first + 6) l r.on w.2) in
          let t : ℕ = k.site_of in
          let env = bound (first + 7) (value.Site t) r.pattern k.what in
          let agent_is : map.get s.env (first + 4) ≡ Some (value.Agent a) = ap (λ (e : Env). map.get e (first + 4)) env ∙ there_is s.atom.env (first + 7) (first + 4) (value.Site t) (λ e. let bad : ⊥ = omega arith in bad) ∙ w.1 in
          let site_is : map.get s.env (first + 7) ≡ Some (value.Site t) = ap (λ (e : Env). map.get e (first + 7)) env ∙ here_is s.atom.env (first + 7) (value.Site t) in
          meets c next e s (Thing.wanting (Mail.migrating a) l ∷ []) (Thing.mail (Mail.ack a t) (Stage.in_agent s.atom.agent) ∷ []) (Thing.free l t) (record {
            applies = h;
            no_packet = no_packet;
            no_other_packet = k.no_packet_there;
            there = there;
            other_there = k.lock_there;
            headed = All-nil (λ u. high_atom u ≡ None);
            are = Are.one (
              record {
                agent = refl;
                receiver = variable (first + 4);
                to = variable (first + 7);
                chan = ack n;
                sent = unit;
                role = ap (λ (p : Proc). p.tag.role) r.body;
                is = ap layer r.body ∙ forms.outs-Send (variable (first + 4)) (variable (first + 7)) (ack n) unit;
                for_agent = rw (variable-is (first + 4) s.env, agent_is, outs.outs-Agent a) refl;
                for_site = variable-is (first + 7) s.env ∙ site_is;
                on = channel-is (own n 7) s.env;
                holds = unit-is s.env;
              },
              tt,
            );
            atoms = refl;
            packets = refl;
            letters = refl;
            no_atom = refl;
            no_high_packet = refl;
            protocol = λ step. keeps-protocol (scene v high) (scene v high) v.phase (chips v.things) _ (Chip.request a ∷ Chip.wants a l ∷ Chip.free l t ∷ []) (Chip.ack_sent a t ∷ []) (Rule.grants {a = a} {l = l} {s = t})
                (cancel (Chip.request a ∷ Chip.wants a l ∷ Chip.free l t ∷ []) (Chip.ack_sent a t ∷ []) [] step (permuted (and_then swapped (behind swapped))) (IsPermutation-refl (Chip.ack_sent a t ∷ []))) c.protocol;
            children = λ step a b any. inl (any_kept (is_child_of a b) step (λ x. x) any);
            known = λ step k. k;
            hints = handed_on low high next;
            carriers = λ k. (tt, tt);
          })
      go (Mail.message p) w there =
          let told = recursion_from_All (IsTrueOf (scene v high) v.phase) (Chip.wants p.agent l ∷ Chip.knows p.agent ∷ [])
          (all_taken (step_at shows v.things e.actor (Thing.wanting (Mail.message p) l ∷ []) [] there) (IsTrueOf (scene v high) v.phase) c.protocol.true_chips) in
          let r = reads 0 (variable (first + 15)) (name (first + 16)) (sends_text 0 (variable (first + 12)) (variable (first + 16)) (deliver n) (pair (variable (first + 13)) (variable (first + 16)))) w.0 in
          let k = takes_free p.agent l told.0 waits.agent (chan_var (first + 15) l r.on w.2) in
          let t : ℕ = k.site_of in
          let env = bound (first + 16) (value.Site t) r.pattern k.what in
          let agent_is : map.get s.env (first + 12) ≡ Some (value.Agent p.agent) = ap (λ (e : Env). map.get e (first + 12)) env
          ∙ there_is s.atom.env (first + 16) (first + 12) (value.Site t) (λ e. let bad : ⊥ = omega arith in bad) ∙ w.1.0 in
          let letter_is : map.get s.env (first + 13) ≡ Some (value.Letter p.chan p.value) = ap (λ (e : Env). map.get e (first + 13)) env
          ∙ there_is s.atom.env (first + 16) (first + 13) (value.Site t) (λ e. let bad : ⊥ = omega arith in bad) ∙ w.1.1 in
          let site_is : map.get s.env (first + 16) ≡ Some (value.Site t) = ap (λ (e : Env). map.get e (first + 16)) env ∙ here_is s.atom.env (first + 16) (value.Site t) in
          meets c next e s (Thing.wanting (Mail.message p) l ∷ []) (Thing.mail (Mail.deliver p t) (Stage.in_agent s.atom.agent) ∷ []) (Thing.free l t) (record {
            applies = h;
            no_packet = no_packet;
            no_other_packet = k.no_packet_there;
            there = there;
            other_there = k.lock_there;
            headed = All-nil (λ u. high_atom u ≡ None);
            are = Are.one (
              record {
                agent = refl;
                receiver = variable (first + 12);
                to = variable (first + 16);
                chan = deliver n;
                sent = pair (variable (first + 13)) (variable (first + 16));
                role = ap (λ (p : Proc). p.tag.role) r.body;
                is = ap layer r.body ∙ forms.outs-Send (variable (first + 12)) (variable (first + 16)) (deliver n) (pair (variable (first + 13)) (variable (first + 16)));
                for_agent = rw (variable-is (first + 12) s.env, agent_is, outs.outs-Agent p.agent) refl;
                for_site = variable-is (first + 16) s.env ∙ site_is;
                on = channel-is (own n 6) s.env;
                holds = pair-is (variable (first + 13)) (variable (first + 16)) (value.Letter p.chan p.value) (value.Site t) s.env (variable-is (first + 13) s.env ∙ letter_is) (variable-is (first + 16) s.env ∙ site_is);
              },
              waits.agent,
            );
            atoms = refl;
            packets = refl;
            letters = refl;
            no_atom = refl;
            no_high_packet = refl;
            protocol = λ step. keeps-protocol (scene v high) (scene v high) v.phase (chips v.things) _ (Chip.wants p.agent l ∷ Chip.free l t ∷ []) (Chip.delivery p.agent t ∷ []) (Rule.delivers {b = p.agent} {l = l} {s = t})
                (cancel (Chip.wants p.agent l ∷ Chip.free l t ∷ []) (Chip.delivery p.agent t ∷ []) (Chip.knows p.agent ∷ []) step (permuted swapped) (IsPermutation-refl (Chip.delivery p.agent t ∷ Chip.knows p.agent ∷ []))) c.protocol;
            children = λ step a b any. inl (any_kept (is_child_of a b) step (λ x. x) any);
            known = λ step k. k;
            hints = handed_on low high next;
            carriers = λ k. (tt, tt);
          })
      go _ w there = absurd w

  -- ---- with an acknowledgement

  -- the acknowledgement is for the agent itself
  record TakesAck : Type 0 where
    no_packet_there : map.get low.packets s.other ≡ None
    site_of : ℕ
    ack_there : map.get v.things s.other ≡ Some (Thing.mail (Mail.ack s.atom.agent site_of) Stage.there ∷ [])

  takes_ack : s.on ≡ ack n → TakesAck
  takes_ack on =
      let o = of_atom c s.other s.offers.mate s.offers.waits in
      let g = given_by c s.other s.offers.mate s.offers.sent s.offers.waits s.offers.sends_it o.things o.there o.are in
      let other : map.get v.things s.other ≡ Some (g.thing ∷ []) = o.there ∙ ap Some g.alone in
      by_number n 7 high.born s.offers.mate s.offers.sent.0 s.offers.sent.1 g.thing refl (λ e. let bad : ⊥ = omega arith in bad) (λ e. let bad : ⊥ = omega arith in bad)
      (λ e. let bad : ⊥ = omega arith in bad)
      (no_lock_at c s.other 7 g.thing refl (λ e. let bad : ⊥ = omega arith in bad) other) (sent-is (own n 7) (chan_at 7 on)) g.gift λ m thing number content for.
      ack_mail m number λ a t mail.
      record {
        no_packet_there = o.no_packet;
        site_of = t;
        ack_there = other ∙ ap (λ t. Some (t ∷ [])) (thing ∙ ap (λ m. Thing.mail m Stage.there) mail ∙ ap (λ x. Thing.mail (Mail.ack x t) Stage.there) (sym (together ∙ for ∙ ap (receiver n) mail)));
      }
    where
      ack_mail : {R : Type 0} (m : Mail) → on_channel m ≡ 7 → ((a : Name) (t : ℕ) → m ≡ Mail.ack a t → R) → R
      ack_mail (Mail.ack a t) e r = r a t refl
      ack_mail _ e r = absurd (let bad : ⊥ = omega arith in bad)

  nothing_bound : s.pattern ≡ nothing → s.env ≡ s.atom.env
  nothing_bound p = done (sym (ap (λ q. bind q s.what s.atom.env) p ∙ bind-form nothing s.what s.atom.env ∙ bind-any s.what s.atom.env) ∙ s.binds)

  is_granted : (a : Expr) (hi : Atom) → IsAsking i n from a hi s.atom → map.get v.things e.actor ≡ Some (Thing.asking a hi ∷ []) → Done
  is_granted a hi i there =
      let r = reads i.migrates.tag.node (ack n) nothing (move_text n i.migrates.tag.node a i.migrates.to i.migrates.low) i.is in
      let k = takes_ack r.on in
      let env = nothing_bound r.pattern in
      let ack_there : map.get v.things s.other ≡ Some (Thing.mail (Mail.ack hi.agent k.site_of) Stage.there ∷ []) = k.ack_there ∙ ap (λ x. Some (Thing.mail (Mail.ack x k.site_of) Stage.there ∷ [])) i.stands.agent in
      meets c next e s (Thing.asking a hi ∷ []) (Thing.leaving a hi ∷ []) (Thing.mail (Mail.ack hi.agent k.site_of) Stage.there) (record {
        applies = h;
        no_packet = no_packet;
        no_other_packet = k.no_packet_there;
        there = there;
        other_there = ack_there;
        headed = All-nil (λ u. high_atom u ≡ None);
        are = Are.one (record { stands = stands_on s.body s.env env i.stands; migrates = i.migrates; is = r.body });
        atoms = refl;
        packets = refl;
        letters = refl;
        no_atom = refl;
        no_high_packet = refl;
        protocol = λ step. keeps-protocol (scene v high) (scene v high) v.phase (chips v.things) _ (Chip.mover hi.agent ∷ Chip.ack_here hi.agent ∷ []) (Chip.leaver hi.agent ∷ []) (Rule.is_granted {a = hi.agent})
            (cancel (Chip.mover hi.agent ∷ Chip.ack_here hi.agent ∷ []) (Chip.leaver hi.agent ∷ []) [] step (permuted swapped) (IsPermutation-refl (Chip.leaver hi.agent ∷ []))) c.protocol;
        children = λ step a b any. inl (any_kept (is_child_of a b) step (λ x. x) any);
        known = λ step k. k;
        hints = handed_on low high next;
        carriers = λ k. (tt, tt);
      })

  -- the token of an agent, given by an expression that tells its site
  token_given : (k : ℕ) (at : Expr) (t : ℕ) → eval at s.env ≡ Some (value.Site t) → sends (record { agent = s.atom.agent; proc = gives k (currentloc n) at; env = s.env }) ≡ Some (own n 9, value.Site t)
  token_given k at t tells = rw (forms.outs-Out (currentloc n) at, channel-is (own n 9) s.env, tells) refl

  finishes : (a : Expr) (hi : Atom) (t : ℕ) → IsSettling i n from a hi t s.atom → map.get v.things e.actor ≡ Some (Thing.settling a hi t ∷ []) → Done
  finishes a hi t i there =
      let r = reads i.node (ack n) nothing (beside i.node i.body (gives i.node (currentloc n) i.at)) i.is in
      let k = takes_ack r.on in
      let env = nothing_bound r.pattern in
      let ack_there : map.get v.things s.other ≡ Some (Thing.mail (Mail.ack hi.agent k.site_of) Stage.there ∷ []) = k.ack_there ∙ ap (λ x. Some (Thing.mail (Mail.ack x k.site_of) Stage.there ∷ [])) i.stands.agent in
      let us : List Thing = Thing.source a hi ∷ Thing.token hi.agent t ∷ [] in
      meets c next e s (Thing.settling a hi t ∷ []) us (Thing.mail (Mail.ack hi.agent k.site_of) Stage.there) (record {
        applies = h;
        no_packet = no_packet;
        no_other_packet = k.no_packet_there;
        there = there;
        other_there = ack_there;
        headed = All-from_recursion (λ u. high_atom u ≡ None) (Thing.token hi.agent t ∷ []) (refl, tt);
        are = Are.both {k = i.node} {p = i.body} {q = gives i.node (currentloc n) i.at} r.body
            (Are.one (record { stands = stands_on i.body s.env env i.stands; translates = i.translates }))
            (Are.one (record { agent = i.stands.agent; gives = token_given i.node i.at t (ap (eval i.at) env ∙ i.tells) }, i.stands.apart));
        atoms = refl;
        packets = refl;
        letters = refl;
        no_atom = refl;
        no_high_packet = refl;
        protocol = λ step. keeps-protocol (scene v high) (scene v high) v.phase (chips v.things) _ (Chip.waiter hi.agent t ∷ Chip.ack_here hi.agent ∷ [])
            (Chip.token hi.agent t ∷ []) (Rule.finishes {a = hi.agent} {s = t}) (alone step) c.protocol;
        children = λ step a b any. inl (any_kept (is_child_of a b) step (λ x. x) any);
        known = λ step k. (
          knows_more (may_know v.lock (chips v.things) (Thing.settling a hi t)) (λ b. is_some (v.lock b)) (is_channel n high.born) from
              (λ b m. forgets step b (or_cases (is_some (v.lock b)) (list_any (is_child_of hi.agent b) (chips v.things)) m)) (Thing.source a hi) k.0,
          (tt, tt),
        );
        hints = handed_on low high next;
        carriers = λ k. (tt, (tt, tt));
      })
    where
      alone : {after : List Chip} → Step (chips v.things) after (Chip.ack_here hi.agent ∷ Chip.waiter hi.agent t ∷ []) (Chip.token hi.agent t ∷ [])
          → Step (chips v.things) after (Chip.waiter hi.agent t ∷ Chip.ack_here hi.agent ∷ []) (Chip.token hi.agent t ∷ [])
      alone step = cancel (Chip.waiter hi.agent t ∷ Chip.ack_here hi.agent ∷ []) (Chip.token hi.agent t ∷ []) [] step (permuted swapped) (IsPermutation-refl (Chip.token hi.agent t ∷ []))

      -- who is told waits for no agent that it made
      forgets : {after : List Chip} → Step (chips v.things) after (Chip.ack_here hi.agent ∷ Chip.waiter hi.agent t ∷ []) (Chip.token hi.agent t ∷ []) → (b : Name)
          → (is_some (v.lock b) ≡ true) ⊎ (list_any (is_child_of hi.agent b) (chips v.things) ≡ true)
          → is_some (v.lock b) ≡ true
      forgets step b (inl known) = known
      forgets {after} step b (inr child) = absurd (no_owed hi.agent b (chips v.things) ((acknowledged (scene v high)).finishes v.phase (chips v.things) after (Chip.token hi.agent t ∷ []) hi.agent t (alone step) c.protocol) child)

  starts : (a : Expr) (hi : Atom) (p : Name) (t : ℕ) → IsBeginning i n from a hi p t s.atom → map.get v.things e.actor ≡ Some (Thing.beginning a hi p t ∷ []) → Done
  starts a hi p t i there =
      let tell : Proc = sends_text i.node i.maker (variable i.binder) (ack n) unit in
      let r = reads i.node (ack n) nothing (beside i.node (beside i.node i.body tell) (gives i.node (currentloc n) (variable i.binder))) i.is in
      let k = takes_ack r.on in
      let env = nothing_bound r.pattern in
      let ack_there : map.get v.things s.other ≡ Some (Thing.mail (Mail.ack hi.agent k.site_of) Stage.there ∷ []) = k.ack_there ∙ ap (λ x. Some (Thing.mail (Mail.ack x k.site_of) Stage.there ∷ [])) i.stands.agent in
      let us : List Thing = Thing.source a hi ∷ Thing.mail (Mail.ack p t) (Stage.in_agent s.atom.agent) ∷ Thing.token hi.agent t ∷ [] in
      let site_is : eval (variable i.binder) s.env ≡ Some (value.Site t) = ap (eval (variable i.binder)) env ∙ variable-is i.binder s.atom.env ∙ i.tells in
      let maker_is : eval i.maker s.env ≡ Some (value.Agent p) = ap (eval i.maker) env ∙ i.calls in
      meets c next e s (Thing.beginning a hi p t ∷ []) us (Thing.mail (Mail.ack hi.agent k.site_of) Stage.there) (record {
        applies = h;
        no_packet = no_packet;
        no_other_packet = k.no_packet_there;
        there = there;
        other_there = ack_there;
        headed = All-from_recursion (λ u. high_atom u ≡ None) (Thing.mail (Mail.ack p t) (Stage.in_agent s.atom.agent) ∷ Thing.token hi.agent t ∷ []) (refl, (refl, tt));
        are = Are.both {k = i.node} {p = beside i.node i.body tell} {q = gives i.node (currentloc n) (variable i.binder)} r.body
            (Are.both {k = i.node} {p = i.body} {q = tell} refl
            (Are.one (record { stands = stands_on i.body s.env env i.stands; translates = i.translates }))
            (Are.one (
              record {
                agent = refl;
                receiver = i.maker;
                to = variable i.binder;
                chan = ack n;
                sent = unit;
                role = refl;
                is = forms.outs-Send i.maker (variable i.binder) (ack n) unit;
                for_agent = rw (maker_is, outs.outs-Agent p) refl;
                for_site = site_is;
                on = channel-is (own n 7) s.env;
                holds = unit-is s.env;
              },
              tt,
            )))
            (Are.one (record { agent = i.stands.agent; gives = token_given i.node (variable i.binder) t site_is }, i.stands.apart));
        atoms = refl;
        packets = refl;
        letters = refl;
        no_atom = refl;
        no_high_packet = refl;
        protocol = λ step. keeps-protocol (scene v high) (scene v high) v.phase (chips v.things) _ (Chip.ack_here hi.agent ∷ Chip.child hi.agent p t ∷ [])
            (Chip.token hi.agent t ∷ Chip.ack_sent p t ∷ []) (Rule.starts {b = hi.agent} {p = p} {s = t})
            (cancel (Chip.ack_here hi.agent ∷ Chip.child hi.agent p t ∷ []) (Chip.token hi.agent t ∷ Chip.ack_sent p t ∷ []) [] step
            (IsPermutation-refl (Chip.ack_here hi.agent ∷ Chip.child hi.agent p t ∷ [])) (permuted swapped)) c.protocol;
        children = children;
        known = λ step k. (
          knows_more (may_know v.lock (chips v.things) (Thing.beginning a hi p t)) (λ b. is_some (v.lock b)) (is_channel n high.born) from
              (λ b m. in_map step b (or_cases (is_some (v.lock b)) (same_name b hi.agent) m)) (Thing.source a hi) k.0,
          (tt, (tt, tt)),
        );
        hints = handed_on low high next;
        carriers = λ k. (tt, (tt, (tt, tt)));
      })
    where
      registered : {after give : List Chip} → Step (chips v.things) after (Chip.ack_here hi.agent ∷ Chip.child hi.agent p t ∷ []) give → is_some (v.lock hi.agent) ≡ true
      registered {after} {give} step = (acknowledged (scene v high)).starts v.phase (chips v.things) after give hi.agent p t step c.protocol

      in_map : {after give : List Chip} → Step (chips v.things) after (Chip.ack_here hi.agent ∷ Chip.child hi.agent p t ∷ []) give → (b : Name) → (is_some (v.lock b) ≡ true) ⊎ (same_name b hi.agent ≡ true) → is_some (v.lock b) ≡ true
      in_map step b (inl known) = known
      in_map step b (inr itself) = ap (λ x. is_some (v.lock x)) (same_name-is b hi.agent itself) ∙ registered step

      children : {after give : List Chip} → Step (chips v.things) after (Chip.ack_here hi.agent ∷ Chip.child hi.agent p t ∷ []) give → (x b : Name) → list_any (is_child_of x b) (chips v.things) ≡ true
          → (list_any (is_child_of x b) after ≡ true) ⊎ (is_some (v.lock b) ≡ true)
      children {after} {give} step x b any =
          elim (any_out (is_child_of x b) (Chip.ack_here hi.agent ∷ Chip.child hi.agent p t ∷ []) step.rest
          (sym (list_any-IsPermutation (is_child_of x b) (chips v.things) ((Chip.ack_here hi.agent ∷ Chip.child hi.agent p t ∷ []) ++ step.rest) step.taken) ∙ any)) [
            | inl taken ↦ inr (ap (λ y. is_some (v.lock y)) (sym (same_name-is hi.agent b (its (same_name hi.agent b) (same_name p x) taken))) ∙ registered step)
            | inr rest ↦ inl (list_any-IsPermutation (is_child_of x b) after (give ++ step.rest) step.given ∙ any_in (is_child_of x b) give step.rest (inr rest))
          ]
        where
          its : (y z : Bool) → ((y && z) || false) ≡ true → y ≡ true
          its true z m = refl
          its false z m = absurd cc

  -- ---- with `currentloc`

  -- the token is the agent's own
  record TakesToken : Type 0 where
    no_packet_there : map.get low.packets s.other ≡ None
    site_of : ℕ
    token_there : map.get v.things s.other ≡ Some (Thing.token s.atom.agent site_of ∷ [])
    what : s.what ≡ value.Site site_of

  takes_token : s.on ≡ currentloc n → TakesToken
  takes_token on =
      let o = of_atom c s.other s.offers.mate s.offers.waits in
      let g = given_by c s.other s.offers.mate s.offers.sent s.offers.waits s.offers.sends_it o.things o.there o.are in
      let other : map.get v.things s.other ≡ Some (g.thing ∷ []) = o.there ∙ ap Some g.alone in
      by_token n high.born s.offers.mate s.offers.sent.0 s.offers.sent.1 g.thing (no_lock_at c s.other 9 g.thing refl (λ e. let bad : ⊥ = omega arith in bad) other) (sent-is (own n 9) (chan_at 9 on)) g.gift λ a t thing what for.
      record {
        no_packet_there = o.no_packet;
        site_of = t;
        token_there = other ∙ ap (λ t. Some (t ∷ [])) (thing ∙ ap (λ x. Thing.token x t) (sym (together ∙ for)));
        what = s.offers.is ∙ what;
      }

  begins_move : (a : Expr) (hi : Atom) (tag : Tag) (at : ℕ) (to : Expr) (body below : Proc) → IsOfSource i n from a hi s.atom → hi.proc ≡ source tag at (form.Migrate to body) → s.atom.proc ≡ migrate_text n tag.node a to below
      → Translates i n from a body below → map.get v.things e.actor ≡ Some (Thing.source a hi ∷ []) → Done
  begins_move a hi tag at to body below i is text translates there =
      let left : Proc = takes tag.node (ack n) nothing (move_text n tag.node a to below) in
      let right : Proc = tells n tag.node (migrating n) a in
      let r = reads tag.node (currentloc n) nothing (beside tag.node left right) text in
      let k = takes_token r.on in
      let env = nothing_bound r.pattern in
      let token_there : map.get v.things s.other ≡ Some (Thing.token hi.agent k.site_of ∷ []) = k.token_there ∙ ap (λ x. Some (Thing.token x k.site_of ∷ [])) i.stands.agent in
      let us : List Thing = Thing.asking a hi ∷ Thing.mail (Mail.migrating hi.agent) (Stage.in_agent s.atom.agent) ∷ [] in
      meets c next e s (Thing.source a hi ∷ []) us (Thing.token hi.agent k.site_of) (record {
        applies = h;
        no_packet = no_packet;
        no_other_packet = k.no_packet_there;
        there = there;
        other_there = token_there;
        headed = All-from_recursion (λ u. high_atom u ≡ None) (Thing.mail (Mail.migrating hi.agent) (Stage.in_agent s.atom.agent) ∷ []) (refl, tt);
        are = Are.both {k = tag.node} {p = left} {q = right} r.body
            (Are.one (record { stands = stands_on left s.env env i.stands; migrates = record { tag = tag; at = at; to = to; body = body; low = below; is = is; translates = translates }; is = refl }))
            (Are.one (
              record {
                agent = refl;
                receiver = daemon n;
                to = site 0;
                chan = migrating n;
                sent = a;
                role = refl;
                is = forms.outs-Send (daemon n) (site 0) (migrating n) a;
                for_agent = agent-is (daemon_agent n) s.env;
                for_site = constant-is (value.Site 0) s.env;
                on = channel-is (own n 3) s.env;
                holds = ap (eval a) env ∙ named_is i.stands;
              },
              tt,
            ));
        atoms = refl;
        packets = refl;
        letters = refl;
        no_atom = refl;
        no_high_packet = refl;
        protocol = λ step. keeps-protocol (scene v high) (scene v high) v.phase (chips v.things) _ (Chip.token hi.agent k.site_of ∷ [])
            (Chip.mover hi.agent ∷ Chip.request hi.agent ∷ []) (Rule.begins_move {a = hi.agent} {s = k.site_of}) step c.protocol;
        children = λ step a b any. inl (any_kept (is_child_of a b) step (λ x. x) any);
        known = λ step k. (k.0, (tt, tt));
        hints = handed_on low high next;
        carriers = λ k. (tt, (tt, tt));
      })

  begins_creation : (a : Expr) (hi : Atom) (tag : Tag) (at b st l pl ca : ℕ) (p q lp lq : Proc) → IsOfSource i n from a hi s.atom → hi.proc ≡ source tag at (form.Agent b p q) → s.atom.proc ≡ agent_text_of i n tag.node a b st l pl ca lp lq
      → from ≤ st → from ≤ l → from ≤ pl → (l ≡ pl → ⊥) → from ≤ ca → Translates i n from (variable b) p lp → Translates i n from a q lq → map.get v.things e.actor ≡ Some (Thing.source a hi ∷ []) → Done
  begins_creation a hi tag at b st l pl ca p q lp lq i is text above_st above_l above_pl apart above_ca tp tq there =
      let body : Proc = process tag.node role.Plain (form.Agent b (child_of _ n tag.node a b st l pl ca lp) (settles n tag.node (variable st) lq)) in
      let r = reads tag.node (currentloc n) (name st) body text in
      let k = takes_token r.on in
      let env = bound st (value.Site k.site_of) r.pattern k.what in
      let token_there : map.get v.things s.other ≡ Some (Thing.token hi.agent k.site_of ∷ []) = k.token_there ∙ ap (λ x. Some (Thing.token x k.site_of ∷ [])) i.stands.agent in
      meets c next e s (Thing.source a hi ∷ []) (Thing.making a hi k.site_of ∷ []) (Thing.token hi.agent k.site_of) (record {
        applies = h;
        no_packet = no_packet;
        no_other_packet = k.no_packet_there;
        there = there;
        other_there = token_there;
        headed = All-nil (λ u. high_atom u ≡ None);
        are = Are.one (record {
          stands = stands_under s.body s.env st (value.Site k.site_of) env above_st i.stands;
          creates = record {
            tag = tag;
            at = at;
            binder = b;
            body = p;
            rest = q;
            site = st;
            letter = l;
            place = pl;
            site_above = above_st;
            letter_above = above_l;
            place_above = above_pl;
            apart = apart;
            cache = ca;
            cache_above = above_ca;
            low_body = lp;
            low_rest = lq;
            is = is;
            body_translates = tp;
            rest_translates = tq;
          };
          is = r.body;
          tells = ap (λ (e : Env). map.get e st) env ∙ here_is s.atom.env st (value.Site k.site_of);
        });
        atoms = refl;
        packets = refl;
        letters = refl;
        no_atom = refl;
        no_high_packet = refl;
        protocol = λ step. keeps-protocol (scene v high) (scene v high) v.phase (chips v.things) _ (Chip.token hi.agent k.site_of ∷ []) (Chip.maker hi.agent k.site_of ∷ [])
            (Rule.begins_creation {a = hi.agent} {s = k.site_of}) step c.protocol;
        children = λ step a b any. inl (any_kept (is_child_of a b) step (λ x. x) any);
        known = λ step k. k;
        hints = handed_on low high next;
        carriers = λ k. (tt, tt);
      })

  -- the daemon reads the lock of the agent that is sought, and gives it back
  reads_lock : (a b l k : Name) → IsReading n first a b l k s.atom → map.get v.things e.actor ≡ Some (Thing.reading a b l k ∷ []) → Done
  reads_lock a b l k' i there =
      let told = recursion_from_All (IsTrueOf (scene v high) v.phase) (Chip.wants b l ∷ Chip.wants a k' ∷ [])
      (all_taken (step_at shows v.things e.actor (Thing.reading a b l k' ∷ []) [] there) (IsTrueOf (scene v high) v.phase) c.protocol.true_chips) in
      let left : Proc = gives 0 (variable (first + 24)) (variable (first + 26)) in
      let right : Proc = takes 0 (variable (first + 25)) (name (first + 27)) (hints n (first + 21) (first + 22) (first + 25) (first + 26) (first + 27)) in
      let r = reads 0 (variable (first + 24)) (name (first + 26)) (beside 0 left right) i.is in
      let k = takes_free b l told.0 i.asks.agent (chan_var (first + 24) l r.on i.lock) in
      let env = bound (first + 26) (value.Site k.site_of) r.pattern k.what in
      let site_is : map.get s.env (first + 26) ≡ Some (value.Site k.site_of) = ap (λ (e : Env). map.get e (first + 26)) env ∙ here_is s.atom.env (first + 26) (value.Site k.site_of) in
      let lock_is : map.get s.env (first + 24) ≡ Some (value.Chan l) = kept k.site_of env (first + 24) (λ e. let bad : ⊥ = omega arith in bad) ∙ i.lock in
      meets c next e s (Thing.reading a b l k' ∷ []) (Thing.free l k.site_of ∷ Thing.reading_back a k' ∷ []) (Thing.free l k.site_of) (record {
        applies = h;
        no_packet = no_packet;
        no_other_packet = k.no_packet_there;
        there = there;
        other_there = k.lock_there;
        headed = All-from_recursion (λ u. high_atom u ≡ None) (Thing.reading_back a k' ∷ []) (refl, tt);
        are = Are.both {k = 0} {p = left} {q = right} r.body
            (Are.one (record { agent = i.asks.agent; gives = gives_two s.atom.agent 0 (first + 24) (first + 26) s.env l (value.Site k.site_of) lock_is site_is }))
            (Are.one (
            record {
              b = b;
              asks = record {
                agent = i.asks.agent;
                asker = kept k.site_of env (first + 21) (λ e. let bad : ⊥ = omega arith in bad) ∙ i.asks.asker;
                sought = kept k.site_of env (first + 22) (λ e. let bad : ⊥ = omega arith in bad) ∙ i.asks.sought;
              };
              site = k.site_of;
              is = refl;
              asker_lock = kept k.site_of env (first + 25) (λ e. let bad : ⊥ = omega arith in bad) ∙ i.asker_lock;
              its_site = site_is;
            }
            ));
        atoms = refl;
        packets = refl;
        letters = refl;
        no_atom = refl;
        no_high_packet = refl;
        protocol = λ step. keeps-protocol (scene v high) (scene v high) v.phase (chips v.things) _ (Chip.wants b l ∷ []) []
            (Rule.knows (All-from_recursion IsKnowledge (Chip.wants b l ∷ []) (tt, tt)) (All-nil (IsLearnt (scene v high))))
            (cancel (Chip.wants b l ∷ []) [] (Chip.free l k.site_of ∷ Chip.wants a k' ∷ []) step (permuted swapped)
            (IsPermutation-refl (Chip.free l k.site_of ∷ Chip.wants a k' ∷ []))) c.protocol;
        children = λ step a b any. inl (any_kept (is_child_of a b) step (λ x. x) any);
        known = λ step k. (tt, (tt, tt));
        hints = handed_on low high next;
        carriers = λ k. (tt, (tt, tt));
      })
    where
      kept : (t : ℕ) → s.env ≡ map.insert s.atom.env (first + 26) (value.Site t) → (y : ℕ) → (y ≡ first + 26 → ⊥) → map.get s.env y ≡ map.get s.atom.env y
      kept t env y apart = ap (λ (e : Env). map.get e y) env ∙ there_is s.atom.env (first + 26) y (value.Site t) apart

  -- and then that of the agent that asks, which it answers
  reads_back : (a l : Name) → IsReadingBack n first a l s.atom → map.get v.things e.actor ≡ Some (Thing.reading_back a l ∷ []) → Done
  reads_back a l i there =
      let told = recursion_from_All (IsTrueOf (scene v high) v.phase) (Chip.wants a l ∷ [])
      (all_taken (step_at shows v.things e.actor (Thing.reading_back a l ∷ []) [] there) (IsTrueOf (scene v high) v.phase) c.protocol.true_chips) in
      let left : Proc = gives 0 (variable (first + 25)) (variable (first + 27)) in
      let right : Proc = sends_text 0 (variable (first + 21)) (variable (first + 27)) (found n) (pair (variable (first + 22)) (variable (first + 26))) in
      let r = reads 0 (variable (first + 25)) (name (first + 27)) (beside 0 left right) i.is in
      let k = takes_free a l told.0 i.asks.agent (chan_var (first + 25) l r.on i.asker_lock) in
      let env = bound (first + 27) (value.Site k.site_of) r.pattern k.what in
      let site_is : map.get s.env (first + 27) ≡ Some (value.Site k.site_of) = ap (λ (e : Env). map.get e (first + 27)) env ∙ here_is s.atom.env (first + 27) (value.Site k.site_of) in
      let lock_is : map.get s.env (first + 25) ≡ Some (value.Chan l) = kept k.site_of env (first + 25) (λ e. let bad : ⊥ = omega arith in bad) ∙ i.asker_lock in
      let agent_is : map.get s.env (first + 21) ≡ Some (value.Agent a) = kept k.site_of env (first + 21) (λ e. let bad : ⊥ = omega arith in bad) ∙ i.asks.asker in
      let sought_is : map.get s.env (first + 22) ≡ Some (value.Agent i.b) = kept k.site_of env (first + 22) (λ e. let bad : ⊥ = omega arith in bad) ∙ i.asks.sought in
      let its_site : map.get s.env (first + 26) ≡ Some (value.Site i.site) = kept k.site_of env (first + 26) (λ e. let bad : ⊥ = omega arith in bad) ∙ i.its_site in
      let us : List Thing = Thing.free l k.site_of ∷ Thing.mail (Mail.found a k.site_of i.b i.site) (Stage.in_agent s.atom.agent) ∷ [] in
      meets c next e s (Thing.reading_back a l ∷ []) us (Thing.free l k.site_of) (record {
        applies = h;
        no_packet = no_packet;
        no_other_packet = k.no_packet_there;
        there = there;
        other_there = k.lock_there;
        headed = All-from_recursion (λ u. high_atom u ≡ None) (Thing.mail (Mail.found a k.site_of i.b i.site) (Stage.in_agent s.atom.agent) ∷ []) (refl, tt);
        are = Are.both {k = 0} {p = left} {q = right} r.body
            (Are.one (record { agent = i.asks.agent; gives = gives_two s.atom.agent 0 (first + 25) (first + 27) s.env l (value.Site k.site_of) lock_is site_is }))
            (Are.one (
              record {
                agent = refl;
                receiver = variable (first + 21);
                to = variable (first + 27);
                chan = found n;
                sent = pair (variable (first + 22)) (variable (first + 26));
                role = refl;
                is = forms.outs-Send (variable (first + 21)) (variable (first + 27)) (found n) (pair (variable (first + 22)) (variable (first + 26)));
                for_agent = rw (variable-is (first + 21) s.env, agent_is, outs.outs-Agent a) refl;
                for_site = variable-is (first + 27) s.env ∙ site_is;
                on = channel-is (own n 16) s.env;
                holds = pair-is (variable (first + 22)) (variable (first + 26)) (value.Agent i.b) (value.Site i.site) s.env (variable-is (first + 22) s.env ∙ sought_is) (variable-is (first + 26) s.env ∙ its_site);
              },
              tt,
            ));
        atoms = refl;
        packets = refl;
        letters = refl;
        no_atom = refl;
        no_high_packet = refl;
        protocol = λ step. keeps-protocol (scene v high) (scene v high) v.phase (chips v.things) _ (Chip.wants a l ∷ []) (Chip.knows a ∷ [])
            (Rule.knows (All-from_recursion IsKnowledge (Chip.wants a l ∷ []) (tt, tt))
            (All-from_recursion (IsLearnt (scene v high)) (Chip.knows a ∷ []) (ap (λ o. is_some o) told.0, tt)))
            (cancel (Chip.wants a l ∷ []) (Chip.knows a ∷ []) (Chip.free l k.site_of ∷ []) step (permuted swapped) (permuted swapped)) c.protocol;
        children = λ step a b any. inl (any_kept (is_child_of a b) step (λ x. x) any);
        known = λ step k. (tt, (tt, tt));
        hints = handed_on low high next;
        carriers = λ k. (tt, (tt, tt));
      })
    where
      kept : (t : ℕ) → s.env ≡ map.insert s.atom.env (first + 27) (value.Site t) → (y : ℕ) → (y ≡ first + 27 → ⊥) → map.get s.env y ≡ map.get s.atom.env y
      kept t env y apart = ap (λ (e : Env). map.get e y) env ∙ there_is s.atom.env (first + 27) y (value.Site t) apart

  -- ---- with an agent's cache

  -- the cache is the agent's own
  record TakesCache : Type 0 where
    no_packet_there : map.get low.packets s.other ≡ None
    held : List (Name × Name)
    cache_there : map.get v.things s.other ≡ Some (Thing.cache s.atom.agent held ∷ [])
    what : s.what ≡ value.Places held

  takes_cache : s.on ≡ cache n → TakesCache
  takes_cache on =
      let o = of_atom c s.other s.offers.mate s.offers.waits in
      let g = given_by c s.other s.offers.mate s.offers.sent s.offers.waits s.offers.sends_it o.things o.there o.are in
      let other : map.get v.things s.other ≡ Some (g.thing ∷ []) = o.there ∙ ap Some g.alone in
      by_cache n high.born s.offers.mate s.offers.sent.0 s.offers.sent.1 g.thing (no_lock_at c s.other 14 g.thing refl (λ e. let bad : ⊥ = omega arith in bad) other)
      (sent-is (own n 14) (chan_at 14 on)) g.gift λ a ps thing what for.
      record {
        no_packet_there = o.no_packet;
        held = ps;
        cache_there = other ∙ ap (λ t. Some (t ∷ [])) (thing ∙ ap (λ x. Thing.cache x ps) (sym (together ∙ for)));
        what = s.offers.is ∙ what;
      }

  -- a post of the source takes it
  calls : i ≡ Infrastructure.cached → (a : Expr) (hi : Atom) (tag : Tag) (at m : ℕ) (b ch va : Expr) → IsOfSource i n from a hi s.atom → hi.proc ≡ source tag at (form.Post b ch va)
      → s.atom.proc ≡ post_text n tag.node a b ch va m → from ≤ m → map.get v.things e.actor ≡ Some (Thing.source a hi ∷ []) → Done
  calls cached a hi tag at m b ch va i is text above there =
      let body : Proc = looks tag.node b m (m + 1) (goes_by_hint n tag.node a b ch va m) (goes_by_daemon n tag.node a b ch va m) in
      let r = reads tag.node (cache n) (name m) body text in
      let k = takes_cache r.on in
      let env = bound m (value.Places k.held) r.pattern k.what in
      let cache_there : map.get v.things s.other ≡ Some (Thing.cache hi.agent k.held ∷ []) = k.cache_there ∙ ap (λ x. Some (Thing.cache x k.held ∷ [])) i.stands.agent in
      meets c next e s (Thing.source a hi ∷ []) (Thing.calling a hi k.held ∷ []) (Thing.cache hi.agent k.held) (record {
        applies = h;
        no_packet = no_packet;
        no_other_packet = k.no_packet_there;
        there = there;
        other_there = cache_there;
        headed = All-nil (λ u. high_atom u ≡ None);
        are = Are.one (
          cached,
          stands_under s.body s.env m (value.Places k.held) env above i.stands,
          record {
            posts = record { tag = tag; at = at; to = b; on = ch; sent = va; binder = m; above = above; is = is };
            is = r.body;
            holds = ap (λ (e : Env). map.get e m) env ∙ here_is s.atom.env m (value.Places k.held);
          },
        );
        atoms = refl;
        packets = refl;
        letters = refl;
        no_atom = refl;
        no_high_packet = refl;
        protocol = λ step. same_chips step c.protocol;
        children = λ step a b any. inl (any_kept (is_child_of a b) step (λ x. x) any);
        known = λ step k. k;
        hints = handed_on low high next;
        carriers = λ k. (tt, tt);
      })

  -- the answer that a copy took it still has where a later binder is bound
  answer_kept : (a : Name) (x y : ℕ) (u : Value) (p : Proc) → s.env ≡ map.insert s.atom.env y u → (x + 1 ≡ y → ⊥) → HasAnswer a x s.atom
      → HasAnswer a x (record { agent = s.atom.agent; proc = p; env = s.env })
  answer_kept a x y u p env apart answer = record {
    agent = answer.agent;
    site = answer.site;
    its_site = ap (λ (e : Env). map.get e (x + 1)) env ∙ there_is s.atom.env y (x + 1) u apart ∙ answer.its_site;
  }

  -- a copy of the server of answers takes it
  is_told : i ≡ Infrastructure.cached → (a : Name) → IsTold n a s.atom → IsAgents n a → map.get v.things e.actor ≡ Some (Thing.told a ∷ []) → Done
  is_told cached a i apart there =
      let r = reads i.node (cache n) (name (i.x + 2)) (changes n i.node i.x) i.is in
      let k = takes_cache r.on in
      let env = bound (i.x + 2) (value.Places k.held) r.pattern k.what in
      let cache_there : map.get v.things s.other ≡ Some (Thing.cache a k.held ∷ []) = k.cache_there ∙ ap (λ x. Some (Thing.cache x k.held ∷ [])) i.answer.agent in
      meets c next e s (Thing.told a ∷ []) (Thing.telling a k.held ∷ []) (Thing.cache a k.held) (record {
        applies = h;
        no_packet = no_packet;
        no_other_packet = k.no_packet_there;
        there = there;
        other_there = cache_there;
        headed = All-nil (λ u. high_atom u ≡ None);
        are = Are.one (
          cached,
          record {
            node = i.node;
            x = i.x;
            answer = answer_kept a i.x (i.x + 2) (value.Places k.held) s.body env (λ e. let bad : ⊥ = omega arith in bad) i.answer;
            is = r.body;
            holds = ap (λ (e : Env). map.get e (i.x + 2)) env ∙ here_is s.atom.env (i.x + 2) (value.Places k.held);
          },
          apart,
        );
        atoms = refl;
        packets = refl;
        letters = refl;
        no_atom = refl;
        no_high_packet = refl;
        protocol = λ step. same_chips step c.protocol;
        children = λ step a b any. inl (any_kept (is_child_of a b) step (λ x. x) any);
        known = λ step k. k;
        hints = handed_on low high next;
        carriers = λ k. (tt, tt);
      })

  -- ---- with a hint

  -- the hint is in the agent
  record TakesHint (l : Name) : Type 0 where
    no_packet_there : map.get low.packets s.other ≡ None
    hint_there : map.get v.things s.other ≡ Some (Thing.hint s.atom.agent l ∷ [])

  takes_hint : (l : Name) → IsHintsLock n high.born l → IsAgents n s.atom.agent → s.chan ≡ l → TakesHint l
  takes_hint l hidden apart on =
      let o = of_atom c s.other s.offers.mate s.offers.waits in
      let g = given_by c s.other s.offers.mate s.offers.sent s.offers.waits s.offers.sends_it o.things o.there o.are in
      let other : map.get v.things s.other ≡ Some (g.thing ∷ []) = o.there ∙ ap Some g.alone in
      let same : s.offers.sent.0 ≡ l = sent-is l on in
      by_hint n high.born s.offers.mate s.offers.sent.0 s.offers.sent.1 g.thing (subst (IsHintsLock n high.born) (sym same) hidden)
      (ap (λ x. same_name x (daemon_agent n)) (sym together) ∙ apart) g.gift λ a thing for.
      record {
        no_packet_there = o.no_packet;
        hint_there = other ∙ ap (λ t. Some (t ∷ [])) (thing ∙ ap (Thing.hint a) same ∙ ap (λ x. Thing.hint x l) (sym (together ∙ for)));
      }

  -- who waits for it goes on, and gives it back
  hires : i ≡ Infrastructure.cached → (a : Expr) (hi : Atom) (l : Name) → StandsFor n from a hi s.atom → IsHoping n from a hi l s.atom
      → map.get v.things e.actor ≡ Some (Thing.hoping a hi l ∷ []) → Done
  hires cached a hi l stands i there =
      let j = i.posts in
      let left : Proc = makes_messenger n j.tag.node a j.to j.on j.sent (j.binder + 2) (j.binder + 3) in
      let right : Proc = gives j.tag.node (variable (j.binder + 1)) (variable (j.binder + 2)) in
      let r = reads j.tag.node (variable (j.binder + 1)) (name (j.binder + 2)) (beside j.tag.node left right) i.is in
      let k = takes_hint l (awaited_lock c e.actor hi.agent l (Thing.hoping a hi l) cached there refl)
      (ap (λ x. same_name x (daemon_agent n)) stands.agent ∙ stands.apart) (chan_var (j.binder + 1) l r.on i.waits) in
      let env = bound (j.binder + 2) s.what r.pattern refl in
      let hint_there : map.get v.things s.other ≡ Some (Thing.hint hi.agent l ∷ []) = k.hint_there ∙ ap (λ x. Some (Thing.hint x l ∷ [])) stands.agent in
      let lock_is : map.get s.env (j.binder + 1) ≡ Some (value.Chan l) =
      ap (λ (e : Env). map.get e (j.binder + 1)) env ∙ there_is s.atom.env (j.binder + 2) (j.binder + 1) s.what (λ e. let bad : ⊥ = omega arith in bad) ∙ i.waits in
      let site_is : map.get s.env (j.binder + 2) ≡ Some s.what = ap (λ (e : Env). map.get e (j.binder + 2)) env ∙ here_is s.atom.env (j.binder + 2) s.what in
      let above : from ≤ j.binder = j.above in
      meets c next e s (Thing.hoping a hi l ∷ []) (Thing.hiring a hi ∷ Thing.hint hi.agent l ∷ []) (Thing.hint hi.agent l) (record {
        applies = h;
        no_packet = no_packet;
        no_other_packet = k.no_packet_there;
        there = there;
        other_there = hint_there;
        headed = All-from_recursion (λ u. high_atom u ≡ None) (Thing.hint hi.agent l ∷ []) (refl, tt);
        are = Are.both {k = j.tag.node} {p = left} {q = right} r.body
            (Are.one (cached, stands_under left s.env (j.binder + 2) s.what env (omega arith) stands, record { posts = j; is = refl }))
            (Are.one (
              cached,
              (s.what, record { agent = stands.agent; gives = gives_two s.atom.agent j.tag.node (j.binder + 1) (j.binder + 2) s.env l s.what lock_is site_is }),
              stands.apart,
            ));
        atoms = refl;
        packets = refl;
        letters = refl;
        no_atom = refl;
        no_high_packet = refl;
        protocol = λ step. same_chips step c.protocol;
        children = λ step a b any. inl (any_kept (is_child_of a b) step (λ x. x) any);
        known = λ step k. (k.0, (tt, tt));
        hints = λ is. CacheStep.takes (λ q. refl);
        carriers = λ k. (tt, (tt, tt));
      })

  -- an answer takes its place
  replaces : i ≡ Infrastructure.cached → (a l : Name) → IsReplacing a l s.atom → IsAgents n a → map.get v.things e.actor ≡ Some (Thing.replacing a l ∷ []) → Done
  replaces cached a l i apart there =
      let r = reads i.node (variable (i.x + 3)) nothing (gives i.node (variable (i.x + 3)) (variable (i.x + 1))) i.is in
      let k = takes_hint l (awaited_lock c e.actor a l (Thing.replacing a l) cached there refl)
      (ap (λ x. same_name x (daemon_agent n)) i.answer.agent ∙ apart) (chan_var (i.x + 3) l r.on i.waits) in
      let env = nothing_bound r.pattern in
      let hint_there : map.get v.things s.other ≡ Some (Thing.hint a l ∷ []) = k.hint_there ∙ ap (λ x. Some (Thing.hint x l ∷ [])) i.answer.agent in
      let gives_it = gives_two s.atom.agent i.node (i.x + 3) (i.x + 1) s.env l i.answer.site (ap (λ (e : Env). map.get e (i.x + 3)) env ∙ i.waits)
      (ap (λ (e : Env). map.get e (i.x + 1)) env ∙ i.answer.its_site) in
      meets c next e s (Thing.replacing a l ∷ []) (Thing.hint a l ∷ []) (Thing.hint a l) (record {
        applies = h;
        no_packet = no_packet;
        no_other_packet = k.no_packet_there;
        there = there;
        other_there = hint_there;
        headed = All-nil (λ u. high_atom u ≡ None);
        are = Are.one (
          cached,
          (
            i.answer.site,
            record {
              agent = i.answer.agent;
              gives =
                  ap (λ (p : Proc). sends (record { agent = s.atom.agent; proc = p; env = s.env })) r.body ∙ gives_it;
            },
          ),
          apart,
        );
        atoms = refl;
        packets = refl;
        letters = refl;
        no_atom = refl;
        no_high_packet = refl;
        protocol = λ step. same_chips step c.protocol;
        children = λ step a b any. inl (any_kept (is_child_of a b) step (λ x. x) any);
        known = λ step k. k;
        hints = λ is. CacheStep.takes (λ q. refl);
        carriers = λ k. (tt, tt);
      })

  -- what a post of the source begins where it takes an output
  abbrev pub PostsTake : Type 0
  PostsTake = (a : Expr) (hi : Atom) (tag : Tag) (at m : ℕ) (b ch va : Expr) → IsOfSource i n from a hi s.atom → hi.proc ≡ source tag at (form.Post b ch va)
      → s.atom.proc ≡ post_of i n tag.node a b ch va m → from ≤ m → s.atom.proc.tag.role ≡ role.Infra → map.get v.things e.actor ≡ Some (Thing.source a hi ∷ []) → Done

  -- a process of the source that takes `currentloc`, or posts
  of_source : PostsTake → (a : Expr) (hi : Atom) (p q : Proc) → IsOfSource i n from a hi s.atom → hi.proc ≡ p → s.atom.proc ≡ q → p.tag.role ≡ role.Plain
      → s.atom.proc.tag.role ≡ role.Infra → Translates i n from a p q → map.get v.things e.actor ≡ Some (Thing.source a hi ∷ []) → Done
  of_source posts a hi p q i is text plain infra (Translates.migrate {k = tag} {at = at} {e = to} {p = body} {p' = below} t) there = begins_move a hi tag at to body below i is text t there
  of_source posts a hi p q i is text plain infra (Translates.agent {k = tag} {at = at} {b = b} {s = st} {l = l} {t = pl} {c = ca} {p = x} {p' = x'} {q = y} {q' = y'} f g w apart above tp tq) there =
      begins_creation a hi tag at b st l pl ca x y x' y' i is text f g w apart above tp tq there
  of_source posts a hi p q i is text plain infra (Translates.post {k = tag} {at = at} {m = m} {b = b} {c = ch} {v = va} above) there = posts a hi tag at m b ch va i is text above infra there
  of_source posts a hi p q i is text plain infra _ there = absurd (let bad : role.Plain ≡ role.Infra = sym plain ∙ sym (ap (λ (x : Proc). x.tag.role) text) ∙ infra in cc)

  -- ---- all of them

  pub by_thing : PostsTake → (t : Thing) → s.atom.proc.tag.role ≡ role.Infra → Is i n from first t s.atom → begins t role.Infra kind.Comm ≡ true → map.get v.things e.actor ≡ Some (t ∷ []) → Done
  by_thing posts (Thing.source a hi) infra i b there = of_source posts a hi hi.proc s.atom.proc i refl refl (source-plain i.stands.source.sound) infra i.translates there
  by_thing posts (Thing.asking a hi) infra i b there = is_granted a hi i there
  by_thing posts (Thing.settling a hi t) infra i b there = finishes a hi t i there
  by_thing posts (Thing.beginning a hi p t) infra i b there = starts a hi p t i there
  by_thing posts (Thing.hoping a hi l) infra i b there = hires i.0 a hi l i.1 i.2 there
  by_thing posts (Thing.told a) infra i b there = is_told i.0 a i.1 i.2 there
  by_thing posts (Thing.replacing a l) infra i b there = replaces i.0 a l i.1 i.2 there
  by_thing posts (Thing.taken m) infra i b there = takes_the_map m i there
  by_thing posts (Thing.wanting m l) infra i b there = takes_lock m l i there
  by_thing posts (Thing.reading a y l k) infra i b there = reads_lock a y l k i there
  by_thing posts (Thing.reading_back a k) infra i b there = reads_back a k i there
  by_thing posts (Thing.mail m (Stage.in_agent x)) infra i b there = absurd cc
  by_thing posts _ infra i b there = absurd cc

-- by the central infrastructure a post takes none: it is sent
posts-take : {i : Infrastructure} {n from first : ℕ} {low high : Config} {v : View} (c : Coupled i n from first low high v) (e : Event) (next : Config) (s : IsMeeting low e next)
    (no_packet : map.get low.packets e.actor ≡ None) (h : apply low e ≡ Some next) → PostsTake c e next s no_packet h
posts-take {i = Infrastructure.central} c e next s no_packet h a hi tag at m b ch va i is text above infra there =
    absurd (let bad : role.Post ≡ role.Infra = sym (ap (λ (x : Proc). x.tag.role) text) ∙ infra in cc)
posts-take {i = Infrastructure.cached} c e next s no_packet h a hi tag at m b ch va i is text above infra there =
    calls c e next s no_packet h refl a hi tag at m b ch va i is text above there

pub communicates : {i : Infrastructure} {n from first : ℕ} {low high : Config} {v : View} → Coupled i n from first low high v → (e : Event) (next : Config) → e.kind ≡ kind.Comm → e.tag.role ≡ role.Infra
    → apply low e ≡ Some next → (w : View) × (w.standing ≡ v.standing) × Coupled i n from first next high w × SameLetters v w
communicates {low = low} c e next is_comm infra h =
    let s = meeting low e next (ap (λ k. row k low e) (sym is_comm) ∙ h) in
    let its_role = same_role s.atom.proc.tag e.tag s.acts.tag ∙ infra in
    let o = of_actor c e.actor s.atom kind.Comm role.Infra s.acts.there (ap begun_by s.form) its_role (λ k r. cc) in
    by_thing c e next s o.no_packet h (posts-take c e next s o.no_packet h) o.thing its_role o.is o.its_kind o.there
