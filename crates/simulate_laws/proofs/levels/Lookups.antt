-- The daemon looks an agent up, and finds it.
use Rattle.std.proofs.Common.{◌≡◌, ◌+◌, ◌≤◌, ℕ, Bool, true, false, is_some, Option, None, Some, List, [], ◌∷◌, refl, sym, ap, ◌∙◌, arith}
use Rattle.std.proofs.lemmas.List.Sorted.{IsPermutation-refl}
use Rattle.std.proofs.lemmas.List.Elements.{All-from_recursion, All-nil, recursion_from_All}
use Rattle.std.specs.FinMap as map
use Rattle.np_syntax.specs.declared.value.Name.{Name}
use Rattle.np_syntax.specs.declared.value.Value as value
use Rattle.np_syntax.specs.declared.value.Value.TheVariants as outs
use Rattle.np_syntax.specs.declared.expression.Expr.{Expr}
use Rattle.np_syntax.specs.declared.process.Proc.{Proc}
use Rattle.np_syntax.specs.declared.process.ProcForm.{ProcForm-F}
use Rattle.np_syntax.specs.declared.process.ProcForm.TheVariants as forms
use Rattle.np_syntax.specs.declared.event.Event.{Event}
use Rattle.np_syntax.specs.declared.event.Kind.TheVariants as kind
use Rattle.np_syntax.specs.Reordering.{and_then, behind, swapped}
use Rattle.np_syntax.proofs.Options.{then, done}
use Rattle.np_tables.specs.Names.{same_name}
use Rattle.np_tables.proofs.Tables.{same_name-itself}
use Rattle.np_calculus.specs.declared.config.Atom.{Atom}
use Rattle.np_calculus.specs.Changes.{effect, put, still}
use Rattle.np_calculus.specs.Config.{Config}
use Rattle.np_calculus.specs.Reductions.{apply, found_on, goes_under, no_other, none_made, row}
use Rattle.np_calculus.specs.Seen.{acting}
use Rattle.np_calculus.specs.Sight.{inside, sight}
use Rattle.np_calculus.specs.Starts.{own}
unfoldable use Rattle.np_calculus.proofs.Common.{act}
use Rattle.np_calculus.proofs.Rows.{parts}
use Rattle.np_calculus.proofs.Steps.{Acts, acting-step, row-step}
use Rattle.np_eval.specs.Eval.{Env, agent_of, find_place, places_of}
use Rattle.np_eval.specs.Forms.{layer}
use Rattle.simulate_laws.specs.protocol.Chips.{Chip, Service, has_lock}
use Rattle.simulate_laws.specs.protocol.Columns.{Column}
use Rattle.simulate_laws.specs.protocol.Phases.{Phase, is_registered}
use Rattle.simulate_laws.specs.protocol.Protocol.{IsTrueOf, one_if}
use Rattle.simulate_laws.specs.protocol.Rules.{IsKnowledge, IsLearnt, Rule}
use Rattle.simulate_laws.specs.protocol.Steps.{Step}
use Rattle.simulate_laws.proofs.protocol.Keeps.{keeps-protocol}
use Rattle.simulate_laws.proofs.protocol.Kept.{phase_of}
use Rattle.simulate_laws.proofs.protocol.Steps.{all_taken, sum_before}
use Rattle.infrastructure_texts.specs.Pieces.{ack, beside, gives, name, stop, takes, unit, variable, finds}
use Rattle.infrastructure_texts.specs.Daemon.{acks, frees}
use Rattle.infrastructure_texts.specs.Infrastructures.{Infrastructure}
use Rattle.infrastructure_texts.specs.CacheDaemon.{reads_locks}
use Rattle.simulate_laws.specs.things.Desks.{Took, desk, looks_back}
use Rattle.simulate_laws.specs.things.Mail.{Mail}
use Rattle.simulate_laws.specs.things.Shapes.{Are, IsLooking, delivering}
use Rattle.simulate_laws.specs.things.Things.{Stage, Thing, high_atom, shows}
use Rattle.simulate_laws.specs.things.CacheShapes.{IsLookingBack}
use Rattle.simulate_laws.specs.levels.Coupled.{Coupled, View, chips, scene}
use Rattle.simulate_laws.proofs.levels.Becomes.{becomes, cancel}
use Rattle.simulate_laws.proofs.levels.Marks.{step_at}
use Rattle.simulate_laws.proofs.levels.Orders.{permuted}
use Rattle.simulate_laws.proofs.levels.Values.{channel-is, here_is, there_is, unit-is, variable-is, gives_two, gives_own}
use Rattle.simulate_laws.proofs.levels.Caches.{handed_on}
use Rattle.simulate_laws.specs.levels.Letters.{SameLetters}

pub record IsFinding (low : Config) (e : Event) (next : Config) : Type 0 where
  pub atom : Atom
  pub acts : Acts low e atom
  pub agent : Expr
  pub among : Expr
  pub binder : ℕ
  pub met : Proc
  pub unmet : Proc
  pub form : layer atom.proc ≡ ProcForm-F.Lookup agent among binder met unmet
  pub sought : Name
  pub its_agent : agent_of agent atom.env ≡ Some sought
  pub places : List (Name × Name)
  pub its_places : places_of among atom.env ≡ Some places
  pub is : next ≡ effect low e (record still { atoms = put e.actor (found_on atom binder met unmet (find_place places sought)) ∷ [] })

pub finding : (low : Config) (e : Event) (next : Config) → row kind.Lookup low e ≡ Some next → IsFinding low e next
unfolding act
finding low e next h =
    let r = row-step low e next kind.Lookup h in
    then (acting low e) _ r.gives λ a acts h. parts kind.Lookup (sight low.sites (inside low) e.site) e a h λ p form h.
    then (agent_of p.0 a.env) _ h λ b ab h. then (places_of p.1 a.env) _ h λ ps at h. then (none_made e.made) _ h λ u none h. then (no_other e.other) _ h λ w other h.
    record {
      atom = a;
      acts = acting-step low e a acts;
      agent = p.0;
      among = p.1;
      binder = p.2;
      met = p.3;
      unmet = p.4;
      form = form;
      sought = b;
      its_agent = ab;
      places = ps;
      its_places = at;
      is = r.is ∙ ap (effect low e) (done h);
    }

-- a text that looks an agent up goes on by what is found
pub finds_text : (low : Config) (e : Event) (next : Config) (s : IsFinding low e next) (a m : Expr) (l : ℕ) (p q : Proc) (y : Name) (ps : List (Name × Name)) (o : Option Name)
    → layer s.atom.proc ≡ ProcForm-F.Lookup a m l p q → agent_of a s.atom.env ≡ Some y → places_of m s.atom.env ≡ Some ps → find_place ps y ≡ o
    → next ≡ effect low e (record still { atoms = put e.actor (found_on s.atom l p q o) ∷ [] })
finds_text low e next s a m l p q y ps o is agent places found =
    let text : ProcForm-F.Lookup s.agent s.among s.binder s.met s.unmet ≡ ProcForm-F.Lookup a m l p q = sym s.form ∙ is in
    let agents : s.agent ≡ a = cc in
    let amongs : s.among ≡ m = cc in
    let binders : s.binder ≡ l = cc in
    let mets : s.met ≡ p = cc in
    let unmets : s.unmet ≡ q = cc in
    let sought : s.sought ≡ y = done (sym (ap (λ x. agent_of x s.atom.env) agents ∙ agent) ∙ s.its_agent) in
    let all : s.places ≡ ps = done (sym (ap (λ x. places_of x s.atom.env) amongs ∙ places) ∙ s.its_places) in
    let at : find_place s.places s.sought ≡ o = ap (λ x. find_place x s.sought) all ∙ ap (find_place ps) sought ∙ found in
    s.is ∙ ap (λ o. effect low e (record still { atoms = put e.actor (found_on s.atom s.binder s.met s.unmet o) ∷ [] })) at
    ∙ ap (λ x. effect low e (record still { atoms = put e.actor (found_on s.atom x s.met s.unmet o) ∷ [] })) binders
    ∙ ap (λ x. effect low e (record still { atoms = put e.actor (found_on s.atom l x s.unmet o) ∷ [] })) mets
    ∙ ap (λ x. effect low e (record still { atoms = put e.actor (found_on s.atom l p x o) ∷ [] })) unmets

agent_var : (x : ℕ) (a : Name) (env : Env) → map.get env x ≡ Some (value.Agent a) → agent_of (variable x) env ≡ Some a
agent_var x a env at = rw (variable-is x env, at, outs.outs-Agent a) refl

pub places_var : (x : ℕ) (ps : List (Name × Name)) (env : Env) → map.get env x ≡ Some (value.Places ps) → places_of (variable x) env ≡ Some ps
places_var x ps env at = rw (variable-is x env, at, outs.outs-Places ps) refl

-- the daemon finds an agent in its map
finds_lock : (low : Config) (e : Event) (next : Config) (s : IsFinding low e next) (a m l : ℕ) (p : Proc) (y k : Name) (ps : List (Name × Name)) → s.atom.proc ≡ finds 0 a m l p
    → map.get s.atom.env a ≡ Some (value.Agent y) → map.get s.atom.env m ≡ Some (value.Places ps) → find_place ps y ≡ Some k
    → next ≡ effect low e (record still { atoms = put e.actor (goes_under s.atom p (map.insert s.atom.env l (value.Chan k))) ∷ [] })
finds_lock low e next s a m l p y k ps is agent places found = finds_text low e next s (variable a) (variable m) l p (stop 0) y ps (Some k)
    (ap layer is ∙ forms.outs-Lookup (variable a) (variable m) l p (stop 0)) (agent_var a y s.atom.env agent) (places_var m ps s.atom.env places) found

some_lock : (o : Option Name) → is_some o ≡ true → (l : Name) × (o ≡ Some l)
some_lock None h = absurd cc
some_lock (Some l) h = (l, refl)

registered_then : (t : Bool) → 1 ≤ one_if t → t ≡ true
registered_then true h = refl
registered_then false h = absurd (let bad : ⊥ = omega arith in bad)

module _ {i : Infrastructure} {n from first : ℕ} {low high : Config} {v : View} (c : Coupled i n from first low high v) where
  -- whom the daemon looks up is in the map
  request_registered : (a : Name) {after give : List Chip} (m : Name → Option Name) → Step (chips v.things) after (Chip.locks m ∷ Chip.request a ∷ []) give → is_some (v.lock a) ≡ true
  request_registered a m step = c.protocol.registered a ∙ ap is_registered (phase_of step v.phase c.protocol.rows a Phase.asking (Column.request ∷ []) refl refl refl)

  report_registered : (a : Name) (t : ℕ) → v.phase a ≡ Phase.reporting t → is_some (v.lock a) ≡ true
  report_registered a t h = c.protocol.registered a ∙ ap is_registered h

  delivery_registered : (b : Name) (s : ℕ) {after give : List Chip} (m : Name → Option Name) → Step (chips v.things) after (Chip.locks m ∷ Chip.delivery b s ∷ []) give → is_some (v.lock b) ≡ true
  delivery_registered b s m step =
      let its : one_if (same_name b b) ≡ 1 = ap one_if (same_name-itself b) in
      c.protocol.registered b ∙ registered_then (is_registered (v.phase b)) (omega (arith, c.protocol.one_lock b, sum_before step (λ ch. one_if (has_lock (v.lock b) b ch))))

  -- an atom that looks up goes on with a lock
  pub looked : (e : Event) (next : Config) (s : IsFinding low e next) (m : Mail) (ps : List (Name × Name)) → IsLooking n first m ps s.atom → map.get low.packets e.actor ≡ None → map.get v.things e.actor ≡ Some (Thing.looking m ps ∷ [])
      → apply low e ≡ Some next → (w : View) × (w.standing ≡ v.standing) × Coupled i n from first next high w × SameLetters v w
  looked e next s m ps its no_packet there h = go m its.service its.took its.map its.is there
    where
      go : (m : Mail) (k : Service) → Took first k m s.atom.env → map.get s.atom.env (desk n first k).map ≡ Some (value.Places ps) → s.atom.proc ≡ (desk n first k).body → map.get v.things e.actor ≡ Some (Thing.looking m ps ∷ [])
          → (w : View) × (w.standing ≡ v.standing) × Coupled i n from first next high w × SameLetters v w
      go (Mail.migrating a) Service.grants took map_is text at =
          let steps = step_at shows v.things e.actor (Thing.looking (Mail.migrating a) ps ∷ []) [] at in
          let told = recursion_from_All (IsTrueOf (scene v high) v.phase) (Chip.locks (find_place ps) ∷ Chip.request a ∷ []) (all_taken steps (IsTrueOf (scene v high) v.phase) c.protocol.true_chips) in
          let lock = some_lock (v.lock a) (request_registered a (find_place ps) steps) in
          let env : Env = map.insert s.atom.env (first + 6) (value.Chan lock.0) in
          let left : Proc = takes 0 (variable (first + 6)) (name (first + 7)) (acks n (first + 4) (first + 7)) in
          becomes c next e e.actor (goes_under s.atom (beside 0 left (frees n (first + 5))) env) (Thing.looking (Mail.migrating a) ps ∷ []) (Thing.wanting (Mail.migrating a) lock.0 ∷ Thing.places ps ∷ []) refl (record {
            applies = h;
            is = finds_lock low e next s (first + 4) (first + 5) (first + 6) (beside 0 left (frees n (first + 5))) a lock.0 ps text took map_is (told.0 a ∙ lock.1);
            no_packet = no_packet;
            there = at;
            headed = All-from_recursion (λ u. high_atom u ≡ None) (Thing.places ps ∷ []) (refl, tt);
            are = Are.both {k = 0} {p = left} {q = frees n (first + 5)} refl
                (Are.one (record { agent = its.agent; waits = (refl, there_is s.atom.env (first + 6) (first + 4) (value.Chan lock.0) (λ e. let bad : ⊥ = omega arith in bad) ∙ took, here_is s.atom.env (first + 6) (value.Chan lock.0)) }))
                (Are.one (record {
                  agent = its.agent;
                  gives = gives_own n 10 0 (first + 5) s.atom.agent env (value.Places ps)
                      (there_is s.atom.env (first + 6) (first + 5) (value.Chan lock.0) (λ e. let bad : ⊥ = omega arith in bad) ∙ map_is);
                }));
            atoms = refl;
            packets = refl;
            protocol = λ step. keeps-protocol (scene v high) (scene v high) v.phase (chips v.things) _ [] (Chip.wants a lock.0 ∷ [])
                (Rule.knows (All-nil IsKnowledge) (All-from_recursion (IsLearnt (scene v high)) (Chip.wants a lock.0 ∷ []) (lock.1, tt)))
                (cancel [] (Chip.wants a lock.0 ∷ []) (Chip.locks (find_place ps) ∷ Chip.request a ∷ []) step
                (IsPermutation-refl (Chip.locks (find_place ps) ∷ Chip.request a ∷ [])) (permuted (and_then swapped (behind swapped)))) c.protocol;
            children = λ a b any. any;
            known = λ k. (tt, (tt, tt));
            hints = handed_on low high next;
            carriers = λ k. (tt, (tt, tt));
          })
      go (Mail.message p) Service.passes_on took map_is text at =
          let steps = step_at shows v.things e.actor (Thing.looking (Mail.message p) ps ∷ []) [] at in
          let told = recursion_from_All (IsTrueOf (scene v high) v.phase) (Chip.locks (find_place ps) ∷ Chip.knows p.agent ∷ []) (all_taken steps (IsTrueOf (scene v high) v.phase) c.protocol.true_chips) in
          let lock = some_lock (v.lock p.agent) told.1.0 in
          let env : Env = map.insert s.atom.env (first + 15) (value.Chan lock.0) in
          let left : Proc = delivering n first in
          becomes c next e e.actor (goes_under s.atom (beside 0 left (frees n (first + 14))) env) (Thing.looking (Mail.message p) ps ∷ []) (Thing.wanting (Mail.message p) lock.0 ∷ Thing.places ps ∷ []) refl (record {
            applies = h;
            is = finds_lock low e next s (first + 12) (first + 14) (first + 15) (beside 0 left (frees n (first + 14))) p.agent lock.0 ps text took.0 map_is (told.0 p.agent ∙ lock.1);
            no_packet = no_packet;
            there = at;
            headed = All-from_recursion (λ u. high_atom u ≡ None) (Thing.places ps ∷ []) (refl, tt);
            are = Are.both {k = 0} {p = left} {q = frees n (first + 14)} refl
                (Are.one (record {
                  agent = its.agent;
                  waits = (
                    refl,
                    (
                      there_is s.atom.env (first + 15) (first + 12) (value.Chan lock.0) (λ e. let bad : ⊥ = omega arith in bad)
                          ∙ took.0,
                      there_is s.atom.env (first + 15) (first + 13) (value.Chan lock.0) (λ e. let bad : ⊥ = omega arith in bad) ∙ took.1,
                    ),
                    here_is s.atom.env (first + 15) (value.Chan lock.0),
                  );
                }))
                (Are.one (record {
                  agent = its.agent;
                  gives = gives_own n 10 0 (first + 14) s.atom.agent env (value.Places ps)
                      (there_is s.atom.env (first + 15) (first + 14) (value.Chan lock.0) (λ e. let bad : ⊥ = omega arith in bad) ∙ map_is);
                }));
            atoms = refl;
            packets = refl;
            protocol = λ step. keeps-protocol (scene v high) (scene v high) v.phase (chips v.things) _ [] (Chip.wants p.agent lock.0 ∷ [])
                (Rule.knows (All-nil IsKnowledge) (All-from_recursion (IsLearnt (scene v high)) (Chip.wants p.agent lock.0 ∷ []) (lock.1, tt)))
                (cancel [] (Chip.wants p.agent lock.0 ∷ []) (Chip.locks (find_place ps) ∷ Chip.knows p.agent ∷ []) step (IsPermutation-refl (Chip.locks (find_place ps) ∷ Chip.knows p.agent ∷ [])) (permuted (behind swapped))) c.protocol;
            children = λ a b any. any;
            known = λ k. (k.0, (tt, tt));
            hints = handed_on low high next;
            carriers = λ k. (tt, (tt, tt));
          })
      go (Mail.dack b t) Service.ends_deliveries took map_is text at =
          let steps = step_at shows v.things e.actor (Thing.looking (Mail.dack b t) ps ∷ []) [] at in
          let told = recursion_from_All (IsTrueOf (scene v high) v.phase) (Chip.locks (find_place ps) ∷ Chip.delivery b t ∷ []) (all_taken steps (IsTrueOf (scene v high) v.phase) c.protocol.true_chips) in
          let lock = some_lock (v.lock b) (delivery_registered b t (find_place ps) steps) in
          let env : Env = map.insert s.atom.env (first + 20) (value.Chan lock.0) in
          let left : Proc = gives 0 (variable (first + 20)) (variable (first + 18)) in
          becomes c next e e.actor (goes_under s.atom (beside 0 left (frees n (first + 19))) env) (Thing.looking (Mail.dack b t) ps ∷ []) (Thing.free lock.0 t ∷ Thing.places ps ∷ []) refl (record {
            applies = h;
            is = finds_lock low e next s (first + 17) (first + 19) (first + 20) (beside 0 left (frees n (first + 19))) b lock.0 ps text took.0 map_is (told.0 b ∙ lock.1);
            no_packet = no_packet;
            there = at;
            headed = All-from_recursion (λ u. high_atom u ≡ None) (Thing.places ps ∷ []) (refl, tt);
            are = Are.both {k = 0} {p = left} {q = frees n (first + 19)} refl
                (Are.one (record {
                  agent = its.agent;
                  gives = gives_two s.atom.agent 0 (first + 20) (first + 18) env lock.0 (value.Site t)
                      (here_is s.atom.env (first + 20) (value.Chan lock.0))
                      (there_is s.atom.env (first + 20) (first + 18) (value.Chan lock.0) (λ e. let bad : ⊥ = omega arith in bad) ∙ took.1);
                }))
                (Are.one (record {
                  agent = its.agent;
                  gives = gives_own n 10 0 (first + 19) s.atom.agent env (value.Places ps)
                      (there_is s.atom.env (first + 20) (first + 19) (value.Chan lock.0) (λ e. let bad : ⊥ = omega arith in bad) ∙ map_is);
                }));
            atoms = refl;
            packets = refl;
            protocol = λ step. keeps-protocol (scene v high) (scene v high) v.phase (chips v.things) _ (Chip.delivery b t ∷ []) (Chip.free lock.0 t ∷ []) (Rule.delivered {b = b} {l = lock.0} {s = t} lock.1)
                (cancel (Chip.delivery b t ∷ []) (Chip.free lock.0 t ∷ []) (Chip.locks (find_place ps) ∷ []) step (permuted swapped) (IsPermutation-refl (Chip.free lock.0 t ∷ Chip.locks (find_place ps) ∷ []))) c.protocol;
            children = λ a b any. any;
            known = λ k. (tt, (tt, tt));
            hints = handed_on low high next;
            carriers = λ k. (tt, (tt, tt));
          })
      go (Mail.migrated a t) Service.notes_moves took map_is text at =
          let steps = step_at shows v.things e.actor (Thing.looking (Mail.migrated a t) ps ∷ []) [] at in
          let told = recursion_from_All (IsTrueOf (scene v high) v.phase) (Chip.locks (find_place ps) ∷ Chip.report a t true ∷ []) (all_taken steps (IsTrueOf (scene v high) v.phase) c.protocol.true_chips) in
          let lock = some_lock (v.lock a) (report_registered a t told.1.0.0) in
          let env : Env = map.insert s.atom.env (first + 11) (value.Chan lock.0) in
          let one : Proc = gives 0 (variable (first + 11)) (variable (first + 9)) in
          let two : Proc = acks n (first + 8) (first + 9) in
          let agent_is : map.get env (first + 8) ≡ Some (value.Agent a) = there_is s.atom.env (first + 11) (first + 8) (value.Chan lock.0) (λ e. let bad : ⊥ = omega arith in bad) ∙ took.0 in
          let site_is : map.get env (first + 9) ≡ Some (value.Site t) = there_is s.atom.env (first + 11) (first + 9) (value.Chan lock.0) (λ e. let bad : ⊥ = omega arith in bad) ∙ took.1 in
          becomes c next e e.actor (goes_under s.atom (beside 0 (beside 0 one two) (frees n (first + 10))) env) (Thing.looking (Mail.migrated a t) ps ∷ [])
          (Thing.free lock.0 t ∷ Thing.mail (Mail.ack a t) (Stage.in_agent s.atom.agent) ∷ Thing.places ps ∷ []) refl (record {
            applies = h;
            is = finds_lock low e next s (first + 8) (first + 10) (first + 11) (beside 0 (beside 0 one two) (frees n (first + 10))) a lock.0 ps text took.0 map_is (told.0 a ∙ lock.1);
            no_packet = no_packet;
            there = at;
            headed = All-from_recursion (λ u. high_atom u ≡ None) (Thing.mail (Mail.ack a t) (Stage.in_agent s.atom.agent) ∷ Thing.places ps ∷ []) (refl, (refl, tt));
            are = Are.both {k = 0} {p = beside 0 one two} {q = frees n (first + 10)} refl
                (Are.both {k = 0} {p = one} {q = two} refl
                (Are.one (record { agent = its.agent; gives = gives_two s.atom.agent 0 (first + 11) (first + 9) env lock.0 (value.Site t) (here_is s.atom.env (first + 11) (value.Chan lock.0)) site_is }))
                (Are.one (
                  record {
                    agent = refl;
                    receiver = variable (first + 8);
                    to = variable (first + 9);
                    chan = ack n;
                    sent = unit;
                    role = refl;
                    is = forms.outs-Send (variable (first + 8)) (variable (first + 9)) (ack n) unit;
                    for_agent = rw (variable-is (first + 8) env, agent_is, outs.outs-Agent a) refl;
                    for_site = variable-is (first + 9) env ∙ site_is;
                    on = channel-is (own n 7) env;
                    holds = unit-is env;
                  },
                  tt,
                )))
                (Are.one (record {
                  agent = its.agent;
                  gives = gives_own n 10 0 (first + 10) s.atom.agent env (value.Places ps)
                      (there_is s.atom.env (first + 11) (first + 10) (value.Chan lock.0) (λ e. let bad : ⊥ = omega arith in bad) ∙ map_is);
                }));
            atoms = refl;
            packets = refl;
            protocol = λ step. keeps-protocol (scene v high) (scene v high) v.phase (chips v.things) _ (Chip.report a t true ∷ []) (Chip.ack_sent a t ∷ Chip.free lock.0 t ∷ []) (Rule.notes {a = a} {l = lock.0} {t = t} lock.1)
                (cancel (Chip.report a t true ∷ []) (Chip.ack_sent a t ∷ Chip.free lock.0 t ∷ []) (Chip.locks (find_place ps) ∷ []) step (permuted swapped) (permuted swapped)) c.protocol;
            children = λ a b any. any;
            known = λ k. (tt, (tt, (tt, tt)));
            hints = handed_on low high next;
            carriers = λ k. (tt, (tt, (tt, tt)));
          })
      go (Mail.asks a b) Service.tells took map_is text at =
          let told = recursion_from_All (IsTrueOf (scene v high) v.phase) (Chip.locks (find_place ps) ∷ Chip.knows a ∷ Chip.knows b ∷ [])
          (all_taken (step_at shows v.things e.actor (Thing.looking (Mail.asks a b) ps ∷ []) [] at) (IsTrueOf (scene v high) v.phase) c.protocol.true_chips) in
          let lock = some_lock (v.lock b) told.1.1.0 in
          let env : Env = map.insert s.atom.env (first + 24) (value.Chan lock.0) in
          becomes c next e e.actor (goes_under s.atom (looks_back n first) env) (Thing.looking (Mail.asks a b) ps ∷ []) (Thing.looking_back a b lock.0 ps ∷ []) refl (record {
            applies = h;
            is = finds_lock low e next s (first + 22) (first + 23) (first + 24) (looks_back n first) b lock.0 ps text took.1 map_is (told.0 b ∙ lock.1);
            no_packet = no_packet;
            there = at;
            headed = All-nil (λ u. high_atom u ≡ None);
            are = Are.one (record {
              asks = record {
                agent = its.agent;
                asker = there_is s.atom.env (first + 24) (first + 21) (value.Chan lock.0) (λ e. let bad : ⊥ = omega arith in bad) ∙ took.0;
                sought = there_is s.atom.env (first + 24) (first + 22) (value.Chan lock.0) (λ e. let bad : ⊥ = omega arith in bad) ∙ took.1;
              };
              is = refl;
              places = there_is s.atom.env (first + 24) (first + 23) (value.Chan lock.0) (λ e. let bad : ⊥ = omega arith in bad) ∙ map_is;
              lock = here_is s.atom.env (first + 24) (value.Chan lock.0);
            });
            atoms = refl;
            packets = refl;
            protocol = λ step. keeps-protocol (scene v high) (scene v high) v.phase (chips v.things) _ (Chip.knows b ∷ []) (Chip.wants b lock.0 ∷ [])
                (Rule.knows (All-from_recursion IsKnowledge (Chip.knows b ∷ []) (tt, tt)) (All-from_recursion (IsLearnt (scene v high)) (Chip.wants b lock.0 ∷ []) (lock.1, tt)))
                (cancel (Chip.knows b ∷ []) (Chip.wants b lock.0 ∷ []) (Chip.locks (find_place ps) ∷ Chip.knows a ∷ []) step
                (permuted (and_then (behind swapped) swapped)) (permuted swapped)) c.protocol;
            children = λ a b any. any;
            known = λ k. (tt, tt);
            hints = handed_on low high next;
            carriers = λ k. (tt, tt);
          })
      go (Mail.register b t) Service.registers took map_is text at = absurd (let bad = sym s.form ∙ ap layer text ∙ forms.outs-New _ _ _ in cc)
      go (Mail.ack y u) Service.registers took map_is text at = absurd took
      go (Mail.deliver q u) Service.registers took map_is text at = absurd took
      go (Mail.found y u b t) Service.registers took map_is text at = absurd took
      go _ _ took map_is text at = absurd took

  -- the lock of the agent that is sought was found, and the daemon looks up the one that asks
  pub looked_back : (e : Event) (next : Config) (s : IsFinding low e next) (a b l : Name) (ps : List (Name × Name)) → IsLookingBack n first a b l ps s.atom
      → map.get low.packets e.actor ≡ None → map.get v.things e.actor ≡ Some (Thing.looking_back a b l ps ∷ [])
      → apply low e ≡ Some next → (w : View) × (w.standing ≡ v.standing) × Coupled i n from first next high w × SameLetters v w
  looked_back e next s a b l ps j no_packet there h =
      let told = recursion_from_All (IsTrueOf (scene v high) v.phase) (Chip.locks (find_place ps) ∷ Chip.wants b l ∷ Chip.knows a ∷ [])
      (all_taken (step_at shows v.things e.actor (Thing.looking_back a b l ps ∷ []) [] there) (IsTrueOf (scene v high) v.phase) c.protocol.true_chips) in
      let its = some_lock (v.lock a) told.1.1.0 in
      let env : Env = map.insert s.atom.env (first + 25) (value.Chan its.0) in
      let left : Proc = reads_locks n (first + 21) (first + 22) (first + 24) (first + 25) (first + 26) (first + 27) in
      becomes c next e e.actor (goes_under s.atom (beside 0 left (frees n (first + 23))) env) (Thing.looking_back a b l ps ∷ []) (Thing.reading a b l its.0 ∷ Thing.places ps ∷ []) refl (record {
        applies = h;
        is = finds_lock low e next s (first + 21) (first + 23) (first + 25) (beside 0 left (frees n (first + 23))) a its.0 ps j.is j.asks.asker j.places (told.0 a ∙ its.1);
        no_packet = no_packet;
        there = there;
        headed = All-from_recursion (λ u. high_atom u ≡ None) (Thing.places ps ∷ []) (refl, tt);
        are = Are.both {k = 0} {p = left} {q = frees n (first + 23)} refl
            (Are.one (record {
              asks = record {
                agent = j.asks.agent;
                asker = there_is s.atom.env (first + 25) (first + 21) (value.Chan its.0) (λ e. let bad : ⊥ = omega arith in bad) ∙ j.asks.asker;
                sought = there_is s.atom.env (first + 25) (first + 22) (value.Chan its.0) (λ e. let bad : ⊥ = omega arith in bad) ∙ j.asks.sought;
              };
              is = refl;
              lock = there_is s.atom.env (first + 25) (first + 24) (value.Chan its.0) (λ e. let bad : ⊥ = omega arith in bad) ∙ j.lock;
              asker_lock = here_is s.atom.env (first + 25) (value.Chan its.0);
            }))
            (Are.one (record {
              agent = j.asks.agent;
              gives = gives_own n 10 0 (first + 23) s.atom.agent env (value.Places ps) (there_is s.atom.env (first + 25) (first + 23) (value.Chan its.0) (λ e. let bad : ⊥ = omega arith in bad) ∙ j.places);
            }));
        atoms = refl;
        packets = refl;
        protocol = λ step. keeps-protocol (scene v high) (scene v high) v.phase (chips v.things) _ (Chip.knows a ∷ []) (Chip.wants a its.0 ∷ [])
            (Rule.knows (All-from_recursion IsKnowledge (Chip.knows a ∷ []) (tt, tt)) (All-from_recursion (IsLearnt (scene v high)) (Chip.wants a its.0 ∷ []) (its.1, tt)))
            (cancel (Chip.knows a ∷ []) (Chip.wants a its.0 ∷ []) (Chip.locks (find_place ps) ∷ Chip.wants b l ∷ []) step
            (permuted (and_then (behind swapped) swapped)) (permuted (and_then swapped (behind swapped)))) c.protocol;
        children = λ a b any. any;
        known = λ k. (tt, (tt, tt));
        hints = handed_on low high next;
        carriers = λ k. (tt, (tt, tt));
      })
