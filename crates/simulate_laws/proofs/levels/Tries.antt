-- A messenger tests whether the agent is there: if it is, the output that was posted is there too, and else the letter goes by the daemon.
use Rattle.std.proofs.Common.{◌≡◌, ◌⊎◌, inl, inr, ℕ, Bool, true, false, ◌||◌, cond, is_some, None, Some, List, [], ◌∷◌, refl, sym, ap, ◌∙◌}
use Rattle.std.proofs.lemmas.List.Elements.{All-from_recursion, All-nil, recursion_from_All}
use Rattle.std.proofs.lemmas.List.Sorted.{IsPermutation-refl}
use Rattle.std.specs.FinMap as map
use Rattle.std.specs.FinSet as set
use Rattle.np_syntax.specs.declared.value.Name.{Name}
use Rattle.np_syntax.specs.declared.value.Value as value
use Rattle.np_syntax.specs.declared.process.Proc.{Proc}
use Rattle.np_syntax.specs.declared.process.ProcForm.{ProcForm-F}
use Rattle.np_syntax.specs.declared.process.ProcForm.TheVariants as forms
use Rattle.np_syntax.specs.declared.process.Role.TheVariants as role
use Rattle.np_syntax.specs.declared.event.Event.{Event}
use Rattle.np_syntax.specs.declared.event.Kind.TheVariants as kind
use Rattle.np_syntax.specs.Options.{◌>>=◌}
use Rattle.np_syntax.specs.Reordering.{behind, swapped}
use Rattle.np_syntax.proofs.Options.{done}
use Rattle.np_tables.specs.Names.{NameMap, same_name}
use Rattle.np_tables.proofs.Tables.{born_insert, get-put, put_here, same_name-is, same_name-itself, same_name-swap}
use Rattle.np_calculus.specs.declared.config.Atom.{Atom}
use Rattle.np_calculus.specs.Begins.{begun_by}
use Rattle.np_calculus.specs.Changes.{effect, put, still, with_made}
use Rattle.np_calculus.specs.Config.{Config}
use Rattle.np_calculus.specs.Reductions.{apply, becomes as goes_on, goes, output_in, row}
use Rattle.np_calculus.specs.Starts.{daemon_agent, own}
use Rattle.np_calculus.proofs.OwnNames.{not_true}
use Rattle.np_eval.specs.Eval.{agent_of, chan_of, eval}
use Rattle.np_eval.specs.Forms.{layer}
use Rattle.simulate_laws.specs.protocol.Chips.{Chip}
use Rattle.simulate_laws.specs.protocol.Phases.{Phase}
use Rattle.simulate_laws.specs.protocol.Protocol.{IsTrueOf, Protocol}
use Rattle.simulate_laws.specs.protocol.Rules.{IsKnowledge, IsLearnt, Rule}
use Rattle.simulate_laws.proofs.protocol.Keeps.{keeps-protocol}
use Rattle.simulate_laws.proofs.protocol.Steps.{all_taken}
use Rattle.np_lift.specs.CachedLift.{Standing, stands_for, with_mark}
use Rattle.np_lift.proofs.Standings.{stands-as_before, stands-new}
use Rattle.infrastructure_texts.specs.Texts.{letter}
use Rattle.infrastructure_texts.specs.Pieces.{daemon, message, pair, site, stop, tells}
use Rattle.infrastructure_texts.specs.CacheTexts.{asking, asks, hands_back}
use Rattle.infrastructure_texts.specs.Infrastructures.{Infrastructure}
use Rattle.simulate_laws.specs.things.Acting.{begins}
use Rattle.simulate_laws.specs.things.CacheShapes.{IsTrying}
use Rattle.simulate_laws.specs.things.Mail.{Mail, Posted, as_output}
use Rattle.simulate_laws.specs.things.Shapes.{Are, Is}
use Rattle.simulate_laws.specs.things.Things.{Stage, Thing, first_atom_of, high_atom, shows}
use Rattle.simulate_laws.proofs.things.Starts.{constant-is}
use Rattle.simulate_laws.specs.levels.Coupled.{Coupled, IsCarrier, KnowsOnly, View, chips, is_channel, is_child_of, may_know, scene}
use Rattle.simulate_laws.specs.levels.Laws.{MessengersTry}
use Rattle.simulate_laws.specs.levels.Letters.{IsFinding, IsMissing, first_letter_of, letter_under}
use Rattle.simulate_laws.proofs.levels.Actors.{known_apart}
use Rattle.simulate_laws.proofs.levels.Becomes.{becomes, cancel}
use Rattle.np_calculus.proofs.BornKept.{born-kept, made-kept}
use Rattle.simulate_laws.proofs.levels.Caches.{by_step, carry_put, handed_on, low_grows}
use Rattle.simulate_laws.proofs.levels.Locals.{FindsIt, IsLocating, Misses, locating}
use Rattle.simulate_laws.proofs.levels.Marks.{step_at}
use Rattle.simulate_laws.proofs.levels.Orders.{permuted}
use Rattle.simulate_laws.proofs.levels.Quiet.{any_kept, things_born}
use Rattle.simulate_laws.proofs.levels.Shapes.{of_actor, same_role}
use Rattle.simulate_laws.proofs.levels.Shifts.{Shifted, shift}
use Rattle.simulate_laws.proofs.levels.Values.{agent-is, channel-is, letter-is, named-agent, pair-is}

module _ {i : Infrastructure} {n from first : ℕ} {low high : Config} {v : View} (c : Coupled i n from first low high v) (e : Event) (next : Config) (h : apply low e ≡ Some next)
    (s : IsLocating low e next) (no_packet : map.get low.packets e.actor ≡ None) (cached : i ≡ Infrastructure.cached) (p : Posted) (t a : Name)
    (there : map.get v.things e.actor ≡ Some (Thing.trying p t a ∷ [])) (tries : IsTrying n p t a s.atom) where
  abbrev node : ℕ
  node = tries.node

  -- what the text of the test says
  record Parts : Type 0 where
    met : s.met ≡ stop node
    unmet : s.unmet ≡ hands_back n node tries.named tries.to tries.on tries.sent
    agent : s.agent ≡ p.agent
    chan : s.chan ≡ p.chan
    what : s.what ≡ p.value

  parts : Parts
  parts =
      let text : ProcForm-F.IfLocal s.agent_named s.chan_named s.sent s.met s.unmet
      ≡ ProcForm-F.IfLocal tries.to tries.on tries.sent (stop node) (hands_back n node tries.named tries.to tries.on tries.sent) =
      sym s.form ∙ ap layer tries.is ∙ forms.outs-IfLocal _ _ _ _ _ in
      let to : s.agent_named ≡ tries.to = cc in
      let on : s.chan_named ≡ tries.on = cc in
      let sent : s.sent ≡ tries.sent = cc in
      record {
        met = cc;
        unmet = cc;
        agent = done (sym tries.carries.for_agent ∙ sym (ap (λ y. agent_of y s.atom.env) to) ∙ s.its_agent);
        chan = done (sym tries.carries.its_chan ∙ sym (ap (λ y. chan_of y s.atom.env) on) ∙ s.its_chan);
        what = done (sym tries.carries.its_value ∙ sym (ap (λ y. eval y s.atom.env) sent) ∙ s.its_value);
      }

  -- the letter's agent is in the map, and the one that posted it
  told : (is_some (v.lock p.agent) ≡ true) × (is_some (v.lock a) ≡ true)
  told =
      let claims = recursion_from_All (IsTrueOf (scene v high) v.phase) (Chip.knows p.agent ∷ Chip.knows a ∷ [])
      (all_taken (step_at shows v.things e.actor (Thing.trying p t a ∷ []) [] there) (IsTrueOf (scene v high) v.phase) c.protocol.true_chips) in
      (claims.0, claims.1.0)

  -- ---- the agent is there

  module _ (it : FindsIt low e next s.atom s.met s.agent s.chan s.what) where
    abbrev m : Name
    m = it.new

    abbrev low_rest : Atom
    low_rest = goes s.atom (stop node)

    abbrev low_child : Atom
    low_child = output_in p.agent p.chan p.value e.tag

    abbrev standing : Standing
    standing = with_mark v.standing m e.actor

    is : next ≡ effect low e (record still { atoms = put m low_child ∷ put e.actor low_rest ∷ [] })
    is = it.is ∙ ap (λ z. effect low e (record still { atoms = put m (output_in z s.chan s.what e.tag) ∷ put e.actor (goes s.atom s.met) ∷ [] })) parts.agent
        ∙ ap (λ z. effect low e (record still { atoms = put m (output_in p.agent z s.what e.tag) ∷ put e.actor (goes s.atom s.met) ∷ [] })) parts.chan
        ∙ ap (λ z. effect low e (record still { atoms = put m (output_in p.agent p.chan z e.tag) ∷ put e.actor (goes s.atom s.met) ∷ [] })) parts.what
        ∙ ap (λ z. effect low e (record still { atoms = put m low_child ∷ put e.actor (goes s.atom z) ∷ [] })) parts.met

    born : (q : Name) → set.contains low.born q ≡ true → set.contains next.born q ≡ true
    born q j = ap (λ (d : Config). set.contains d.born q) is ∙ made-kept low.born e.made q j

    mark_born : set.contains next.born m ≡ true
    mark_born = ap (λ (d : Config). set.contains d.born m) is ∙ ap (λ k. set.contains (with_made low.born k) m) it.made_one
        ∙ born_insert low.born m m ∙ ap (λ t. t || set.contains low.born m) (same_name-itself m)

    high_there : map.get high.atoms (stands_for v.standing e.actor) ≡ Some (as_output p)
    high_there = c.mirrored.up e.actor (as_output p) (ap (λ o. o >>= first_atom_of) there)

    shifted : Shifted c e next high m standing (Thing.trying p t a) (Thing.opened p) low_rest low_child
    shifted = shift c e next high m standing (Thing.trying p t a) (Thing.opened p) low_rest low_child (record {
      there = there;
      old_atom = as_output p;
      was = refl;
      was_no_packet = refl;
      new_atom = as_output p;
      now = refl;
      no_high_packet = refl;
      new = it.is_new;
      no_packet = no_packet;
      stands_new = stands-new v.standing m e.actor;
      stands_old = stands-as_before v.standing m e.actor;
      atoms = λ q. ap (λ (d : Config). map.get d.atoms q) is ∙ get-put (map.insert low.atoms m low_child) e.actor low_rest q
          ∙ ap (cond (same_name q e.actor) (Some low_rest)) (get-put low.atoms m low_child q);
      packets = λ q. ap (λ (d : Config). map.get d.packets q) is;
      high_atoms = λ k. still_high k (same_name k (stands_for v.standing e.actor)) refl;
      high_packets = λ k. refl;
      born = born;
      mark_born = mark_born;
      are_rest = Are.one (cached, record { node = node; is = refl });
      are_child = Are.one (record { apart = known_apart c p.agent told.0; tag = e.tag; is = refl });
    })
      where
        -- it has the output of the letter already
        still_high : (k : Name) (b : Bool) → same_name k (stands_for v.standing e.actor) ≡ b → map.get high.atoms k ≡ cond b (Some (as_output p)) (map.get high.atoms k)
        still_high k true f = ap (map.get high.atoms) (same_name-is k (stands_for v.standing e.actor) f) ∙ high_there
        still_high k false f = refl

    abbrev things : NameMap (List Thing)
    things = map.insert (map.insert v.things e.actor (Thing.ended ∷ [])) m (Thing.opened p ∷ [])

    protocol : (then : Name → Phase) × Protocol (scene v high) then (chips things)
    protocol = keeps-protocol (scene v high) (scene v high) v.phase (chips v.things) (chips things) (Chip.knows p.agent ∷ Chip.knows a ∷ []) []
        (Rule.knows (All-from_recursion IsKnowledge (Chip.knows p.agent ∷ Chip.knows a ∷ []) (tt, (tt, tt))) (All-nil (IsLearnt (scene v high)))) shifted.step c.protocol

    knows : KnowsOnly (may_know v.lock (chips v.things) (Thing.trying p t a)) (is_channel n high.born) from (Thing.trying p t a)
    knows = (recursion_from_All (λ t. KnowsOnly (may_know v.lock (chips v.things) t) (is_channel n high.born) from t) (Thing.trying p t a ∷ [])
        (c.known e.actor (Thing.trying p t a ∷ []) there)).0

    abbrev w : View
    w = record { things = things; standing = standing; lock = v.lock; phase = protocol.0 }

    coupled : Coupled i n from first next high w
    coupled = record {
      low_sites = ap (λ (d : Config). d.sites) is ∙ c.low_sites;
      high_sites = c.high_sites;
      daemon = ap (λ (d : Config). map.get d.places (daemon_agent n)) is ∙ c.daemon;
      no_daemon = c.no_daemon;
      places = λ q f g. ap (λ (d : Config). map.get d.places q) is ∙ c.places q f g;
      messengers = c.messengers;
      messengers_born = λ q j. born q (c.messengers_born q j);
      said = ap (λ (d : Config). d.said) is ∙ c.said;
      born = λ q j. born q (c.born q j);
      own_born = c.own_born;
      stand_born = born-kept low next e c.stand_born h;
      shaped = shifted.shaped;
      mirrored = shifted.mirrored;
      mirrored_packets = shifted.mirrored_packets;
      new_marks = shifted.new_marks;
      old_marks = shifted.old_marks;
      distinct = shifted.distinct;
      protocol = protocol.1;
      locks_born = λ a l j. born l (c.locks_born a l j);
      locks_apart = c.locks_apart;
      main = c.main;
      known = shifted.known (λ x y. any_kept (is_child_of x y) shifted.step (λ any. absurd cc)) knows;
      hints = λ k. by_step low high next high v.things things shifted.cache_step (handed_on low high next) k (low_grows low high next born) (c.hints k);
      carriers = carry_put v.standing.messengers (map.insert v.things e.actor (Thing.ended ∷ [])) m
          (carry_put v.standing.messengers v.things e.actor c.carriers (Thing.ended ∷ []) (All-from_recursion (IsCarrier v.standing.messengers) (Thing.ended ∷ []) (tt, tt))) (Thing.opened p ∷ [])
          (All-from_recursion (IsCarrier v.standing.messengers) (Thing.opened p ∷ []) (tt, tt));
    }

    -- nothing was under way under the new mark
    after : (q : Name) (x y : Bool) → same_name q m ≡ x → same_name q e.actor ≡ y → cond x None (cond y None (letter_under v.things q)) ≡ cond y None (letter_under v.things q)
    after q true true f g = refl
    after q true false f g = sym (ap (λ o. o >>= first_letter_of) (ap (map.get v.things) (same_name-is q m f) ∙ shifted.unseen))
    after q false y f g = refl

    other : same_name e.actor m ≡ false
    other = not_true _ (λ u. let bad : false ≡ true = sym it.is_new ∙ ap (set.contains low.born) (sym (same_name-is e.actor m u)) ∙ things_born c e.actor (Thing.trying p t a ∷ []) there in cc)

    found : IsFinding next e v w
    found = record {
      mark = m;
      made_one = it.made_one;
      standing = refl;
      letter = p;
      was = ap (λ o. o >>= first_letter_of) there;
      tag = e.tag;
      stands = ap (λ (d : Config). map.get d.atoms m) is ∙ get-put (map.insert low.atoms m low_child) e.actor low_rest m
          ∙ ap (λ z. cond z (Some low_rest) (map.get (map.insert low.atoms m low_child) m)) (same_name-swap m e.actor ∙ other) ∙ put_here low.atoms m low_child;
      after = λ q. shifted.letters q ∙ after q (same_name q m) (same_name q e.actor) refl refl;
      ended = get-put (map.insert v.things e.actor (Thing.ended ∷ [])) m (Thing.opened p ∷ []) e.actor
          ∙ ap (λ t. cond t (Some (Thing.opened p ∷ [])) (map.get (map.insert v.things e.actor (Thing.ended ∷ [])) e.actor)) other
          ∙ put_here v.things e.actor (Thing.ended ∷ []);
    }

  -- ---- it is not

  missed : Misses low e next s.atom s.unmet s.agent → (w : View) × Coupled i n from first next high w × IsMissing e v w
  missed it =
      let one : Proc = tells n node (message n) (pair tries.to (letter tries.on tries.sent)) in
      let two : Proc = asks n node tries.named tries.to in
      let us : List Thing = Thing.mail (Mail.message p) (Stage.in_agent s.atom.agent) ∷ Thing.mail (Mail.asks a p.agent) (Stage.in_agent s.atom.agent) ∷ [] in
      let env = s.atom.env in
      let next_things = becomes c next e e.actor (goes s.atom (hands_back n node tries.named tries.to tries.on tries.sent)) (Thing.trying p t a ∷ []) us refl (record {
        applies = h;
        is = it.is ∙ ap (λ z. effect low e (goes_on e (goes s.atom z))) parts.unmet;
        no_packet = no_packet;
        there = there;
        headed = All-from_recursion (λ u. high_atom u ≡ None) (Thing.mail (Mail.asks a p.agent) (Stage.in_agent s.atom.agent) ∷ []) (refl, tt);
        are = Are.both {k = node} {p = one} {q = two} refl
            (Are.one (
              record {
                agent = refl;
                receiver = daemon n;
                to = site 0;
                chan = message n;
                sent = pair tries.to (letter tries.on tries.sent);
                role = refl;
                is = forms.outs-Send (daemon n) (site 0) (message n) (pair tries.to (letter tries.on tries.sent));
                for_agent = agent-is (daemon_agent n) env;
                for_site = constant-is (value.Site 0) env;
                on = channel-is (own n 5) env;
                holds = letter-is tries.to tries.on tries.sent env p.agent p.chan p.value tries.carries.for_agent tries.carries.its_chan tries.carries.its_value;
              },
              tt,
            ))
            (Are.one (
              record {
                agent = refl;
                receiver = daemon n;
                to = site 0;
                chan = asking n;
                sent = pair tries.named tries.to;
                role = refl;
                is = forms.outs-Send (daemon n) (site 0) (asking n) (pair tries.named tries.to);
                for_agent = agent-is (daemon_agent n) env;
                for_site = constant-is (value.Site 0) env;
                on = channel-is (own n 15) env;
                holds = pair-is tries.named tries.to (value.Agent a) (value.Agent p.agent) env (named-agent tries.named env a tries.carries.sender) (named-agent tries.to env p.agent tries.carries.for_agent);
              },
              tt,
            ));
        atoms = refl;
        packets = refl;
        protocol = λ step. keeps-protocol (scene v high) (scene v high) v.phase (chips v.things) _ [] (Chip.knows p.agent ∷ [])
            (Rule.knows (All-nil IsKnowledge) (All-from_recursion (IsLearnt (scene v high)) (Chip.knows p.agent ∷ []) (told.0, tt)))
            (cancel [] (Chip.knows p.agent ∷ []) (Chip.knows p.agent ∷ Chip.knows a ∷ []) step (IsPermutation-refl (Chip.knows p.agent ∷ Chip.knows a ∷ [])) (permuted (behind swapped))) c.protocol;
        children = λ x y any. absurd cc;
        known = λ k. (k.0, (tt, tt));
        hints = handed_on low high next;
        carriers = λ k. (tt, (tt, tt));
      }) in
      (next_things.0, next_things.2, record { made_none = it.made_none; standing = next_things.1; letters = next_things.3 })

  tried : (w : View) × Coupled i n from first next high w × (IsFinding next e v w ⊎ IsMissing e v w)
  tried = elim s.ends [ inl it ↦ (w it, coupled it, inl (found it)) | inr it ↦ (let r = missed it in (r.0, r.1, inr r.2)) ]

-- what of the infrastructure tests for an agent is a messenger
tries_by : {R : Type 0} (i : Infrastructure) (n from first : ℕ) (u : Thing) (lo : Atom) → Is i n from first u lo → begins u role.Infra kind.Local ≡ true
    → (i ≡ Infrastructure.cached → (p : Posted) (t a : Name) → u ≡ Thing.trying p t a → IsTrying n p t a lo → R) → R
tries_by _ n from first (Thing.trying p t a) lo j begun r = r j.0 p t a refl j.1
tries_by _ n from first (Thing.mail m (Stage.in_agent x)) lo j begun r = absurd cc
tries_by _ n from first _ lo j begun r = absurd cc

pub messengers-try : {i : Infrastructure} → MessengersTry i
messengers-try n from first low high v c e next is_local infra h =
    let s = locating low e next (ap (λ k. row k low e) (sym is_local) ∙ h) in
    let o = of_actor c e.actor s.atom kind.Local role.Infra s.acts.there (ap begun_by s.form) (same_role s.atom.proc.tag e.tag s.acts.tag ∙ infra) (λ k r. cc) in
    tries_by _ n from first o.thing s.atom o.is o.its_kind λ cached p t a thing j.
    tried c e next h s o.no_packet cached p t a (o.there ∙ ap (λ t. Some (t ∷ [])) thing) j
