-- A messenger is made for a post: at the high level that is the post, and the messenger's mark stands for that of the post from then on.
use Rattle.std.proofs.Common.{◌≡◌, ◌+◌, ◌≤◌, ℕ, Bool, true, false, ◌||◌, cond, Option, None, Some, List, [], ◌∷◌, refl, sym, ap, ◌∙◌, arith}
use Rattle.std.specs.List.{All}
use Rattle.std.proofs.lemmas.List.Elements.{All-from_recursion, All-nil, All-weaker}
use Rattle.std.specs.FinMap as map
use Rattle.std.specs.FinSet as set
use Rattle.np_syntax.specs.declared.value.Name.{Name}
use Rattle.np_syntax.specs.declared.value.Value as value
use Rattle.np_syntax.specs.declared.value.Value.TheVariants as outs
use Rattle.np_syntax.specs.declared.expression.Expr.{Expr}
use Rattle.np_syntax.specs.declared.process.Proc.{Proc}
use Rattle.np_syntax.specs.declared.process.ProcForm.TheVariants as forms
use Rattle.np_syntax.specs.declared.process.Role.TheVariants as role
use Rattle.np_syntax.specs.declared.event.Event.{Event}
use Rattle.np_syntax.specs.declared.event.Kind.TheVariants as kind
use Rattle.np_syntax.specs.Options.{◌>>=◌}
use Rattle.np_tables.specs.Names.{NameMap, same_name}
use Rattle.np_tables.proofs.Tables.{born_insert, get-put, put_here, same_name-is, same_name-itself, same_name-swap}
use Rattle.np_calculus.specs.declared.config.Atom.{Atom}
use Rattle.np_calculus.specs.declared.config.Place.{Place}
use Rattle.np_calculus.specs.declared.config.Place.TheVariants as place
use Rattle.np_calculus.specs.Begins.{begun_by}
use Rattle.np_calculus.specs.Changes.{effect, put, still, with_made}
use Rattle.np_calculus.specs.Config.{Config}
use Rattle.np_calculus.specs.Reductions.{apply, goes_under, row}
use Rattle.np_calculus.specs.Starts.{daemon_agent}
use Rattle.np_calculus.proofs.OwnNames.{not_true}
use Rattle.np_eval.specs.Eval.{Env}
use Rattle.np_eval.specs.Forms.{layer}
use Rattle.simulate_laws.specs.protocol.Chips.{Chip}
use Rattle.simulate_laws.specs.protocol.Phases.{Phase}
use Rattle.simulate_laws.specs.protocol.Protocol.{Protocol}
use Rattle.simulate_laws.specs.protocol.Rules.{IsKnowledge, IsLearnt, Rule}
use Rattle.simulate_laws.specs.protocol.Steps.{Step}
use Rattle.simulate_laws.proofs.protocol.Keeps.{keeps-protocol}
use Rattle.np_lift.specs.CachedLift.{stands_for, with_messenger, Standing}
use Rattle.np_lift.specs.CachedPosts.{letter_carried, letter_given, letter_hired, letter_tried}
use Rattle.np_lift.proofs.Standings.{stands-as_before, stands-new}
use Rattle.infrastructure_texts.specs.Pieces.{stop, variable}
use Rattle.infrastructure_texts.specs.CacheTexts.{hands_back, messenger_text, tries}
use Rattle.infrastructure_texts.specs.Infrastructures.{Infrastructure}
use Rattle.simulate_laws.specs.protocol.CacheSteps.{CacheStep}
use Rattle.simulate_laws.specs.things.Acting.{begins}
use Rattle.simulate_laws.specs.things.CacheShapes.{IsHiring}
use Rattle.simulate_laws.specs.things.Mail.{Posted, as_output}
use Rattle.simulate_laws.specs.things.Shapes.{Are, Is, IsAgents, StandsFor}
use Rattle.simulate_laws.specs.things.Things.{Stage, Thing}
use Rattle.simulate_laws.specs.levels.Coupled.{Coupled, IsCarrier, View, chips, is_child_of, scene}
use Rattle.simulate_laws.specs.levels.Laws.{MessengersAreHired, post_of}
use Rattle.simulate_laws.specs.levels.Letters.{IsHiringFor, as_letter, first_letter_of, letter_under}
use Rattle.np_calculus.proofs.BornKept.{born-kept, made-kept}
use Rattle.simulate_laws.proofs.levels.Caches.{by_step, carry_put, low_grows}
use Rattle.simulate_laws.proofs.levels.Creations.{IsCreating, created, creating, same_parts}
use Rattle.simulate_laws.proofs.levels.Outputs.{is-own}
use Rattle.simulate_laws.proofs.levels.Posting.{PostAbove, post_above}
use Rattle.simulate_laws.proofs.levels.Quiet.{any_kept, or_second, things_born}
use Rattle.simulate_laws.proofs.levels.Shapes.{of_actor, same_role}
use Rattle.simulate_laws.proofs.levels.Shifts.{Shifted, shift}
use Rattle.simulate_laws.proofs.levels.Values.{named_is, stands_under}
use Rattle.np_calculus.proofs.Fits.{some}

module _ {i : Infrastructure} {n from first : ℕ} {low high : Config} {v : View} (c : Coupled i n from first low high v) (e : Event) (next : Config) (h : apply low e ≡ Some next)
    (s : IsCreating low e next) (no_packet : map.get low.packets e.actor ≡ None) (cached : i ≡ Infrastructure.cached) (x : Expr) (hi : Atom)
    (there : map.get v.things e.actor ≡ Some (Thing.hiring x hi ∷ [])) (stands : StandsFor n from x hi s.atom) (hires : IsHiring n from x hi s.atom)
    (above : PostAbove c e hi hires.posts.to hires.posts.on hires.posts.sent) where
  abbrev node : ℕ
  node = hires.posts.tag.node

  abbrev site : ℕ
  site = hires.posts.binder + 2

  abbrev binder : ℕ
  binder = hires.posts.binder + 3

  abbrev b : Name
  b = s.agent

  abbrev m : Name
  m = s.mark

  abbrev p : Posted
  p = above.letter

  abbrev then_high : Config
  then_high = effect high (post_of v e) (record still { atoms = put (stands_for v.standing e.actor) (as_output p) ∷ [] })

  abbrev text : Proc
  text = messenger_text n node x hires.posts.to hires.posts.on hires.posts.sent site

  texts : (s.binder ≡ binder) × (s.body ≡ text) × (s.rest ≡ stop node)
  texts = same_parts s.binder binder s.body text s.rest (stop node) (sym s.form ∙ ap layer hires.is ∙ forms.outs-Agent binder text (stop node))

  abbrev low_env : Env
  low_env = map.insert s.atom.env binder (value.Agent b)

  abbrev low_child : Atom
  low_child = record { agent = b; proc = text; env = low_env }

  abbrev low_rest : Atom
  low_rest = goes_under s.atom (stop node) low_env

  is : next ≡ effect low e (created e s.atom binder text (stop node) b m)
  is = s.is ∙ ap (λ z. effect low e (created e s.atom z s.body s.rest b m)) texts.0 ∙ ap (λ z. effect low e (created e s.atom binder z s.rest b m)) texts.1
      ∙ ap (λ z. effect low e (created e s.atom binder text z b m)) texts.2

  -- ---- the messenger is none that there was

  apart : IsAgents n b
  apart = not_true _ (λ t. let bad : false ≡ true = sym s.agent_new ∙ ap (set.contains low.born) (same_name-is b (daemon_agent n) t)
      ∙ c.born (daemon_agent n) (c.own_born (daemon_agent n) (is-own n 1 refl)) in cc)

  no_place : (o : Option Place) → map.get low.places b ≡ o → o ≡ None
  no_place None j = refl
  no_place (Some q) j = absurd (let bad : false ≡ true = sym s.agent_new ∙ c.stand_born.agents b (some _ q j) in cc)

  no_messenger_yet : set.contains v.standing.messengers b ≡ false
  no_messenger_yet = not_true _ (λ t. let bad : false ≡ true = sym s.agent_new ∙ c.messengers_born b t in cc)

  nowhere : map.get high.places b ≡ None
  nowhere = sym (c.places b apart no_messenger_yet) ∙ no_place (map.get low.places b) refl

  -- ---- the things of the two marks

  abbrev us : List Thing
  us = Thing.ended ∷ []

  abbrev ws : List Thing
  ws = Thing.carrying p b hi.agent ∷ []

  abbrev half : NameMap (List Thing)
  half = map.insert v.things e.actor us

  abbrev things : NameMap (List Thing)
  things = map.insert half m ws

  are_rest : Are i n from first low_rest us
  are_rest = Are.one (cached, record { node = node; is = refl })

  still_stands : StandsFor n from x hi (goes_under s.atom text low_env)
  still_stands = stands_under text low_env binder (value.Agent b) refl (let low_binder : from ≤ hires.posts.binder = hires.posts.above in omega arith) stands

  are_child : Are i n from first low_child ws
  are_child =
      let values = above.values low_env still_stands.agrees in
      Are.one (
        cached,
        record {
          agent = refl;
          node = node;
          named = x;
          to = hires.posts.to;
          on = hires.posts.on;
          sent = hires.posts.sent;
          site = site;
          is = refl;
          carries = record { for_agent = values.0; its_chan = values.1; its_value = values.2; sender = rw (named_is still_stands, outs.outs-Agent hi.agent) refl };
        },
        apart,
      )

  -- ---- names

  born : (q : Name) → set.contains low.born q ≡ true → set.contains next.born q ≡ true
  born q j = ap (λ (d : Config). set.contains d.born q) is ∙ made-kept low.born e.made q j

  both_born : set.contains next.born b ≡ true
  both_born = ap (λ (d : Config). set.contains d.born b) is ∙ ap (λ k. set.contains (with_made low.born k) b) s.made_two
      ∙ born_insert (set.insert low.born b) m b
      ∙ or_second (same_name b m) (set.contains (set.insert low.born b) b) (born_insert low.born b b ∙ ap (λ t. t || set.contains low.born b) (same_name-itself b))

  mark_born : set.contains next.born m ≡ true
  mark_born = ap (λ (d : Config). set.contains d.born m) is ∙ ap (λ k. set.contains (with_made low.born k) m) s.made_two
      ∙ born_insert (set.insert low.born b) m m ∙ ap (λ t. t || set.contains (set.insert low.born b) m) (same_name-itself m)

  -- ---- the marks

  abbrev standing : Standing
  standing = with_messenger v.standing b m e.actor

  shifted : Shifted c e next then_high m standing (Thing.hiring x hi) (Thing.carrying p b hi.agent) low_rest low_child
  shifted = shift c e next then_high m standing (Thing.hiring x hi) (Thing.carrying p b hi.agent) low_rest low_child (record {
    there = there;
    old_atom = hi;
    was = refl;
    was_no_packet = refl;
    new_atom = as_output p;
    now = refl;
    no_high_packet = refl;
    new = s.mark_new;
    no_packet = no_packet;
    stands_new = stands-new v.standing m e.actor;
    stands_old = stands-as_before v.standing m e.actor;
    atoms = λ q. ap (λ (d : Config). map.get d.atoms q) is ∙ get-put (map.insert low.atoms m low_child) e.actor low_rest q
        ∙ ap (cond (same_name q e.actor) (Some low_rest)) (get-put low.atoms m low_child q);
    packets = λ q. ap (λ (d : Config). map.get d.packets q) is;
    high_atoms = λ k. get-put high.atoms (stands_for v.standing e.actor) (as_output p) k;
    high_packets = λ k. refl;
    born = born;
    mark_born = mark_born;
    are_rest = are_rest;
    are_child = are_child;
  })

  step : Step (chips v.things) (chips things) [] (Chip.knows p.agent ∷ Chip.knows hi.agent ∷ [])
  step = shifted.step

  protocol : (then : Name → Phase) × Protocol (scene v high) then (chips things)
  protocol = keeps-protocol (scene v high) (scene v high) v.phase (chips v.things) (chips things) [] (Chip.knows p.agent ∷ Chip.knows hi.agent ∷ [])
      (Rule.knows (All-nil IsKnowledge) (All-from_recursion (IsLearnt (scene v high)) (Chip.knows p.agent ∷ Chip.knows hi.agent ∷ []) (above.its_agent, (above.sender, tt)))) step c.protocol

  abbrev w : View
  w = record { things = things; standing = standing; lock = v.lock; phase = protocol.0 }

  -- ---- places

  low_places : (q : Name) → map.get next.places q ≡ cond (same_name q b) (Some (place.At e.site)) (map.get low.places q)
  low_places q = ap (λ (d : Config). map.get d.places q) is ∙ get-put low.places b (place.At e.site) q

  is_messenger : (q : Name) → set.contains standing.messengers q ≡ (same_name q b || set.contains v.standing.messengers q)
  is_messenger q = born_insert v.standing.messengers b q

  places : (q : Name) → same_name q (daemon_agent n) ≡ false → set.contains standing.messengers q ≡ false → map.get next.places q ≡ map.get high.places q
  places q f g = go (same_name q b) refl (sym (is_messenger q) ∙ g)
    where
      go : (t : Bool) → same_name q b ≡ t → (t || set.contains v.standing.messengers q) ≡ false → map.get next.places q ≡ map.get high.places q
      go true t k = absurd cc
      go false t k = low_places q ∙ ap (λ z. cond z (Some (place.At e.site)) (map.get low.places q)) t ∙ c.places q f k

  messengers : (q : Name) → set.contains standing.messengers q ≡ true → (map.get high.places q ≡ None) × (set.contains next.born q ≡ true)
  messengers q g = go (same_name q b) refl (sym (is_messenger q) ∙ g)
    where
      go : (t : Bool) → same_name q b ≡ t → (t || set.contains v.standing.messengers q) ≡ true → (map.get high.places q ≡ None) × (set.contains next.born q ≡ true)
      go true t k = (ap (map.get high.places) (same_name-is q b t) ∙ nowhere, ap (set.contains next.born) (same_name-is q b t) ∙ both_born)
      go false t k = (c.messengers q k, born q (c.messengers_born q k))

  -- ---- what is known, and who carries

  more_carriers : (ts : List Thing) → All (IsCarrier v.standing.messengers) ts → All (IsCarrier standing.messengers) ts
  more_carriers ts k = All-weaker (IsCarrier v.standing.messengers) (IsCarrier standing.messengers) one ts k
    where
      more : (q : Name) → set.contains v.standing.messengers q ≡ true → set.contains standing.messengers q ≡ true
      more q j = is_messenger q ∙ or_second (same_name q b) (set.contains v.standing.messengers q) j

      one : (t : Thing) → IsCarrier v.standing.messengers t → IsCarrier standing.messengers t
      one (Thing.carrying p t a) j = more t j
      one (Thing.trying p t a) j = more t j
      one _ j = tt

  -- ---- the two configurations afterwards

  coupled : Coupled i n from first next then_high w
  coupled = record {
    low_sites = ap (λ (d : Config). d.sites) is ∙ c.low_sites;
    high_sites = c.high_sites;
    daemon = low_places (daemon_agent n) ∙ ap (λ z. cond z (Some (place.At e.site)) (map.get low.places (daemon_agent n))) (same_name-swap (daemon_agent n) b ∙ apart) ∙ c.daemon;
    no_daemon = c.no_daemon;
    places = places;
    messengers = λ q g. (messengers q g).0;
    messengers_born = λ q g. (messengers q g).1;
    said = ap (λ (d : Config). d.said) is ∙ c.said;
    born = λ q j. born q (c.born q j);
    own_born = c.own_born;
    stand_born = born-kept low next e c.stand_born h;
    shaped = shifted.shaped;
    mirrored = shifted.mirrored;
    mirrored_packets = shifted.mirrored_packets;
    new_marks = shifted.new_marks;
    old_marks = shifted.old_marks;
    distinct = shifted.distinct;
    protocol = protocol.1;
    locks_born = λ a l j. born l (c.locks_born a l j);
    locks_apart = c.locks_apart;
    main = c.main;
    known = shifted.known (λ a d. any_kept (is_child_of a d) step (λ w. absurd cc)) (above.its_chan, above.its_value);
    hints = λ k. by_step low high next then_high v.things things shifted.cache_step
        (λ k. CacheStep.still (λ q. refl)) k (low_grows low then_high next born) (c.hints k);
    carriers = carry_put standing.messengers half m
        (carry_put standing.messengers v.things e.actor (λ q ts j. more_carriers ts (c.carriers q ts j)) us (All-from_recursion (IsCarrier standing.messengers) us (tt, tt))) ws
        (All-from_recursion (IsCarrier standing.messengers) ws (is_messenger b ∙ ap (λ t. t || set.contains v.standing.messengers b) (same_name-itself b), tt));
  }

  -- no letter was under way under the mark of the post
  letter_at_actor : (q : Name) (t : Bool) → same_name q e.actor ≡ t → cond t None (letter_under v.things q) ≡ letter_under v.things q
  letter_at_actor q true g = sym (ap (λ o. o >>= first_letter_of) (ap (map.get v.things) (same_name-is q e.actor g) ∙ there))
  letter_at_actor q false g = refl

  other : same_name e.actor m ≡ false
  other = not_true _ (λ t. let bad : false ≡ true = sym s.mark_new ∙ ap (set.contains low.born) (sym (same_name-is e.actor m t)) ∙ things_born c e.actor (Thing.hiring x hi ∷ []) there in cc)

  -- the text of the messenger has the letter
  tries_it : letter_tried (layer (tries n node x hires.posts.to hires.posts.on hires.posts.sent)) s.atom.env ≡ Some (as_letter p)
  tries_it =
      let values = above.values s.atom.env stands.agrees in
      rw (forms.outs-IfLocal hires.posts.to hires.posts.on hires.posts.sent (stop node) (hands_back n node x hires.posts.to hires.posts.on hires.posts.sent), values.0, values.1, values.2) refl

  gives_letter : letter_hired low e.actor ≡ Some (as_letter p)
  gives_letter =
      let form = ap layer hires.is ∙ forms.outs-Agent binder text (stop node) in
      let body = forms.outs-Migrate (variable site) (tries n node x hires.posts.to hires.posts.on hires.posts.sent) in
      ap (λ o. o >>= λ (a : Atom). letter_given (layer a.proc) a.env) s.acts.there
      ∙ ap (λ l. letter_given l s.atom.env) form ∙ ap (λ l. letter_carried l s.atom.env) body ∙ tries_it

  hired : (then : Config) × (apply high (post_of v e) ≡ Some then) × (w : View) × Coupled i n from first next then w × IsHiringFor low then e v w
  hired = (
    then_high,
    above.applies,
    w,
    coupled,
    record {
      messenger = b;
      mark = m;
      made_two = s.made_two;
      standing = refl;
      letter = p;
      sent = gives_letter;
      posted = put_here high.atoms (stands_for v.standing e.actor) (as_output p);
      none = ap (λ o. o >>= first_letter_of) there;
      none_yet = ap (λ o. o >>= first_letter_of) shifted.unseen;
      after = λ q. shifted.letters q ∙ ap (cond (same_name q m) (Some p)) (letter_at_actor q (same_name q e.actor) refl);
      sender = hi.agent;
      carries = put_here half m ws;
      ended = get-put half m ws e.actor ∙ ap (λ t. cond t (Some ws) (map.get half e.actor)) other ∙ put_here v.things e.actor us;
    },
  )

-- who makes an agent for a post has found a hint
hires_by : {R : Type 0} (i : Infrastructure) (n from first : ℕ) (t : Thing) (a : Atom) → Is i n from first t a → begins t role.Post kind.Agent ≡ true
    → (i ≡ Infrastructure.cached → (x : Expr) (hi : Atom) → t ≡ Thing.hiring x hi → StandsFor n from x hi a → IsHiring n from x hi a → R) → R
hires_by _ n from first (Thing.hiring x hi) a j begun r = r j.0 x hi refl j.1 j.2
hires_by _ n from first (Thing.mail m (Stage.in_agent x)) a j begun r = absurd cc
hires_by _ n from first _ a j begun r = absurd cc

pub messengers-are-hired : {i : Infrastructure} → MessengersAreHired i
messengers-are-hired n from first low high v c well lodged e next is_agent post h =
    let s = creating low e next (ap (λ k. row k low e) (sym is_agent) ∙ h) in
    let o = of_actor c e.actor s.atom kind.Agent role.Post s.acts.there (ap begun_by s.form) (same_role s.atom.proc.tag e.tag s.acts.tag ∙ post) (λ k r. cc) in
    hires_by _ n from first o.thing s.atom o.is o.its_kind λ cached x hi thing stands j.
    let there : map.get v.things e.actor ≡ Some (Thing.hiring x hi ∷ []) = o.there ∙ ap (λ t. Some (t ∷ [])) thing in
    let above = post_above c well lodged e s.atom s.acts (Thing.hiring x hi) x hi there
    (record { silent = (refl, refl, refl); atom = refl; packet = refl; knows = λ lock cs chans from k. k }) stands
    j.posts.tag j.posts.at j.posts.to j.posts.on j.posts.sent j.posts.is (ap (λ (q : Proc). q.tag.node) j.is) in
    hired c e next h s o.no_packet cached x hi there stands j above
