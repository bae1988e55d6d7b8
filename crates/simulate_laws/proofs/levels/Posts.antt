-- A post leaves for the daemon: it is a post of the high level.
use Rattle.std.proofs.Common.{◌≡◌, ℕ, Bool, true, false, cond, is_some, Option, None, Some, List, [], ◌∷◌, refl, sym, ap, subst, ◌∙◌, ◌++◌}
use Rattle.std.specs.List.{All}
use Rattle.std.proofs.lemmas.List.Elements.{All-from_recursion, All-nil, All-weaker}
use Rattle.std.specs.FinMap as map
use Rattle.std.specs.FinSet as set
use Rattle.np_syntax.specs.declared.value.Name.{Name}
use Rattle.np_syntax.specs.declared.value.Value as value
use Rattle.np_syntax.specs.declared.value.Value.TheVariants as outs
use Rattle.np_syntax.specs.declared.expression.Expr.{Expr}
use Rattle.np_syntax.specs.declared.process.Tag.{Tag}
use Rattle.np_syntax.specs.declared.process.Proc.{Proc}
use Rattle.np_syntax.specs.declared.process.Role.TheVariants as role
use Rattle.np_syntax.specs.declared.process.ProcForm as form
use Rattle.np_syntax.specs.declared.process.ProcForm.TheVariants as forms
use Rattle.np_syntax.specs.declared.event.Event.{Event}
use Rattle.np_syntax.specs.declared.event.Kind.TheVariants as kind
use Rattle.np_syntax.specs.Options.{◌>>=◌}
use Rattle.np_syntax.proofs.Options.{done}
use Rattle.np_tables.specs.Names.{NameMap, same_name}
use Rattle.np_tables.proofs.Tables.{get-put, put_here, same_name-is}
use Rattle.np_calculus.specs.declared.config.Atom.{Atom}
use Rattle.np_calculus.specs.Begins.{begun_by}
use Rattle.np_calculus.specs.Config.{Config}
use Rattle.np_calculus.specs.Reductions.{apply, row}
use Rattle.np_calculus.specs.Starts.{daemon_agent, own}
use Rattle.np_eval.specs.Eval.{eval}
use Rattle.np_eval.specs.Forms.{layer}
use Rattle.infrastructure_texts.specs.Pieces.{daemon, message, pair, site}
use Rattle.infrastructure_texts.specs.Texts.{letter, post_text}
use Rattle.infrastructure_texts.specs.Infrastructures.{Infrastructure}
use Rattle.daemon_encode.specs.Translates.{Translates, source}
use Rattle.simulate_laws.specs.things.Acting.{begins}
use Rattle.simulate_laws.specs.things.Shapes.{Is, StandsFor}
use Rattle.simulate_laws.specs.things.Things.{Stage, Thing, shows, shows_caches}
use Rattle.simulate_laws.proofs.things.Acting.{source-plain}
use Rattle.np_calculus.specs.Changes.{effect, put, still, with_made}
use Rattle.np_lift.specs.Posts.{letter_at, letter_sent}
use Rattle.np_lift.specs.CachedLift.{stands_for}
use Rattle.simulate_laws.specs.protocol.CacheSteps.{CacheStep}
use Rattle.simulate_laws.specs.protocol.Chips.{Chip}
use Rattle.simulate_laws.specs.protocol.Phases.{Phase}
use Rattle.simulate_laws.specs.protocol.Protocol.{Protocol}
use Rattle.simulate_laws.specs.protocol.Rules.{IsKnowledge, IsLearnt, Rule}
use Rattle.simulate_laws.specs.protocol.Steps.{Step}
use Rattle.simulate_laws.proofs.protocol.Keeps.{keeps-protocol}
use Rattle.simulate_laws.specs.things.Mail.{Mail, Posted, as_output, packet_of}
use Rattle.simulate_laws.specs.things.Things.{first_atom_of, first_packet_of}
use Rattle.simulate_laws.proofs.things.Starts.{constant-is}
use Rattle.simulate_laws.specs.levels.Coupled.{Coupled, IsShaped, KnowsOnly, View, chips, is_channel, is_child_of, may_know, scene, IsCarrier, cache_chips, is_high}
use Rattle.simulate_laws.specs.levels.Laws.{PostsAreEvents, post_of}
use Rattle.simulate_laws.specs.levels.Letters.{IsPosting, as_letter, first_letter_of}
use Rattle.simulate_laws.specs.levels.Mirrors.{Mirrors}
use Rattle.simulate_laws.proofs.levels.Posting.{IsPosted, PostAbove, post_above}
use Rattle.np_calculus.proofs.BornKept.{born-kept, made-kept}
use Rattle.simulate_laws.proofs.levels.Letters.{letter-put}
use Rattle.simulate_laws.proofs.levels.Marks.{may_know_more, reshape, step_at}
use Rattle.simulate_laws.proofs.levels.Quiet.{any_kept, knows_more}
use Rattle.simulate_laws.proofs.levels.Sends.{IsSending, packet_is, sending}
use Rattle.simulate_laws.proofs.levels.Shapes.{of_actor, same_role}
use Rattle.simulate_laws.proofs.levels.Values.{agent-is, channel-is, letter-is}
use Rattle.simulate_laws.proofs.levels.Writes.{mirrors_write}
use Rattle.simulate_laws.proofs.levels.Caches.{by_step, carry_put, low_grows}
use Rattle.simulate_laws.proofs.levels.Together.{high_by_atom}
use Rattle.np_tables.proofs.Tables.{cut_here, get-cut}

-- what a mark of the low level stands for is changed at both levels
pub mirrors_put : {X : Type 0} (st : Name → Name) (low high : Name → Option X) (low' high' : Name → Option X) (m : Name) (x : X) → Mirrors st low high
    → ((q : Name) → low' q ≡ cond (same_name q m) (Some x) (low q)) → ((k : Name) → high' k ≡ cond (same_name k (st m)) (Some x) (high k))
    → ((q : Name) (y : X) → low q ≡ Some y → st q ≡ st m → q ≡ m) → Mirrors st low' high'
mirrors_put st low high low' high' m x = mirrors_write st low high low' high' m (Some x)

-- a post of the source, by its text
post_by : {i : Infrastructure} {R : Type 0} (n from : ℕ) (a : Expr) (p q : Proc) → Translates i n from a p q → p.tag.role ≡ role.Plain → q.tag.role ≡ role.Post
    → ((tag : Tag) (at : ℕ) (b c v : Expr) → p ≡ source tag at (form.Post b c v) → q ≡ post_text n tag.node b c v → R) → R
post_by {i = Infrastructure.central} n from a p q (Translates.post {k = tag} {at = at} {b = b} {c = c} {v = v} m) plain post r = r tag at b c v refl refl
post_by {i = Infrastructure.cached} n from a p q (Translates.post m) plain post r = absurd (let bad : role.Infra ≡ role.Post = post in cc)
post_by n from a p q (Translates.agent f g w x u y z) plain post r = absurd (let bad : role.Infra ≡ role.Post = post in cc)
post_by n from a p q (Translates.migrate t) plain post r = absurd (let bad : role.Infra ≡ role.Post = post in cc)
post_by n from a p q _ plain post r = absurd (let bad : role.Plain ≡ role.Post = sym plain ∙ post in cc)

-- without caches that is the atom as it stands there, and with caches one that found no hint
posts_by : {R : Type 0} (i : Infrastructure) (n from first : ℕ) (t : Thing) (a : Atom) → Is i n from first t a → begins t role.Post kind.Send ≡ true → a.proc.tag.role ≡ role.Post
    → ((x : Expr) (hi : Atom) → IsPosted t hi → StandsFor n from x hi a → (tag : Tag) (at : ℕ) (b c v : Expr) → hi.proc ≡ source tag at (form.Post b c v)
    → a.proc ≡ post_text n tag.node b c v → R) → R
posts_by _ n from first (Thing.source x h) a i begun post r =
    post_by n from x h.proc a.proc i.translates (source-plain i.stands.source.sound) post λ tag at b c v source_is text_is.
    r x h (record { silent = (refl, refl, refl); atom = refl; packet = refl; knows = λ lock cs chans from k. k }) i.stands tag at b c v source_is text_is
posts_by _ n from first (Thing.passing x h) a i begun post r =
    r x h (record { silent = (refl, refl, refl); atom = refl; packet = refl; knows = λ lock cs chans from k. k }) i.1
    i.2.posts.tag i.2.posts.at i.2.posts.to i.2.posts.on i.2.posts.sent i.2.posts.is i.2.is
posts_by _ n from first (Thing.mail m (Stage.in_agent x)) a i begun post r = absurd cc
posts_by _ n from first _ a i begun post r = absurd cc

module _ {j : Infrastructure} {n from first : ℕ} {low high : Config} {v : View} (c : Coupled j n from first low high v) (e : Event) (next : Config) (post : e.tag.role ≡ role.Post)
    (h : apply low e ≡ Some next) (s : IsSending low e next)
    (no_packet : map.get low.packets e.actor ≡ None) (t : Thing) (x : Expr) (hi : Atom) (there : map.get v.things e.actor ≡ Some (t ∷ [])) (posted : IsPosted t hi) (stands : StandsFor n from x hi s.atom)
    (tag : Tag) (b ch va : Expr) (text_is : s.atom.proc ≡ post_text n tag.node b ch va) (above : PostAbove c e hi b ch va) where
  abbrev p : Posted
  p = above.letter

  abbrev then_high : Config
  then_high = effect high (post_of v e) (record still { atoms = put (stands_for v.standing e.actor) (as_output p) ∷ [] })

  -- ---- the packet

  content_is : eval (pair b (letter ch va)) s.atom.env ≡ Some (value.Tuple (value.Agent p.agent ∷ value.Letter p.chan p.value ∷ []))
  content_is = let values = above.values s.atom.env stands.agrees in letter-is b ch va s.atom.env p.agent p.chan p.value values.0 values.1 values.2

  packet : s.packet ≡ packet_of n (Mail.message p) s.packet.tag
  packet =
      packet_is n (Mail.message p) low e next s (daemon n) (site 0) (message n) (pair b (letter ch va)) (ap layer text_is ∙ forms.outs-Send (daemon n) (site 0) (message n) (pair b (letter ch va)))
      (agent-is (daemon_agent n) s.atom.env) (constant-is (value.Site 0) s.atom.env) (channel-is (own n 5) s.atom.env)
      content_is

  -- ---- the two configurations afterwards

  abbrev things : NameMap (List Thing)
  things = map.insert v.things e.actor (Thing.mail (Mail.message p) Stage.on_the_way ∷ [])

  step : Step (chips v.things) (chips things) [] (Chip.knows p.agent ∷ [])
  step = subst (λ l. Step (chips v.things) (chips things) (l ++ []) (Chip.knows p.agent ∷ [])) posted.silent.0
      (step_at shows v.things e.actor (t ∷ []) (Thing.mail (Mail.message p) Stage.on_the_way ∷ []) there)

  cache_step : Step (cache_chips v.things) (cache_chips things) [] []
  cache_step = subst (λ l. Step (cache_chips v.things) (cache_chips things) (l ++ []) []) posted.silent.1
      (step_at shows_caches v.things e.actor (t ∷ []) (Thing.mail (Mail.message p) Stage.on_the_way ∷ []) there)

  abbrev Ordered : Type 0
  Ordered = (then : Name → Phase) × Protocol (scene v high) then (chips things)

  protocol : Ordered
  protocol = keeps-protocol (scene v high) (scene v high) v.phase (chips v.things) (chips things) [] (Chip.knows p.agent ∷ [])
      (Rule.knows (All-nil IsKnowledge) (All-from_recursion (IsLearnt (scene v high)) (Chip.knows p.agent ∷ []) (registered, tt))) step c.protocol
    where
      registered : is_some (v.lock p.agent) ≡ true
      registered = above.its_agent

  unchanged : (q : Name) → same_name q e.actor ≡ false → map.get things q ≡ map.get v.things q
  unchanged q f = get-put v.things e.actor (Thing.mail (Mail.message p) Stage.on_the_way ∷ []) q ∙ ap (λ z. cond z (Some (Thing.mail (Mail.message p) Stage.on_the_way ∷ [])) (map.get v.things q)) f

  its : (q : Name) → same_name q e.actor ≡ true → map.get things q ≡ Some (Thing.mail (Mail.message p) Stage.on_the_way ∷ [])
  its q f = get-put v.things e.actor (Thing.mail (Mail.message p) Stage.on_the_way ∷ []) q ∙ ap (λ z. cond z (Some (Thing.mail (Mail.message p) Stage.on_the_way ∷ [])) (map.get v.things q)) f

  born : (q : Name) → set.contains low.born q ≡ true → set.contains next.born q ≡ true
  born q j = ap (λ (d : Config). set.contains d.born q) s.is ∙ made-kept low.born e.made q j

  same_born : next.born ≡ low.born
  same_born = ap (λ (d : Config). d.born) s.is ∙ ap (with_made low.born) s.made_none

  shaped : (q : Name) (t : Bool) → same_name q e.actor ≡ t → IsShaped j n from first next things q
  shaped q true f = subst (IsShaped j n from first next things) (sym (same_name-is q e.actor f))
      (IsShaped.packet (ap (λ (d : Config). map.get d.atoms e.actor) s.is ∙ cut_here low.atoms e.actor) (ap (λ (d : Config). map.get d.packets e.actor) s.is ∙ put_here low.packets e.actor s.packet)
      (put_here v.things e.actor (Thing.mail (Mail.message p) Stage.on_the_way ∷ [])) (packet, λ r. let bad : role.Plain ≡ role.Post = sym r ∙ ap (λ (t : Tag). t.role) s.its_tag ∙ post in cc))
  shaped q false f = reshape q (ap (λ (d : Config). map.get d.atoms q) s.is ∙ get-cut low.atoms e.actor q ∙ ap (λ t. cond t None (map.get low.atoms q)) f)
      (ap (λ (d : Config). map.get d.packets q) s.is ∙ get-put low.packets e.actor s.packet q ∙ ap (λ t. cond t (Some s.packet) (map.get low.packets q)) f)
      (unchanged q f) (c.shaped q)

  its_atoms : (q : Name) → (map.get things q >>= first_atom_of) ≡ cond (same_name q e.actor) (Some (as_output p)) (map.get v.things q >>= first_atom_of)
  its_atoms q = go (same_name q e.actor) refl
    where
      go : (t : Bool) → same_name q e.actor ≡ t → (map.get things q >>= first_atom_of) ≡ cond t (Some (as_output p)) (map.get v.things q >>= first_atom_of)
      go true f = ap (λ o. o >>= first_atom_of) (its q f)
      go false f = ap (λ o. o >>= first_atom_of) (unchanged q f)

  its_packets : (q : Name) → (map.get things q >>= first_packet_of) ≡ (map.get v.things q >>= first_packet_of)
  its_packets q = go (same_name q e.actor) refl
    where
      go : (t : Bool) → same_name q e.actor ≡ t → (map.get things q >>= first_packet_of) ≡ (map.get v.things q >>= first_packet_of)
      go true f = ap (λ o. o >>= first_packet_of) (its q f) ∙ sym (ap (λ o. o >>= first_packet_of) (ap (map.get v.things) (same_name-is q e.actor f) ∙ there) ∙ posted.packet)
      go false f = ap (λ o. o >>= first_packet_of) (unchanged q f)

  was : (q : Name) (ts : List Thing) → map.get things q ≡ Some ts → is_high ts ≡ true → (ws : List Thing) × (map.get v.things q ≡ Some ws) × (is_high ws ≡ true)
  was q ts j k = go (same_name q e.actor) refl
    where
      go : (b : Bool) → same_name q e.actor ≡ b → (ws : List Thing) × (map.get v.things q ≡ Some ws) × (is_high ws ≡ true)
      go true f = (t ∷ [], ap (map.get v.things) (same_name-is q e.actor f) ∙ there, high_by_atom (t ∷ []) hi posted.atom)
      go false f = (ts, sym (unchanged q f) ∙ j, k)

  one_mark : (q : Name) (y : Atom) → (map.get v.things q >>= first_atom_of) ≡ Some y → stands_for v.standing q ≡ stands_for v.standing e.actor → q ≡ e.actor
  one_mark q y j same = go (map.get v.things q) refl j
    where
      go : (o : Option (List Thing)) → map.get v.things q ≡ o → (o >>= first_atom_of) ≡ Some y → q ≡ e.actor
      go None f k = absurd cc
      go (Some ts) f k = c.distinct q e.actor ts (t ∷ []) f there (high_by_atom ts y k) (high_by_atom (t ∷ []) hi posted.atom) same

  known : (q : Name) (ts : List Thing) (t : Bool) → same_name q e.actor ≡ t → map.get things q ≡ Some ts → All (λ t. KnowsOnly (may_know v.lock (chips things) t) (is_channel n high.born) from t) ts
  known q ts true f j = subst (All (λ t. KnowsOnly (may_know v.lock (chips things) t) (is_channel n high.born) from t)) (sym (done (sym (its q f) ∙ j)))
      (All-from_recursion (λ t. KnowsOnly (may_know v.lock (chips things) t) (is_channel n high.born) from t) (Thing.mail (Mail.message p) Stage.on_the_way ∷ []) ((above.its_chan, above.its_value), tt))
  known q ts false f j = All-weaker (λ t. KnowsOnly (may_know v.lock (chips v.things) t) (is_channel n high.born) from t) (λ t. KnowsOnly (may_know v.lock (chips things) t) (is_channel n high.born) from t)
      (λ z k. knows_more (may_know v.lock (chips v.things) z) (may_know v.lock (chips things) z) (is_channel n high.born) from
      (may_know_more v.lock (chips v.things) (chips things) (λ a d any. any_kept (is_child_of a d) step (λ w. absurd cc) any) z) z k)
      ts (c.known q ts (sym (unchanged q f) ∙ j))

  coupled : Coupled j n from first next then_high (record v { things = things; phase = protocol.0 })
  coupled = record {
    low_sites = ap (λ (d : Config). d.sites) s.is ∙ c.low_sites;
    high_sites = c.high_sites;
    daemon = ap (λ (d : Config). map.get d.places (daemon_agent n)) s.is ∙ c.daemon;
    no_daemon = c.no_daemon;
    places = λ q f g. ap (λ (d : Config). map.get d.places q) s.is ∙ c.places q f g;
    messengers = c.messengers;
    messengers_born = λ q is. born q (c.messengers_born q is);
    said = ap (λ (d : Config). d.said) s.is ∙ c.said;
    born = λ q j. born q (c.born q j);
    own_born = c.own_born;
    stand_born = born-kept low next e c.stand_born h;
    shaped = λ q. shaped q (same_name q e.actor) refl;
    mirrored = mirrors_put (stands_for v.standing) (λ q. map.get v.things q >>= first_atom_of) (map.get high.atoms) (λ q. map.get things q >>= first_atom_of) (map.get then_high.atoms) e.actor (as_output p) c.mirrored its_atoms
        (λ k. get-put high.atoms (stands_for v.standing e.actor) (as_output p) k) one_mark;
    mirrored_packets = record { up = λ q k j. c.mirrored_packets.up q k (sym (its_packets q) ∙ j); down = λ k y j. let d = c.mirrored_packets.down k y j in (d.0, d.1, its_packets d.0 ∙ d.2) };
    new_marks = λ q j. c.new_marks q (ap (λ b. set.contains b q) (sym same_born) ∙ j);
    old_marks = λ q j. born (stands_for v.standing q) (c.old_marks q (ap (λ b. set.contains b q) (sym same_born) ∙ j));
    distinct = λ q k ts ws j l y z f. let a = was q ts j y in let d = was k ws l z in c.distinct q k a.0 d.0 a.1 d.1 a.2 d.2 f;
    protocol = protocol.1;
    locks_born = λ a l j. born l (c.locks_born a l j);
    locks_apart = c.locks_apart;
    main = c.main;
    known = λ q ts j. known q ts (same_name q e.actor) refl j;
    hints = λ is. by_step low high next then_high v.things things cache_step (λ is. CacheStep.still (λ q. refl)) is (low_grows low then_high next born) (c.hints is);
    carriers = carry_put v.standing.messengers v.things e.actor c.carriers (Thing.mail (Mail.message p) Stage.on_the_way ∷ [])
        (All-from_recursion (IsCarrier v.standing.messengers) (Thing.mail (Mail.message p) Stage.on_the_way ∷ []) (tt, tt));
  }

  -- its letter is what the text sends
  sent : letter_at low e.actor ≡ Some (as_letter p)
  sent =
      ap (λ (o : Option Atom). o >>= λ a. letter_sent (layer a.proc) a.env) s.acts.there
      ∙ ap (λ l. letter_sent l s.atom.env) (ap layer text_is ∙ forms.outs-Send (daemon n) (site 0) (message n) (pair b (letter ch va)))
      ∙ rw (content_is, outs.outs-Tuple (value.Agent p.agent ∷ value.Letter p.chan p.value ∷ []), outs.outs-Agent p.agent, outs.outs-Letter p.chan p.value) refl

  still_coupled : (w : View) × (w.standing ≡ v.standing) × Coupled j n from first next then_high w × IsPosting low e v w
  still_coupled = (
    record v { things = things; phase = protocol.0 },
    refl,
    coupled,
    record {
      letter = p;
      sent = sent;
      none = ap (λ o. o >>= first_letter_of) there ∙ posted.silent.2;
      after = letter-put v.things e.actor (Thing.mail (Mail.message p) Stage.on_the_way ∷ []);
    },
  )

pub posts-are-events : {i : Infrastructure} → PostsAreEvents i
posts-are-events n from first low high v c well lodged e next is_send post h =
    let s = sending low e next (ap (λ k. row k low e) (sym is_send) ∙ h) in
    let o = of_actor c e.actor s.atom kind.Send role.Post s.acts.there (ap begun_by s.form) (same_role s.atom.proc.tag e.tag s.acts.tag ∙ post) (λ k r. cc) in
    let its_role = same_role s.atom.proc.tag e.tag s.acts.tag ∙ post in
    posts_by _ n from first o.thing s.atom o.is o.its_kind its_role λ x hi posted stands tag at b ch va source_is text_is.
    let above = post_above c well lodged e s.atom s.acts o.thing x hi o.there posted stands tag at b ch va source_is (ap (λ (q : Proc). q.tag.node) text_is) in
    let w = still_coupled c e next post h s o.no_packet o.thing x hi o.there posted stands tag b ch va text_is above in (
      then_high c e next post h s o.no_packet o.thing x hi o.there posted stands tag b ch va text_is above,
      above.applies,
      w.0,
      w.1,
      w.2,
      w.3,
    )
