-- An agent departs at both levels.
use Rattle.std.proofs.Common.{◌≡◌, inl, ℕ, Bool, true, false, cond, nat_lt, ◌||◌, is_some, None, Some, option_map, List, [], ◌∷◌, refl, sym, ap, subst, ◌∙◌, IsSome}
use Rattle.std.specs.List.{All, list_any}
use Rattle.std.proofs.lemmas.List.Elements.{All-from_recursion, recursion_from_All}
use Rattle.std.specs.FinMap as map
use Rattle.np_syntax.specs.declared.value.Name.{Name}
use Rattle.np_syntax.specs.declared.value.Value.{Value, Value-F, out-Value, roll-Value, roll-out-Value}
use Rattle.np_syntax.specs.declared.value.Value as value
use Rattle.np_syntax.specs.declared.value.Value.TheVariants as outs
use Rattle.np_syntax.specs.declared.expression.Expr.{Expr}
use Rattle.np_syntax.specs.declared.process.Proc.{Proc}
use Rattle.np_syntax.specs.declared.process.Role.TheVariants as role
use Rattle.np_syntax.specs.declared.process.ProcForm.{ProcForm-F}
use Rattle.np_syntax.specs.declared.process.ProcForm.TheVariants as forms
use Rattle.np_syntax.specs.declared.event.Event.{Event}
use Rattle.np_syntax.specs.declared.event.Kind.TheVariants as kind
use Rattle.np_syntax.specs.declared.event.Made.TheVariants as made
use Rattle.np_syntax.specs.Options.{◌>>=◌}
use Rattle.np_syntax.proofs.Options.{then, when, done}
use Rattle.np_tables.specs.Names.{NameMap, same_name}
use Rattle.np_tables.proofs.Tables.{get-put, put_here, same_name-is, same_name-swap}
use Rattle.np_calculus.specs.declared.config.Atom.{Atom}
use Rattle.np_calculus.specs.declared.config.Place.{Place}
use Rattle.np_calculus.specs.declared.config.Place.TheVariants as place
use Rattle.np_calculus.specs.Begins.{begun_by}
use Rattle.np_calculus.specs.Changes.{effect, put}
use Rattle.np_calculus.specs.Config.{Config}
use Rattle.np_calculus.specs.Parts.{IsLodged}
use Rattle.np_calculus.specs.Reductions.{apply, becomes, goes, no_other, none_made, row, site_in}
use Rattle.np_calculus.specs.Seen.{acting}
use Rattle.np_calculus.specs.Sight.{inside, sight}
use Rattle.np_calculus.specs.Starts.{daemon_agent, own}
unfoldable use Rattle.np_calculus.proofs.Common.{act}
use Rattle.np_calculus.proofs.Rows.{parts}
use Rattle.np_calculus.proofs.Steps.{Acts, acting-step, is-none, row-step, step-acting}
use Rattle.np_lift.specs.CachedLift.{stands_for}
use Rattle.simulate_laws.specs.protocol.CacheSteps.{CacheStep}
use Rattle.np_eval.specs.Eval.{Env, as_site, eval}
use Rattle.np_eval.specs.Forms.{Layer, layer}
use Rattle.simulate_laws.specs.protocol.Chips.{Chip}
use Rattle.simulate_laws.specs.protocol.Phases.{Phase}
use Rattle.simulate_laws.specs.protocol.Protocol.{Protocol}
use Rattle.simulate_laws.specs.protocol.Rules.{Rule}
use Rattle.simulate_laws.specs.protocol.Scenes.{Whereabouts, with_place}
use Rattle.simulate_laws.specs.protocol.Steps.{Step}
use Rattle.simulate_laws.proofs.protocol.Keeps.{keeps-protocol}
use Rattle.infrastructure_texts.specs.Pieces.{beside, daemon, migrated, pair, site, tells}
use Rattle.infrastructure_texts.specs.Texts.{settles}
use Rattle.infrastructure_texts.specs.Infrastructures.{Infrastructure}
use Rattle.simulate_laws.proofs.things.Values.{same-value}
use Rattle.simulate_laws.specs.things.Acting.{begins}
use Rattle.simulate_laws.specs.things.Mail.{Mail}
use Rattle.simulate_laws.specs.things.Shapes.{Are, Is, IsLeaving, StandsFor}
use Rattle.simulate_laws.specs.things.Things.{Stage, Thing, first_atom_of, first_packet_of, high_atom, shows, shows_caches}
use Rattle.simulate_laws.proofs.things.Acting.{source-plain}
use Rattle.simulate_laws.proofs.things.Starts.{constant-is}
use Rattle.simulate_laws.specs.levels.Coupled.{Coupled, IsShaped, KnowsOnly, View, chips, is_channel, is_child_of, may_know, scene, IsCarrier, is_high}
use Rattle.simulate_laws.specs.levels.Laws.{IsEvent, event_of}
use Rattle.simulate_laws.proofs.levels.Places.{no_messenger, put_another, same_place}
use Rattle.simulate_laws.proofs.levels.Keeping.{first_put, known_on, only_at}
use Rattle.simulate_laws.proofs.levels.Letters.{same-letters}
use Rattle.simulate_laws.proofs.levels.Marks.{reshape, step_at}
use Rattle.simulate_laws.proofs.levels.Plains.{made_no_move, plain_tag}
use Rattle.simulate_laws.proofs.levels.Posts.{mirrors_put}
use Rattle.simulate_laws.proofs.levels.Quiet.{any_kept}
use Rattle.simulate_laws.proofs.levels.Scenes.{scene_put}
use Rattle.simulate_laws.proofs.levels.Shapes.{of_actor, same_role}
use Rattle.simulate_laws.proofs.levels.Sounds.{MigrateParts, migrate_parts, named_same}
use Rattle.simulate_laws.proofs.levels.Together.{IsOldOrNew, knows_wider, more_channels, together, high_by_atom}
use Rattle.simulate_laws.proofs.levels.Values.{agent-is, channel-is, pair-is}
use Rattle.simulate_laws.proofs.levels.Caches.{by_step, carry_put, same_agents}
use Rattle.simulate_laws.specs.levels.Letters.{SameLetters}
use Rattle.simulate_laws.proofs.levels.Applies.{takes_nothing}

site-value : (u : Value) (s : ℕ) → as_site (out-Value u) ≡ Some s → u ≡ value.Site s
site-value u s h = sym (roll-out-Value u) ∙ ap roll-Value (layer_is (out-Value u) h) ∙ outs.rolls-Site s
  where
    layer_is : (l : Value-F Value) → as_site l ≡ Some s → l ≡ Value-F.Site s
    layer_is (Value-F.Site t) k = ap Value-F.Site (sym (done k))
    layer_is _ k = absurd cc

-- a site of the program that an expression names is its value
site-named : (sites : ℕ) (x : Expr) (env : Env) (t : ℕ) → site_in sites x env ≡ Some t → (eval x env ≡ Some (value.Site t)) × (nat_lt t sites ≡ true)
site-named sites x env t h =
    then (eval x env) _ h λ u is h. then (as_site (out-Value u)) _ h λ s at h. when (nat_lt s sites) _ h λ below h.
    let same : t ≡ s = done h in (is ∙ ap Some (site-value u s at ∙ ap value.Site (sym same)), ap (λ z. nat_lt z sites) same ∙ below)

named-site : (sites : ℕ) (x : Expr) (env : Env) (t : ℕ) → eval x env ≡ Some (value.Site t) → nat_lt t sites ≡ true → site_in sites x env ≡ Some t
named-site sites x env t is below = rw (is, outs.outs-Site t, below) refl

-- what a Depart does, by the parts of its atom
pub record IsDeparting (low : Config) (e : Event) (next : Config) : Type 0 where
  pub atom : Atom
  pub acts : Acts low e atom
  pub to : Expr
  pub body : Proc
  pub form : layer atom.proc ≡ ProcForm-F.Migrate to body
  pub to_site : ℕ
  pub its_site : eval to atom.env ≡ Some (value.Site to_site)
  pub below : nat_lt to_site low.sites ≡ true
  pub made_none : e.made ≡ made.Nothing
  pub other_none : e.other ≡ None
  pub is : next ≡ effect low e (record (becomes e (goes atom body)) { places = put atom.agent (place.Way to_site) ∷ [] })

pub departing : (low : Config) (e : Event) (next : Config) → row kind.Depart low e ≡ Some next → IsDeparting low e next
unfolding act
departing low e next h =
    let r = row-step low e next kind.Depart h in
    then (acting low e) _ r.gives λ a acts h. parts kind.Depart (sight low.sites (inside low) e.site) e a h λ p form h.
    then (site_in low.sites p.0 a.env) _ h λ t at h. then (none_made e.made) _ h λ u none h. then (no_other e.other) _ h λ w other h.
    let named = site-named low.sites p.0 a.env t at in
    record {
      atom = a;
      acts = acting-step low e a acts;
      to = p.0;
      body = p.1;
      form = form;
      to_site = t;
      its_site = named.0;
      below = named.1;
      made_none = is-none e.made u none;
      other_none = takes_nothing e.other w other;
      is = r.is ∙ ap (effect low e) (done h);
    }

-- a Depart is enabled by its parts
departs_so : (c : Config) (e : Event) (a : Atom) (to : Expr) (body : Proc) (t : ℕ) → Acts c e a → layer a.proc ≡ ProcForm-F.Migrate to body
    → eval to a.env ≡ Some (value.Site t) → nat_lt t c.sites ≡ true → e.made ≡ made.Nothing → e.other ≡ None
    → row kind.Depart c e ≡ Some (effect c e (record (becomes e (goes a body)) { places = put a.agent (place.Way t) ∷ [] }))
unfolding act
departs_so c e a to body t acts form is below none other = rw (step-acting c e a acts, form, named-site c.sites to a.env t is below, none, other) refl

same_parts : (x y : Expr) (p q : Proc) → ◌≡◌ {A = Layer} (ProcForm-F.Migrate x p) (ProcForm-F.Migrate y q) → (x ≡ y) × (p ≡ q)
same_parts x y p q same = (cc, cc)

-- who departs with the role Plain was about to leave
leaves_by : {R : Type 0} (i : Infrastructure) (n from first : ℕ) (t : Thing) (a : Atom) → Is i n from first t a → begins t role.Plain kind.Depart ≡ true
    → begun_by (layer a.proc) ≡ Some kind.Depart
    → ((x : Expr) (h : Atom) → t ≡ Thing.leaving x h → IsLeaving i n from x h a → R) → R
leaves_by _ n from first (Thing.leaving x h) a i b begun r = r x h refl i
leaves_by _ n from first (Thing.source x h) a i b begun r = made_no_move kind.Depart refl i.translates begun
leaves_by _ n from first (Thing.mail m (Stage.in_agent x)) a i b begun r = absurd cc
leaves_by _ n from first _ a i b begun r = absurd cc

module _ {j : Infrastructure} {n from first : ℕ} {low high : Config} {v : View} (c : Coupled j n from first low high v) (lodged : IsLodged (inside high)) (e : Event) (next : Config) (is_depart : e.kind ≡ kind.Depart)
    (h : apply low e ≡ Some next) (s : IsDeparting low e next)
    (no_packet : map.get low.packets e.actor ≡ None) (x : Expr) (hi : Atom) (there : map.get v.things e.actor ≡ Some (Thing.leaving x hi ∷ []))
    (i : IsLeaving j n from x hi s.atom) where
  abbrev node : ℕ
  node = i.migrates.tag.node

  abbrev to : Expr
  to = i.migrates.to

  form_is : layer hi.proc ≡ ProcForm-F.Migrate to i.migrates.body
  form_is = ap layer i.migrates.is ∙ forms.outs-Migrate to i.migrates.body

  abbrev left : Proc
  left = settles n node to i.migrates.low

  abbrev right : Proc
  right = tells n node (migrated n) (pair x to)

  texts : (s.to ≡ to) × (s.body ≡ beside node left right)
  texts = same_parts s.to to s.body (beside node left right) (sym s.form ∙ ap layer i.is ∙ forms.outs-Migrate to (beside node left right))

  going : MigrateParts n from x to hi.proc i.migrates.body i.stands.source.scope
  going = migrate_parts n from x to hi.proc i.migrates.body i.stands.source form_is

  low_site : eval to s.atom.env ≡ Some (value.Site s.to_site)
  low_site = ap (λ y. eval y s.atom.env) (sym texts.0) ∙ s.its_site

  high_site : eval to hi.env ≡ Some (value.Site s.to_site)
  high_site = sym (same-value n from i.stands.source.scope to s.atom.env hi.env going.to_sound i.stands.source.in_scope i.stands.agrees) ∙ low_site

  high_there : map.get high.atoms (stands_for v.standing e.actor) ≡ Some hi
  high_there = c.mirrored.up e.actor hi (ap (λ o. o >>= first_atom_of) there)

  its_place : IsSome (map.get high.places hi.agent)
  its_place = lodged.each (stands_for v.standing e.actor) hi high_there

  acts : Acts high (event_of v e) hi
  acts = record {
    there = high_there;
    stands = sym (same_place c hi.agent its_place) ∙ ap (map.get low.places) (sym i.stands.agent) ∙ s.acts.stands;
    tag = plain_tag hi.proc.tag s.atom.proc.tag e.tag (ap (λ (p : Proc). p.tag.node) i.migrates.is ∙ sym (ap (λ (p : Proc). p.tag.node) i.is))
        (source-plain i.stands.source.sound) (ap (λ (p : Proc). p.tag.role) i.is) s.acts.tag;
  }

  abbrev went : Atom
  went = goes hi i.migrates.body

  abbrev then_high : Config
  then_high = effect high (event_of v e) (record (becomes (event_of v e) went) { places = put hi.agent (place.Way s.to_site) ∷ [] })

  applies : apply high (event_of v e) ≡ Some then_high
  applies = ap (λ k. row k high (event_of v e)) is_depart
      ∙ departs_so high (event_of v e) hi to i.migrates.body s.to_site acts form_is high_site
      (ap (nat_lt s.to_site) (c.high_sites ∙ sym c.low_sites) ∙ s.below) s.made_none (ap (option_map (stands_for v.standing)) s.other_none)

  -- ---- the two configurations afterwards

  abbrev us : List Thing
  us = Thing.settling x went s.to_site ∷ Thing.mail (Mail.migrated hi.agent s.to_site) (Stage.in_agent s.atom.agent) ∷ []

  abbrev things : NameMap (List Thing)
  things = map.insert v.things e.actor us

  step : Step (chips v.things) (chips things) (Chip.leaver hi.agent ∷ []) (Chip.waiter hi.agent s.to_site ∷ Chip.report hi.agent s.to_site false ∷ [])
  step = step_at shows v.things e.actor (Thing.leaving x hi ∷ []) us there

  protocol : (then : Name → Phase) × Protocol (scene v then_high) then (chips things)
  protocol =
      let kept = keeps-protocol (scene v high) (with_place (scene v high) hi.agent (Whereabouts.under_way s.to_site)) v.phase (chips v.things) (chips things)
      (Chip.leaver hi.agent ∷ [])
      (Chip.waiter hi.agent s.to_site ∷ Chip.report hi.agent s.to_site false ∷ []) (Rule.departs {a = hi.agent} {t = s.to_site}) step c.protocol in
      (kept.0, subst (λ w. Protocol w kept.0 (chips things)) (scene_put v high then_high hi.agent (place.Way s.to_site) refl) kept.1)

  stands_on : StandsFor n from x went (goes s.atom left)
  stands_on = record { agent = i.stands.agent; apart = i.stands.apart; source = going.body_source; agrees = i.stands.agrees; called = i.stands.called }

  are : Are j n from first (goes s.atom s.body) us
  are = Are.both {k = node} {p = left} {q = right} texts.1
      (Are.one (record { stands = stands_on; node = node; at = to; body = i.migrates.low; translates = i.migrates.translates; is = refl; tells = low_site }))
      (Are.one (
        record {
          agent = refl;
          receiver = daemon n;
          to = site 0;
          chan = migrated n;
          sent = pair x to;
          role = refl;
          is = forms.outs-Send (daemon n) (site 0) (migrated n) (pair x to);
          for_agent = agent-is (daemon_agent n) s.atom.env;
          for_site = constant-is (value.Site 0) s.atom.env;
          on = channel-is (own n 4) s.atom.env;
          holds = pair-is x to (value.Agent hi.agent) (value.Site s.to_site) s.atom.env
              (named_same n from i.stands.source.bound x s.atom.env hi.env i.stands.source.named i.stands.agrees ∙ i.stands.called) low_site;
        },
        sym i.stands.agent,
      ))

  is : next ≡ effect low e (record (becomes e (goes s.atom s.body)) { places = put hi.agent (place.Way s.to_site) ∷ [] })
  is = s.is ∙ ap (λ a. effect low e (record (becomes e (goes s.atom s.body)) { places = put a (place.Way s.to_site) ∷ [] })) i.stands.agent

  low_places : next.places ≡ map.insert low.places hi.agent (place.Way s.to_site)
  low_places = ap (λ (d : Config). d.places) is

  unchanged : (q : Name) → same_name q e.actor ≡ false → map.get things q ≡ map.get v.things q
  unchanged q f = get-put v.things e.actor us q ∙ ap (λ z. cond z (Some us) (map.get v.things q)) f

  its : (q : Name) → same_name q e.actor ≡ true → map.get things q ≡ Some us
  its q f = get-put v.things e.actor us q ∙ ap (λ z. cond z (Some us) (map.get v.things q)) f

  shaped : (q : Name) (t : Bool) → same_name q e.actor ≡ t → IsShaped j n from first next things q
  shaped q true f = subst (IsShaped j n from first next things) (sym (same_name-is q e.actor f))
      (IsShaped.atom (ap (λ (d : Config). map.get d.atoms e.actor) is ∙ put_here low.atoms e.actor (goes s.atom s.body))
      (ap (λ (d : Config). map.get d.packets e.actor) is ∙ no_packet)
      (put_here v.things e.actor us) (All-from_recursion (λ u. high_atom u ≡ None)
      (Thing.mail (Mail.migrated hi.agent s.to_site) (Stage.in_agent s.atom.agent) ∷ []) (refl, tt)) are)
  shaped q false f = reshape q (ap (λ (d : Config). map.get d.atoms q) is ∙ get-put low.atoms e.actor (goes s.atom s.body) q
      ∙ ap (λ z. cond z (Some (goes s.atom s.body)) (map.get low.atoms q)) f)
      (ap (λ (d : Config). map.get d.packets q) is) (unchanged q f) (c.shaped q)

  its_packets : (q : Name) (t : Bool) → same_name q e.actor ≡ t → (map.get things q >>= first_packet_of) ≡ (map.get v.things q >>= first_packet_of)
  its_packets q true f = ap (λ o. o >>= first_packet_of) (its q f)
      ∙ sym (ap (λ o. o >>= first_packet_of) (ap (map.get v.things) (same_name-is q e.actor f) ∙ there))
  its_packets q false f = ap (λ o. o >>= first_packet_of) (unchanged q f)

  old : (q : Name) (ts : List Thing) (t : Bool) → same_name q e.actor ≡ t → map.get things q ≡ Some ts → is_high ts ≡ true → IsOldOrNew c q
  old q ts true f j k = inl (Thing.leaving x hi ∷ [], ap (map.get v.things) (same_name-is q e.actor f) ∙ there, refl)
  old q ts false f j k = inl (ts, sym (unchanged q f) ∙ j, k)

  -- who settles knows what it knew
  settled : KnowsOnly (may_know v.lock (chips things) (Thing.settling x went s.to_site)) (is_channel n then_high.born) from (Thing.settling x went s.to_site)
  settled = knows_wider (λ b. is_some (v.lock b)) (may_know v.lock (chips things) (Thing.settling x went s.to_site)) (is_channel n high.born)
      (is_channel n then_high.born) from
      (λ b k. ap (λ z. z || list_any (is_child_of hi.agent b) (chips things)) k) (more_channels n high.born e.made) (Thing.settling x went s.to_site)
      (recursion_from_All (λ t. KnowsOnly (may_know v.lock (chips v.things) t) (is_channel n high.born) from t) (Thing.leaving x hi ∷ [])
      (c.known e.actor (Thing.leaving x hi ∷ []) there)).0

  known : (q : Name) (ts : List Thing) (t : Bool) → same_name q e.actor ≡ t → map.get things q ≡ Some ts
      → All (λ t. KnowsOnly (may_know v.lock (chips things) t) (is_channel n then_high.born) from t) ts
  known q ts true f j = subst (All (λ t. KnowsOnly (may_know v.lock (chips things) t) (is_channel n then_high.born) from t)) (sym (done (sym (its q f) ∙ j)))
      (All-from_recursion (λ t. KnowsOnly (may_know v.lock (chips things) t) (is_channel n then_high.born) from t) us (settled, (tt, tt)))
  known q ts false f j = known_on v.lock (chips v.things) (chips things) n from high.born e.made
      (λ a b any. any_kept (is_child_of a b) step (λ w. absurd cc) any) ts (c.known q ts (sym (unchanged q f) ∙ j))

  coupled : Coupled j n from first next then_high (record v { things = things; phase = protocol.0 })
  coupled = together c next then_high e things protocol.0 (record {
    applies = h;
    sites = ap (λ (d : Config). d.sites) is;
    high_sites = refl;
    daemon = ap (λ (p : NameMap Place). map.get p (daemon_agent n)) low_places ∙ get-put low.places hi.agent (place.Way s.to_site) (daemon_agent n)
        ∙ ap (λ z. cond z (Some (place.Way s.to_site)) (map.get low.places (daemon_agent n))) (same_name-swap (daemon_agent n) hi.agent ∙ i.stands.apart);
    no_daemon = get-put high.places hi.agent (place.Way s.to_site) (daemon_agent n)
        ∙ ap (λ z. cond z (Some (place.Way s.to_site)) (map.get high.places (daemon_agent n))) (same_name-swap (daemon_agent n) hi.agent ∙ i.stands.apart);
    places = λ q f g. ap (λ (p : NameMap Place). map.get p q) low_places ∙ get-put low.places hi.agent (place.Way s.to_site) q
        ∙ ap (cond (same_name q hi.agent) (Some (place.Way s.to_site))) (c.places q f g)
        ∙ sym (get-put high.places hi.agent (place.Way s.to_site) q);
    messengers = λ q is. put_another c q hi.agent (place.Way s.to_site) is (no_messenger c hi.agent its_place);
    said = ap (λ (d : Config). d.said) is ∙ c.said;
    born = ap (λ (d : Config). d.born) is;
    high_born = refl;
    shaped = λ q. shaped q (same_name q e.actor) refl;
    mirrored = mirrors_put (stands_for v.standing) (λ q. map.get v.things q >>= first_atom_of) (map.get high.atoms) (λ q. map.get things q >>= first_atom_of)
        (map.get then_high.atoms) e.actor went c.mirrored
        (λ q. first_put first_atom_of v.things e.actor us q) (λ k. get-put high.atoms (stands_for v.standing e.actor) went k)
        (only_at c first_atom_of high_by_atom e.actor (inl (Thing.leaving x hi ∷ [], there, refl)));
    mirrored_packets = record {
      up = λ q k j. c.mirrored_packets.up q k (sym (its_packets q (same_name q e.actor) refl) ∙ j);
      down = λ k y j. let d = c.mirrored_packets.down k y j in (d.0, d.1, its_packets d.0 (same_name d.0 e.actor) refl ∙ d.2);
    };
    old_or_new = λ q ts j k. old q ts (same_name q e.actor) refl j k;
    protocol = protocol.1;
    known = λ q ts j. known q ts (same_name q e.actor) refl j;
    hints = by_step low high next then_high v.things things (step_at shows_caches v.things e.actor (Thing.leaving x hi ∷ []) us there)
        (λ is. CacheStep.still (same_agents high.places hi.agent (place.Way s.to_site) its_place));
    carriers = carry_put v.standing.messengers v.things e.actor c.carriers us (All-from_recursion (IsCarrier v.standing.messengers) us (tt, (tt, tt)));
  })

  departed : (then : Config) × (apply high (event_of v e) ≡ Some then) × (w : View) × (w.standing ≡ v.standing) × Coupled j n from first next then w
      × SameLetters v w
  departed = (
    then_high,
    applies,
    record v { things = things; phase = protocol.0 },
    refl,
    coupled,
    same-letters v.things e.actor us (Thing.leaving x hi ∷ []) there refl,
  )

pub departures-are-events : {i : Infrastructure} → IsEvent i kind.Depart
departures-are-events n from first low high v c well lodged e next is_depart plain h =
    let s = departing low e next (ap (λ k. row k low e) (sym is_depart) ∙ h) in
    let o = of_actor c e.actor s.atom kind.Depart role.Plain s.acts.there (ap begun_by s.form) (same_role s.atom.proc.tag e.tag s.acts.tag ∙ plain)
    (λ k r. cc) in
    leaves_by _ n from first o.thing s.atom o.is o.its_kind (ap begun_by s.form) λ x hi thing i.
    departed c lodged e next is_depart h s o.no_packet x hi (o.there ∙ ap (λ t. Some (t ∷ [])) thing) i
