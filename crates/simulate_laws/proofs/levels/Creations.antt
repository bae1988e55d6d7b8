-- An agent is made at both levels: the new agent begins by registering, and the one that makes it waits.
use Rattle.std.proofs.Common.{◌≡◌, inl, inr, ◌<◌, ◌≤◌, ℕ, Bool, true, false, cond, not, ◌||◌, ◌&&◌, is_some}
use Rattle.std.proofs.Common.{Option, None, Some, option_map, List, [], ◌∷◌, ◌++◌, refl, sym, ap, subst, ◌∙◌, arith}
use Rattle.std.specs.List.{All, list_any}
use Rattle.std.proofs.lemmas.List.Sorted.{IsPermutation-refl, list_any-IsPermutation}
use Rattle.std.proofs.lemmas.List.Elements.{All-from_recursion, All-nil, recursion_from_All}
use Rattle.std.specs.FinMap as map
use Rattle.std.specs.FinSet as set
use Rattle.np_syntax.specs.declared.value.Name.{Name}
use Rattle.np_syntax.specs.declared.value.Value as value
use Rattle.np_syntax.specs.declared.expression.Expr.{Expr}
use Rattle.np_syntax.specs.declared.process.Proc.{Proc}
use Rattle.np_syntax.specs.declared.process.Role.TheVariants as role
use Rattle.np_syntax.specs.declared.process.ProcForm.{ProcForm-F}
use Rattle.np_syntax.specs.declared.process.ProcForm.TheVariants as forms
use Rattle.np_syntax.specs.declared.event.Event.{Event}
use Rattle.np_syntax.specs.declared.event.Kind.TheVariants as kind
use Rattle.np_syntax.specs.declared.event.Made.TheVariants as made
use Rattle.np_syntax.specs.Options.{◌>>=◌}
use Rattle.np_syntax.specs.Reordering.{and_then, behind, swapped}
use Rattle.np_syntax.proofs.Bools.{and-in, and-out}
use Rattle.np_syntax.proofs.Options.{then, done}
use Rattle.np_tables.specs.Names.{NameMap, NameSet, same_name}
use Rattle.np_tables.proofs.Tables.{get-put, put-swap, same_name-is, same_name-itself, same_name-swap}
use Rattle.np_calculus.specs.declared.config.Atom.{Atom}
use Rattle.np_calculus.specs.declared.config.Place.{Place}
use Rattle.np_calculus.specs.declared.config.Place.TheVariants as place
use Rattle.np_calculus.specs.Begins.{begun_by}
use Rattle.np_calculus.specs.Changes.{Change, effect, put, still}
use Rattle.np_calculus.specs.Config.{Config}
use Rattle.np_calculus.specs.Parts.{IsLodged}
use Rattle.np_calculus.specs.Reductions.{apply, are_new, goes_under, no_other, row, two_made}
use Rattle.np_calculus.specs.Seen.{acting}
use Rattle.np_calculus.specs.Sight.{inside, sight}
use Rattle.np_calculus.specs.Starts.{daemon_agent, own}
unfoldable use Rattle.np_calculus.proofs.Common.{act}
use Rattle.np_calculus.proofs.OwnNames.{not_true}
use Rattle.np_calculus.proofs.Rows.{parts}
use Rattle.np_calculus.proofs.Steps.{Acts, acting-step, is-two, row-step, step-acting}
use Rattle.np_lift.specs.CachedLift.{stands_for}
use Rattle.simulate_laws.specs.protocol.CacheLevels.{OneMore}
use Rattle.simulate_laws.specs.protocol.CacheSteps.{CacheStep}
use Rattle.np_eval.specs.Eval.{Env, eval, find_place}
use Rattle.np_eval.specs.Forms.{Layer, layer}
use Rattle.simulate_laws.specs.protocol.Chips.{Chip}
use Rattle.simulate_laws.specs.protocol.Phases.{Phase}
use Rattle.simulate_laws.specs.protocol.Protocol.{IsTrueOf, Protocol}
use Rattle.simulate_laws.specs.protocol.Rules.{Rule}
use Rattle.simulate_laws.specs.protocol.Scenes.{Whereabouts, with_place}
use Rattle.simulate_laws.specs.protocol.Steps.{Step}
use Rattle.simulate_laws.proofs.protocol.Keeps.{keeps-protocol}
use Rattle.simulate_laws.proofs.protocol.Steps.{all_taken}
use Rattle.infrastructure_texts.specs.Pieces.{beside, daemon, pair, register, site, variable}
use Rattle.infrastructure_texts.specs.Texts.{begins as begins_text, server_text, settles}
use Rattle.infrastructure_texts.specs.Infrastructures.{Infrastructure}
use Rattle.infrastructure_texts.specs.InfrastructureTexts.{child_of}
use Rattle.infrastructure_texts.specs.CacheTexts.{empty_cache, found_server, registers, with_cache}
use Rattle.simulate_laws.specs.things.Known.{IsKnown, Knows}
use Rattle.simulate_laws.specs.things.Sources.{Agrees, Names}
use Rattle.simulate_laws.specs.things.Acting.{begins}
use Rattle.simulate_laws.specs.things.Mail.{Mail}
use Rattle.simulate_laws.specs.things.Shapes.{Are, Is, IsAgents, IsMaking}
use Rattle.simulate_laws.specs.things.Starts.{first_cache}
use Rattle.simulate_laws.specs.things.Things.{Stage, Thing, first_atom_of, first_packet_of, high_atom, show_all, shows, shows_caches, show_all_caches}
use Rattle.simulate_laws.proofs.things.Acting.{source-plain}
use Rattle.simulate_laws.proofs.things.Starts.{constant-is, gives-own, caching_holds}
use Rattle.simulate_laws.specs.levels.Coupled.{Coupled, IsShaped, KnowsOnly, View, chips, is_channel, is_child_of, may_know, scene, whereabouts, IsCarrier, cache_chips, levels, is_high}
use Rattle.simulate_laws.specs.levels.Laws.{IsEvent, event_of}
use Rattle.simulate_laws.specs.levels.Letters.{SameLetters, first_letter_of, letter_under}
use Rattle.simulate_laws.specs.levels.Mirrors.{Mirrors}
use Rattle.simulate_laws.proofs.levels.Places.{put_another, same_place}
use Rattle.simulate_laws.proofs.levels.Becomes.{cancel}
use Rattle.simulate_laws.proofs.levels.Keeping.{first_put, known_on, only_at, step_new}
use Rattle.simulate_laws.proofs.levels.Marks.{reshape, step_at}
use Rattle.simulate_laws.proofs.levels.Orders.{permuted}
use Rattle.simulate_laws.proofs.levels.Outputs.{is-own}
use Rattle.simulate_laws.proofs.levels.Plains.{made_no_move, plain_tag}
use Rattle.simulate_laws.proofs.levels.Posts.{mirrors_put}
use Rattle.simulate_laws.proofs.levels.Quiet.{any_in, any_kept, or_second, things_born}
use Rattle.simulate_laws.proofs.levels.Scenes.{scene_put}
use Rattle.simulate_laws.proofs.levels.Shapes.{of_actor, same_role}
use Rattle.simulate_laws.proofs.levels.Sounds.{AgentParts, agent_parts, named_same}
use Rattle.simulate_laws.proofs.levels.Together.{IsOldOrNew, knows_wider, more_channels, one_mark, together, high_by_atom}
use Rattle.simulate_laws.proofs.levels.Values.{agent-is, channel-is, here_is, pair-is, there_is, variable-is}
use Rattle.simulate_laws.proofs.levels.Caches.{carry_put, KeepsHints, by_step}
use Rattle.simulate_laws.proofs.levels.Applies.{takes_nothing}
use Rattle.np_calculus.proofs.Fits.{some}
use Rattle.np_calculus.proofs.FrameRule.{not-false}
use Rattle.simulate_laws.proofs.things.Values.{agrees-put}
use Rattle.simulate_laws.proofs.levels.Bodies.{knows_put}

-- what an Agent changes: the new agent at its site, its first atom, and the one that made it
abbrev pub created : Event → Atom → ℕ → Proc → Proc → Name → Name → Change
created e a x body rest b m = record still {
  places = put b (place.At e.site) ∷ [];
  atoms = put m (record { agent = b; proc = body; env = map.insert a.env x (value.Agent b) }) ∷ put e.actor
      (goes_under a rest (map.insert a.env x (value.Agent b))) ∷ [];
}

-- what an Agent does, by the parts of its atom
pub record IsCreating (low : Config) (e : Event) (next : Config) : Type 0 where
  pub atom : Atom
  pub acts : Acts low e atom
  pub binder : ℕ
  pub body : Proc
  pub rest : Proc
  pub form : layer atom.proc ≡ ProcForm-F.Agent binder body rest
  pub agent : Name
  pub mark : Name
  pub made_two : e.made ≡ made.Two agent mark
  pub other_none : e.other ≡ None
  pub differ : same_name agent mark ≡ false
  pub agent_new : set.contains low.born agent ≡ false
  pub mark_new : set.contains low.born mark ≡ false
  pub is : next ≡ effect low e (created e atom binder body rest agent mark)

two_new : (born : NameSet) (b m : Name) → are_new born (made.Two b m) ≡ true
    → (same_name b m ≡ false) × (set.contains born b ≡ false) × (set.contains born m ≡ false)
two_new born b m h =
    let x = and-out (not (same_name b m)) (not (set.contains born b) && not (set.contains born m)) h in
    let y = and-out (not (set.contains born b)) (not (set.contains born m)) x.1 in
    (not-false (same_name b m) x.0, not-false (set.contains born b) y.0, not-false (set.contains born m) y.1)

pub creating : (low : Config) (e : Event) (next : Config) → row kind.Agent low e ≡ Some next → IsCreating low e next
unfolding act
creating low e next h =
    let r = row-step low e next kind.Agent h in
    then (acting low e) _ r.gives λ a acts h. parts kind.Agent (sight low.sites (inside low) e.site) e a h λ p form h.
    then (two_made e.made) _ h λ m two h. then (no_other e.other) _ h λ w other h.
    let made_two : e.made ≡ made.Two m.0 m.1 = is-two e.made m two in
    let new = two_new low.born m.0 m.1 (ap (are_new low.born) (sym made_two) ∙ r.new) in
    record {
      atom = a;
      acts = acting-step low e a acts;
      binder = p.0;
      body = p.1;
      rest = p.2;
      form = form;
      agent = m.0;
      mark = m.1;
      made_two = made_two;
      other_none = takes_nothing e.other w other;
      differ = new.0;
      agent_new = new.1;
      mark_new = new.2;
      is = r.is ∙ ap (effect low e) (done h);
    }

-- an Agent is enabled by its parts
creates_so : (c : Config) (e : Event) (a : Atom) (x : ℕ) (body rest : Proc) (b m : Name) → Acts c e a → layer a.proc ≡ ProcForm-F.Agent x body rest
    → e.made ≡ made.Two b m → e.other ≡ None → same_name b m ≡ false
    → set.contains c.born b ≡ false → set.contains c.born m ≡ false → row kind.Agent c e ≡ Some (effect c e (created e a x body rest b m))
unfolding act
creates_so c e a x body rest b m acts form two other differ agent_new mark_new = rw (step-acting c e a acts, form, two, other, differ, agent_new, mark_new) refl

pub same_parts : (x y : ℕ) (p q r s : Proc) → ◌≡◌ {A = Layer} (ProcForm-F.Agent x p r) (ProcForm-F.Agent y q s) → (x ≡ y) × (p ≡ q) × (r ≡ s)
same_parts x y p q r s same = (cc, cc, cc)

-- who makes an agent with the role Plain was about to make it
makes_by : {R : Type 0} (i : Infrastructure) (n from first : ℕ) (t : Thing) (a : Atom) → Is i n from first t a → begins t role.Plain kind.Agent ≡ true
    → begun_by (layer a.proc) ≡ Some kind.Agent
    → ((x : Expr) (h : Atom) (s : ℕ) → t ≡ Thing.making x h s → IsMaking i n from x h s a → R) → R
makes_by _ n from first (Thing.making x h s) a i b begun r = r x h s refl i
makes_by _ n from first (Thing.source x h) a i b begun r = made_no_move kind.Agent refl i.translates begun
makes_by _ n from first (Thing.mail m (Stage.in_agent x)) a i b begun r = absurd cc
makes_by _ n from first _ a i b begun r = absurd cc

same_site : (s t : ℕ) → Whereabouts.at s ≡ Whereabouts.at t → s ≡ t
same_site s t e = cc

-- the things of a new agent, with those of the parts that it has by each infrastructure
child_are : (j : Infrastructure) (n from first k : ℕ) (x : Expr) (binder site letter place cache : ℕ) (body : Proc) (b : Name) (env : Env) (t u w : Thing) → IsAgents n b → from ≤ cache
    → Is j n from first t (record { agent = b; proc = begins_text n k x site body; env = env })
    → Is j n from first u (record { agent = b; proc = server_text n k (variable binder) letter place; env = env })
    → Is j n from first w (record { agent = b; proc = registers n k binder site; env = env })
    → Are j n from first (record { agent = b; proc = child_of j n k x binder site letter place cache body; env = env }) (t ∷ u ∷ (first_cache j b ++ w ∷ []))
child_are Infrastructure.central n from first k x binder site letter place ca body b env t u w apart above is_t is_u is_w =
    let starting : Proc = begins_text n k x site body in
    let serving : Proc = server_text n k (variable binder) letter place in
    Are.both {k = k} {p = beside k starting serving} {q = registers n k binder site} refl
    (Are.both {k = k} {p = starting} {q = serving} refl (Are.one is_t) (Are.one is_u)) (Are.one is_w)
child_are Infrastructure.cached n from first k x binder site letter place ca body b env t u w apart above is_t is_u is_w =
    let starting : Proc = begins_text n k x site body in
    let serving : Proc = server_text n k (variable binder) letter place in
    let parts : Proc = beside k starting serving in
    Are.both {k = k} {p = with_cache n k ca parts} {q = registers n k binder site} refl
    (Are.both {k = k} {p = beside k parts (empty_cache n k)} {q = found_server n k ca} refl
    (Are.both {k = k} {p = parts} {q = empty_cache n k} refl
    (Are.both {k = k} {p = starting} {q = serving} refl (Are.one is_t) (Are.one is_u))
    (Are.one (refl, record { agent = refl; gives = gives-own n 14 k b (value.Places []) env }, apart)))
    (Are.one (refl, record { agent = refl; node = k; x = ca; above = above; is = refl }, apart)))
    (Are.one is_w)

-- what keeps its cache shows no chips of the protocol
cache_shows : (j : Infrastructure) (b : Name) (ts : List Thing) → show_all (first_cache j b ++ ts) ≡ show_all ts
cache_shows Infrastructure.central b ts = refl
cache_shows Infrastructure.cached b ts = refl

module _ {structure : Infrastructure} {n from first : ℕ} {low high : Config} {v : View} (c : Coupled structure n from first low high v) (lodged : IsLodged (inside high)) (e : Event) (next : Config) (is_agent : e.kind ≡ kind.Agent)
    (h : apply low e ≡ Some next) (s : IsCreating low e next)
    (no_packet : map.get low.packets e.actor ≡ None) (x : Expr) (hi : Atom) (at : ℕ) (there : map.get v.things e.actor ≡ Some (Thing.making x hi at ∷ []))
    (i : IsMaking structure n from x hi at s.atom) where
  abbrev node : ℕ
  node = i.creates.tag.node

  abbrev binder : ℕ
  binder = i.creates.binder

  abbrev b : Name
  b = s.agent

  abbrev m : Name
  m = s.mark

  form_is : layer hi.proc ≡ ProcForm-F.Agent binder i.creates.body i.creates.rest
  form_is = ap layer i.creates.is ∙ forms.outs-Agent binder i.creates.body i.creates.rest

  going : AgentParts n from x binder i.creates.body i.creates.rest
  going = agent_parts n from x binder hi.proc i.creates.body i.creates.rest i.stands.source form_is

  -- ---- the texts of the two atoms

  abbrev child : Proc
  child = child_of structure n node x binder i.creates.site i.creates.letter i.creates.place i.creates.cache i.creates.low_body

  abbrev parent : Proc
  parent = settles n node (variable i.creates.site) i.creates.low_rest

  texts : (s.binder ≡ binder) × (s.body ≡ child) × (s.rest ≡ parent)
  texts = same_parts s.binder binder s.body child s.rest parent (sym s.form ∙ ap layer i.is ∙ forms.outs-Agent binder child parent)

  abbrev low_env : Env
  low_env = map.insert s.atom.env binder (value.Agent b)

  abbrev high_env : Env
  high_env = map.insert hi.env binder (value.Agent b)

  abbrev low_child : Atom
  low_child = record { agent = b; proc = child; env = low_env }

  abbrev low_parent : Atom
  low_parent = goes_under s.atom parent low_env

  abbrev high_child : Atom
  high_child = record { agent = b; proc = i.creates.body; env = high_env }

  abbrev high_parent : Atom
  high_parent = goes_under hi i.creates.rest high_env

  is : next ≡ effect low e (created e s.atom binder child parent b m)
  is = s.is ∙ ap (λ z. effect low e (created e s.atom z s.body s.rest b m)) texts.0 ∙ ap (λ z. effect low e (created e s.atom binder z s.rest b m)) texts.1
      ∙ ap (λ z. effect low e (created e s.atom binder child z b m)) texts.2

  -- ---- the event of the high level

  still_new : (q : Name) → set.contains low.born q ≡ false → set.contains high.born q ≡ false
  still_new q new = not_true _ (λ t. let bad : false ≡ true = sym new ∙ c.born q t in cc)

  high_there : map.get high.atoms (stands_for v.standing e.actor) ≡ Some hi
  high_there = c.mirrored.up e.actor hi (ap (λ o. o >>= first_atom_of) there)

  acts : Acts high (event_of v e) hi
  acts = record {
    there = high_there;
    stands = sym (same_place c hi.agent (lodged.each (stands_for v.standing e.actor) hi high_there)) ∙ ap (map.get low.places) (sym i.stands.agent) ∙ s.acts.stands;
    tag = plain_tag hi.proc.tag s.atom.proc.tag e.tag (ap (λ (p : Proc). p.tag.node) i.creates.is ∙ sym (ap (λ (p : Proc). p.tag.node) i.is))
        (source-plain i.stands.source.sound) (ap (λ (p : Proc). p.tag.role) i.is) s.acts.tag;
  }

  abbrev then_high : Config
  then_high = effect high (event_of v e) (created (event_of v e) hi binder i.creates.body i.creates.rest b m)

  applies : apply high (event_of v e) ≡ Some then_high
  applies = ap (λ k. row k high (event_of v e)) is_agent
      ∙ creates_so high (event_of v e) hi binder i.creates.body i.creates.rest b m acts form_is s.made_two (ap (option_map (stands_for v.standing)) s.other_none) s.differ
      (still_new b s.agent_new) (still_new m s.mark_new)

  -- ---- the new agent is none that there was

  apart : IsAgents n b
  apart = not_true _ (λ t. let bad : false ≡ true = sym s.agent_new ∙ ap (set.contains low.born) (same_name-is b (daemon_agent n) t)
      ∙ c.born (daemon_agent n) (c.own_born (daemon_agent n) (is-own n 1 refl)) in cc)

  no_place : (o : Option Place) → map.get low.places b ≡ o → o ≡ None
  no_place None j = refl
  no_place (Some p) j = absurd (let bad : false ≡ true = sym s.agent_new ∙ c.stand_born.agents b (some _ p j) in cc)

  no_messenger_yet : set.contains v.standing.messengers b ≡ false
  no_messenger_yet = not_true _ (λ t. let bad : false ≡ true = sym s.agent_new ∙ c.messengers_born b t in cc)

  nowhere : (scene v high).place b ≡ Whereabouts.nowhere
  nowhere = ap whereabouts (sym (c.places b apart no_messenger_yet) ∙ no_place (map.get low.places b) refl)

  -- the site that it was told is that of its agent
  its_site : at ≡ e.site
  its_site =
      let told = recursion_from_All (IsTrueOf (scene v high) v.phase) (Chip.maker hi.agent at ∷ [])
      (all_taken (step_at shows v.things e.actor (Thing.making x hi at ∷ []) [] there) (IsTrueOf (scene v high) v.phase) c.protocol.true_chips) in
      same_site at e.site (sym told.0 ∙ ap whereabouts acts.stands)

  -- ---- the things of the two marks

  abbrev us : List Thing
  us = Thing.settling x high_parent at ∷ []

  abbrev ws : List Thing
  ws = Thing.beginning (variable binder) high_child hi.agent at ∷ Thing.letters b ∷ (first_cache structure b ++ Thing.mail (Mail.register b at) (Stage.in_agent b) ∷ [])

  abbrev half : NameMap (List Thing)
  half = map.insert v.things e.actor us

  abbrev things : NameMap (List Thing)
  things = map.insert half m ws

  agrees : Agrees from low_env high_env
  agrees = agrees-put from binder (value.Agent b) s.atom.env hi.env i.stands.agrees

  site_there : map.get low_env i.creates.site ≡ Some (value.Site at)
  site_there = there_is s.atom.env binder i.creates.site (value.Agent b)
      (λ q. let less : binder < from = going.binder_below in let above : from ≤ i.creates.site = i.creates.site_above in let bad : ⊥ = omega arith in bad)
      ∙ i.tells

  site_is : eval (variable i.creates.site) low_env ≡ Some (value.Site at)
  site_is = variable-is i.creates.site low_env ∙ site_there

  child_is : eval (variable binder) low_env ≡ Some (value.Agent b)
  child_is = variable-is binder low_env ∙ here_is s.atom.env binder (value.Agent b)

  parent_called : eval x high_env ≡ Some (value.Agent hi.agent)
  parent_called = going.stays hi.env (value.Agent b) ∙ i.stands.called

  are_parent : Are structure n from first low_parent us
  are_parent = Are.one (record {
    stands = record { agent = i.stands.agent; apart = i.stands.apart; source = going.rest_source; agrees = agrees; called = parent_called };
    node = node;
    at = variable i.creates.site;
    body = i.creates.low_rest;
    translates = i.creates.rest_translates;
    is = refl;
    tells = site_is;
  })

  are_child : Are structure n from first low_child ws
  are_child = child_are structure n from first node x binder i.creates.site i.creates.letter i.creates.place i.creates.cache i.creates.low_body b low_env
      (Thing.beginning (variable binder) high_child hi.agent at) (Thing.letters b) (Thing.mail (Mail.register b at) (Stage.in_agent b)) apart i.creates.cache_above
      (record {
        stands = record {
          agent = refl;
          apart = apart;
          source = going.body_source;
          agrees = agrees;
          called = variable-is binder high_env
              ∙ here_is hi.env binder (value.Agent b);
        };
        node = node;
        binder = i.creates.site;
        maker = x;
        body = i.creates.low_body;
        translates = i.creates.body_translates;
        is = refl;
        above = i.creates.site_above;
        calls = named_same n from i.stands.source.bound x low_env high_env i.stands.source.named agrees ∙ parent_called;
        tells = site_there;
      })
      (record {
        agent = refl;
        apart = apart;
        node = node;
        named = variable binder;
        letter = i.creates.letter;
        place = i.creates.place;
        letter_above = i.creates.letter_above;
        place_above = i.creates.place_above;
        distinct = i.creates.apart;
        names = Names.as_binder going.binder_below (λ q. q);
        calls = child_is;
        is = refl;
      }) (
        record {
          agent = refl;
          receiver = daemon n;
          to = site 0;
          chan = register n;
          sent = pair (variable binder) (variable i.creates.site);
          role = refl;
          is = forms.outs-Send (daemon n) (site 0) (register n) (pair (variable binder) (variable i.creates.site));
          for_agent = agent-is (daemon_agent n) low_env;
          for_site = constant-is (value.Site 0) low_env;
          on = channel-is (own n 2) low_env;
          holds = pair-is (variable binder) (variable i.creates.site) (value.Agent b) (value.Site at) low_env child_is site_is;
        },
        tt,
      )

  -- ---- the marks

  other : same_name m e.actor ≡ false
  other = not_true _ (λ t. let bad : false ≡ true = sym s.mark_new ∙ ap (set.contains low.born) (same_name-is m e.actor t)
      ∙ things_born c e.actor (Thing.making x hi at ∷ []) there in cc)

  no_things : (o : Option (List Thing)) → map.get v.things m ≡ o → o ≡ None
  no_things None j = refl
  no_things (Some ts) j = absurd (let bad : false ≡ true = sym s.mark_new ∙ things_born c m ts j in cc)

  no_new_packet : (o : Option _) → map.get low.packets m ≡ o → o ≡ None
  no_new_packet None j = refl
  no_new_packet (Some k) j = absurd (let bad : false ≡ true = sym s.mark_new ∙ c.stand_born.marks m (inr (some _ k j)) in cc)

  absent : map.get half m ≡ None
  absent = get-put v.things e.actor us m ∙ ap (λ z. cond z (Some us) (map.get v.things m)) other ∙ no_things (map.get v.things m) refl

  abbrev its_chips : List Chip
  its_chips = Chip.child b hi.agent at ∷ Chip.takes_letters b ∷ Chip.registration b at ∷ []

  shown_child : show_all ws ≡ its_chips
  shown_child = ap (λ l. Chip.child b hi.agent at ∷ Chip.takes_letters b ∷ l) (cache_shows structure b (Thing.mail (Mail.register b at) (Stage.in_agent b) ∷ []))

  step : Step (chips v.things) (chips things) (Chip.maker hi.agent at ∷ []) (its_chips ++ show_all us)
  step = subst (λ l. Step (chips v.things) (chips things) (Chip.maker hi.agent at ∷ []) (l ++ show_all us)) shown_child
      (step_new shows v.things e.actor m (Thing.making x hi at ∷ []) us ws there absent)

  protocol : (then : Name → Phase) × Protocol (scene v then_high) then (chips things)
  protocol =
      let take : List Chip = Chip.maker hi.agent at ∷ [] in
      let give : List Chip = Chip.registration b at ∷ Chip.child b hi.agent at ∷ Chip.waiter hi.agent at ∷ Chip.takes_letters b ∷ [] in
      let kept = keeps-protocol (scene v high) (with_place (scene v high) b (Whereabouts.at at)) v.phase (chips v.things) (chips things) take give
      (Rule.creates {a = hi.agent} {b = b} {s = at} nowhere)
      (cancel take give [] step (IsPermutation-refl take) (permuted (and_then (behind swapped) (and_then swapped (behind (behind swapped)))))) c.protocol in (
        kept.0,
        subst (λ w. Protocol w kept.0 (chips things))
            (ap (λ t. with_place (scene v high) b (Whereabouts.at t)) its_site ∙ scene_put v high then_high b (place.At e.site) refl) kept.1,
      )

  at_things : (q : Name) → map.get things q ≡ cond (same_name q m) (Some ws) (cond (same_name q e.actor) (Some us) (map.get v.things q))
  at_things q = get-put half m ws q ∙ ap (cond (same_name q m) (Some ws)) (get-put v.things e.actor us q)

  at_atoms : (q : Name) → map.get next.atoms q ≡ cond (same_name q e.actor) (Some low_parent) (cond (same_name q m) (Some low_child) (map.get low.atoms q))
  at_atoms q = ap (λ (d : Config). map.get d.atoms q) is ∙ get-put (map.insert low.atoms m low_child) e.actor low_parent q
      ∙ ap (cond (same_name q e.actor) (Some low_parent)) (get-put low.atoms m low_child q)

  at_packets : (q : Name) → map.get next.packets q ≡ map.get low.packets q
  at_packets q = ap (λ (d : Config). map.get d.packets q) is

  new_at : (q : Name) → same_name q m ≡ true → map.get things q ≡ Some ws
  new_at q f = at_things q ∙ ap (λ z. cond z (Some ws) (cond (same_name q e.actor) (Some us) (map.get v.things q))) f

  its_at : (q : Name) → same_name q m ≡ false → same_name q e.actor ≡ true → map.get things q ≡ Some us
  its_at q f g = at_things q ∙ ap (λ z. cond z (Some ws) (cond (same_name q e.actor) (Some us) (map.get v.things q))) f
      ∙ ap (λ z. cond z (Some us) (map.get v.things q)) g

  unchanged : (q : Name) → same_name q m ≡ false → same_name q e.actor ≡ false → map.get things q ≡ map.get v.things q
  unchanged q f g = at_things q ∙ ap (λ z. cond z (Some ws) (cond (same_name q e.actor) (Some us) (map.get v.things q))) f
      ∙ ap (λ z. cond z (Some us) (map.get v.things q)) g

  not_both : (q : Name) → same_name q m ≡ true → same_name q e.actor ≡ false
  not_both q f = ap (λ z. same_name z e.actor) (same_name-is q m f) ∙ other

  shaped : (q : Name) (t u : Bool) → same_name q m ≡ t → same_name q e.actor ≡ u → IsShaped structure n from first next things q
  shaped q true u f g =
      IsShaped.atom (at_atoms q ∙ ap (λ z. cond z (Some low_parent) (cond (same_name q m) (Some low_child) (map.get low.atoms q))) (not_both q f)
      ∙ ap (λ z. cond z (Some low_child) (map.get low.atoms q)) f)
      (at_packets q ∙ ap (map.get low.packets) (same_name-is q m f) ∙ no_new_packet (map.get low.packets m) refl) (new_at q f)
      (All-from_recursion (λ u. high_atom u ≡ None) (Thing.letters b ∷ (first_cache structure b ++ Thing.mail (Mail.register b at) (Stage.in_agent b) ∷ []))
      (refl, caching_holds structure b (λ u. high_atom u ≡ None) refl refl (Thing.mail (Mail.register b at) (Stage.in_agent b) ∷ []) (refl, tt))) are_child
  shaped q false true f g =
      IsShaped.atom (at_atoms q ∙ ap (λ z. cond z (Some low_parent) (cond (same_name q m) (Some low_child) (map.get low.atoms q))) g)
      (at_packets q ∙ ap (map.get low.packets) (same_name-is q e.actor g) ∙ no_packet) (its_at q f g) (All-nil (λ u. high_atom u ≡ None)) are_parent
  shaped q false false f g = reshape q (at_atoms q ∙ ap (λ z. cond z (Some low_parent) (cond (same_name q m) (Some low_child) (map.get low.atoms q))) g
      ∙ ap (λ z. cond z (Some low_child) (map.get low.atoms q)) f)
      (at_packets q) (unchanged q f g) (c.shaped q)

  packets : (q : Name) (t u : Bool) → same_name q m ≡ t → same_name q e.actor ≡ u
      → (map.get things q >>= first_packet_of) ≡ (map.get v.things q >>= first_packet_of)
  packets q true u f g = ap (λ o. o >>= first_packet_of) (new_at q f)
      ∙ sym (ap (λ o. o >>= first_packet_of) (ap (map.get v.things) (same_name-is q m f) ∙ no_things (map.get v.things m) refl))
  packets q false true f g = ap (λ o. o >>= first_packet_of) (its_at q f g)
      ∙ sym (ap (λ o. o >>= first_packet_of) (ap (map.get v.things) (same_name-is q e.actor g) ∙ there))
  packets q false false f g = ap (λ o. o >>= first_packet_of) (unchanged q f g)

  letters : (q : Name) (t u : Bool) → same_name q m ≡ t → same_name q e.actor ≡ u → letter_under things q ≡ letter_under v.things q
  letters q true u f g = ap (λ o. o >>= first_letter_of) (new_at q f)
      ∙ sym (ap (λ o. o >>= first_letter_of) (ap (map.get v.things) (same_name-is q m f) ∙ no_things (map.get v.things m) refl))
  letters q false true f g = ap (λ o. o >>= first_letter_of) (its_at q f g)
      ∙ sym (ap (λ o. o >>= first_letter_of) (ap (map.get v.things) (same_name-is q e.actor g) ∙ there))
  letters q false false f g = ap (λ o. o >>= first_letter_of) (unchanged q f g)

  old_or_new : (q : Name) (ts : List Thing) (t u : Bool) → same_name q m ≡ t → same_name q e.actor ≡ u → map.get things q ≡ Some ts → is_high ts ≡ true → IsOldOrNew c q
  old_or_new q ts true u f g j k = inr (ap (set.contains low.born) (same_name-is q m f) ∙ s.mark_new)
  old_or_new q ts false true f g j k = inl (Thing.making x hi at ∷ [], ap (map.get v.things) (same_name-is q e.actor g) ∙ there, refl)
  old_or_new q ts false false f g j k = inl (ts, sym (unchanged q f g) ∙ j, k)

  -- ---- what the high level has

  abbrev with_child : NameMap (List Thing)
  with_child = map.insert v.things m ws

  mirrors_child : Mirrors (stands_for v.standing) (λ q. map.get with_child q >>= first_atom_of) (map.get (map.insert high.atoms m high_child))
  mirrors_child = mirrors_put (stands_for v.standing) (λ q. map.get v.things q >>= first_atom_of) (map.get high.atoms) (λ q. map.get with_child q >>= first_atom_of)
      (map.get (map.insert high.atoms m high_child)) m high_child c.mirrored
      (λ q. first_put first_atom_of v.things m ws q)
      (λ k. get-put high.atoms m high_child k ∙ ap (λ z. cond (same_name k z) (Some high_child) (map.get high.atoms k)) (sym (c.new_marks m s.mark_new)))
      (only_at c first_atom_of high_by_atom m (inr s.mark_new))

  swapped_things : things ≡ map.insert with_child e.actor us
  swapped_things = put-swap v.things e.actor m us ws (same_name-swap e.actor m ∙ other)

  child_or_old : (q : Name) (y : Atom) → (map.get with_child q >>= first_atom_of) ≡ Some y → IsOldOrNew c q
  child_or_old q y j = go (same_name q m) refl (sym (first_put first_atom_of v.things m ws q) ∙ j)
    where
      its : (o : Option (List Thing)) → map.get v.things q ≡ o → (o >>= first_atom_of) ≡ Some y → IsOldOrNew c q
      its None g k = absurd cc
      its (Some ts) g k = inl (ts, g, high_by_atom ts y k)

      go : (t : Bool) → same_name q m ≡ t → cond t (Some high_child) (map.get v.things q >>= first_atom_of) ≡ Some y → IsOldOrNew c q
      go true f k = inr (ap (set.contains low.born) (same_name-is q m f) ∙ s.mark_new)
      go false f k = its (map.get v.things q) refl k

  mirrored : Mirrors (stands_for v.standing) (λ q. map.get things q >>= first_atom_of) (map.get then_high.atoms)
  mirrored = mirrors_put (stands_for v.standing) (λ q. map.get with_child q >>= first_atom_of) (map.get (map.insert high.atoms m high_child))
      (λ q. map.get things q >>= first_atom_of) (map.get then_high.atoms) e.actor high_parent mirrors_child
      (λ q. ap (λ (z : NameMap (List Thing)). map.get z q >>= first_atom_of) swapped_things ∙ first_put first_atom_of with_child e.actor us q)
      (λ k. get-put (map.insert high.atoms m high_child) (stands_for v.standing e.actor) high_parent k)
      (λ q y j same. one_mark c q e.actor same (child_or_old q y j) (inl (Thing.making x hi at ∷ [], there, refl)))

  -- ---- what is known

  knew : KnowsOnly (λ q. is_some (v.lock q)) (is_channel n high.born) from (Thing.making x hi at)
  knew = (recursion_from_All (λ t. KnowsOnly (may_know v.lock (chips v.things) t) (is_channel n high.born) from t) (Thing.making x hi at ∷ [])
      (c.known e.actor (Thing.making x hi at ∷ []) there)).0

  -- who may know what the maker knew, and the new agent, knows all that is bound then
  knows_both : (may : Name → Bool) → ((q : Name) → is_some (v.lock q) ≡ true → may q ≡ true) → may b ≡ true
      → Knows may (is_channel n then_high.born) from high_env
  knows_both may f its = knows_put may (is_channel n then_high.born) from binder (value.Agent b) hi.env
      (knows_wider (λ q. is_some (v.lock q)) may (is_channel n high.born) (is_channel n then_high.born) from f (more_channels n high.born e.made)
      (Thing.making x hi at) knew) (IsKnown.agent its)

  -- the new agent waits, and is its parent's
  is_told : list_any (is_child_of hi.agent b) (chips things) ≡ true
  is_told = list_any-IsPermutation (is_child_of hi.agent b) (chips things) ((its_chips ++ show_all us) ++ step.rest) step.given
      ∙ any_in (is_child_of hi.agent b) (its_chips ++ show_all us) step.rest
      (inl (ap (λ z. z || false) (and-in (same_name-itself b) (same_name-itself hi.agent))))

  known_parent : KnowsOnly (may_know v.lock (chips things) (Thing.settling x high_parent at)) (is_channel n then_high.born) from
      (Thing.settling x high_parent at)
  known_parent = knows_both (may_know v.lock (chips things) (Thing.settling x high_parent at))
      (λ q k. ap (λ z. z || list_any (is_child_of hi.agent q) (chips things)) k) (or_second (is_some (v.lock b)) _ is_told)

  known_child : KnowsOnly (may_know v.lock (chips things) (Thing.beginning (variable binder) high_child hi.agent at)) (is_channel n then_high.born) from
      (Thing.beginning (variable binder) high_child hi.agent at)
  known_child = knows_both (may_know v.lock (chips things) (Thing.beginning (variable binder) high_child hi.agent at)) (λ q k. ap (λ z. z || same_name q b) k)
      (or_second (is_some (v.lock b)) _ (same_name-itself b))

  known : (q : Name) (ts : List Thing) (t u : Bool) → same_name q m ≡ t → same_name q e.actor ≡ u → map.get things q ≡ Some ts
      → All (λ t. KnowsOnly (may_know v.lock (chips things) t) (is_channel n then_high.born) from t) ts
  known q ts true u f g j = subst (All (λ t. KnowsOnly (may_know v.lock (chips things) t) (is_channel n then_high.born) from t))
      (sym (done (sym (new_at q f) ∙ j)))
      (All-from_recursion (λ t. KnowsOnly (may_know v.lock (chips things) t) (is_channel n then_high.born) from t) ws (
        known_child,
        (
          tt,
          caching_holds structure b (λ t. KnowsOnly (may_know v.lock (chips things) t) (is_channel n then_high.born) from t) tt tt
              (Thing.mail (Mail.register b at) (Stage.in_agent b) ∷ []) (tt, tt),
        ),
      ))
  known q ts false true f g j = subst (All (λ t. KnowsOnly (may_know v.lock (chips things) t) (is_channel n then_high.born) from t))
      (sym (done (sym (its_at q f g) ∙ j)))
      (All-from_recursion (λ t. KnowsOnly (may_know v.lock (chips things) t) (is_channel n then_high.born) from t) us (known_parent, tt))
  known q ts false false f g j = known_on v.lock (chips v.things) (chips things) n from high.born e.made
      (λ a d any. any_kept (is_child_of a d) step (λ w. absurd cc) any) ts (c.known q ts (sym (unchanged q f g) ∙ j))

  -- ---- the two configurations afterwards

  low_places : next.places ≡ map.insert low.places b (place.At e.site)
  low_places = ap (λ (d : Config). d.places) is

  no_other_place : (p : NameMap Place) → map.get (map.insert p b (place.At e.site)) (daemon_agent n) ≡ map.get p (daemon_agent n)
  no_other_place p = get-put p b (place.At e.site) (daemon_agent n)
      ∙ ap (λ z. cond z (Some (place.At e.site)) (map.get p (daemon_agent n))) (same_name-swap (daemon_agent n) b ∙ apart)

  -- there is one agent more, with an empty cache
  one_more : OneMore (levels low high) b (levels next then_high)
  one_more q = ap (λ (o : Option Place). is_some o) (get-put high.places b (place.At e.site) q) ∙ go (same_name q b)
    where
      go : (t : Bool) → is_some (cond t (Some (place.At e.site)) (map.get high.places q)) ≡ cond t true (is_some (map.get high.places q))
      go true = refl
      go false = refl

  keeps_hints : KeepsHints structure low high next then_high v.things things
  keeps_hints cached = by_step low high next then_high v.things things
      (subst (λ l. Step (cache_chips v.things) (cache_chips things) [] (l ++ [])) (ap (λ k. show_all_caches (first_cache k b ++ Thing.mail (Mail.register b at) (Stage.in_agent b) ∷ [])) cached)
      (step_new shows_caches v.things e.actor m (Thing.making x hi at ∷ []) us ws there absent))
      (λ is. CacheStep.creates {n = find_place []} one_more (λ q. refl)) cached

  coupled : Coupled structure n from first next then_high (record v { things = things; phase = protocol.0 })
  coupled = together c next then_high e things protocol.0 (record {
    applies = h;
    sites = ap (λ (d : Config). d.sites) is;
    high_sites = refl;
    daemon = ap (λ (p : NameMap Place). map.get p (daemon_agent n)) low_places ∙ no_other_place low.places;
    no_daemon = no_other_place high.places;
    places = λ q f g. ap (λ (p : NameMap Place). map.get p q) low_places ∙ get-put low.places b (place.At e.site) q
        ∙ ap (cond (same_name q b) (Some (place.At e.site))) (c.places q f g) ∙ sym (get-put high.places b (place.At e.site) q);
    messengers = λ q is. put_another c q b (place.At e.site) is no_messenger_yet;
    said = ap (λ (d : Config). d.said) is ∙ c.said;
    born = ap (λ (d : Config). d.born) is;
    high_born = refl;
    shaped = λ q. shaped q (same_name q m) (same_name q e.actor) refl refl;
    mirrored = mirrored;
    mirrored_packets = record {
      up = λ q k j. c.mirrored_packets.up q k (sym (packets q (same_name q m) (same_name q e.actor) refl refl) ∙ j);
      down = λ k y j. let d = c.mirrored_packets.down k y j in (d.0, d.1, packets d.0 (same_name d.0 m) (same_name d.0 e.actor) refl refl ∙ d.2);
    };
    old_or_new = λ q ts j k. old_or_new q ts (same_name q m) (same_name q e.actor) refl refl j k;
    protocol = protocol.1;
    known = λ q ts j. known q ts (same_name q m) (same_name q e.actor) refl refl j;
    hints = keeps_hints;
    carriers = carry_put v.standing.messengers (map.insert v.things e.actor us) m
        (carry_put v.standing.messengers v.things e.actor c.carriers us (All-from_recursion (IsCarrier v.standing.messengers) us (tt, tt))) ws
        (All-from_recursion (IsCarrier v.standing.messengers) ws (
          tt,
          (
            tt,
            caching_holds structure b (IsCarrier v.standing.messengers) tt tt
                (Thing.mail (Mail.register b at) (Stage.in_agent b) ∷ []) (tt, tt),
          ),
        ));
  })

  made_one : (then : Config) × (apply high (event_of v e) ≡ Some then) × (w : View) × (w.standing ≡ v.standing) × Coupled structure n from first next then w
      × SameLetters v w
  made_one = (
    then_high,
    applies,
    record v { things = things; phase = protocol.0 },
    refl,
    coupled,
    λ q. letters q (same_name q m) (same_name q e.actor) refl refl,
  )

pub creations-are-events : {i : Infrastructure} → IsEvent i kind.Agent
creations-are-events n from first low high v c well lodged e next is_agent plain h =
    let s = creating low e next (ap (λ k. row k low e) (sym is_agent) ∙ h) in
    let o = of_actor c e.actor s.atom kind.Agent role.Plain s.acts.there (ap begun_by s.form) (same_role s.atom.proc.tag e.tag s.acts.tag ∙ plain)
    (λ k r. cc) in
    makes_by _ n from first o.thing s.atom o.is o.its_kind (ap begun_by s.form) λ x hi at thing i.
    made_one c lodged e next is_agent h s o.no_packet x hi at (o.there ∙ ap (λ t. Some (t ∷ [])) thing) i
