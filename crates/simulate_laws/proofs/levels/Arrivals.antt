-- An agent arrives at both levels.
use Rattle.std.proofs.Common.{◌≡◌, inl, ℕ, true, false, cond, nat_eq, None, Some, [], ◌∷◌, refl, sym, ap, subst, ◌∙◌, is_some, Option}
use Rattle.std.proofs.lemmas.Bool.{eqb-true}
use Rattle.std.proofs.lemmas.List.Sorted.{IsPermutation-refl}
use Rattle.std.specs.FinMap as map
use Rattle.std.specs.FinSet as set
use Rattle.np_syntax.specs.declared.value.Name.{Name}
use Rattle.np_syntax.specs.declared.process.Role.TheVariants as role
use Rattle.np_syntax.specs.declared.event.Event.{Event}
use Rattle.np_syntax.specs.declared.event.Kind.TheVariants as kind
use Rattle.np_syntax.specs.declared.event.Made.TheVariants as made
use Rattle.np_syntax.specs.Reordering.{kept}
use Rattle.np_syntax.proofs.Options.{then, when, done}
use Rattle.np_tables.specs.Names.{NameMap, same_name}
use Rattle.np_tables.proofs.Tables.{get-put, same_name-is, same_name-swap}
use Rattle.np_calculus.specs.declared.config.Place.{Place}
use Rattle.np_calculus.specs.declared.config.Place.TheVariants as place
use Rattle.np_calculus.specs.Changes.{effect, put, still}
use Rattle.np_calculus.specs.Config.{Config}
use Rattle.np_calculus.specs.Reductions.{apply, no_other, none_made, row, same_tag, way}
use Rattle.np_calculus.specs.Starts.{daemon_agent}
unfoldable use Rattle.np_calculus.proofs.Common.{arrive_row}
use Rattle.np_calculus.proofs.OwnNames.{not_true}
use Rattle.np_calculus.proofs.Steps.{is-none, row-step, same_site}
use Rattle.simulate_laws.specs.protocol.Phases.{Phase}
use Rattle.simulate_laws.specs.protocol.Protocol.{Protocol}
use Rattle.simulate_laws.specs.protocol.Rules.{Rule}
use Rattle.simulate_laws.specs.protocol.Scenes.{Whereabouts, with_place}
use Rattle.simulate_laws.proofs.protocol.Keeps.{keeps-protocol}
use Rattle.infrastructure_texts.specs.Infrastructures.{Infrastructure}
use Rattle.simulate_laws.specs.levels.Coupled.{Coupled, View, chips, scene, whereabouts}
use Rattle.simulate_laws.specs.levels.Laws.{ArrivalsAreEvents}
use Rattle.simulate_laws.proofs.levels.Places.{put_another}
use Rattle.simulate_laws.proofs.levels.Keeping.{known_on}
use Rattle.simulate_laws.proofs.levels.Marks.{reshape}
use Rattle.simulate_laws.proofs.levels.Scenes.{scene_put}
use Rattle.simulate_laws.proofs.levels.Together.{together}
use Rattle.simulate_laws.proofs.levels.Caches.{by_step, reordered, same_agents}
use Rattle.simulate_laws.specs.levels.Letters.{SameLetters}
use Rattle.simulate_laws.specs.protocol.CacheSteps.{CacheStep}
use Rattle.simulate_laws.proofs.levels.Applies.{takes_nothing}

-- what an Arrive does
pub record IsArriving (low : Config) (e : Event) (next : Config) : Type 0 where
  pub there : map.get low.places e.actor ≡ Some (place.Way e.site)
  pub tag : same_tag e.tag (record { node = 0; role = role.Plain }) ≡ true
  pub made_none : e.made ≡ made.Nothing
  pub other_none : e.other ≡ None
  pub is : next ≡ effect low e (record still { places = put e.actor (place.At e.site) ∷ [] })

way-is : (p : Place) (s : ℕ) → way p ≡ Some s → p ≡ place.Way s
way-is (place.Way t) s h = ap place.Way (sym (done h))
way-is (place.At t) s h = absurd cc

pub arriving : (low : Config) (e : Event) (next : Config) → row kind.Arrive low e ≡ Some next → IsArriving low e next
unfolding arrive_row
arriving low e next h =
    let r = row-step low e next kind.Arrive h in
    then (map.get low.places e.actor) _ r.gives λ p there g. then (way p) _ g λ s comes g. when (nat_eq s e.site) _ g λ here g.
    when (same_tag e.tag (record { node = 0; role = role.Plain })) _ g λ tag g. then (none_made e.made) _ g λ u none g. then (no_other e.other) _ g λ w other g.
    let at : s ≡ e.site = eqb-true s e.site here in
    record {
      there = there ∙ ap Some (way-is p s comes ∙ ap place.Way at);
      tag = tag;
      made_none = is-none e.made u none;
      other_none = takes_nothing e.other w other;
      is = r.is ∙ ap (effect low e) (done g ∙ ap (λ t. record still { places = put e.actor (place.At t) ∷ [] }) at);
    }

-- an Arrive is enabled where its agent is under way to its site
arrives_so : (c : Config) (e : Event) → map.get c.places e.actor ≡ Some (place.Way e.site) → same_tag e.tag (record { node = 0; role = role.Plain }) ≡ true
    → e.made ≡ made.Nothing → e.other ≡ None
    → row kind.Arrive c e ≡ Some (effect c e (record still { places = put e.actor (place.At e.site) ∷ [] }))
unfolding arrive_row
arrives_so c e there tag none other = rw (there, same_site e.site, tag, none, other) refl

module _ {i : Infrastructure} {n from first : ℕ} {low high : Config} {v : View} (c : Coupled i n from first low high v) (e : Event) (next : Config) (is_arrive : e.kind ≡ kind.Arrive)
    (others : set.contains v.standing.messengers e.actor ≡ false) (h : apply low e ≡ Some next) (s : IsArriving low e next) where
  -- the daemon does not move
  apart : same_name e.actor (daemon_agent n) ≡ false
  apart = not_true _ (λ t. let bad : place.At 0 ≡ place.Way e.site = done
      (sym s.there ∙ ap (map.get low.places) (same_name-is e.actor (daemon_agent n) t) ∙ c.daemon) in cc)

  high_there : map.get high.places e.actor ≡ Some (place.Way e.site)
  high_there = sym (c.places e.actor apart others) ∙ s.there

  abbrev then_high : Config
  then_high = effect high e (record still { places = put e.actor (place.At e.site) ∷ [] })

  applies : apply high e ≡ Some then_high
  applies = ap (λ k. row k high e) is_arrive ∙ arrives_so high e high_there s.tag s.made_none s.other_none

  protocol : (then : Name → Phase) × Protocol (scene v then_high) then (chips v.things)
  protocol =
      let kept = keeps-protocol (scene v high) (with_place (scene v high) e.actor (Whereabouts.at e.site)) v.phase (chips v.things) (chips v.things) [] []
      (Rule.arrives {a = e.actor} {t = e.site} (ap whereabouts high_there))
      (record { rest = chips v.things; taken = IsPermutation-refl (chips v.things); given = IsPermutation-refl (chips v.things) }) c.protocol in
      (kept.0, subst (λ w. Protocol w kept.0 (chips v.things)) (scene_put v high then_high e.actor (place.At e.site) refl) kept.1)

  low_places : next.places ≡ map.insert low.places e.actor (place.At e.site)
  low_places = ap (λ (d : Config). d.places) s.is

  coupled : Coupled i n from first next then_high (record v { phase = protocol.0 })
  coupled = together c next then_high e v.things protocol.0 (record {
    applies = h;
    sites = ap (λ (d : Config). d.sites) s.is;
    high_sites = refl;
    daemon = ap (λ (p : NameMap Place). map.get p (daemon_agent n)) low_places ∙ get-put low.places e.actor (place.At e.site) (daemon_agent n)
        ∙ ap (λ z. cond z (Some (place.At e.site)) (map.get low.places (daemon_agent n))) (same_name-swap (daemon_agent n) e.actor ∙ apart);
    no_daemon = get-put high.places e.actor (place.At e.site) (daemon_agent n)
        ∙ ap (λ z. cond z (Some (place.At e.site)) (map.get high.places (daemon_agent n))) (same_name-swap (daemon_agent n) e.actor ∙ apart);
    places = λ q f g. ap (λ (p : NameMap Place). map.get p q) low_places ∙ get-put low.places e.actor (place.At e.site) q
        ∙ ap (cond (same_name q e.actor) (Some (place.At e.site))) (c.places q f g)
        ∙ sym (get-put high.places e.actor (place.At e.site) q);
    messengers = λ q is. put_another c q e.actor (place.At e.site) is others;
    said = ap (λ (d : Config). d.said) s.is ∙ c.said;
    born = ap (λ (d : Config). d.born) s.is;
    high_born = refl;
    shaped = λ q. reshape q (ap (λ (d : Config). map.get d.atoms q) s.is) (ap (λ (d : Config). map.get d.packets q) s.is) refl (c.shaped q);
    mirrored = c.mirrored;
    mirrored_packets = c.mirrored_packets;
    old_or_new = λ q ts j t. inl (ts, j, t);
    protocol = protocol.1;
    known = λ q ts j. known_on v.lock (chips v.things) (chips v.things) n from high.born e.made (λ a b any. any) ts (c.known q ts j);
    hints = by_step low high next then_high v.things v.things (reordered kept) (λ is. CacheStep.still (same_agents high.places e.actor (place.At e.site) (ap (λ (o : Option Place). is_some o) high_there)));
    carriers = c.carriers;
  })

  arrived : (then : Config) × (apply high e ≡ Some then) × (w : View) × (w.standing ≡ v.standing) × Coupled i n from first next then w × SameLetters v w
  arrived = (then_high, applies, record v { phase = protocol.0 }, refl, coupled, λ q. refl)

pub arrivals-are-events : {i : Infrastructure} → ArrivalsAreEvents i
arrivals-are-events n from first low high v c well e next is_arrive plain others h = arrived c e next is_arrive others h
    (arriving low e next (ap (λ k. row k low e) (sym is_arrive) ∙ h))
