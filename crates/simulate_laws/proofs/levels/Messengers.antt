-- Events of messengers, and the end of what the infrastructure has done: nothing at the high level.
use Rattle.std.proofs.Common.{◌≡◌, ℕ, true, false, cond, None, Some, List, [], ◌∷◌, refl, sym, ap, ◌∙◌}
use Rattle.std.proofs.lemmas.List.Elements.{All-from_recursion, All-nil, recursion_from_All}
use Rattle.std.specs.FinMap as map
use Rattle.std.specs.FinSet as set
use Rattle.np_syntax.specs.declared.value.Name.{Name}
use Rattle.np_syntax.specs.declared.process.ProcForm.{ProcForm-F}
use Rattle.np_syntax.specs.declared.process.ProcForm.TheVariants as forms
use Rattle.np_syntax.specs.declared.process.Role.TheVariants as role
use Rattle.np_syntax.specs.declared.event.Event.{Event}
use Rattle.np_syntax.specs.declared.event.Kind.TheVariants as kind
use Rattle.np_syntax.specs.Reordering.{kept}
use Rattle.np_syntax.proofs.Options.{done}
use Rattle.np_tables.specs.Names.{NameMap, same_name}
use Rattle.np_tables.proofs.Tables.{cut_here, get-cut, get-put, put_here, same_name-is}
use Rattle.np_calculus.specs.declared.config.Place.{Place}
use Rattle.np_calculus.specs.declared.config.Place.TheVariants as place
use Rattle.np_calculus.specs.Begins.{begun_by}
use Rattle.np_calculus.specs.Config.{Config}
use Rattle.np_calculus.specs.Reductions.{apply, goes, row}
use Rattle.np_calculus.specs.Starts.{daemon_agent}
use Rattle.np_calculus.proofs.OwnNames.{not_true}
use Rattle.np_eval.specs.Forms.{layer}
use Rattle.infrastructure_texts.specs.CacheTexts.{tries}
use Rattle.infrastructure_texts.specs.Infrastructures.{Infrastructure}
use Rattle.simulate_laws.specs.things.Acting.{begins}
use Rattle.simulate_laws.specs.things.CacheShapes.{IsCarrying}
use Rattle.simulate_laws.specs.things.Mail.{Posted}
use Rattle.simulate_laws.specs.things.Shapes.{Are, Is, IsAgents}
use Rattle.simulate_laws.specs.things.Things.{Stage, Thing, high_atom, shows}
use Rattle.simulate_laws.specs.levels.Coupled.{Coupled, IsCarrier, IsShaped, KnowsOnly, View, chips, is_channel, is_child_of, may_know}
use Rattle.simulate_laws.specs.levels.Letters.{SameLetters}
use Rattle.simulate_laws.specs.levels.Laws.{MessengersArrive}
use Rattle.simulate_laws.proofs.levels.Caches.{handed_on, by_step, reordered}
use Rattle.simulate_laws.proofs.levels.Departures.{IsDeparting, departing}
use Rattle.simulate_laws.proofs.levels.Letters.{same-letters}
use Rattle.simulate_laws.proofs.levels.Marks.{at_mark, ends, same_chips, step_at, reshape}
use Rattle.simulate_laws.proofs.levels.Quiet.{SamePlaces, any_kept, quiet}
use Rattle.simulate_laws.proofs.levels.Shapes.{of_actor, same_role}
use Rattle.simulate_laws.proofs.levels.Stops.{stopping}
use Rattle.simulate_laws.proofs.levels.Arrivals.{arriving}
use Rattle.np_calculus.proofs.BornKept.{born-kept, made-kept}

module _ {i : Infrastructure} {n from first : ℕ} {low high : Config} {v : View} (c : Coupled i n from first low high v) where
  abbrev Done : Config → Type 0
  Done next = (w : View) × (w.standing ≡ v.standing) × Coupled i n from first next high w × SameLetters v w

  -- ---- what is done ends

  ended_by : {R : Type 0} (t : Thing) → begins t role.Infra kind.Stop ≡ true → (t ≡ Thing.ended → R) → R
  ended_by Thing.ended b r = r refl
  ended_by (Thing.mail m (Stage.in_agent x)) b r = absurd cc
  ended_by _ b r = absurd cc

  pub ended : (e : Event) (next : Config) → e.kind ≡ kind.Stop → e.tag.role ≡ role.Infra → apply low e ≡ Some next → Done next
  ended e next is_stop infra h =
      let s = stopping low e next (ap (λ k. row k low e) (sym is_stop) ∙ h) in
      let o = of_actor c e.actor s.atom kind.Stop role.Infra s.acts.there (ap begun_by s.form) (same_role s.atom.proc.tag e.tag s.acts.tag ∙ infra) (λ k r. cc) in
      ended_by o.thing o.its_kind λ thing.
      ends c next e e.actor Thing.ended (record {
        applies = h;
        sites = ap (λ (d : Config). d.sites) s.is;
        places = λ q _. ap (λ (d : Config). map.get d.places q) s.is;
        said = ap (λ (d : Config). d.said) s.is;
        born = ap (λ (d : Config). d.born) s.is;
        there = o.there ∙ ap (λ t. Some (t ∷ [])) thing;
        others = λ q f. (ap (λ (d : Config). map.get d.atoms q) s.is ∙ get-cut low.atoms e.actor q ∙ ap (λ t. cond t None (map.get low.atoms q)) f, ap (λ (d : Config). map.get d.packets q) s.is);
        no_atom = ap (λ (d : Config). map.get d.atoms e.actor) s.is ∙ cut_here low.atoms e.actor;
        no_packet = ap (λ (d : Config). map.get d.packets e.actor) s.is ∙ o.no_packet;
        no_high_atom = refl;
        no_high_packet = refl;
        knowledge = tt;
        no_caches = refl;
      })

  -- ---- a messenger leaves for the site of a hint

  -- the place of a messenger is none of the high level
  one_moves : (t : Name) (p : Place) → IsAgents n t → set.contains v.standing.messengers t ≡ true → (next : Config) → next.places ≡ map.insert low.places t p → SamePlaces c next
  one_moves t p apart is next places q other =
      ap (λ (m : NameMap Place). map.get m q) places ∙ get-put low.places t p q ∙ ap (λ b. cond b (Some p) (map.get low.places q)) (not_true (same_name q t) same)
    where
      same : same_name q t ≡ true → ⊥
      same e =
          let its : q ≡ t = same_name-is q t e in
          let bad : false ≡ true = sym apart ∙ ap (λ x. same_name x (daemon_agent n)) (sym its) ∙ other (ap (set.contains v.standing.messengers) its ∙ is) in cc

  left : (e : Event) (next : Config) → apply low e ≡ Some next → (s : IsDeparting low e next) → i ≡ Infrastructure.cached → (p : Posted) (t a : Name) → IsCarrying n p t a s.atom → IsAgents n t
      → map.get low.packets e.actor ≡ None → map.get v.things e.actor ≡ Some (Thing.carrying p t a ∷ []) → Done next
  left e next h s cached p t a j apart no_packet there =
      let us : List Thing = Thing.trying p t a ∷ [] in
      let things : NameMap (List Thing) = map.insert v.things e.actor us in
      let step = step_at shows v.things e.actor (Thing.carrying p t a ∷ []) us there in
      let protocol = same_chips step c.protocol in
      let carrier = recursion_from_All (IsCarrier v.standing.messengers) (Thing.carrying p t a ∷ []) (c.carriers e.actor (Thing.carrying p t a ∷ []) there) in
      let known = recursion_from_All (λ t. KnowsOnly (may_know v.lock (chips v.things) t) (is_channel n high.born) from t) (Thing.carrying p t a ∷ []) (c.known e.actor (Thing.carrying p t a ∷ []) there) in (
        record v { things = things; phase = protocol.0 },
        refl,
        quiet c next things protocol.0 (at_mark c next e e.actor (Thing.carrying p t a ∷ []) us protocol.0 (record {
          applies = h;
          sites = ap (λ (d : Config). d.sites) s.is;
          places = one_moves t (place.Way s.to_site) apart carrier.0 next (ap (λ (d : Config). d.places) s.is ∙ ap (λ x. map.insert low.places x (place.Way s.to_site)) j.agent);
          said = ap (λ (d : Config). d.said) s.is;
          born = ap (λ (d : Config). d.born) s.is;
          there = there;
          others = λ q f. (
            ap (λ (d : Config). map.get d.atoms q) s.is ∙ get-put low.atoms e.actor (goes s.atom s.body) q
                ∙ ap (λ t. cond t (Some (goes s.atom s.body)) (map.get low.atoms q)) f,
            ap (λ (d : Config). map.get d.packets q) s.is,
          );
          here = IsShaped.atom (ap (λ (d : Config). map.get d.atoms e.actor) s.is ∙ put_here low.atoms e.actor (goes s.atom s.body)) (ap (λ (d : Config). map.get d.packets e.actor) s.is ∙ no_packet)
              (put_here v.things e.actor us) (All-nil (λ u. high_atom u ≡ None))
              (Are.one (
                cached,
                record { agent = j.agent; node = j.node; named = j.named; to = j.to; on = j.on; sent = j.sent; is = body_is; carries = j.carries },
                apart,
              ));
          atoms = refl;
          packets = refl;
          protocol = protocol.1;
          children = λ x y. any_kept (is_child_of x y) step (λ w. w);
          known = All-from_recursion (λ t. KnowsOnly (may_know v.lock (chips things) t) (is_channel n high.born) from t) us (known.0, tt);
          hints = handed_on low high next;
          carriers = All-from_recursion (IsCarrier v.standing.messengers) us (carrier.0, tt);
        })),
        same-letters v.things e.actor us (Thing.carrying p t a ∷ []) there refl,
      )
    where
      body_is : s.body ≡ tries n j.node j.named j.to j.on j.sent
      body_is = let same : ProcForm-F.Migrate s.to s.body ≡ ProcForm-F.Migrate _ (tries n j.node j.named j.to j.on j.sent) = sym s.form ∙ ap layer j.is ∙ forms.outs-Migrate _ _ in cc

  pub leaves : (e : Event) (next : Config) → e.kind ≡ kind.Depart → e.tag.role ≡ role.Infra → apply low e ≡ Some next → Done next
  leaves e next is_depart infra h =
      let s = departing low e next (ap (λ k. row k low e) (sym is_depart) ∙ h) in
      let o = of_actor c e.actor s.atom kind.Depart role.Infra s.acts.there (ap begun_by s.form) (same_role s.atom.proc.tag e.tag s.acts.tag ∙ infra) (λ k r. cc) in
      by_thing s o.thing o.is o.its_kind o.no_packet o.there
    where
      by_thing : (s : IsDeparting low e next) (t : Thing) → Is i n from first t s.atom → begins t role.Infra kind.Depart ≡ true → map.get low.packets e.actor ≡ None
          → map.get v.things e.actor ≡ Some (t ∷ []) → Done next
      by_thing s (Thing.carrying p t a) j b none there = left e next h s j.0 p t a j.1 j.2 none there
      by_thing s (Thing.mail m (Stage.in_agent x)) j b none there = absurd cc
      by_thing s _ j b none there = absurd cc

  -- ---- it arrives

  pub arrives : (e : Event) (next : Config) → e.kind ≡ kind.Arrive → set.contains v.standing.messengers e.actor ≡ true → apply low e ≡ Some next → Done next
  arrives e next is_arrive messenger h =
      let s = arriving low e next (ap (λ k. row k low e) (sym is_arrive) ∙ h) in
      let apart : same_name e.actor (daemon_agent n) ≡ false =
      not_true _ (λ t. let bad : place.At 0 ≡ place.Way e.site = done (sym s.there ∙ ap (map.get low.places) (same_name-is e.actor (daemon_agent n) t) ∙ c.daemon) in cc) in (
        v,
        refl,
        quiet c next v.things v.phase (record {
          sites = ap (λ (d : Config). d.sites) s.is;
          places = one_moves e.actor (place.At e.site) apart messenger next (ap (λ (d : Config). d.places) s.is);
          said = ap (λ (d : Config). d.said) s.is;
          born = λ q k. ap (λ (d : Config). set.contains d.born q) s.is ∙ made-kept low.born e.made q k;
          stand_born = born-kept low next e c.stand_born h;
          shaped = λ q. reshape q (ap (λ (d : Config). map.get d.atoms q) s.is) (ap (λ (d : Config). map.get d.packets q) s.is) refl (c.shaped q);
          atoms = λ q. refl;
          packets = λ q. refl;
          protocol = c.protocol;
          known = c.known;
          hints = by_step low high next high v.things v.things (reordered kept) (handed_on low high next);
          carriers = c.carriers;
        }),
        λ q. refl,
      )

pub messengers-arrive : {i : Infrastructure} → MessengersArrive i
messengers-arrive n from first low high v c e next is messenger h = arrives c e next is messenger h
