-- Mail of the infrastructure lands.
use Rattle.std.proofs.Common.{◌≡◌, ℕ, true, false, cond, nat_eq, Option, None, Some, IsSome, List, [], ◌∷◌, refl, sym, ap, subst, ◌∙◌, ◌⊎◌, inl, inr, Bool}
use Rattle.std.proofs.lemmas.Bool.{eqb-true}
use Rattle.std.specs.List.{list_any}
use Rattle.std.proofs.lemmas.List.Elements.{All-from_recursion, All-nil, recursion_from_All}
use Rattle.std.specs.FinMap as map
use Rattle.np_syntax.specs.declared.value.Name.{Name}
use Rattle.np_syntax.specs.declared.value.Value.{Value}
use Rattle.np_syntax.specs.declared.value.Value as value
use Rattle.np_syntax.specs.declared.value.Value.TheVariants.{outs-Chan}
use Rattle.np_syntax.specs.declared.process.Tag.{Tag}
use Rattle.np_syntax.specs.declared.process.Role.TheVariants as role
use Rattle.np_syntax.specs.declared.process.ProcForm.TheVariants.{outs-Out}
use Rattle.np_syntax.specs.declared.event.Event.{Event}
use Rattle.np_syntax.specs.declared.event.Kind.TheVariants as kind
use Rattle.np_syntax.proofs.Options.{then, when, done}
use Rattle.np_tables.specs.Names.{NameMap}
use Rattle.np_tables.proofs.Tables.{cut_here, get-cut, get-put, put_here}
use Rattle.np_calculus.specs.declared.config.Atom.{Atom}
use Rattle.np_calculus.specs.declared.config.Packet.{Packet}
use Rattle.np_calculus.specs.declared.config.Place.{Place}
use Rattle.np_calculus.specs.declared.config.Place.TheVariants as place
use Rattle.np_calculus.specs.Changes.{effect, put, cut, still}
use Rattle.np_calculus.specs.Config.{Config}
use Rattle.np_calculus.specs.Reductions.{apply, no_other, none_made, output_in, row, same_tag, sends}
use Rattle.np_calculus.specs.Sight.{at_site}
use Rattle.np_calculus.specs.Starts.{own}
unfoldable use Rattle.np_calculus.proofs.Common.{land_row}
use Rattle.np_calculus.proofs.Steps.{row-step, same_site}
use Rattle.simulate_laws.specs.protocol.Chips.{Chip}
use Rattle.simulate_laws.specs.protocol.Phases.{Phase}
use Rattle.simulate_laws.specs.protocol.Protocol.{IsTrueOf, Protocol}
use Rattle.simulate_laws.specs.protocol.Rules.{Rule}
use Rattle.simulate_laws.specs.protocol.Scenes.{Scene, Whereabouts}
use Rattle.simulate_laws.specs.protocol.Steps.{Step}
use Rattle.simulate_laws.proofs.protocol.Keeps.{keeps-protocol}
use Rattle.simulate_laws.proofs.protocol.Steps.{all_taken}
use Rattle.infrastructure_texts.specs.Infrastructures.{Infrastructure}
use Rattle.simulate_laws.specs.things.Mail.{Mail, content, on_channel, packet_of, receiver, to_site}
use Rattle.simulate_laws.specs.things.Shapes.{Are, IsUnderWay}
use Rattle.simulate_laws.specs.things.Things.{Stage, Thing, high_atom, show_all, shows}
use Rattle.simulate_laws.proofs.things.Starts.{constant-is}
use Rattle.simulate_laws.specs.levels.Coupled.{Coupled, IsShaped, KnowsOnly, View, chips, is_channel, is_child_of, may_know, scene, whereabouts, IsCarrier}
use Rattle.simulate_laws.proofs.levels.Places.{same_place}
use Rattle.simulate_laws.proofs.levels.Letters.{same-letters}
use Rattle.simulate_laws.proofs.levels.Marks.{at_mark, same_chips, step_at, ends}
use Rattle.simulate_laws.proofs.levels.Quiet.{any_kept, quiet}
use Rattle.simulate_laws.proofs.levels.Shapes.{of_packet, same_role}
use Rattle.simulate_laws.proofs.levels.Caches.{handed_on}
use Rattle.simulate_laws.specs.levels.Letters.{SameLetters}

-- a Land of a packet whose agent is at its site
record IsLanding (low : Config) (e : Event) (packet : Packet) : Type 0 where
  there : map.get low.packets e.actor ≡ Some packet
  to : packet.to ≡ e.site
  tag : same_tag packet.tag e.tag ≡ true

landing : (low : Config) (e : Event) (next : Config) → row kind.Land low e ≡ Some next → (p : Packet) × IsLanding low e p
unfolding land_row
landing low e next h =
    let r = row-step low e next kind.Land h in
    then (map.get low.packets e.actor) _ r.gives λ p there h. when (nat_eq p.to e.site) _ h λ to h. when (same_tag p.tag e.tag) _ h λ tag h.
    (p, record { there = there; to = eqb-true p.to e.site to; tag = tag })

-- what it leaves: an output where its agent is at its site, and nothing where it is not
landed : (low : Config) (e : Event) (next : Config) (p : Packet) (here : Bool) → IsLanding low e p → at_site (map.get low.places p.agent) e.site ≡ here
    → row kind.Land low e ≡ Some next
    → next ≡ effect low e (record still { packets = cut e.actor ∷ []; atoms = cond here (put e.actor (output_in p.agent p.chan p.value e.tag) ∷ []) [] })
unfolding land_row
landed low e next p here l is_here h =
    let r = row-step low e next kind.Land h in
    then (map.get low.packets e.actor) _ r.gives λ q there h. when (nat_eq q.to e.site) _ h λ to h. when (same_tag q.tag e.tag) _ h λ tag h.
    then (none_made e.made) _ h λ u none h. then (no_other e.other) _ h λ w other h.
    let same : q ≡ p = done (sym l.there ∙ there) in
    let at : at_site (map.get low.places q.agent) e.site ≡ here = ap (λ (k : Packet). at_site (map.get low.places k.agent) e.site) same ∙ is_here in
    r.is ∙ ap (effect low e) (done h ∙ ap (λ t. record still { packets = cut e.actor ∷ []; atoms = cond t (put e.actor (output_in q.agent q.chan q.value e.tag) ∷ []) [] }) at
    ∙ ap (λ (k : Packet). record still { packets = cut e.actor ∷ []; atoms = cond here (put e.actor (output_in k.agent k.chan k.value e.tag) ∷ []) [] }) same)

-- a made output gives its value on its channel
pub output-gives : (a c : Name) (v : Value) (tag : Tag) → sends (output_in a c v tag) ≡ Some (c, v)
output-gives a c v tag = rw (outs-Out _ _, constant-is (value.Chan c) map.empty, outs-Chan c, constant-is v map.empty) refl

-- what lands with another role than Plain is mail
lands_mail : {R : Type 0} (n : ℕ) (t : Thing) (k : Packet) → IsUnderWay n t k → (k.tag.role ≡ role.Plain → ⊥) → ((m : Mail) → t ≡ Thing.mail m Stage.on_the_way → k ≡ packet_of n m k.tag → R) → R
lands_mail n (Thing.mail m Stage.on_the_way) k u apart f = f m refl u.0
lands_mail n (Thing.packet p) k u apart f = absurd (apart u.1)
lands_mail n _ k u apart f = absurd u

-- an answer of the daemon: its agent may have left
abbrev IsAnswer : Mail → Type 0
IsAnswer (Mail.found a u b s) = Unit {0}
IsAnswer _ = ⊥

no_child : (a b : Name) (m : Mail) → list_any (is_child_of a b) (show_all (Thing.mail m Stage.on_the_way ∷ [])) ≡ false
no_child a b (Mail.register y s) = refl
no_child a b (Mail.migrating y) = refl
no_child a b (Mail.migrated y t) = refl
no_child a b (Mail.message p) = refl
no_child a b (Mail.dack y s) = refl
no_child a b (Mail.ack y s) = refl
no_child a b (Mail.deliver p s) = refl
no_child a b (Mail.asks x y) = refl
no_child a b (Mail.found x u y s) = refl

mail_comes : {w : Scene} {phase : Name → Phase} {before after : List Chip} (m : Mail) → Step before after (show_all (Thing.mail m Stage.on_the_way ∷ [])) (show_all (Thing.mail m Stage.there ∷ [])) → Protocol w phase before
    → (then : Name → Phase) × Protocol w then after
mail_comes (Mail.register y t) step p = same_chips step p
mail_comes (Mail.migrating y) step p = same_chips step p
mail_comes (Mail.migrated y t) step p = same_chips step p
mail_comes (Mail.message q) step p = same_chips step p
mail_comes (Mail.dack y t) step p = same_chips step p
mail_comes {w} {phase} {before} {after} (Mail.ack y t) step p = keeps-protocol w w phase before after _ _ (Rule.comes {a = y} {s = t}) step p
mail_comes (Mail.deliver q t) step p = same_chips step p
mail_comes (Mail.asks x y) step p = same_chips step p
mail_comes (Mail.found x u y s) step p = same_chips step p

module _ {i : Infrastructure} {n from first : ℕ} {low high : Config} {v : View} (c : Coupled i n from first low high v) where
  -- an agent that is at a site for the protocol is there at the low level
  pub low_place : (a : Name) (s : ℕ) → whereabouts (map.get high.places a) ≡ Whereabouts.at s → map.get low.places a ≡ Some (place.At s)
  low_place a s h = same_place c a (subst IsSome (sym (its (map.get high.places a) h)) refl) ∙ its (map.get high.places a) h
    where
      its : (o : Option Place) → whereabouts o ≡ Whereabouts.at s → o ≡ Some (place.At s)
      its None e = absurd cc
      its (Some (place.At t)) e = let same : t ≡ s = cc in ap (λ u. Some (place.At u)) same
      its (Some (place.Way t)) e = absurd cc

  -- mail goes where its receiver is, but for answers of the daemon
  mail_finds : {after give : List Chip} (m : Mail) → Step (chips v.things) after (show_all (Thing.mail m Stage.on_the_way ∷ [])) give
      → (map.get low.places (receiver n m) ≡ Some (place.At (to_site m))) ⊎ IsAnswer m
  mail_finds (Mail.register y t) step = inl c.daemon
  mail_finds (Mail.migrating y) step = inl c.daemon
  mail_finds (Mail.migrated y t) step = inl c.daemon
  mail_finds (Mail.message q) step = inl c.daemon
  mail_finds (Mail.dack y t) step = inl c.daemon
  mail_finds (Mail.ack y t) step =
      inl (low_place y t (recursion_from_All (IsTrueOf (scene v high) v.phase) (Chip.ack_sent y t ∷ []) (all_taken step (IsTrueOf (scene v high) v.phase) c.protocol.true_chips)).0)
  mail_finds (Mail.deliver q t) step = inl (low_place q.agent t (recursion_from_All (IsTrueOf (scene v high) v.phase) (Chip.delivery q.agent t ∷ Chip.knows q.agent ∷ [])
      (all_taken step (IsTrueOf (scene v high) v.phase) c.protocol.true_chips)).0)
  mail_finds (Mail.asks x y) step = inl c.daemon
  mail_finds (Mail.found x u y t) step = inr tt

  pub lands : (e : Event) (next : Config) → e.kind ≡ kind.Land → (e.tag.role ≡ role.Plain → ⊥) → apply low e ≡ Some next
      → (w : View) × (w.standing ≡ v.standing) × Coupled i n from first next high w × SameLetters v w
  lands e next is_land apart h =
      let l = landing low e next row_is in
      let o = of_packet c e.actor l.0 l.1.there in
      lands_mail n o.thing l.0 o.is (λ plain. apart (sym (same_role l.0.tag e.tag l.1.tag) ∙ plain)) λ m thing packet.
      comes_down l.0 l.1 m packet (o.there ∙ ap (λ t. Some (t ∷ [])) thing) o.no_atom (at_site (map.get low.places l.0.agent) e.site) refl
    where
      row_is : row kind.Land low e ≡ Some next
      row_is = ap (λ k. row k low e) (sym is_land) ∙ h

      comes_down : (p : Packet) → IsLanding low e p → (m : Mail) → p ≡ packet_of n m p.tag → map.get v.things e.actor ≡ Some (Thing.mail m Stage.on_the_way ∷ [])
          → map.get low.atoms e.actor ≡ None
          → (here : Bool) → at_site (map.get low.places p.agent) e.site ≡ here
          → (w : View) × (w.standing ≡ v.standing) × Coupled i n from first next high w × SameLetters v w
      comes_down p l m packet there no_atom true at =
          let us : List Thing = Thing.mail m Stage.there ∷ [] in
          let things : NameMap (List Thing) = map.insert v.things e.actor us in
          let step = step_at shows v.things e.actor (Thing.mail m Stage.on_the_way ∷ []) us there in
          let protocol = mail_comes m step c.protocol in
          let is = landed low e next p true l at row_is in
          let low_atom : Atom = output_in p.agent p.chan p.value e.tag in
          let known = recursion_from_All (λ t. KnowsOnly (may_know v.lock (chips v.things) t) (is_channel n high.born) from t) (Thing.mail m Stage.on_the_way ∷ []) (c.known e.actor (Thing.mail m Stage.on_the_way ∷ []) there) in
          let gives : sends low_atom ≡ Some (own n (on_channel m), content m) =
          output-gives p.agent p.chan p.value e.tag ∙ ap (λ (k : Packet). Some (k.chan, k.value)) packet in (
            record v { things = things; phase = protocol.0 },
            refl,
            quiet c next things protocol.0 (at_mark c next e e.actor (Thing.mail m Stage.on_the_way ∷ []) us protocol.0 (record {
              applies = h;
              sites = ap (λ (d : Config). d.sites) is;
              places = λ q _. ap (λ (d : Config). map.get d.places q) is;
              said = ap (λ (d : Config). d.said) is;
              born = ap (λ (d : Config). d.born) is;
              there = there;
              others = λ q d. (
                ap (λ (d : Config). map.get d.atoms q) is ∙ get-put low.atoms e.actor low_atom q
                    ∙ ap (λ t. cond t (Some low_atom) (map.get low.atoms q)) d,
                ap (λ (d : Config). map.get d.packets q) is ∙ get-cut low.packets e.actor q
                    ∙ ap (λ t. cond t None (map.get low.packets q)) d,
              );
              here = IsShaped.atom (ap (λ (d : Config). map.get d.atoms e.actor) is ∙ put_here low.atoms e.actor low_atom) (ap (λ (d : Config). map.get d.packets e.actor) is ∙ cut_here low.packets e.actor)
                  (put_here v.things e.actor us) (All-nil (λ u. high_atom u ≡ None)) (Are.one (record { agent = ap (λ (k : Packet). k.agent) packet; gives = gives }));
              atoms = refl;
              packets = refl;
              protocol = protocol.1;
              children = λ a b. any_kept (is_child_of a b) step (λ any. absurd (let none = no_child a b m in cc));
              known = All-from_recursion (λ t. KnowsOnly (may_know v.lock (chips things) t) (is_channel n high.born) from t) us (known.0, tt);
              hints = handed_on low high next;
              carriers = All-from_recursion (IsCarrier v.standing.messengers) us (tt, tt);
            })),
            same-letters v.things e.actor us (Thing.mail m Stage.on_the_way ∷ []) there refl,
          )
      comes_down p l m packet there no_atom false at = misses m there packet (mail_finds m (step_at shows v.things e.actor (Thing.mail m Stage.on_the_way ∷ []) [] there))
        where
          is : next ≡ effect low e (record still { packets = cut e.actor ∷ []; atoms = [] })
          is = landed low e next p false l at row_is

          -- an answer whose agent has left is gone
          misses : (m : Mail) → map.get v.things e.actor ≡ Some (Thing.mail m Stage.on_the_way ∷ []) → p ≡ packet_of n m p.tag
              → (map.get low.places (receiver n m) ≡ Some (place.At (to_site m))) ⊎ IsAnswer m
              → (w : View) × (w.standing ≡ v.standing) × Coupled i n from first next high w × SameLetters v w
          misses m there packet (inl finds) = absurd (
              let here : map.get low.places p.agent ≡ Some (place.At e.site) =
              ap (λ (k : Packet). map.get low.places k.agent) packet ∙ finds ∙ ap (λ s. Some (place.At s)) (sym (ap (λ (k : Packet). k.to) packet) ∙ l.to) in
              let bad : false ≡ true = sym at ∙ ap (λ o. at_site o e.site) here ∙ same_site e.site in cc)
          misses (Mail.found a u b s) there packet (inr answer) = ends c next e e.actor (Thing.mail (Mail.found a u b s) Stage.on_the_way) (record {
            applies = h;
            sites = ap (λ (d : Config). d.sites) is;
            places = λ q _. ap (λ (d : Config). map.get d.places q) is;
            said = ap (λ (d : Config). d.said) is;
            born = ap (λ (d : Config). d.born) is;
            there = there;
            others = λ q d. (ap (λ (d : Config). map.get d.atoms q) is, ap (λ (d : Config). map.get d.packets q) is ∙ get-cut low.packets e.actor q ∙ ap (λ t. cond t None (map.get low.packets q)) d);
            no_atom = ap (λ (d : Config). map.get d.atoms e.actor) is ∙ no_atom;
            no_packet = ap (λ (d : Config). map.get d.packets e.actor) is ∙ cut_here low.packets e.actor;
            no_high_atom = refl;
            no_high_packet = refl;
            knowledge = (tt, tt);
            no_caches = refl;
          })
          misses _ there packet (inr answer) = absurd answer
