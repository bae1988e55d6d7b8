-- The source sends, and what it sent lands: the packet is the same at both levels.
use Rattle.std.proofs.Common.{◌≡◌, ℕ, Bool, true, false, cond, nat_eq, nat_lt, None, Some, [], ◌∷◌, refl, sym, ap, subst, ◌∙◌}
use Rattle.std.proofs.lemmas.List.Elements.{recursion_from_All}
use Rattle.std.specs.Option.{option_map}
use Rattle.std.specs.FinMap as map
use Rattle.np_syntax.specs.declared.value.Value.{out-Value}
use Rattle.np_syntax.specs.declared.process.Tag.{Tag}
use Rattle.np_syntax.specs.declared.process.Role.TheVariants as role
use Rattle.np_syntax.specs.declared.process.ProcForm.{ProcForm-F}
use Rattle.np_syntax.specs.declared.event.Event.{Event}
use Rattle.np_syntax.specs.declared.event.Kind.TheVariants as kind
use Rattle.np_syntax.specs.declared.event.Made.TheVariants as made
use Rattle.np_syntax.specs.Options.{◌>>=◌, ◌>>◌, need}
use Rattle.np_syntax.proofs.Options.{then, when, done}
use Rattle.np_tables.specs.Names.{same_name}
use Rattle.np_calculus.specs.declared.config.Packet.{Packet}
use Rattle.np_calculus.specs.Begins.{begun_by}
use Rattle.np_calculus.specs.Changes.{cut, effect, put, still, with_made}
use Rattle.np_calculus.specs.Config.{Config}
use Rattle.np_calculus.specs.Reductions.{apply, no_other, none_made, output_in, row, same_tag, site_in}
use Rattle.np_calculus.specs.Sight.{at_site}
use Rattle.np_calculus.specs.Starts.{daemon_agent}
unfoldable use Rattle.np_calculus.proofs.Common.{land_row}
use Rattle.np_calculus.proofs.Steps.{is-none, row-step}
use Rattle.np_lift.specs.CachedLift.{stands_for}
use Rattle.np_eval.specs.Eval.{agent_of, as_agent, as_chan, as_site, chan_of, eval}
use Rattle.np_eval.specs.Forms.{layer}
use Rattle.infrastructure_texts.specs.Infrastructures.{Infrastructure}
use Rattle.simulate_laws.specs.things.Mail.{Posted, as_output}
use Rattle.simulate_laws.specs.things.Shapes.{IsUnderWay}
use Rattle.simulate_laws.specs.things.Things.{Stage, Thing, first_atom_of, first_packet_of}
use Rattle.simulate_laws.specs.levels.Coupled.{Coupled, KnowsOnly, View, chips, is_channel, may_know}
use Rattle.simulate_laws.specs.levels.Laws.{IsEvent, event_of}
use Rattle.simulate_laws.proofs.levels.Places.{known_there, same_place}
use Rattle.simulate_laws.proofs.levels.Actors.{Actor, Parts, actor, agents, known_agent, known_apart, known_channel, known_here, parts_of, same_here}
use Rattle.simulate_laws.proofs.levels.Applies.{land_applies, send_applies, takes_nothing}
use Rattle.simulate_laws.proofs.levels.Forms.{IsFormOf}
use Rattle.simulate_laws.proofs.levels.Goes.{IsSame}
use Rattle.simulate_laws.proofs.levels.Sends.{IsSending, sending}
use Rattle.simulate_laws.proofs.levels.Shapes.{of_packet, same_role}
use Rattle.simulate_laws.proofs.levels.Stands.{Free, Holds, Knowing, cut_packet, leave, stands, write}
use Rattle.simulate_laws.proofs.levels.Together.{knows_wider, more_channels}

-- ---- it is sent

module _ {i : Infrastructure} {n from first : ℕ} {low high : Config} {v : View} (c : Coupled i n from first low high v) (e : Event) (next : Config) (is : e.kind ≡ kind.Send)
    (plain : e.tag.role ≡ role.Plain) (h : apply low e ≡ Some next) (s : IsSending low e next) (o : Actor c e s.atom)
    (form : layer o.atom.proc ≡ ProcForm-F.Send s.receiver s.to s.chan s.sent) where
  its : Parts c e o (ProcForm-F.Send s.receiver s.to s.chan s.sent)
  its = parts_of c e o (ProcForm-F.Send s.receiver s.to s.chan s.sent) form

  agent : agent_of s.receiver o.atom.env ≡ Some s.packet.agent
  agent = ap (λ p. p >>= λ u. as_agent (out-Value u)) (sym (same_here c e o s.receiver its.1)) ∙ s.its_agent

  site : site_in high.sites s.to o.atom.env ≡ Some s.packet.to
  site = ap (λ k. site_in k s.to o.atom.env) (c.high_sites ∙ sym c.low_sites)
      ∙ ap (λ p. p >>= λ u. as_site (out-Value u) >>= λ t. need (nat_lt t low.sites) >> Some t) (sym (same_here c e o s.to its.2)) ∙ s.its_site

  chan : chan_of s.chan o.atom.env ≡ Some s.packet.chan
  chan = ap (λ p. p >>= λ u. as_chan (out-Value u)) (sym (same_here c e o s.chan its.3)) ∙ s.its_chan

  sent : eval s.sent o.atom.env ≡ Some s.packet.value
  sent = sym (same_here c e o s.sent its.4) ∙ s.its_value

  knows_packet : Knowing c e (Thing.packet s.packet)
  knows_packet = knows_wider (agents c e) (agents c e) (is_channel n high.born) (is_channel n (with_made high.born e.made)) from (λ a k. k)
      (more_channels n high.born e.made) (Thing.packet s.packet) (
        known_agent c e o s.receiver s.packet.agent its.1 agent,
        known_channel c e o s.chan s.packet.chan its.3 chan,
        known_here c e o s.sent s.packet.value its.4 sent,
      )

  flies : IsUnderWay n (Thing.packet s.packet) s.packet
  flies = (refl, ap (λ (t : Tag). t.role) s.its_tag ∙ plain)

  sends_both : IsSame c e next
  sends_both =
      let r = write c e (stands c e) e.actor (Free.old {ts = Thing.source o.named o.atom ∷ []} o.there refl refl refl refl) None (Some s.packet)
      (Some (Thing.packet s.packet)) (Holds.packet flies) (refl, refl, refl) knows_packet in
      let w = leave c e r next low.said high.said h s.is c.said in (
        effect high (event_of v e) (record still { atoms = cut (stands_for v.standing e.actor) ∷ []; packets = put (stands_for v.standing e.actor) s.packet ∷ [] }),
        ap (λ k. row k high (event_of v e)) is ∙ send_applies high (event_of v e) o.atom o.acts s.receiver s.to s.chan s.sent s.packet form agent site chan sent
            s.its_tag s.made_none (ap (option_map (stands_for v.standing)) s.other_none),
        w.0,
        w.1,
        w.2,
        w.3,
      )

pub sends-are-events : {i : Infrastructure} → IsEvent i kind.Send
sends-are-events {i = i} n from first low high v c well lodged e next is plain h =
    let s = sending low e next (ap (λ k. row k low e) (sym is) ∙ h) in
    let o = actor c e lodged s.atom kind.Send s.acts plain (ap begun_by s.form) (λ e. cc) (λ e. cc) in
    sends_both c e next is plain h s o (subst (λ l. IsFormOf i n from o.named l (layer o.atom.proc)) s.form o.form)

-- ---- it lands

-- what a Land does, by its packet
record IsComing (low : Config) (e : Event) (next : Config) : Type 0 where
  packet : Packet
  there : map.get low.packets e.actor ≡ Some packet
  to : nat_eq packet.to e.site ≡ true
  tag : same_tag packet.tag e.tag ≡ true
  made_none : e.made ≡ made.Nothing
  other_none : e.other ≡ None
  is : next ≡ effect low e (record still {
    packets = cut e.actor ∷ [];
    atoms =
        cond (at_site (map.get low.places packet.agent) e.site) (put e.actor (output_in packet.agent packet.chan packet.value e.tag) ∷ []) [];
  })

coming : (low : Config) (e : Event) (next : Config) → row kind.Land low e ≡ Some next → IsComing low e next
unfolding land_row
coming low e next h =
    let r = row-step low e next kind.Land h in
    then (map.get low.packets e.actor) _ r.gives λ p there h. when (nat_eq p.to e.site) _ h λ to h. when (same_tag p.tag e.tag) _ h λ tag h.
    then (none_made e.made) _ h λ u none h. then (no_other e.other) _ h λ w other h.
    record {
      packet = p;
      there = there;
      to = to;
      tag = tag;
      made_none = is-none e.made u none;
      other_none = takes_nothing e.other w other;
      is =
          r.is ∙ ap (effect low e) (done h);
    }

-- what flies with the role Plain is of the source
flies_of_source : {R : Type 0} (n : ℕ) (t : Thing) (k : Packet) → IsUnderWay n t k → k.tag.role ≡ role.Plain → (t ≡ Thing.packet k → R) → R
flies_of_source n (Thing.packet p) k i plain r = r (ap Thing.packet (sym i.0))
flies_of_source n (Thing.mail m Stage.on_the_way) k i plain r = absurd (i.1 plain)
flies_of_source n _ k i plain r = absurd i

module _ {i : Infrastructure} {n from first : ℕ} {low high : Config} {v : View} (c : Coupled i n from first low high v) (e : Event) (next : Config) (is : e.kind ≡ kind.Land)
    (h : apply low e ≡ Some next) (s : IsComing low e next)
    (no_atom : map.get low.atoms e.actor ≡ None) (there : map.get v.things e.actor ≡ Some (Thing.packet s.packet ∷ [])) where
  knows : KnowsOnly (agents c e) (is_channel n high.born) from (Thing.packet s.packet)
  knows = (recursion_from_All (λ t. KnowsOnly (may_know v.lock (chips v.things) t) (is_channel n high.born) from t) (Thing.packet s.packet ∷ [])
      (c.known e.actor (Thing.packet s.packet ∷ []) there)).0

  apart : same_name s.packet.agent (daemon_agent n) ≡ false
  apart = known_apart c s.packet.agent knows.0

  high_there : map.get high.packets (stands_for v.standing e.actor) ≡ Some s.packet
  high_there = c.mirrored_packets.up e.actor s.packet (ap (λ o. o >>= first_packet_of) there)

  applies : (here : Bool) → at_site (map.get low.places s.packet.agent) e.site ≡ here
      → apply high (event_of v e) ≡ Some (effect high (event_of v e)
      (record still {
        packets = cut (stands_for v.standing e.actor) ∷ [];
        atoms =
            cond here (put (stands_for v.standing e.actor) (output_in s.packet.agent s.packet.chan s.packet.value e.tag) ∷ []) [];
      }))
  applies here at = ap (λ k. row k high (event_of v e)) is
      ∙ land_applies high (event_of v e) s.packet here high_there s.to s.tag s.made_none (ap (option_map (stands_for v.standing)) s.other_none)
      (ap (λ p. at_site p e.site) (sym (same_place c s.packet.agent (known_there c s.packet.agent knows.0))) ∙ at)

  leaves : (here : Bool) → at_site (map.get low.places s.packet.agent) e.site ≡ here
      → next ≡ effect low e (record still {
        packets = cut e.actor ∷ [];
        atoms =
            cond here (put e.actor (output_in s.packet.agent s.packet.chan s.packet.value e.tag) ∷ []) [];
      })
  leaves here at = s.is ∙ ap (λ t. effect low e
      (record still { packets = cut e.actor ∷ []; atoms = cond t (put e.actor (output_in s.packet.agent s.packet.chan s.packet.value e.tag) ∷ []) [] })) at

  abbrev output : Posted
  output = record { agent = s.packet.agent; chan = s.packet.chan; value = s.packet.value; tag = e.tag }

  comes_down : (here : Bool) → at_site (map.get low.places s.packet.agent) e.site ≡ here → IsSame c e next
  -- the agent is there: the output stands there
  comes_down true at =
      let opens : KnowsOnly (agents c e) (is_channel n high.born) from (Thing.opened output) = (knows.1, knows.2) in
      let on : Knowing c e (Thing.opened output) =
      knows_wider (agents c e) (agents c e) (is_channel n high.born) (is_channel n (with_made high.born e.made)) from (λ a k. k)
      (more_channels n high.born e.made) (Thing.opened output) opens in
      let w = leave c e (write c e (stands c e) e.actor (Free.old {ts = Thing.packet s.packet ∷ []} there refl refl refl refl) (Some (as_output output)) None
      (Some (Thing.opened output)) (Holds.atom (record { apart = apart; tag = e.tag; is = refl })) (refl, refl, refl) on) next low.said high.said h
      (leaves true at) c.said in
      (_, applies true at, w.0, w.1, w.2, w.3)
  -- it has left: the packet is gone
  comes_down false at =
      let w = leave c e (cut_packet c e (stands c e) e.actor (Free.old {ts = Thing.packet s.packet ∷ []} there refl refl refl refl) no_atom
      (ap (λ o. o >>= first_atom_of) there)) next low.said high.said h (leaves false at) c.said in
      (_, applies false at, w.0, w.1, w.2, w.3)

pub lands-are-events : {i : Infrastructure} → IsEvent i kind.Land
lands-are-events n from first low high v c well lodged e next is plain h =
    let s = coming low e next (ap (λ k. row k low e) (sym is) ∙ h) in
    let o = of_packet c e.actor s.packet s.there in
    flies_of_source n o.thing s.packet o.is (same_role s.packet.tag e.tag s.tag ∙ plain) λ thing.
    comes_down c e next is h s o.no_atom (o.there ∙ ap (λ t. Some (t ∷ [])) thing) (at_site (map.get low.places s.packet.agent) e.site) refl
