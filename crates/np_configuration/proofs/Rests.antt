-- A configuration is idle where nothing goes on and nothing is under way, and then only.
use Rattle.std.proofs.Common.{◌≡◌, ℕ, inl, inr, Option, None, Some, IsSome, refl, subst, sym, ap, ◌∙◌}
use Rattle.std.specs.FinMap as map
use Rattle.np_configuration.proofs.Common.{Name, Meeting, NothingReady, mapped, get-none, same_tables, Atom, Packet, Place, Config, layer, Idle, IsLodged, inside, NoneTravels, errand_at, errand_of}
use Rattle.np_tables.specs.declared.errand.Errand.TheVariants as errand
use Rattle.np_tables.proofs.Mapped.{mapped_there}
use Rattle.np_calculus.specs.declared.config.Place.TheVariants as place
use Rattle.np_calculus.specs.Reductions.{way}
use Rattle.np_configuration.specs.Going.{AnyMayAct}
use Rattle.np_calculus.specs.Idle.{HasWork, HasMeeting, HasPacket, HasArrival, HasAgent}
use Rattle.np_configuration.proofs.ErrandForms.{free-acts, acts-free, given-errand, taken-errand, gives-form, takes-form, mapped_from}

module _ (c : Config) (agent : Name) where
  -- the errand of an atom that acts alone, and those of two that meet
  work-acts : (h : HasWork c agent) → errand_of h.atom ≡ errand.Acts
  work-acts h = free-acts h.atom.agent h.atom.env (layer h.atom.proc) h.acts

  meeting-takes : (h : HasMeeting c agent) → errand_of h.taker ≡ errand.Takes (record { agent = agent; chan = h.chan })
  meeting-takes h =
      ap (λ (b : Name). errand_at b h.taker.env (layer h.taker.proc)) h.taker_of ∙ taken-errand agent h.chan h.taker.env (layer h.taker.proc) h.to h.input_form h.taken

  meeting-gives : (h : HasMeeting c agent) → errand_of h.giver ≡ errand.Gives (record { agent = agent; chan = h.chan })
  meeting-gives h =
      ap (λ (b : Name). errand_at b h.giver.env (layer h.giver.proc)) h.giver_of ∙ given-errand agent h.chan h.giver.env (layer h.giver.proc) h.from h.output_form h.given

module _ (c : Config) (empty : c.packets ≡ map.empty) (still : (a : Name) (p : Place) → map.get c.places a ≡ Some p → way p ≡ None) where
  no_packet : (site : ℕ) → HasPacket c site → ⊥
  no_packet site h = absurd (let none = sym (get-none h.mark) ∙ subst (λ packets. map.get packets h.mark ≡ Some h.packet) empty h.flies in cc)

  no_arrival : (site : ℕ) → HasArrival c site → ⊥
  no_arrival site h = absurd (let none = still h.agent (place.Way site) h.comes in cc)

  -- where nothing is under way, and no agent at a site can act, no site can
  still-idle : ((site : ℕ) → HasAgent c site → ⊥) → Idle c
  still-idle none site can = elim can [ inl packet ↦ no_packet site packet | inr rest ↦ elim rest [ inl arrival ↦ no_arrival site arrival | inr here ↦ none site here ] ]

  module _ (quiet : NothingReady (mapped errand_of c.atoms)) where
    no_work : (agent : Name) → HasWork c agent → ⊥
    no_work agent h = quiet.alone h.mark (mapped_there errand_of c.atoms h.mark h.atom h.there ∙ ap Some (work-acts c agent h))

    no_meeting : (agent : Name) → HasMeeting c agent → ⊥
    no_meeting agent h = quiet.apart h.input h.output (record {
      meeting = record { agent = agent; chan = h.chan };
      takes = mapped_there errand_of c.atoms h.input h.taker h.takes ∙ ap Some (meeting-takes c agent h);
      gives = mapped_there errand_of c.atoms h.output h.giver h.gives ∙ ap Some (meeting-gives c agent h);
    })

    -- where nothing is ready and nothing is under way, no site can act
    pub quiet-idle : Idle c
    quiet-idle = still-idle (λ site h. elim h.works [ inl work ↦ no_work h.agent work | inr meeting ↦ no_meeting h.agent meeting ])

  -- where no atom goes on and nothing is under way, no site can act
  pub stay-idle : (AnyMayAct c.atoms c.places → ⊥) → Idle c
  stay-idle none = still-idle (λ site h. elim h.works [
    | inl work ↦ none (
      work.mark,
      record {
        atom = work.atom;
        there = work.there;
        housed = placed work.atom work.of site h.stands;
        goes = inl (work-acts c h.agent work);
      },
    )
    | inr meeting ↦ none (
      meeting.input,
      record {
        atom = meeting.taker;
        there = meeting.takes;
        housed = placed meeting.taker meeting.taker_of site h.stands;
        goes = inr (record { agent = h.agent; chan = meeting.chan }, meeting-takes c h.agent meeting, (meeting.output, record { atom = meeting.giver; there = meeting.gives; gives = meeting-gives c h.agent meeting }));
      },
    )
  ])
    where
      placed : (a : Atom) {agent : Name} → a.agent ≡ agent → (site : ℕ) → map.get c.places agent ≡ Some (place.At site) → IsSome (map.get c.places a.agent)
      placed a of site stands = rw (of, stands) refl

module _ (c : Config) (idle : Idle c) where
  no_flight : (q : Name) (o : Option Packet) → map.get c.packets q ≡ o → o ≡ None
  no_flight q None e = refl
  no_flight q (Some p) e = absurd (idle p.to (inl (record { mark = q; packet = p; flies = e; to = refl })))

  no_journey : (a : Name) (p : Place) → map.get c.places a ≡ Some p → way p ≡ None
  no_journey a (place.At s) e = refl
  no_journey a (place.Way s) e = absurd (idle s (inr (inl (record { agent = a; comes = e }))))

  -- where no site can act, nothing is under way
  pub idle-still : (c.packets ≡ map.empty) × NoneTravels c.places
  idle-still = (same_tables c.packets map.empty (λ q. no_flight q (map.get c.packets q) refl ∙ sym (get-none q)), record { each = no_journey })

  -- an agent that has a place stands at a site
  standing : (a : Name) (o : Option Place) → map.get c.places a ≡ o → IsSome o → (s : ℕ) × (map.get c.places a ≡ Some (place.At s))
  standing a None e h = absurd cc
  standing a (Some (place.At s)) e h = (s, e)
  standing a (Some (place.Way s)) e h = absurd (idle s (inr (inl (record { agent = a; comes = e }))))

  -- no atom of an agent that has a place acts alone
  no_act : (m : Name) (a : Atom) → map.get c.atoms m ≡ Some a → IsSome (map.get c.places a.agent) → errand_of a ≡ errand.Acts → ⊥
  no_act m a there housed acts =
      let s = standing a.agent (map.get c.places a.agent) refl housed in
      let work : HasWork c a.agent = record { mark = m; atom = a; there = there; of = refl; acts = acts-free a.agent a.env (layer a.proc) acts } in
      idle s.0 (inr (inr (record { agent = a.agent; stands = s.1; works = inl work })))

  -- and none takes what another gives
  no_pair : (input output : Name) (a b : Atom) (meeting : Meeting) → map.get c.atoms input ≡ Some a → map.get c.atoms output ≡ Some b → IsSome (map.get c.places a.agent)
      → errand_of a ≡ errand.Takes meeting → errand_of b ≡ errand.Gives meeting → ⊥
  no_pair input output a b meeting there given housed takes gives =
      let x = takes-form a.agent a.env (layer a.proc) meeting takes in
      let y = gives-form b.agent b.env (layer b.proc) meeting gives in
      let s = standing a.agent (map.get c.places a.agent) refl housed in
      let meets : HasMeeting c a.agent = record {
        output = output;
        giver = b;
        gives = given;
        giver_of = sym y.2.1 ∙ x.2.1;
        input = input;
        taker = a;
        takes = there;
        taker_of = refl;
        from = y.0;
        output_form = y.1;
        to = x.0;
        input_form = x.1;
        chan = meeting.chan;
        given = y.2.0;
        taken = x.2.0;
      } in
      idle s.0 (inr (inr (record { agent = a.agent; stands = s.1; works = inr meets })))

  -- where no site can act, no atom goes on
  pub idle-stays : AnyMayAct c.atoms c.places → ⊥
  idle-stays g = elim g.1.goes [
    | inl acts ↦ no_act g.0 g.1.atom g.1.there g.1.housed acts
    | inr takes ↦ no_pair g.0 takes.2.0 g.1.atom takes.2.1.atom takes.0 g.1.there takes.2.1.there g.1.housed takes.1 takes.2.1.gives
  ]

  -- where no site can act, and each atom's agent has a place, nothing is ready
  pub idle-quiet : IsLodged (inside c) → NothingReady (mapped errand_of c.atoms)
  idle-quiet h = record {
    alone = λ m e. let f = mapped_from errand_of c.atoms m errand.Acts e in no_act m f.0 f.1 (h.each m f.0 f.1) f.2;
    apart = λ input output m.
        let t = mapped_from errand_of c.atoms input (errand.Takes m.meeting) m.takes in
        let g = mapped_from errand_of c.atoms output (errand.Gives m.meeting) m.gives in
        no_pair input output t.0 g.0 m.meeting t.1 g.1 (h.each input t.0 t.1) t.2 g.2;
  }
