-- What an event of each kind does to agents under way and to packets.
use Rattle.std.proofs.Common.{◌≡◌, ℕ, Bool, true, false, cond, inl, nat_eq, List, [], ◌∷◌, Option, None, Some, refl, ap, ◌∙◌}
use Rattle.std.proofs.lemmas.Bool.{eqb-true}
use Rattle.np_calculus.proofs.Common.{Name, Value, Proc, Event, Kind, then, when, chan_of, agent_of, truth_of, letter_of, places_of, eval, bind, layer, Contents, Sight, sight, at_site, Change, Write}
use Rattle.np_calculus.proofs.Common.{same_tag, way, none_made, one_made, two_made, no_other, acting_in, change, here_row, away_row, act, arrive_row, land_row}
use Rattle.np_syntax.specs.declared.process.Role.TheVariants as role
use Rattle.np_syntax.specs.declared.event.Kind.TheVariants as kind
use Rattle.np_calculus.specs.declared.config.Atom.{Atom}
use Rattle.np_calculus.specs.declared.config.Packet.{Packet}
use Rattle.np_calculus.specs.declared.config.Place.{Place}
use Rattle.np_calculus.specs.declared.config.Place.TheVariants as place
use Rattle.np_calculus.specs.Changes.{cut, put, still}
use Rattle.np_calculus.specs.FrameRule.{Every, IsMade}
use Rattle.np_calculus.specs.Reductions.{site_in}
use Rattle.np_calculus.proofs.Fits.{actor-seen}
use Rattle.np_calculus.proofs.Rows.{lone, parts, so, taking}
use Rattle.np_calculus.proofs.Steps.{at_site-is, is-two}

module _ (x : Contents) (e : Event) where
  -- an agent sets out: the acting atom's
  pub record Departs (d : Change) : Type 0 where
    pub agent : Name
    pub to : ℕ
    pub now : Atom
    pub of : now.agent ≡ agent
    pub stands : x.place agent ≡ Some (place.At e.site)
    pub places : d.places ≡ put agent (place.Way to) ∷ []
    pub atoms : d.atoms ≡ put e.actor now ∷ []
    pub packets : d.packets ≡ []

  -- a packet is sent under the mark of an atom
  pub record IsSent (d : Change) : Type 0 where
    pub atom : Atom
    pub there : x.atom e.actor ≡ Some atom
    pub packet : Packet
    pub places : d.places ≡ []
    pub packets : d.packets ≡ put e.actor packet ∷ []

  pub record Arrives (d : Change) : Type 0 where
    pub comes : x.place e.actor ≡ Some (place.Way e.site)
    pub places : d.places ≡ put e.actor (place.At e.site) ∷ []
    pub packets : d.packets ≡ []

  pub record Lands (d : Change) : Type 0 where
    pub packet : Packet
    pub flies : x.packet e.actor ≡ Some packet
    pub places : d.places ≡ []
    pub packets : d.packets ≡ cut e.actor ∷ []

  -- no agent sets out or arrives, but one may be made, and no packet is sent or lands
  pub record StaysHere (d : Change) : Type 0 where
    pub places : Every (λ w. IsMade e.made w.0 × (w.1 ≡ Some (place.At e.site))) d.places
    pub packets : d.packets ≡ []

  abbrev pub Moves : Kind → Change → Type 0
  Moves kind.Depart d = Departs d
  Moves kind.Send d = IsSent d
  Moves kind.Arrive d = Arrives d
  Moves kind.Land d = Lands d
  Moves _ d = StaysHere d

  stays : (ws : List (Write Atom)) (v : Option Value) → StaysHere (record still { atoms = ws; said = v })
  stays ws v = record { places = tt; packets = refl }

  module _ (sites : ℕ) (d : Change) where
    abbrev w : Sight
    w = sight sites x e.site

    -- both ways of a location test
    tested : (a : Atom) (t : Bool) (met unmet : Proc) (b n : Name) (v : Value) → cond t (here_row e a met b n v) (away_row e a unmet) ≡ Some d → StaysHere d
    unfolding here_row away_row
    tested a true met unmet b n v h = then (one_made e.made) _ h λ m made h. so StaysHere e h (stays _ None)
    tested a false met unmet b n v h = then (none_made e.made) _ h λ m made h. so StaysHere e h (stays _ None)

    moves-act : (a : Atom) → acting_in w e ≡ Some a → (k : Kind) → act k (layer a.proc) w e a ≡ Some d → Moves k d
    unfolding act
    moves-act a acts kind.Stop h = parts kind.Stop w e a h λ p form h. lone StaysHere e h (stays _ None)
    moves-act a acts kind.Fork h = parts kind.Fork w e a h λ p form h. then (one_made e.made) _ h λ m made h. then (no_other e.other) _ h λ l other h. so StaysHere e h (stays _ None)
    moves-act a acts kind.New h = parts kind.New w e a h λ p form h. then (one_made e.made) _ h λ m made h. then (no_other e.other) _ h λ l other h. so StaysHere e h (stays _ None)
    moves-act a acts kind.Let h = parts kind.Let w e a h λ p form h. then (eval p.1 a.env) _ h λ v gives h. then (bind p.0 v a.env) _ h λ env binds h. lone StaysHere e h (stays _ None)
    moves-act a acts kind.If h = parts kind.If w e a h λ p form h. then (truth_of p.0 a.env) _ h λ t truth h. lone StaysHere e h (stays _ None)
    moves-act a acts kind.Comm h = parts kind.Comm w e a h λ p form h. taking w e a p.0 p.1 _ h λ n o v env on offer binds h. so StaysHere e h (stays _ None)
    moves-act a acts kind.Rep h = parts kind.Rep w e a h λ p form h. taking w e a p.0 p.1 _ h λ n o v env on offer binds h. so StaysHere e h (stays _ None)
    moves-act a acts kind.Agent h = parts kind.Agent w e a h λ p form h. then (two_made e.made) _ h λ n made h. then (no_other e.other) _ h λ l other h.
        so StaysHere e h (record { places = ((makes-first n made, refl), tt); packets = refl })
      where
        makes-first : (n : Name × Name) → two_made e.made ≡ Some n → IsMade e.made n.0
        makes-first n made = rw (is-two e.made n made) (inl refl)
    moves-act a acts kind.Depart h = parts kind.Depart w e a h λ p form h. then (site_in sites p.0 a.env) _ h λ t names h.
        lone Departs e h (record {
          agent = a.agent;
          to = t;
          now = _;
          of = refl;
          stands = at_site-is (x.place a.agent) e.site (actor-seen sites x e a acts).here;
          places = refl;
          atoms = refl;
          packets = refl;
        })
    moves-act a acts kind.Arrive h = parts kind.Arrive w e a h λ p form h. absurd p
    moves-act a acts kind.Local h = parts kind.Local w e a h λ p form h. then (agent_of p.0 a.env) _ h λ b names h. then (chan_of p.1 a.env) _ h λ n along h.
        then (eval p.2 a.env) _ h λ v gives h. then (no_other e.other) _ h λ l other h. tested a (at_site (x.place b) e.site) p.3 p.4 b n v h
    moves-act a acts kind.Send h = parts kind.Send w e a h λ p form h. then (agent_of p.0 a.env) _ h λ b names h. then (site_in sites p.1 a.env) _ h λ t goes_to h.
        then (chan_of p.2 a.env) _ h λ n along h. then (eval p.3 a.env) _ h λ v gives h.
        lone IsSent e h (record { atom = a; there = (actor-seen sites x e a acts).there; packet = _; places = refl; packets = refl })
    moves-act a acts kind.Land h = parts kind.Land w e a h λ p form h. absurd p
    moves-act a acts kind.Print h = parts kind.Print w e a h λ p form h. then (eval p a.env) _ h λ v gives h. lone StaysHere e h (stays _ (Some v))
    moves-act a acts kind.Open h = parts kind.Open w e a h λ p form h. then (letter_of p a.env) _ h λ v gives h. lone StaysHere e h (stays _ None)
    moves-act a acts kind.Lookup h = parts kind.Lookup w e a h λ p form h. then (agent_of p.0 a.env) _ h λ b names h. then (places_of p.1 a.env) _ h λ ps among h. lone StaysHere e h (stays _ None)
    moves-act a acts kind.Post h = parts kind.Post w e a h λ p form h. then (agent_of p.0 a.env) _ h λ b names h. then (chan_of p.1 a.env) _ h λ n along h.
        then (eval p.2 a.env) _ h λ v gives h. lone StaysHere e h (stays _ None)

    arrives : arrive_row (x.place e.actor) e ≡ Some d → Arrives d
    unfolding arrive_row
    arrives h =
        then (x.place e.actor) _ h λ p there h. then (way p) _ h λ s comes h. when (nat_eq s e.site) _ h λ here h. when (same_tag e.tag (record { node = 0; role = role.Plain })) _ h λ tag h.
        let same : s ≡ e.site = eqb-true s e.site here in
        lone Arrives e h (record {
          comes = there ∙ ap Some (is-way p s comes ∙ ap place.Way same);
          places = ap (λ s. put e.actor (place.At s) ∷ []) same;
          packets = refl;
        })
      where
        is-way : (p : Place) (s : ℕ) → way p ≡ Some s → p ≡ place.Way s
        is-way (place.At t) s h = absurd cc
        is-way (place.Way t) s h = cc

    lands : land_row (x.packet e.actor) w e ≡ Some d → Lands d
    unfolding land_row
    lands h =
        then (x.packet e.actor) _ h λ p flies h. when (nat_eq p.to e.site) _ h λ to h. when (same_tag p.tag e.tag) _ h λ tag h.
        lone Lands e h (record { packet = p; flies = flies; places = refl; packets = refl })

    -- the change of each event
    pub moves : (k : Kind) → change k sites x e ≡ Some d → Moves k d
    moves kind.Arrive h = arrives h
    moves kind.Land h = lands h
    moves k h = then (acting_in w e) _ h λ a acts h. moves-act a acts k h
