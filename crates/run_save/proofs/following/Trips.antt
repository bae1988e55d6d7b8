-- What a site's deed puts on its way or takes is what its event does in a run.
use Rattle.std.proofs.Common.{◌≡◌, inl, inr, ⊎_elim, ℕ, List, [], ◌∷◌, Option, None, Some, IsSome, refl, sym, ap, subst, ◌∙◌}
use Rattle.std.specs.FinMap as table
use Rattle.np_syntax.specs.declared.event.Kind.TheVariants as kind
use Rattle.np_calculus.proofs.Common.{Config, Contents, Event, Kind, Name, inside}
use Rattle.np_calculus.specs.declared.config.Atom.{Atom}
use Rattle.np_calculus.specs.declared.config.Packet.{Packet}
use Rattle.np_calculus.specs.declared.config.Place.{Place}
use Rattle.np_calculus.specs.declared.config.Place.TheVariants as place
use Rattle.np_calculus.specs.FrameRule.{IsMade}
use Rattle.np_calculus.specs.Parts.{beside, either, nothing}
use Rattle.np_calculus.proofs.Fits.{some}
use Rattle.np_syntax.proofs.Options.{none_of, there-is}
use Rattle.np_calculus.proofs.Writes.{either-none}
use Rattle.np_site_runs.specs.merged.Joined.{AreApart, together}
use Rattle.np_site_runs.specs.merged.Steps.{IsStep}
use Rattle.np_site_runs.specs.merged.Deeds.{StampedItem}
use Rattle.np_site_runs.specs.merged.Elements.{Occurs}
use Rattle.np_site_runs.proofs.merged.Elements.{occurs-map}
use Rattle.np_site_runs.proofs.merged.Resting.{atom-out, packet-out, place-out, either-is}
use Rattle.np_site_runs.specs.Holdings.{Holding, IsPart}
use Rattle.np_site_runs.proofs.HoldingActs.{not-way}
use Rattle.np_site_runs.specs.Acting.{LeadsTo}
use Rattle.np_site_runs.specs.Ending.{IsLoad}
use Rattle.run_save.specs.declared.trips.Item.{Item}
use Rattle.run_save.specs.declared.trips.Item.TheVariants as item
use Rattle.run_save.specs.Ours.{IsPutFirst, TakesPutFirst}
use Rattle.run_save.specs.Travels.{Travels, departure, sending, puts as puts_trip, takes as takes_item, travels_on}
use Rattle.run_save.specs.following.TravelLaws.{link}
use Rattle.run_save.specs.following.Shown.{Shows}
use Rattle.run_save.proofs.following.Ways.{IsInner, NoneFlies, PutsAgent, PutsNone, PutsPacket, puts, some-none, takes-agent, takes-packet}

-- ---- parts

-- what the one has the other has
pub record Within (x y : Contents) : Type 0 where
  pub place : (q : Name) (p : Place) → x.place q ≡ Some p → y.place q ≡ Some p
  pub atom : (m : Name) (a : Atom) → x.atom m ≡ Some a → y.atom m ≡ Some a
  pub packet : (m : Name) (p : Packet) → x.packet m ≡ Some p → y.packet m ≡ Some p

pub part-within : (ps : List Contents) (x : Contents) → AreApart ps → Occurs (λ z. z ≡ x) ps → Within x (together ps)
part-within ps x apart h = record {
  place = λ q p is. place-out ps q p apart (occurs-map (λ z. z ≡ x) (λ z. z.place q ≡ Some p) (λ z same. ap (λ (z : Contents). z.place q) same ∙ is) ps h);
  atom = λ q p is. atom-out ps q p apart (occurs-map (λ z. z ≡ x) (λ z. z.atom q ≡ Some p) (λ z same. ap (λ (z : Contents). z.atom q) same ∙ is) ps h);
  packet = λ q p is. packet-out ps q p apart (occurs-map (λ z. z ≡ x) (λ z. z.packet q ≡ Some p) (λ z same. ap (λ (z : Contents). z.packet q) same ∙ is) ps h);
}

pub together-within : (ps : List Contents) (y : Contents) → ((x : Contents) → Occurs (λ z. z ≡ x) ps → Within x y) → Within (together ps) y
together-within [] y f = record { place = λ q p h. absurd cc; atom = λ q p h. absurd cc; packet = λ q p h. absurd cc }
together-within (x ∷ ps) y f =
    let one = f x (inl refl) in
    let more = together-within ps y (λ z h. f z (inr h)) in
    record {
      place = λ q p h. ⊎_elim (one.place q p) (more.place q p) (either-is (x.place q) ((together ps).place q) p h);
      atom = λ q p h. ⊎_elim (one.atom q p) (more.atom q p) (either-is (x.atom q) ((together ps).atom q) p h);
      packet = λ q p h. ⊎_elim (one.packet q p) (more.packet q p) (either-is (x.packet q) ((together ps).packet q) p h);
    }

-- of two parts the second has it, if not the first
second : {X : Type 0} (o b : Option X) (x : X) → (o ≡ Some x → ⊥) → either o (either b None) ≡ Some x → b ≡ Some x
second (Some y) b x far h = absurd (far h)
second None b x far h = sym (either-none b) ∙ h

-- ---- nothing is under way in what a site holds

holds-none : (h : Holding) (c : Config) → IsPart h c → NoneFlies (inside c)
holds-none h c part = record { ways = not-way h c part; packets = part.packets }

alone-none : (x y : Contents) → x ≡ beside y nothing → NoneFlies y → NoneFlies x
alone-none x y is none = record {
  ways = λ q s h. none.ways q s (sym (either-none (y.place q)) ∙ sym (ap (λ (x : Contents). x.place q) is) ∙ h);
  packets = λ m. ap (λ (x : Contents). x.packet m) is ∙ either-none (y.packet m) ∙ none.packets m;
}

-- ---- an event that neither puts anything on its way nor takes it

pub inner-still : (k : Kind) (t : Travels) (after : Config) (e : Event) → IsInner k → travels_on k t after e ≡ t
inner-still kind.Depart t after e h = absurd h
inner-still kind.Send t after e h = absurd h
inner-still kind.Arrive t after e h = absurd h
inner-still kind.Land t after e h = absurd h
inner-still k t after e h = refl

pub inner-takes : (k : Kind) (t : Travels) (e : Event) → IsInner k → TakesPutFirst k t e
inner-takes kind.Arrive t e h = absurd h
inner-takes kind.Land t e h = absurd h
inner-takes k t e h = tt

-- what the item stands for stood there before it set out
abbrev pub StoodIn : Item → Contents → Type 0
StoodIn (item.Agent agent) x = IsSome (x.place agent)
StoodIn (item.Packet mark) x = IsSome (x.atom mark)

-- ---- the deeds of a site

module _ (h then : Holding) (old now : Config) (was : IsPart h old) (part : IsPart then now) (e : Event) where
  -- nothing is taken, and nothing is put

  pub inner : IsStep e old [] now [] → IsInner e.kind
  inner s =
      let full_none = alone-none (inside s.full) (inside old) s.joins.is (holds-none h old was) in
      let next_none = alone-none (inside s.next) (inside now) s.parts.is (holds-none then now part) in
      elim (puts s.full s.next e s.applies full_none) [
        | inl p ↦ absurd (next_none.ways p.agent p.to p.comes)
        | inr (inl p) ↦ absurd (some-none ((inside s.next).packet e.actor) p.packet p.flies (next_none.packets e.actor))
        | inr (inr p) ↦ p.inner
      ]

  -- something is put

  module _ (y : StampedItem) (s : IsStep e old [] now (y.item.load ∷ [])) where
    pub record IsPut : Type 0 where
      pub item : Item
      pub shows : Shows y.item.receiver item y
      pub stood : StoodIn item (inside old)
      pub travels : (t : Travels) (after : Config) → Within (inside s.next) (inside after)
          → travels_on e.kind t after e ≡ puts_trip t (Some (record { item = item; link = link e.site y.item.receiver }))
      pub takes : (t : Travels) → TakesPutFirst e.kind t e

    load_within : Within y.item.load (inside s.next)
    load_within = subst (Within y.item.load) (sym s.parts.is) (part-within (inside now ∷ y.item.load ∷ []) y.item.load s.parts.apart (inr (inl refl)))

    full_none : NoneFlies (inside s.full)
    full_none = alone-none (inside s.full) (inside old) s.joins.is (holds-none h old was)

    place-full : (q : Name) → (inside s.full).place q ≡ (inside old).place q
    place-full q = ap (λ (x : Contents). x.place q) s.joins.is ∙ either-none ((inside old).place q)

    atom-full : (q : Name) → (inside s.full).atom q ≡ (inside old).atom q
    atom-full q = ap (λ (x : Contents). x.atom q) s.joins.is ∙ either-none ((inside old).atom q)

    -- each agent of what is put is under way
    under-way : (P : Name → Type 0) → ((q : Name) (u : ℕ) → (inside s.next).place q ≡ Some (place.Way u) → P q) → (q : Name) → IsSome (y.item.load.place q) → P q
    under-way P f q is = let t = there-is (y.item.load.place q) is in by t.0 t.1
      where
        by : (p : Place) → y.item.load.place q ≡ Some p → P q
        by (place.At u) at = absurd ((s.items.0.away u).none q at)
        by (place.Way u) at = f q u (load_within.place q (place.Way u) at)

    module _ (leads : LeadsTo y.item.receiver y) where
      agent-put : PutsAgent (inside s.full) (inside s.next) e → IsPut
      agent-put p = record {
        item = item.Agent p.agent;
        shows = record {
          comes = comes ∙ ap (λ u. Some (place.Way u)) to;
          alone = under-way (λ q. q ≡ p.agent) p.only;
          packets = λ m. none_of (y.item.load.packet m) (λ is. let t = there-is (y.item.load.packet m) is in
              some-none ((inside s.next).packet m) t.0 (load_within.packet m t.0 t.1) (p.packets m));
        };
        stood = some ((inside old).place p.agent) (place.At e.site) (sym (place-full p.agent) ∙ p.stood);
        travels = λ t after w. ap (λ k. travels_on k t after e) p.kind ∙ ap (puts_trip t) (trip after w);
        takes = λ t. subst (λ k. TakesPutFirst k t e) (sym p.kind) tt;
      }
        where
          comes : y.item.load.place p.agent ≡ Some (place.Way p.to)
          comes = second ((inside now).place p.agent) (y.item.load.place p.agent) (place.Way p.to) (not-way then now part p.agent p.to)
              (sym (ap (λ (x : Contents). x.place p.agent) s.parts.is) ∙ p.comes)

          to : p.to ≡ y.item.receiver
          to = leads p.to (inr (record { agent = p.agent; comes = comes }))

          trip : (after : Config) → Within (inside s.next) (inside after) → departure after e ≡ Some (record { item = item.Agent p.agent; link = link e.site y.item.receiver })
          trip after w =
              let there : table.get after.atoms e.actor ≡ Some p.now = w.atom e.actor p.now p.atom in
              let goes : table.get after.places p.now.agent ≡ Some (place.Way p.to) = ap (table.get after.places) p.of ∙ w.place p.agent (place.Way p.to) p.comes in
              rw (there, goes) (λ i. Some (record { item = item.Agent (p.of i); link = record { from = e.site; to = to i } }))

      packet-put : PutsPacket (inside s.full) (inside s.next) e → IsPut
      packet-put p = record {
        item = item.Packet e.actor;
        shows = record {
          packet = p.packet;
          flies = flies;
          to = to;
          alone = λ m is. let t = there-is (y.item.load.packet m) is in p.only m (some ((inside s.next).packet m) t.0 (load_within.packet m t.0 t.1));
          agents = λ q. none_of (y.item.load.place q) (under-way (λ q. ⊥) p.ways q);
        };
        stood = some ((inside old).atom e.actor) p.atom (sym (atom-full e.actor) ∙ p.stood);
        travels = λ t after w. ap (λ k. travels_on k t after e) p.kind ∙ ap (puts_trip t) (trip after w);
        takes = λ t. subst (λ k. TakesPutFirst k t e) (sym p.kind) tt;
      }
        where
          flies : y.item.load.packet e.actor ≡ Some p.packet
          flies = second ((inside now).packet e.actor) (y.item.load.packet e.actor) p.packet (λ is. some-none ((inside now).packet e.actor) p.packet is (part.packets e.actor))
              (sym (ap (λ (x : Contents). x.packet e.actor) s.parts.is) ∙ p.flies)

          to : p.packet.to ≡ y.item.receiver
          to = leads p.packet.to (inl (record { mark = e.actor; packet = p.packet; flies = flies; to = refl }))

          trip : (after : Config) → Within (inside s.next) (inside after) → sending after e ≡ Some (record { item = item.Packet e.actor; link = link e.site y.item.receiver })
          trip after w =
              let there : table.get after.packets e.actor ≡ Some p.packet = w.packet e.actor p.packet p.flies in
              rw there (λ i. Some (record { item = item.Packet e.actor; link = record { from = e.site; to = to i } }))

      not-none : IsLoad y.item.load → PutsNone (inside s.next) e → ⊥
      not-none (site, inl b) p = some-none ((inside s.next).packet b.mark) b.packet (load_within.packet b.mark b.packet b.flies) (p.none.packets b.mark)
      not-none (site, inr b) p = p.none.ways b.agent site (load_within.place b.agent (place.Way site) b.comes)

      pub is_put : IsLoad y.item.load → IsPut
      is_put load = elim (puts s.full s.next e s.applies full_none) [
        | inl p ↦ agent-put p
        | inr (inl p) ↦ packet-put p
        | inr (inr p) ↦ absurd (not-none load p)
      ]

  -- something is taken

  module _ (x : StampedItem) (s : IsStep e old (x.item.load ∷ []) now []) where
    pub record IsTaken (i : Item) : Type 0 where
      pub travels : (t : Travels) (after : Config) → travels_on e.kind t after e ≡ takes_item t i e.site
      pub takes : (t : Travels) → IsPutFirst t i e.site → TakesPutFirst e.kind t e

    taken_within : Within x.item.load (inside s.full)
    taken_within = subst (Within x.item.load) (sym s.joins.is) (part-within (inside old ∷ x.item.load ∷ []) x.item.load s.joins.apart (inr (inl refl)))

    next_none : NoneFlies (inside s.next)
    next_none = alone-none (inside s.next) (inside now) s.parts.is (holds-none then now part)

    module _ (known : (q : Name) → IsSome (x.item.load.place q) → IsMade e.made q → ⊥) where
      pub is_taken : (i : Item) → Shows e.site i x → IsTaken i
      is_taken (item.Agent agent) b =
          let k = takes-agent s.full s.next e s.applies next_none agent e.site (known agent (some (x.item.load.place agent) (place.Way e.site) b.comes))
          (taken_within.place agent (place.Way e.site) b.comes) in
          record {
            travels = λ t after. ap (λ k. travels_on k t after e) k.0 ∙ ap (λ q. takes_item t (item.Agent q) e.site) k.1;
            takes = λ t first. subst (λ k. TakesPutFirst k t e) (sym k.0) (subst (λ q. IsPutFirst t (item.Agent q) e.site) (sym k.1) first);
          }
      is_taken (item.Packet mark) b =
          let k = takes-packet s.full s.next e s.applies next_none mark b.packet (taken_within.packet mark b.packet b.flies) in
          record {
            travels = λ t after. ap (λ k. travels_on k t after e) k.0 ∙ ap (λ q. takes_item t (item.Packet q) e.site) k.1;
            takes = λ t first. subst (λ k. TakesPutFirst k t e) (sym k.0) (subst (λ q. IsPutFirst t (item.Packet q) e.site) (sym k.1) first);
          }
