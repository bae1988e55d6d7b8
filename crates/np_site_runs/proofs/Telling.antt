-- What a location test that finds its agent, and the making of an agent, do.
use Rattle.std.proofs.Common.{◌≡◌, ℕ, Bool, true, false, cond, nat_eq, inl, inr, List, [], ◌∷◌, Option, None, Some, IsSome, option_map, refl, sym, ap, subst, ◌∙◌}
use Rattle.std.specs.FinMap as table
use Rattle.np_tables.proofs.Tables.{get-none, get-put, put-swap}
use Rattle.np_calculus.proofs.Common.{Change, Config, Event, Kind, Name, NameMap, Write, apply, at_site, done, effect, inside, same_name, same_name-is, then}
use Rattle.np_syntax.specs.declared.event.Kind.TheVariants as kind
use Rattle.np_syntax.specs.declared.event.Made.TheVariants as made
use Rattle.np_calculus.specs.declared.config.Atom.{Atom}
use Rattle.np_calculus.specs.declared.config.Packet.{Packet}
use Rattle.np_calculus.specs.declared.config.Place.TheVariants as place
use Rattle.np_calculus.specs.Changes.{put, still, written}
use Rattle.np_calculus.specs.FrameRule.{IsMade}
use Rattle.np_calculus.specs.Parts.{either}
use Rattle.np_calculus.specs.Rows.{asked_of, change_in, output_of, outside}
use Rattle.np_calculus.proofs.Fits.{some}
use Rattle.np_calculus.proofs.OwnNames.{not_true}
use Rattle.np_calculus.proofs.Steps.{same_site}
use Rattle.np_calculus.proofs.Writes.{either-none}
use Rattle.np_site_runs.proofs.merged.Items.{inner_step}
use Rattle.stamp_history.specs.declared.stamped.Stamped.{Stamped}
use Rattle.np_site_runs.specs.Holdings.{Holding, IsPart, AreMade}
use Rattle.np_site_runs.specs.Going.{GoesPast, own_sight}
use Rattle.np_site_runs.specs.Making.{AreNext}
use Rattle.np_site_runs.specs.Within.{IsOwnEvent, Makes, Tells, given, gone_on}
use Rattle.np_site_runs.proofs.Holds.{Holds, hold-come, hold-write, mine-there}
use Rattle.np_site_runs.proofs.Inversions.{Born, Told, born, told}
use Rattle.np_site_runs.proofs.Parts.{holds, no-mark, no-name, numbers-next, place-of, same-places}
use Rattle.np_site_runs.proofs.Showing.{IsTold}
use Rattle.np_site_runs.proofs.Within.{applied, asks-none, changes, own-made, own-site, part-after}

-- ---- what an event leaves whose first write is of another agent

module _ (k : Kind) (sites : ℕ) (here : Bool) (old new : NameMap Atom) (e : Event) (rest : Change) where
  pub record Past : Type 0 where
    pub change : Change
    pub is : change_in k (own_sight sites old here) e ≡ Some change
    pub first : Write Atom
    pub more : List (Write Atom)
    pub atoms : change.atoms ≡ first ∷ more
    pub own : new ≡ written old more
    pub others : rest ≡ record change { atoms = first ∷ [] }

  past : GoesPast k sites here old new e rest → Past
  past h = then (change_in k (own_sight sites old here) e) _ h λ d is h. by d is d.atoms refl h
    where
      by : (d : Change) → change_in k (own_sight sites old here) e ≡ Some d → (ws : List (Write Atom)) → d.atoms ≡ ws → outside old d ws ≡ Some (rest, new) → Past
      by d is [] are h = absurd cc
      by d is (w ∷ ws) are h = record {
        change = d;
        is = is;
        first = w;
        more = ws;
        atoms = are;
        own = ap (λ (p : Change × NameMap Atom). p.1) (done h);
        others = ap (λ (p : Change × NameMap Atom). p.0) (done h);
      }

-- the parts of a list of writes
abbrev tail : List (Write Atom) → List (Write Atom)
tail [] = []
tail (w ∷ ws) = ws

abbrev head_mark : {X : Type 0} → Name → List (Write X) → Name
head_mark q [] = q
head_mark q (w ∷ ws) = w.0

abbrev head_atom : List (Write Atom) → Option Atom
head_atom [] = None
head_atom (w ∷ ws) = w.1

abbrev headed : List (Write Atom) → List (Write Atom) → List (Write Atom)
headed [] more = []
headed (w ∷ ws) more = w ∷ more

module _ (k : Kind) (sites : ℕ) (here : Bool) (old new : NameMap Atom) (e : Event) (rest : Change) (p : Past k sites here old new e rest) where
  module _ (mark q : Name) (first a b : Atom) (alone : rest.atoms ≡ put mark first ∷ []) (row : p.change.atoms ≡ put q a ∷ put e.actor b ∷ []) where
    firsts : p.first ∷ [] ≡ put mark first ∷ []
    firsts = sym (ap (λ (r : Change). r.atoms) p.others) ∙ alone

    more-is : p.more ≡ put e.actor b ∷ []
    more-is = ap tail (sym p.atoms ∙ row)

    -- the first write is the one that is told
    pub mark-is : mark ≡ q
    mark-is = sym (ap (head_mark mark) firsts) ∙ ap (head_mark mark) (sym p.atoms ∙ row)

    pub first-is : first ≡ a
    first-is = done (sym (sym (ap head_atom firsts) ∙ ap head_atom (sym p.atoms ∙ row)))

    pub change-is : p.change ≡ record rest { atoms = put mark first ∷ put e.actor b ∷ [] }
    change-is = λ i. record {
      places = ap (λ (r : Change). r.places) (sym p.others) i;
      atoms = (p.atoms ∙ ap (λ ws. p.first ∷ ws) more-is ∙ ap (λ ws. headed ws (put e.actor b ∷ [])) firsts) i;
      packets = ap (λ (r : Change). r.packets) (sym p.others) i;
      said = ap (λ (r : Change). r.said) (sym p.others) i;
    }

    pub new-is : new ≡ table.insert old e.actor b
    new-is = p.own ∙ ap (written old) more-is

-- ---- the agent goes on, and an atom stands under a new mark

module _ (h : Holding) (c : Config) (part : IsPart h c) (agent mark actor : Name) (old : NameMap Atom) (was now first : Atom) (stands : table.get h.agents agent ≡ Some old) where
  module _ (there : table.get old actor ≡ Some was) (of : now.agent ≡ was.agent) (new : table.get c.atoms mark ≡ None) where
    pub acted-holds : Holds (table.insert h.agents agent (table.insert old actor now)) (table.insert c.atoms actor now)
    acted-holds = hold-write h.agents c.atoms (holds h c part) agent old stands (put actor now ∷ [])
        ((inl (some (table.get old actor) was there), of ∙ part.own agent old actor was stands there), tt)

    marks-apart : same_name mark actor ≡ false
    marks-apart = not_true (same_name mark actor) λ t.
        let x : None ≡ Some was = sym new ∙ ap (table.get c.atoms) (same_name-is mark actor t) ∙ mine-there h.agents c.atoms (holds h c part) agent old stands actor was there in
        cc

    pub still-new : table.get (table.insert c.atoms actor now) mark ≡ None
    still-new = get-put c.atoms actor now mark ∙ ap (λ t. cond t (Some now) (table.get c.atoms mark)) marks-apart ∙ new

    pub either-order : table.insert (table.insert c.atoms actor now) mark first ≡ table.insert (table.insert c.atoms mark first) actor now
    either-order = sym (put-swap c.atoms mark actor first now marks-apart)

-- ---- a location test that finds its agent

module _ (h : Holding) (x : Stamped) (agent mark : Name) (packet : Packet) (old new there : NameMap Atom) (o : IsOwnEvent h agent old kind.Local x.event) (m : AreMade h) where
  module _ (g : GoesPast kind.Local h.sites true old new x.event (record still { atoms = put mark (output_of packet) ∷ [] })) (is_there : table.get (table.insert h.agents agent new) packet.agent ≡ Some there) where
    abbrev P : Past kind.Local h.sites true old new x.event (record still { atoms = put mark (output_of packet) ∷ [] })
    P = past kind.Local h.sites true old new x.event (record still { atoms = put mark (output_of packet) ∷ [] }) g

    abbrev R : Told (own_sight h.sites old true) x.event P.change
    R = told (own_sight h.sites old true) x.event P.change (λ q. refl) P.is

    abbrev d : Change
    d = record still { atoms = put mark (output_of packet) ∷ put x.event.actor R.on.now ∷ [] }

    mark-now : mark ≡ R.mark
    mark-now = mark-is kind.Local h.sites true old new x.event (record still { atoms = put mark (output_of packet) ∷ [] }) P mark R.mark (output_of packet) R.output R.on.now refl R.atoms

    asked-now : packet.agent ≡ R.agent
    asked-now = ap (λ (a : Atom). a.agent)
        (first-is kind.Local h.sites true old new x.event (record still { atoms = put mark (output_of packet) ∷ [] }) P mark R.mark (output_of packet) R.output R.on.now refl R.atoms)
        ∙ R.of_agent

    row-now : change_in kind.Local (own_sight h.sites old true) x.event ≡ Some d
    row-now = P.is ∙ ap Some
        (change-is kind.Local h.sites true old new x.event (record still { atoms = put mark (output_of packet) ∷ [] }) P mark R.mark (output_of packet) R.output R.on.now refl R.atoms)

    new-now : new ≡ table.insert old x.event.actor R.on.now
    new-now = new-is kind.Local h.sites true old new x.event (record still { atoms = put mark (output_of packet) ∷ [] }) P mark R.mark (output_of packet) R.output R.on.now refl R.atoms

    -- the agent for which it asks stands here
    stands-here : (t : Bool) → same_name packet.agent agent ≡ t → cond t (Some new) (table.get h.agents packet.agent) ≡ Some there → (s : NameMap Atom) × (table.get h.agents packet.agent ≡ Some s)
    stands-here true e is = (old, ap (table.get h.agents) (same_name-is packet.agent agent e) ∙ o.stands)
    stands-here false e is = (there, is)

    module _ (c : Config) (part : IsPart h c) where
      is-told : IsTold (inside c) old x.event true
      is-told = record {
        each = λ a b is asks.
            let same : a ≡ R.on.atom = done (sym R.on.there ∙ is) in
            let agent_is : b ≡ R.agent = done (sym R.asks ∙ ap asked_of (sym same) ∙ asks) in
            let s = stands-here (same_name packet.agent agent) refl (sym (get-put h.agents agent new packet.agent) ∙ is_there) in
            ap (λ q. at_site (table.get c.places q) x.event.site) (agent_is ∙ sym asked-now)
            ∙ ap (λ o. at_site o x.event.site) (place-of h c part packet.agent s.0 s.1) ∙ ap (nat_eq h.site) o.site ∙ same_site h.site;
      }

      unheld : table.get c.atoms mark ≡ None
      unheld = no-mark h c part m x.event.made o.makes mark (subst (λ y. IsMade y mark) (sym R.one) mark-now)

      two-holds : Holds (table.insert (table.insert h.agents agent new) packet.agent (table.insert there mark (output_of packet))) (written c.atoms d.atoms)
      two-holds = subst (Holds (table.insert (table.insert h.agents agent new) packet.agent (table.insert there mark (output_of packet))))
          (either-order h c part agent mark x.event.actor old R.on.atom R.on.now (output_of packet) o.stands R.on.there R.on.of unheld)
          (hold-write (table.insert h.agents agent new) (table.insert c.atoms x.event.actor R.on.now)
          (subst (λ t. Holds (table.insert h.agents agent t) (table.insert c.atoms x.event.actor R.on.now)) (sym new-now)
          (acted-holds h c part agent mark x.event.actor old R.on.atom R.on.now (output_of packet) o.stands R.on.there R.on.of unheld))
          packet.agent there is_there (put mark (output_of packet) ∷ [])
          ((inr (still-new h c part agent mark x.event.actor old R.on.atom R.on.now (output_of packet) o.stands R.on.there R.on.of unheld), refl), tt))

pub tells : Tells
tells h x agent mark packet old new there o g is_there = (
  refl,
  λ m c part items apart.
      let d : Change = d h x agent mark packet old new there o m g is_there in
      let e : Event = x.event in
      let is : apply c e ≡ Some (effect c e d) =
      applied h c part agent old kind.Local e o d (changes h c part agent old kind.Local e o true (is-told h x agent mark packet old new there o m g is_there c part) d (row-now h x agent mark packet old new there o m g is_there)) in (
        effect c e d,
        part-after h c part e d o.site o.makes (table.insert (table.insert h.agents agent new) packet.agent (table.insert there mark (output_of packet))) None
            (λ q. part.places q ∙ same-places h.agents agent old new (place.At h.site) o.stands q
            ∙ same-places (table.insert h.agents agent new) packet.agent there (table.insert there mark (output_of packet)) (place.At h.site) is_there q)
            (two-holds h x agent mark packet old new there o m g is_there c part)
            part.packets
            refl,
        inner_step c (effect c e d) e (own-site h c part agent old kind.Local e o) (λ p. let p : kind.Local ≡ kind.Post = sym o.kind ∙ p in cc) (own-made h c part agent old kind.Local e o) is,
      ),
  numbers-next h (given (gone_on h agent new x.event None) packet.agent there mark (output_of packet)) x.event.made o.makes refl,
  tt,
)

-- ---- the making of an agent

module _ (h : Holding) (x : Stamped) (agent child mark : Name) (first : Atom) (old new : NameMap Atom) (o : IsOwnEvent h agent old kind.Agent x.event) (m : AreMade h) where
  module _ (g : GoesPast kind.Agent h.sites false old new x.event (record still { places = put child (place.At h.site) ∷ []; atoms = put mark first ∷ [] })) where
    abbrev left : Change
    left = record still { places = put child (place.At h.site) ∷ []; atoms = put mark first ∷ [] }

    abbrev Q : Past kind.Agent h.sites false old new x.event (record still { places = put child (place.At h.site) ∷ []; atoms = put mark first ∷ [] })
    Q = past kind.Agent h.sites false old new x.event (record still { places = put child (place.At h.site) ∷ []; atoms = put mark first ∷ [] }) g

    abbrev B : Born (own_sight h.sites old false) x.event Q.change
    B = born (own_sight h.sites old false) x.event Q.change Q.is

    abbrev made_change : Change
    made_change = record still { places = put child (place.At h.site) ∷ []; atoms = put mark first ∷ put x.event.actor B.on.now ∷ [] }

    mark-born : mark ≡ B.mark
    mark-born = mark-is kind.Agent h.sites false old new x.event left Q mark B.mark first B.first B.on.now refl B.atoms

    child-born : child ≡ B.child
    child-born = ap (head_mark child) (ap (λ (r : Change). r.places) Q.others ∙ B.places)

    first-of : first.agent ≡ child
    first-of = ap (λ (a : Atom). a.agent) (first-is kind.Agent h.sites false old new x.event left Q mark B.mark first B.first B.on.now refl B.atoms) ∙ B.of_child ∙ sym child-born

    row-born : change_in kind.Agent (own_sight h.sites old false) x.event ≡ Some made_change
    row-born = Q.is ∙ ap Some (change-is kind.Agent h.sites false old new x.event left Q mark B.mark first B.first B.on.now refl B.atoms)

    new-born : new ≡ table.insert old x.event.actor B.on.now
    new-born = new-is kind.Agent h.sites false old new x.event left Q mark B.mark first B.first B.on.now refl B.atoms

    made-two : AreNext h (made.Two B.child B.mark)
    made-two = subst (AreNext h) B.two o.makes

    -- the new agent has one atom
    abbrev one_atom : NameMap Atom
    one_atom = table.insert table.empty mark first

    one-atom : (q : Name) → table.get one_atom q ≡ cond (same_name q mark) (Some first) None
    one-atom q = get-put table.empty mark first q ∙ ap (cond (same_name q mark) (Some first)) (get-none q)

    of-child : (q : Name) (b : Atom) → table.get one_atom q ≡ Some b → b.agent ≡ child
    of-child q b g = by (same_name q mark) (sym (one-atom q) ∙ g)
      where
        by : (t : Bool) → cond t (Some first) None ≡ Some b → b.agent ≡ child
        by true e = ap (λ (a : Atom). a.agent) (done e) ∙ first-of
        by false e = absurd cc

    with-one : (t : Bool) (p : Option Atom) → (t ≡ true → p ≡ None) → cond t (Some first) p ≡ either p (cond t (Some first) None)
    with-one true p none = sym (ap (λ p. either p (Some first)) (none refl))
    with-one false p none = sym (either-none p)

    module _ (c : Config) (part : IsPart h c) where
      -- no agent and no atom has one of the names yet
      no-child : table.get h.agents child ≡ None
      no-child = ap (table.get h.agents) (child-born ∙ made-two.0) ∙ no-name h c part m

      not-child : (t : Bool) → same_name child agent ≡ t → cond t (Some new) (table.get h.agents child) ≡ None
      not-child true e = absurd (let y : None ≡ Some old = sym no-child ∙ ap (table.get h.agents) (same_name-is child agent e) ∙ o.stands in cc)
      not-child false e = no-child

      none-yet : table.get (table.insert h.agents agent new) child ≡ None
      none-yet = get-put h.agents agent new child ∙ not-child (same_name child agent) refl

      no-first : table.get c.atoms mark ≡ None
      no-first = no-mark h c part m x.event.made o.makes mark (subst (λ y. IsMade y mark) (sym B.two) (inr mark-born))

      no-first-still : table.get (table.insert c.atoms x.event.actor B.on.now) mark ≡ None
      no-first-still = still-new h c part agent mark x.event.actor old B.on.atom B.on.now first o.stands B.on.there B.on.of no-first

      apart-first : (q : Name) → IsSome (table.get one_atom q) → table.get (table.insert c.atoms x.event.actor B.on.now) q ≡ None
      apart-first q is = by (same_name q mark) refl (subst IsSome (one-atom q) is)
        where
          by : (t : Bool) → same_name q mark ≡ t → IsSome (cond t (Some first) None) → table.get (table.insert c.atoms x.event.actor B.on.now) q ≡ None
          by true e is = ap (table.get (table.insert c.atoms x.event.actor B.on.now)) (same_name-is q mark e) ∙ no-first-still
          by false e is = absurd cc

      all-atoms : (q : Name) → table.get (table.insert (table.insert c.atoms x.event.actor B.on.now) mark first) q
          ≡ either (table.get (table.insert c.atoms x.event.actor B.on.now) q) (table.get one_atom q)
      all-atoms q = get-put (table.insert c.atoms x.event.actor B.on.now) mark first q
          ∙ with-one (same_name q mark) (table.get (table.insert c.atoms x.event.actor B.on.now) q)
          (λ t. ap (table.get (table.insert c.atoms x.event.actor B.on.now)) (same_name-is q mark t) ∙ no-first-still)
          ∙ ap (either (table.get (table.insert c.atoms x.event.actor B.on.now) q)) (sym (one-atom q))

      born-holds : Holds (table.insert (table.insert h.agents agent new) child one_atom) (written c.atoms made_change.atoms)
      born-holds = subst (Holds (table.insert (table.insert h.agents agent new) child one_atom))
          (either-order h c part agent mark x.event.actor old B.on.atom B.on.now first o.stands B.on.there B.on.of no-first)
          (hold-come (table.insert h.agents agent new) (table.insert c.atoms x.event.actor B.on.now)
          (subst (λ t. Holds (table.insert h.agents agent t) (table.insert c.atoms x.event.actor B.on.now)) (sym new-born)
          (acted-holds h c part agent mark x.event.actor old B.on.atom B.on.now first o.stands B.on.there B.on.of no-first))
          child none-yet one_atom (table.insert (table.insert c.atoms x.event.actor B.on.now) mark first) of-child apart-first all-atoms)

      born-place : (t : Bool) (q : Name) → same_name q child ≡ t → cond t (Some (place.At h.site)) (table.get c.places q)
          ≡ option_map (λ (t : NameMap Atom). place.At h.site) (cond t (Some one_atom) (table.get (table.insert h.agents agent new) q))
      born-place true q e = refl
      born-place false q e = part.places q ∙ same-places h.agents agent old new (place.At h.site) o.stands q

      born-places : (q : Name) → table.get (table.insert c.places child (place.At h.site)) q
          ≡ option_map (λ (t : NameMap Atom). place.At h.site) (table.get (table.insert (table.insert h.agents agent new) child one_atom) q)
      born-places q = get-put c.places child (place.At h.site) q ∙ born-place (same_name q child) q refl
          ∙ ap (option_map (λ (t : NameMap Atom). place.At h.site)) (sym (get-put (table.insert h.agents agent new) child one_atom q))

      no-asking : IsTold (inside c) old x.event false
      no-asking = record {
        each = λ a b there asks. absurd (asks-none (own_sight h.sites old false) x.event kind.Agent made_change (λ e. let e : kind.Agent ≡ kind.Local = e in cc) row-born a b there asks);
      }

pub makes : Makes
makes h x agent child mark first old new o g = (
  refl,
  λ m c part items apart.
      let d : Change = made_change h x agent child mark first old new o m g in
      let e : Event = x.event in
      let is : apply c e ≡ Some (effect c e d) =
      applied h c part agent old kind.Agent e o d (changes h c part agent old kind.Agent e o false (no-asking h x agent child mark first old new o m g c part) d (row-born h x agent child mark first old new o m g)) in (
        effect c e d,
        part-after h c part e d o.site o.makes (table.insert (table.insert h.agents agent new) child (table.insert table.empty mark first)) None
            (born-places h x agent child mark first old new o m g c part)
            (born-holds h x agent child mark first old new o m g c part)
            part.packets
            refl,
        inner_step c (effect c e d) e (own-site h c part agent old kind.Agent e o) (λ p. let p : kind.Agent ≡ kind.Post = sym o.kind ∙ p in cc) (own-made h c part agent old kind.Agent e o) is,
      ),
  numbers-next h (given (gone_on h agent new x.event None) child table.empty mark first) x.event.made o.makes refl,
  tt,
)
