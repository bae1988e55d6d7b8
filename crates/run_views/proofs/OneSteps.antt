-- The one-step list of a run of a source without location tests is a run of the one-step calculus.
use Rattle.std.proofs.Common.{◌≡◌, ℕ, Bool, true, false, cond, ⊎_elim, Option, None, Some, List, [], ◌∷◌, ◌++◌, length, nat_eq, refl, ap, sym, subst, ◌∙◌}
use Rattle.std.proofs.lemmas.Bool.{eqb-true}
use Rattle.std.specs.FinMap as map
use Rattle.np_calculus.proofs.Common.{Name, ProcForm-F, Event, Kind, ◌>>=◌, then, when, done, NameMap, same_name, same_name-is, same_name-itself, chan_of, Layer, layer}
use Rattle.np_calculus.proofs.Common.{Config, Contents, Sight, inside, sight, at_site, Change, Write, effect, same_tag, way, none_made, two_made, no_other, offered_in, acting_in}
use Rattle.np_calculus.proofs.Common.{are_new, change, row, act, arrive_row, land_row, apply}
use Rattle.np_syntax.specs.declared.program.Program.{Program}
use Rattle.np_syntax.specs.declared.process.Role.{Role}
use Rattle.np_syntax.specs.declared.process.Role.TheVariants as role
use Rattle.np_syntax.specs.declared.process.Tag.{Tag}
use Rattle.np_syntax.specs.declared.event.Kind.TheVariants as kind
use Rattle.np_syntax.specs.declared.event.Made.TheVariants as made
use Rattle.np_tables.proofs.Tables.{get-none, get-put, put_cases}
use Rattle.np_calculus.specs.declared.config.Atom.{Atom}
use Rattle.np_calculus.specs.declared.config.Packet.{Packet}
use Rattle.np_calculus.specs.declared.config.Place.{Place}
use Rattle.np_calculus.specs.declared.config.Place.TheVariants as place
use Rattle.np_calculus.specs.Begins.{arrival}
use Rattle.np_calculus.specs.Changes.{put, still, with_made, with_said, written}
use Rattle.np_calculus.specs.FrameRule.{Every}
use Rattle.np_calculus.specs.Reductions.{role_index, run, site_in}
use Rattle.np_calculus.specs.Starts.{first_atom, main_agent, main_mark}
unfoldable use Rattle.np_calculus.specs.Starts.{start_high}
use Rattle.np_calculus.proofs.Fits.{actor-seen}
use Rattle.np_calculus.proofs.Rows.{by, parts, step}
use Rattle.np_calculus.proofs.Steps.{RowStep, acting-step, is-none, offer-seen, row-step, same_site}
use Rattle.np_syntax.proofs.Bools.{and-out}
use Rattle.run_views.specs.OneStep.{DepartsArrive, HasArrived, IsOneStepRun, OneArrival, OneStepIsRun, arrival_after, arrived, in_place_of, one_step}
use Rattle.run_views.specs.Past.{each_of, is_among}
use Rattle.run_views.specs.Tests.{tests}
use Rattle.run_views.proofs.TestFree.{Free, IsFree, free-kept, no-local}
use Rattle.run_views.proofs.Traced.{traced}

-- ---- everybody arrived

abbrev settled : Option Place → Option Place
settled o = o >>= λ p. Some (arrived p)

settled-at : (o : Option Place) (site : ℕ) → at_site o site ≡ true → at_site (settled o) site ≡ true
settled-at (Some (place.At s)) site h = h
settled-at (Some (place.Way s)) site h = absurd cc
settled-at None site h = absurd cc

-- ---- an event of an atom

-- the two have the same atoms; each agent that is at a site of the first is there in the second
module _ (n : ℕ) (x y : Contents) (e : Event) (atoms : (q : Name) → x.atom q ≡ y.atom q) (places : (q : Name) → y.place q ≡ settled (x.place q)) where
  abbrev v : Sight
  v = sight n x e.site

  abbrev w : Sight
  w = sight n y e.site

  here-too : (agent : Name) → at_site (x.place agent) e.site ≡ true → at_site (y.place agent) e.site ≡ true
  here-too agent h = ap (λ o. at_site o e.site) (places agent) ∙ settled-at (x.place agent) e.site h

  module _ (a : Atom) (acts : acting_in v e ≡ Some a) where
    here : at_site (x.place a.agent) e.site ≡ true
    here = (actor-seen n x e a acts).here

    there : y.atom e.actor ≡ Some a
    there = sym (atoms e.actor) ∙ (actor-seen n x e a acts).there

    tagged : same_tag a.proc.tag e.tag ≡ true
    tagged = then (v.atom e.actor) _ acts λ b found h. when (same_tag b.proc.tag e.tag) _ h λ tag h. let same : a ≡ b = done h in rw same tag

    acts-too : acting_in w e ≡ Some a
    acts-too = rw (there, here-too a.agent here, tagged) refl

    offered-same : (o m : Name) → offered_in v.atom o a.agent m ≡ offered_in w.atom o a.agent m
    offered-same o m =
        offer-seen x n e.site o a.agent m here ∙ ap (λ z. offered_in (λ q. z) o a.agent m) (atoms o) ∙ sym (offer-seen y n e.site o a.agent m (here-too a.agent here))

    act-same : (k : Kind) (l : Layer) → (k ≡ kind.Local → ⊥) → act k l v e a ≡ act k l w e a
    unfolding act
    act-same kind.Comm (ProcForm-F.Inp c pat body) far = step (chan_of c a.env) (chan_of c a.env) _ _ refl λ m on. step e.other e.other _ _ refl λ o other. rw (offered-same o m) refl
    act-same kind.Rep (ProcForm-F.Rep c pat body) far = step (chan_of c a.env) (chan_of c a.env) _ _ refl λ m on. step e.other e.other _ _ refl λ o other. rw (offered-same o m) refl
    act-same kind.Local l far = absurd (far refl)
    act-same k l far = by k l v e a ∙ sym (by k l w e a)

-- ---- places that are written

nothing-among : (ws : List (Write Place)) → Every (λ w. is_among w.0 [] ≡ true) ws → ws ≡ []
nothing-among [] h = refl
nothing-among (w ∷ ws) h = let no : false ≡ true = h.0 in absurd cc

module _ (n : ℕ) (x : Contents) (e : Event) (d : Change) where
  abbrev u : Sight
  u = sight n x e.site

  record PutsNew : Type 0 where
    pub agent : Name
    pub is : d.places ≡ put agent (place.At e.site) ∷ []

  record PutsWay (agent : Name) : Type 0 where
    pub site : ℕ
    pub is : d.places ≡ put agent (place.Way site) ∷ []

  agent-act : (a : Atom) → act kind.Agent (layer a.proc) u e a ≡ Some d → PutsNew
  unfolding act
  agent-act a h = parts kind.Agent u e a h λ p form h. then (two_made e.made) _ h λ m made h. then (no_other e.other) _ h λ l other h.
      record { agent = m.0; is = ap (λ (d : Change). d.places) (done h) }

  depart-act : (a : Atom) → act kind.Depart (layer a.proc) u e a ≡ Some d → PutsWay a.agent
  unfolding act
  depart-act a h = parts kind.Depart u e a h λ p form h. then (site_in n p.0 a.env) _ h λ t names h.
      then (none_made e.made) _ h λ z made h. then (no_other e.other) _ h λ l other h. record { site = t; is = ap (λ (d : Change). d.places) (done h) }

pick-put : (t : Bool) (s : ℕ) (o o' : Option Place) → o' ≡ settled o → cond t (Some (place.At s)) o' ≡ settled (cond t (Some (place.At s)) o)
pick-put true s o o' h = refl
pick-put false s o o' h = h

pick-way : (t : Bool) (s : ℕ) (o o' : Option Place) → o' ≡ settled o
    → cond t (Some (place.At s)) (cond t (Some (place.Way s)) o') ≡ settled (cond t (Some (place.Way s)) o)
pick-way true s o o' h = refl
pick-way false s o o' h = h

-- ---- one event of the run

-- what the one-step list has in place of an event: it leads from the one configuration to the other
record Segment (y : Config) (es : List Event) (next : Config) : Type 0 where
  pub after : Config
  pub arrives : HasArrived next after
  pub runs : (rest : List Event) → run y (es ++ rest) ≡ run after rest
  pub departs : (rest : List Event) → DepartsArrive after rest → DepartsArrive y (es ++ rest)

none_other : (o : Option Name) (u : Unit {0}) → no_other o ≡ Some u → o ≡ None
none_other None u h = refl
none_other (Some m) u h = absurd cc

role-is : (r : Role) → nat_eq (role_index r) 0 ≡ true → r ≡ role.Plain
role-is role.Plain h = refl
role-is role.Post h = absurd cc
role-is role.Infra h = absurd cc

tag-is : (t : Tag) → same_tag t (record { node = 0; role = role.Plain }) ≡ true → t ≡ record { node = 0; role = role.Plain }
tag-is t h =
    let b = and-out (nat_eq t.node 0) _ h in
    let n : t.node ≡ 0 = eqb-true t.node 0 b.0 in
    let r : t.role ≡ role.Plain = role-is t.role b.1 in
    λ i. record { node = n i; role = r i }

-- an arrival that is met
record Arrives (x : Contents) (e : Event) (d : Change) : Type 0 where
  pub site : ℕ
  pub comes : x.place e.actor ≡ Some (place.Way site)
  pub is : d ≡ record still { places = put e.actor (place.At site) ∷ [] }
  pub here : site ≡ e.site
  pub other : e.other ≡ None
  pub made : e.made ≡ made.Nothing
  pub tag : e.tag ≡ record { node = 0; role = role.Plain }

way-is : (o : Option Place) (p : Place) (s : ℕ) → o ≡ Some p → way p ≡ Some s → o ≡ Some (place.Way s)
way-is o (place.At t) s is h = absurd cc
way-is o (place.Way t) s is h = is ∙ ap (λ s. Some (place.Way s)) (sym (done h))

arrive-step : (x : Contents) (e : Event) (d : Change) → arrive_row (x.place e.actor) e ≡ Some d → Arrives x e d
unfolding arrive_row
arrive-step x e d h =
    then (x.place e.actor) _ h λ p there h. then (way p) _ h λ s comes h. when (nat_eq s e.site) _ h λ here h.
    when (same_tag e.tag (record { node = 0; role = role.Plain })) _ h λ tag h. then (none_made e.made) _ h λ u made h. then (no_other e.other) _ h λ v other h.
    record {
      site = s;
      comes = way-is (x.place e.actor) p s there comes;
      is = done h;
      here = eqb-true s e.site here;
      other = none_other e.other v other;
      made = is-none e.made u made;
      tag = tag-is e.tag tag;
    }

step-arrive : (c : Config) (agent : Name) (site : ℕ) → map.get c.places agent ≡ Some (place.Way site)
    → apply c (arrival agent site) ≡ Some (effect c (arrival agent site) (record still { places = put agent (place.At site) ∷ [] }))
unfolding arrive_row
step-arrive c agent site is = rw (is, same_site site) refl

module _ (x y next : Config) (e : Event) (a : HasArrived x y) (free : IsFree x) (h : apply x e ≡ Some next) where
  abbrev s : RowStep x e next e.kind
  s = row-step x e next e.kind h

  same-atoms : (q : Name) → map.get x.atoms q ≡ map.get y.atoms q
  same-atoms q = ap (λ t. map.get t q) (sym a.atoms)

  -- what the event writes of an atom and of a packet, makes and says, it does in both
  arrived-in : (d : Change) (after : Config) → next ≡ effect x e d → after.sites ≡ y.sites → after.atoms ≡ written y.atoms d.atoms
      → after.packets ≡ written y.packets d.packets
      → after.born ≡ (effect y e d).born → after.said ≡ (effect y e d).said
      → ((q : Name) → map.get after.places q ≡ settled (map.get (written x.places d.places) q)) → HasArrived next after
  arrived-in d after is sites atoms packets born said places = rw (is) (record {
    sites = sites ∙ a.sites;
    places = places;
    atoms = atoms ∙ ap (λ t. written t d.atoms) a.atoms;
    packets = packets ∙ ap (λ t. written t d.packets) a.packets;
    born = born ∙ ap (λ b. with_made b e.made) a.born;
    said = said ∙ ap (λ l. with_said l e.site d.said) a.said;
  })

  came : (q : Name) (t : Bool) → same_name q e.actor ≡ t → (site : ℕ) → map.get x.places e.actor ≡ Some (place.Way site)
      → settled (map.get x.places q) ≡ settled (cond t (Some (place.At site)) (map.get x.places q))
  came q true same site comes = rw (same_name-is q e.actor same, comes) refl
  came q false same site comes = refl

  arrived-by : (site : ℕ) → next ≡ effect x e (record still { places = put e.actor (place.At site) ∷ [] }) → e.made ≡ made.Nothing
      → map.get x.places e.actor ≡ Some (place.Way site) → HasArrived next y
  arrived-by site is none comes = subst (λ c. HasArrived c y) (sym is) (record {
    sites = a.sites;
    places = λ q. a.places q ∙ came q (same_name q e.actor) refl site comes ∙ ap settled (sym (get-put x.places e.actor (place.At site) q));
    atoms = a.atoms;
    packets = a.packets;
    born = a.born ∙ ap (with_made x.born) (sym none);
    said = a.said;
  })

  -- an arrival
  arrive-segment : change kind.Arrive x.sites (inside x) e ≡ Some s.made → Segment y [] next
  arrive-segment met =
      let r = arrive-step (inside x) e s.made met in
      record {
        after = y;
        arrives = arrived-by r.site (s.is ∙ ap (effect x e) r.is) r.made r.comes;
        runs = λ rest. refl;
        departs = λ rest d. d;
      }

  -- an event of an atom is met in the second configuration too
  atom-too : (k : Kind) (at : Atom) → acting_in (sight x.sites (inside x) e.site) e ≡ Some at
      → act k (layer at.proc) (sight x.sites (inside x) e.site) e at ≡ Some s.made
      → (acting_in (sight y.sites (inside y) e.site) e >>= λ b. act k (layer b.proc) (sight y.sites (inside y) e.site) e b) ≡ Some s.made
  atom-too k at acts row =
      let far = no-local x e s.made at (free.atoms e.actor at (acting-step x e at acts).there) k row in
      subst (λ n. (acting_in (sight n (inside y) e.site) e >>= λ b. act k (layer b.proc) (sight n (inside y) e.site) e b) ≡ Some s.made) (sym a.sites)
      (rw (acts-too x.sites (inside x) (inside y) e same-atoms a.places at acts) (sym (act-same x.sites (inside x) (inside y) e same-atoms a.places at acts k (layer at.proc) far) ∙ row))

  applies-too : change e.kind y.sites (inside y) e ≡ Some s.made → apply y e ≡ Some (effect y e s.made)
  applies-too row = rw (row, ap (λ b. are_new b e.made) a.born ∙ s.new) refl

  -- an event that neither takes an agent away nor brings one
  plain-segment : (e.kind ≡ kind.Depart → ⊥) → change e.kind y.sites (inside y) e ≡ Some s.made
      → ((q : Name) → map.get (written y.places s.made.places) q ≡ settled (map.get (written x.places s.made.places) q)) → Segment y (e ∷ []) next
  plain-segment far row places = record {
    after = effect y e s.made;
    arrives = arrived-in s.made (effect y e s.made) s.is refl refl refl refl refl places;
    runs = λ rest. rw (applies-too row) refl;
    departs = λ rest d. ((λ is. absurd (far is)), λ z is. subst (λ c. DepartsArrive c rest) (sym (done (sym (applies-too row) ∙ is))) d);
  }

  no-places : s.made.places ≡ [] → (q : Name) → map.get (written y.places s.made.places) q ≡ settled (map.get (written x.places s.made.places) q)
  no-places none q = rw (none) (a.places q)

  new-places : (agent : Name) → s.made.places ≡ put agent (place.At e.site) ∷ [] → (q : Name)
      → map.get (written y.places s.made.places) q ≡ settled (map.get (written x.places s.made.places) q)
  new-places agent is q = rw (is, get-put y.places agent (place.At e.site) q, get-put x.places agent (place.At e.site) q)
      (pick-put (same_name q agent) e.site (map.get x.places q) (map.get y.places q) (a.places q))

  -- a departure, and the arrival behind it
  depart-segment : e.kind ≡ kind.Depart → (at : Atom) → acting_in (sight x.sites (inside x) e.site) e ≡ Some at
      → change e.kind y.sites (inside y) e ≡ Some s.made
      → (w : PutsWay x.sites (inside x) e s.made at.agent) → Segment y (e ∷ arrival_after x (apply x e) e) next
  depart-segment is at acts row w =
      let there : map.get x.atoms e.actor ≡ Some at = (acting-step x e at acts).there in
      let gone : (z : Config) → map.get (written z.places s.made.places) at.agent ≡ Some (place.Way w.site) = λ z. rw (w.is, get-put z.places at.agent (place.Way w.site) at.agent, same_name-itself at.agent) refl in
      let comes : map.get next.places at.agent ≡ Some (place.Way w.site) = ap (λ (c : Config). map.get c.places at.agent) s.is ∙ gone x in
      let list : arrival_after x (apply x e) e ≡ arrival at.agent w.site ∷ [] = rw (there, h, comes) refl in
      let mid : Config = effect y e s.made in
      let last : Config = effect mid (arrival at.agent w.site) (record still { places = put at.agent (place.At w.site) ∷ [] }) in
      let second : apply mid (arrival at.agent w.site) ≡ Some last = step-arrive mid at.agent w.site (gone y) in
      rw (list) (record {
        after = last;
        arrives = arrived-in s.made last s.is refl refl refl refl refl (λ q.
            rw (get-put mid.places at.agent (place.At w.site) q, w.is, get-put y.places at.agent (place.Way w.site) q, get-put x.places at.agent (place.Way w.site) q)
            (pick-way (same_name q at.agent) w.site (map.get x.places q) (map.get y.places q) (a.places q)));
        runs = λ rest. rw (applies-too row, second) refl;
        departs = λ rest d. (
          (λ is b found. (refl, ap (λ (a : Atom). a.agent) (sym (done (sym (sym (same-atoms e.actor) ∙ there) ∙ found))))),
          λ z first. subst (λ c. DepartsArrive c (arrival at.agent w.site ∷ rest)) (sym (done (sym (applies-too row) ∙ first)))
              ((λ (is : kind.Arrive ≡ kind.Depart). absurd cc), λ z next. subst (λ c. DepartsArrive c rest) (sym (done (sym second ∙ next))) d),
        );
      })

  landing : land_row (map.get x.packets e.actor) (sight x.sites (inside x) e.site) e ≡ Some s.made → ⊥
  unfolding land_row
  landing row = then (map.get x.packets e.actor) _ row λ p flies row. free.packets e.actor p flies

  segment-of : (k : Kind) → e.kind ≡ k → change k x.sites (inside x) e ≡ Some s.made → Segment y (in_place_of k x (apply x e) e) next
  segment-of kind.Arrive is row = arrive-segment row
  segment-of kind.Land is row = absurd (landing row)
  segment-of kind.Depart is row = then (acting_in (sight x.sites (inside x) e.site) e) _ row λ at acts row.
      depart-segment is at acts (subst (λ k. change k y.sites (inside y) e ≡ Some s.made) (sym is) (atom-too kind.Depart at acts row)) (depart-act x.sites (inside x) e s.made at row)
  segment-of kind.Agent is row = then (acting_in (sight x.sites (inside x) e.site) e) _ row λ at acts row.
      let n = agent-act x.sites (inside x) e s.made at row in
      plain-segment (λ depart. let no : kind.Agent ≡ kind.Depart = sym is ∙ depart in cc) (subst (λ k. change k y.sites (inside y) e ≡ Some s.made) (sym is) (atom-too kind.Agent at acts row)) (new-places n.agent n.is)
  segment-of k is row =
      let none : s.made.places ≡ [] = nothing-among s.made.places (traced x.sites (inside x) e s.made k row).own.places in
      then (acting_in (sight x.sites (inside x) e.site) e) _ row λ at acts row.
      plain-segment (λ depart. let no : k ≡ kind.Depart = sym is ∙ depart in cc) (subst (λ k. change k y.sites (inside y) e ≡ Some s.made) (sym is) (atom-too k at acts row)) (no-places none)

  segment : Segment y (in_place_of e.kind x (apply x e) e) next
  segment = segment-of e.kind refl s.gives

-- ---- the run

one-run : (es : List Event) (x y last : Config) → HasArrived x y → IsFree x → run x es ≡ Some last
    → (d : Config) × IsOneStepRun y (one_step x es) d × HasArrived last d
one-run [] x y last a free h = (y, record { runs = refl; one_step = tt }, subst (λ c. HasArrived c y) (sym (done h)) a)
one-run (e ∷ es) x y last a free h = then (apply x e) _ h λ next first h.
    let g = segment x y next e a free first in
    let r = one-run es next g.after last g.arrives (free-kept x next e free first) h in
    let list : one_step x (e ∷ es) ≡ in_place_of e.kind x (apply x e) e ++ one_step next es = ap (λ o. in_place_of e.kind x (apply x e) e ++ each_of o (λ d. one_step d es)) first in (
      r.0,
      record {
        runs = ap (run y) list ∙ g.runs (one_step next es) ∙ r.1.runs;
        one_step = subst (DepartsArrive y) (sym list) (g.departs (one_step next es) r.1.one_step);
      },
      r.2,
    )

abbrev nowhere : NameMap Place
nowhere = map.empty

abbrev no_atoms : NameMap Atom
no_atoms = map.empty

start-arrived : (p : Program) → HasArrived (start_high p) (start_high p)
unfolding start_high
start-arrived p = record {
  sites = refl;
  places = λ q. rw (get-put nowhere (main_agent (length p.sites)) (place.At p.at) q, get-none {X = Place} q) (pick-put (same_name q (main_agent (length p.sites))) p.at None None refl);
  atoms = refl;
  packets = refl;
  born = refl;
  said = refl;
}

start-free : (p : Program) → tests p.main ≡ [] → IsFree (start_high p)
unfolding start_high
start-free p none = record {
  atoms = λ m a is. ⊎_elim (λ first. subst Free (sym first.1) none) (λ (no : map.get no_atoms m ≡ Some a). absurd (let e = get-none {X = Atom} m in cc))
      (put_cases no_atoms (main_mark (length p.sites)) (first_atom (main_agent (length p.sites)) p.main) m a is);
  packets = λ m p is. let e = get-none {X = Packet} m in cc;
}

pub one-step-is-run : OneStepIsRun
one-step-is-run p events last none h = one-run events (start_high p) (start_high p) last (start-arrived p) (start-free p none) h

pub one-arrival : OneArrival
one-arrival c d e is h =
    let s = row-step c e d e.kind h in
    let r = arrive-step (inside c) e s.made (subst (λ k. change k c.sites (inside c) e ≡ Some s.made) is s.gives) in
    (r.site, r.comes, λ i. record { site = sym r.here i; kind = is i; actor = e.actor; other = r.other i; tag = r.tag i; made = r.made i })
