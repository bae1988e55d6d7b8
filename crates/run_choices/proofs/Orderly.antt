-- What holds along a run that is ours: which names are new, at which sites agents are, and what is left on the links.
use Rattle.std.proofs.Common.{◌≡◌, ℕ, ◌+◌, ◌<◌, ◌≤◌, Bool, true, false, cond, nat_eq, nat_lt}
use Rattle.std.proofs.Common.{List, [], ◌∷◌, ◌++◌, length, take, Option, None, Some, refl, sym, ap, subst, ◌∙◌, arith}
use Rattle.std.specs.Prelude.{IfSome}
use Rattle.std.proofs.Math.Seq.{take-append_seam}
use Rattle.std.proofs.lemmas.Bool.{eq-eqb, eqb-true}
use Rattle.std.proofs.lemmas.List.{append-nil, append_assoc}
use Rattle.std.specs.FinMap as map
use Rattle.std.specs.FinSet as set
use Rattle.np_syntax.specs.Options.{◌>>=◌}
use Rattle.np_syntax.proofs.Options.{done, none_of, then, when}
use Rattle.np_calculus.proofs.Common.{Name, Event, Kind, Made, NameSet, same_name, same_name-is, same_name-itself, Config, Contents, inside, Change}
use Rattle.np_calculus.proofs.Common.{apply, act, acting_in, change, layer, sight, Expr, Env, eval, out-Value, way}
use Rattle.np_syntax.specs.declared.event.Kind.TheVariants as kind
use Rattle.np_syntax.specs.declared.event.Made.TheVariants as made
use Rattle.np_tables.proofs.Tables.{born_insert}
use Rattle.np_calculus.specs.declared.config.Atom.{Atom}
use Rattle.np_calculus.specs.declared.config.Packet.{Packet}
use Rattle.np_calculus.specs.declared.config.Place.{Place}
use Rattle.np_calculus.specs.declared.config.Place.TheVariants as place
use Rattle.np_calculus.specs.Changes.{with_made}
use Rattle.np_calculus.specs.FrameRule.{Every, IsMade, changed, left_by}
use Rattle.np_calculus.specs.Parts.{AreBorn}
use Rattle.np_calculus.specs.Reductions.{run, site_in}
use Rattle.np_calculus.proofs.BornKept.{born-kept}
use Rattle.np_calculus.proofs.FrameRule.{made-unborn}
use Rattle.np_calculus.proofs.OwnNames.{not_true}
use Rattle.np_calculus.proofs.Rows.{lone, parts}
use Rattle.np_calculus.proofs.Steps.{RowStep, acting-step, row-step}
use Rattle.np_calculus.proofs.Writes.{every-map, inside-effect, left-by, left-is}
use Rattle.np_site_runs.proofs.Parts.{below}
use Rattle.np_serial.proofs.SerialEvents.{run-push}
use Rattle.run_views.specs.Laws.{HasSingleMarks}
use Rattle.run_views.proofs.Gone.{single-kept}
use Rattle.run_save.specs.declared.trips.Item.{Item}
use Rattle.run_save.specs.declared.trips.Item.TheVariants as item
use Rattle.run_save.specs.declared.trips.Trip.{Trip}
use Rattle.run_save.specs.Left.{link, names_made}
use Rattle.run_save.specs.Ours.{AreNext, GoesOn, IsOursFrom, TakesPutFirst, names_of}
use Rattle.run_save.specs.Travels.{IsFirstInFirstOut, Travels, departure, none_yet, puts, same_item, sending, takes as taken_now, travels, travels_on}
use Rattle.run_save.proofs.LinkLaws.{same_item-itself}
use Rattle.np_configuration.specs.Placed.{travels as under_way}
use Rattle.np_eval.specs.Eval.{as_site}
use Rattle.np_calculus.proofs.Fits.{some}
use Rattle.run_save.proofs.GoingOn.{ours-goes-on}
use Rattle.run_save.proofs.RunLaws.{order-whole, prefix-ours, travels-more}
use Rattle.run_save.proofs.following.Moving.{Arrives, Departs, IsSent, Lands, Moves, StaysHere, moves}
use Rattle.run_save.proofs.following.TravelNames.{count-here, count-there}
use Rattle.run_choices.specs.InTurn.{IsOwnStart, seat}
use Rattle.run_choices.proofs.Carried.{Carries, bound, heading, target, put-carries, still-carries, taken-carries}

abbrev trip_of : Item → ℕ → ℕ → Trip
trip_of x from to = record { item = x; link = link from to }

-- each agent is at a site of the program, or under way to one
abbrev pub AreHoused : Config → Type 0
AreHoused c = (agent : Name) (p : Place) → map.get c.places agent ≡ Some p → seat p < c.sites

pub record Orderly (start c : Config) (events : List Event) : Type 0 where
  pub sites : c.sites ≡ start.sites
  pub born : AreBorn c
  pub single : HasSingleMarks c
  pub housed : AreHoused c
  pub fresh : (q : Name) → (q.site ≡ c.sites → ⊥) → names_made events q.site ≤ q.n → set.contains c.born q ≡ false
  pub carries : Carries c (travels start events)

true-false : {b : Bool} → b ≡ true → b ≡ false → ⊥
true-false t f = cc

-- ---- new names

lacks-other : (born : NameSet) (m q : Name) → (q ≡ m → ⊥) → set.contains born q ≡ false → set.contains (set.insert born m) q ≡ false
lacks-other born m q apart h = rw (born_insert born m q, not_true _ (λ t. apart (same_name-is q m t))) h

-- a name of another site, or of a higher number, is not among the next names of a site
lacks-next : (born : NameSet) (s n : ℕ) (x : Made) (q : Name) → AreNext s n (names_of x) → (q.site ≡ s → n + length (names_of x) ≤ q.n) → set.contains born q ≡ false → set.contains (with_made born x) q ≡ false
lacks-next born s n made.Nothing q next above h = h
lacks-next born s n (made.One m) q next above h =
    lacks-other born m q (λ e. let is = e ∙ next.0 in let a = above (ap (λ (q : Name). q.site) is) in let b : q.n ≡ n = ap (λ (q : Name). q.n) is in absurd (omega (arith, a, b))) h
lacks-next born s n (made.Two m k) q next above h =
    lacks-other (set.insert born m) k q
    (λ e. let is = e ∙ next.1.0 in let a = above (ap (λ (q : Name). q.site) is) in let b : q.n ≡ n + 1 = ap (λ (q : Name). q.n) is in absurd (omega (arith, a, b)))
    (lacks-other born m q (λ e. let is = e ∙ next.0 in let a = above (ap (λ (q : Name). q.site) is) in let b : q.n ≡ n = ap (λ (q : Name). q.n) is in absurd (omega (arith, a, b))) h)

more-names : (events : List Event) (e : Event) (s : ℕ) → names_made events s ≤ names_made (events ++ e ∷ []) s
more-names events e s = at (nat_eq s e.site) refl
  where
    at : (b : Bool) → nat_eq s e.site ≡ b → names_made events s ≤ names_made (events ++ e ∷ []) s
    at true h = let same = eqb-true s e.site h in subst (λ z. names_made events z ≤ names_made (events ++ e ∷ []) z) (sym same) (omega (arith, count-here events e))
    at false h = omega (arith, count-there s events e (λ same. true-false (eq-eqb s e.site same) h))

-- ---- where agents are

site-below : (sites : ℕ) (x : Expr) (env : Env) (t : ℕ) → site_in sites x env ≡ Some t → t < sites
site-below sites x env t h = then (eval x env) _ h λ v gives h. then (as_site (out-Value v)) _ h λ s is h. when (nat_lt s sites) _ h λ less h.
    subst (λ n. n < sites) (sym (done h)) (below s sites less)

-- each place that is written is one of the program
abbrev Below : ℕ → Change → Type 0
Below sites d = Every (λ w. IfSome w.1 (λ p. seat p < sites)) d.places

module _ (c d : Config) (e : Event) (applies : apply c e ≡ Some d) (housed : AreHoused c) where
  abbrev row : RowStep c e d e.kind
  row = row-step c e d e.kind applies

  now-is : inside d ≡ changed (inside c) row.made
  now-is = ap inside row.is ∙ inside-effect c e row.made

  -- the site of an event of an atom is one of the program
  here-below : (a : Atom) → acting_in (sight c.sites (inside c) e.site) e ≡ Some a → e.site < c.sites
  here-below a acts = housed a.agent (place.At e.site) (acting-step c e a acts).stands

  departs-below : (m : Change) (a : Atom) → act kind.Depart (layer a.proc) (sight c.sites (inside c) e.site) e a ≡ Some m → Below c.sites m
  unfolding act
  departs-below m a h = parts kind.Depart (sight c.sites (inside c) e.site) e a h λ p form h. then (site_in c.sites p.0 a.env) _ h λ t names h.
      lone (Below c.sites) e h (site-below c.sites p.0 a.env t names, tt)

  written-below : (k : Kind) (m : Change) → change k c.sites (inside c) e ≡ Some m → Moves (inside c) e k m → Below c.sites m
  written-below kind.Arrive m gives t = subst (Every (λ w. IfSome w.1 (λ p. seat p < c.sites))) (sym t.places) (housed e.actor (place.Way e.site) t.comes, tt)
  written-below kind.Land m gives t = subst (Every (λ w. IfSome w.1 (λ p. seat p < c.sites))) (sym t.places) tt
  written-below kind.Send m gives t = subst (Every (λ w. IfSome w.1 (λ p. seat p < c.sites))) (sym t.places) tt
  written-below kind.Depart m gives t = then (acting_in (sight c.sites (inside c) e.site) e) _ gives λ a acts gives. departs-below m a gives
  written-below k m gives t = then (acting_in (sight c.sites (inside c) e.site) e) _ gives λ a acts gives.
      every-map _ _ (λ w is. subst (λ (o : Option Place). IfSome o (λ p. seat p < c.sites)) (sym is.1) (here-below a acts)) m.places t.places

  moved : Moves (inside c) e e.kind row.made
  moved = moves (inside c) e c.sites row.made e.kind row.gives

  place-now : (q : Name) → map.get d.places q ≡ left_by row.made.places q (map.get c.places q)
  place-now q = ap (λ (x : Contents). x.place q) now-is

  packet-now : (q : Name) → map.get d.packets q ≡ left_by row.made.packets q (map.get c.packets q)
  packet-now q = ap (λ (x : Contents). x.packet q) now-is

  atom-now : (q : Name) → map.get d.atoms q ≡ left_by row.made.atoms q (map.get c.atoms q)
  atom-now q = ap (λ (x : Contents). x.atom q) now-is

  sites-still : d.sites ≡ c.sites
  sites-still = ap (λ (x : Config). x.sites) row.is

  pub housed-kept : AreHoused d
  housed-kept q p there =
      subst (λ n. seat p < n) (sym sites-still)
      (left-is (λ p. seat p < c.sites) row.made.places q (map.get c.places q) (written-below e.kind row.made row.gives moved) (housed q) p (sym (place-now q) ∙ there))

  -- ---- what is under way

  module _ (born : AreBorn c) (single : HasSingleMarks c) (t : Travels) (carries : Carries c t) (order : IsFirstInFirstOut t) (takes : TakesPutFirst e.kind t e) where
    -- where these places and packets are written
    agent-still : (a : Name) → row.made.places ≡ [] → bound d (item.Agent a) ≡ bound c (item.Agent a)
    agent-still a none = ap heading (place-now a ∙ ap (λ ws. left_by ws a (map.get c.places a)) none)

    packet-still : (m : Name) → row.made.packets ≡ [] → bound d (item.Packet m) ≡ bound c (item.Packet m)
    packet-still m none = ap target (packet-now m ∙ ap (λ ws. left_by ws m (map.get c.packets m)) none)

    agent-put : (a : Name) (p : Place) → row.made.places ≡ (a, Some p) ∷ [] → (q : Name) (b : Bool) → same_name q a ≡ b → map.get d.places q ≡ cond b (Some p) (map.get c.places q)
    agent-put a p is q b same = place-now q ∙ ap (λ ws. left_by ws q (map.get c.places q)) is ∙ ap (λ b. cond b (Some p) (map.get c.places q)) same

    packet-put : (m : Name) (p : Option Packet) → row.made.packets ≡ (m, p) ∷ [] → (q : Name) (b : Bool) → same_name q m ≡ b → map.get d.packets q ≡ cond b p (map.get c.packets q)
    packet-put m p is q b same = packet-now q ∙ ap (λ ws. left_by ws q (map.get c.packets q)) is ∙ ap (λ b. cond b p (map.get c.packets q)) same

    other-name : (q a : Name) (x y : Name → Item) → ((n : Name) → same_item (x n) (y n) ≡ true) → same_item (x a) (y q) ≡ false → same_name q a ≡ false
    other-name q a x y same apart = not_true _ (λ t.
        let is = same_name-is q a t in
        let f : same_item (x a) (y q) ≡ true = subst (λ (n : Name). same_item (x a) (y n) ≡ true) (sym is) (same a) in
        let g = sym f ∙ apart in cc)

    departs : e.kind ≡ kind.Depart → Departs (inside c) e row.made → Carries d (puts t (departure d e))
    departs is m = subst (λ o. Carries d (puts t o)) (sym trip-is) (put-carries c d t trip order carries none goes others)
      where
        trip : Trip
        trip = record { item = item.Agent m.agent; link = link e.site m.to }

        here : map.get d.places m.agent ≡ Some (place.Way m.to)
        here = agent-put m.agent (place.Way m.to) m.places m.agent true (same_name-itself m.agent)

        atom : map.get d.atoms e.actor ≡ Some m.now
        atom =
            atom-now e.actor ∙ ap (λ ws. left_by ws e.actor (map.get c.atoms e.actor)) m.atoms
            ∙ ap (λ b. cond b (Some m.now) (map.get c.atoms e.actor)) (same_name-itself e.actor)

        trip-is : departure d e ≡ Some trip
        trip-is =
            ap (λ (o : Option Atom). o >>= λ a. map.get d.places a.agent >>= λ p. way p >>= λ to. Some (trip_of (item.Agent a.agent) e.site to)) atom
            ∙ ap (λ (a : Name). map.get d.places a >>= λ p. way p >>= λ to. Some (trip_of (item.Agent a) e.site to)) m.of
            ∙ ap (λ (o : Option Place). o >>= λ p. way p >>= λ to. Some (trip_of (item.Agent m.agent) e.site to)) here

        none : bound c (item.Agent m.agent) ≡ None
        none = ap heading m.stands

        goes : bound d (item.Agent m.agent) ≡ Some m.to
        goes = ap heading here

        others : (x : Item) → same_item (item.Agent m.agent) x ≡ false → bound d x ≡ bound c x
        others (item.Agent q) apart = ap heading (agent-put m.agent (place.Way m.to) m.places q false (other-name q m.agent item.Agent item.Agent (λ n. same_item-itself (item.Agent n)) apart))
        others (item.Packet q) apart = packet-still q m.packets

    sends : e.kind ≡ kind.Send → IsSent (inside c) e row.made → Carries d (puts t (sending d e))
    sends is m = subst (λ o. Carries d (puts t o)) (sym trip-is) (put-carries c d t trip order carries none goes others)
      where
        trip : Trip
        trip = record { item = item.Packet e.actor; link = link e.site m.packet.to }

        here : map.get d.packets e.actor ≡ Some m.packet
        here = packet-put e.actor (Some m.packet) m.packets e.actor true (same_name-itself e.actor)

        trip-is : sending d e ≡ Some trip
        trip-is = ap (λ (o : Option Packet). o >>= λ p. Some (trip_of (item.Packet e.actor) e.site p.to)) here

        none : bound c (item.Packet e.actor) ≡ None
        none = ap target (single.each e.actor (some (map.get c.atoms e.actor) m.atom m.there))

        goes : bound d (item.Packet e.actor) ≡ Some m.packet.to
        goes = ap target here

        others : (x : Item) → same_item (item.Packet e.actor) x ≡ false → bound d x ≡ bound c x
        others (item.Agent q) apart = agent-still q m.places
        others (item.Packet q) apart =
            ap target (packet-put e.actor (Some m.packet) m.packets q false (other-name q e.actor item.Packet item.Packet (λ n. same_item-itself (item.Packet n)) apart))

    arrives : e.kind ≡ kind.Arrive → Arrives (inside c) e row.made → Carries d (taken_now t (item.Agent e.actor) e.site)
    arrives is m = taken-carries c d t (item.Agent e.actor) e.site order carries (subst (λ (k : Kind). TakesPutFirst k t e) is takes) now others
      where
        now : bound d (item.Agent e.actor) ≡ None
        now = ap heading (agent-put e.actor (place.At e.site) m.places e.actor true (same_name-itself e.actor))

        others : (x : Item) → same_item (item.Agent e.actor) x ≡ false → bound d x ≡ bound c x
        others (item.Agent q) apart = ap heading (agent-put e.actor (place.At e.site) m.places q false (other-name q e.actor item.Agent item.Agent (λ n. same_item-itself (item.Agent n)) apart))
        others (item.Packet q) apart = packet-still q m.packets

    lands : e.kind ≡ kind.Land → Lands (inside c) e row.made → Carries d (taken_now t (item.Packet e.actor) e.site)
    lands is m = taken-carries c d t (item.Packet e.actor) e.site order carries (subst (λ (k : Kind). TakesPutFirst k t e) is takes) now others
      where
        now : bound d (item.Packet e.actor) ≡ None
        now = ap target (packet-put e.actor None m.packets e.actor true (same_name-itself e.actor))

        others : (x : Item) → same_item (item.Packet e.actor) x ≡ false → bound d x ≡ bound c x
        others (item.Agent q) apart = agent-still q m.places
        others (item.Packet q) apart =
            ap target (packet-put e.actor None m.packets q false (other-name q e.actor item.Packet item.Packet (λ n. same_item-itself (item.Packet n)) apart))

    -- an agent that is made was not under way, and is at a site
    inner : StaysHere (inside c) e row.made → Carries d t
    inner m = still-carries c d t same carries
      where
        unborn : (q : Name) → IsMade e.made q → map.get c.places q ≡ None
        unborn q is = none_of (map.get c.places q) (λ there. true-false (born.agents q there) (made-unborn c.born e.made q row.new is))

        same : (x : Item) → bound d x ≡ bound c x
        same (item.Packet q) = packet-still q m.packets
        same (item.Agent q) =
            ap heading (place-now q)
            ∙ left-by (λ o. heading o ≡ heading (map.get c.places q)) row.made.places q (map.get c.places q) refl
            (every-map _ _ (λ w is same. ap heading is.1 ∙ sym (ap heading (unborn q (subst (IsMade e.made) (sym same) is.0)))) row.made.places m.places)

    carried-by : (k : Kind) → e.kind ≡ k → Moves (inside c) e k row.made → Carries d (travels_on k t d e)
    carried-by kind.Depart is m = departs is m
    carried-by kind.Send is m = sends is m
    carried-by kind.Arrive is m = arrives is m
    carried-by kind.Land is m = lands is m
    carried-by k is m = inner m

    pub carried : Carries d (travels_on e.kind t d e)
    carried = carried-by e.kind refl moved

-- ---- one event more, and a whole run

pub goes-behind : (start c d : Config) (events : List Event) (e : Event) → run start events ≡ Some c → apply c e ≡ Some d → IsOursFrom start (events ++ e ∷ [])
    → IsOursFrom start events × GoesOn start events e
goes-behind start c d events e reaches applies ours =
    let before : IsOursFrom start events = subst (IsOursFrom start) (take-append_seam events (e ∷ [])) (prefix-ours start (events ++ e ∷ []) (length events) ours) in
    (before, (ours-goes-on start c d events e reaches applies before).0 ours)

births : (c : Config) (e : Event) (d : Config) → apply c e ≡ Some d → d.born ≡ with_made c.born e.made
births c e d h = ap (λ (x : Config). x.born) (row-step c e d e.kind h).is

one-more : (start c d : Config) (events : List Event) (e : Event) → Orderly start c events → run start events ≡ Some c → apply c e ≡ Some d → IsOursFrom start (events ++ e ∷ [])
    → Orderly start d (events ++ e ∷ [])
one-more start c d events e o reaches applies ours =
    let g = goes-behind start c d events e reaches applies ours in
    let sites : d.sites ≡ c.sites = sites-still c d e applies o.housed in
    record {
      sites = sites ∙ o.sites;
      born = born-kept c d e o.born applies;
      single = single-kept c d e applies o.born o.single;
      housed = housed-kept c d e applies o.housed;
      fresh = λ q apart above.
          rw (births c e d applies)
          (lacks-next c.born e.site (names_made events e.site) e.made q (g.1).names
          (λ here. let a = subst (λ s. names_made (events ++ e ∷ []) s ≤ q.n) here above in omega (arith, a, count-here events e))
          (o.fresh q (λ is. apart (is ∙ sym sites)) (let a = above in omega (arith, a, more-names events e q.site))));
      carries = subst (Carries d) (sym (travels-more none_yet start events e c d reaches applies))
          (carried c d e applies o.housed o.born o.single (travels start events) o.carries (order-whole start events (g.0).order) (g.1).takes);
    }

pub starts-orderly : (start : Config) → IsOwnStart start → Orderly start start []
starts-orderly start own = record {
  sites = refl;
  born = own.born;
  single = own.single;
  housed = own.housed;
  fresh = λ q apart above. own.fresh.each q apart (omega arith);
  carries = record {
    way = λ x to b. absurd (none-bound x to b);
    there = λ l x i. absurd i;
    once = λ l. tt;
  };
}
  where
    no-way : (o : Option Place) → under_way o ≡ false → heading o ≡ None
    no-way None h = refl
    no-way (Some (place.At s)) h = refl
    no-way (Some (place.Way s)) h = absurd cc

    none-bound : (x : Item) (to : ℕ) → bound start x ≡ Some to → ⊥
    none-bound (item.Agent a) to b = let n = no-way (map.get start.places a) (own.marks.places a) in let e : Some to ≡ None = sym b ∙ n in cc
    none-bound (item.Packet m) to b = let n : bound start (item.Packet m) ≡ None = ap target (own.marks.packets m) in let e : Some to ≡ None = sym b ∙ n in cc

along : (start : Config) (events made : List Event) (c last : Config) → Orderly start c made → run start made ≡ Some c → run c events ≡ Some last → IsOursFrom start (made ++ events)
    → Orderly start last (made ++ events)
along start [] made c last o reached h ours =
    let same : c ≡ last = sym (done h) in
    let whole : made ≡ made ++ [] = sym (append-nil made) in
    subst (λ (es : List Event). Orderly start last es) whole (subst (λ (x : Config). Orderly start x made) same o)
along start (e ∷ es) made c last o reached h ours = then (apply c e) _ h λ d applies rest.
    let both : (made ++ e ∷ []) ++ es ≡ made ++ e ∷ es = append_assoc made (e ∷ []) es in
    let first : IsOursFrom start (made ++ e ∷ []) =
    subst (IsOursFrom start) (ap (take (length (made ++ e ∷ []))) (sym both) ∙ take-append_seam (made ++ e ∷ []) es) (prefix-ours start (made ++ e ∷ es) (length (made ++ e ∷ [])) ours) in
    subst (λ (xs : List Event). Orderly start last xs) both
    (along start es (made ++ e ∷ []) d last (one-more start c d made e o reached applies first) (run-push start made e c d reached applies) rest (subst (IsOursFrom start) (sym both) ours))

-- so it is where a run that is ours leads
pub orderly : (start c : Config) (events : List Event) → IsOwnStart start → run start events ≡ Some c → IsOursFrom start events → Orderly start c events
orderly start c events own reaches ours = along start events [] start c (starts-orderly start own) refl reaches ours
