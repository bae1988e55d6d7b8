-- What holds of the change of each event, row by row: what is written stands in what the event writes, the marks that it touches
-- stand there, and a value is said by a Print alone.
use Rattle.std.proofs.Common.{◌≡◌, ℕ, Bool, true, false, cond, ◌⊎◌, inl, inr, ⊎_elim, is_some, Option, None, Some, IsSome, nat_eq, List, [], ◌∷◌, refl, sym, subst}
use Rattle.np_calculus.proofs.Common.{Name, same_name, same_name-itself, Value, Expr, Pat, Proc, Event, Kind, Made, ◌>>=◌, ◌>>◌, then, when, chan_of, agent_of, truth_of, letter_of, places_of}
use Rattle.np_calculus.proofs.Common.{Env, eval, bind, layer, Contents, Sight, sight, at_site, Change, same_tag, way, none_made, one_made, two_made, no_other}
use Rattle.np_calculus.proofs.Common.{offered_in, acting_in, change, here_row, away_row, act, arrive_row, land_row, output_in}
use Rattle.np_syntax.specs.declared.process.Role.TheVariants as role
use Rattle.np_syntax.specs.declared.event.Kind.TheVariants as kind
use Rattle.np_syntax.specs.declared.event.Made.TheVariants as made
use Rattle.np_calculus.specs.declared.config.Atom.{Atom}
use Rattle.np_calculus.specs.declared.config.Packet.{Packet}
use Rattle.np_calculus.specs.declared.config.Place.{Place}
use Rattle.np_calculus.specs.Changes.{Write, put, cut, still}
use Rattle.np_calculus.specs.Footprints.{listed, touches}
use Rattle.np_calculus.specs.FrameRule.{Every, IsMade, Writes, changed}
use Rattle.np_calculus.specs.Parts.{IsMark}
use Rattle.np_calculus.specs.Reductions.{site_in}
use Rattle.np_calculus.proofs.Fits.{actor-seen, makes-one, seen-at, some, makes-two}
use Rattle.np_calculus.proofs.Rows.{parts, so}
use Rattle.np_calculus.proofs.Steps.{is-one, is-two}
use Rattle.np_calculus.proofs.Writes.{every-map, left-by}
use Rattle.run_views.specs.Past.{agent_of_atom, is_among, is_print, later_names, made_agent, made_names, names_of, writes}
use Rattle.run_views.proofs.Among.{among-first, among-later, among-left, among-right}

-- where no mark of an atom is that of a packet, and none that is made is, no mark is both after the event
pub record Apart (x : Contents) (e : Event) (d : Change) : Type 0 where
  pub after : ((q : Name) → IsSome (x.atom q) → x.packet q ≡ None) → ((q : Name) → IsMade e.made q → x.packet q ≡ None)
      → (q : Name) → IsSome ((changed x d).atom q) → (changed x d).packet q ≡ None

pub record Traced (k : Kind) (x : Contents) (e : Event) (d : Change) : Type 0 where
  pub own : Writes (λ q. is_among q (writes k x e).places ≡ true) (λ q. is_among q (writes k x e).marks ≡ true) d
  pub there : Every (IsMark x) (touches k x e).marks
  pub says : is_some d.said ≡ is_print k
  pub apart : Apart x e d

-- a Print makes no name and takes no output, and its actor's atom goes
pub record PrintCuts (x : Contents) (e : Event) (d : Change) : Type 0 where
  pub other : e.other ≡ None
  pub made : made_names e.made ≡ []
  pub stands : IsSome (x.atom e.actor)
  pub atom : (changed x d).atom e.actor ≡ None
  pub packet : (changed x d).packet e.actor ≡ x.packet e.actor

nothing : (m : Made) (u : Unit {0}) → none_made m ≡ Some u → made_names m ≡ []
nothing made.Nothing u h = refl
nothing _ u h = absurd cc

no-other : (o : Option Name) (u : Unit {0}) → no_other o ≡ Some u → o ≡ None
no-other None u h = refl
no-other (Some m) u h = absurd cc

-- the last steps of a row that makes no name and takes no output
lonely : {R : Type 0} (e : Event) {x y : Change} → (none_made e.made >> (no_other e.other >> Some y)) ≡ Some x → (e.other ≡ None → Some y ≡ Some x → R) → R
lonely e h f = then (none_made e.made) _ h λ u made h. then (no_other e.other) _ h λ v other h. f (no-other e.other v other) h

-- the steps of an input, which takes the output of a mark off its channel
takes : {R : Type 0} (w : Sight) (e : Event) (a : Atom) (c : Expr) (p : Pat) (f : Name → Env → Change) {x : Change}
    → (chan_of c a.env >>= λ n. e.other >>= λ o. offered_in w.atom o a.agent n >>= λ v. bind p v a.env >>= λ env. none_made e.made >> Some (f o env)) ≡ Some x
    → ((n o : Name) (v : Value) (env : Env) → e.other ≡ Some o → offered_in w.atom o a.agent n ≡ Some v → Some (f o env) ≡ Some x → R)
    → R
takes w e a c p f h r =
    then (chan_of c a.env) _ h λ n on h. then e.other _ h λ o other h. then (offered_in w.atom o a.agent n) _ h λ v offer h.
    then (bind p v a.env) _ h λ env binds h. then (none_made e.made) _ h λ u made h. r n o v env other offer h

module _ (e : Event) where
  other-later : (o : Name) → e.other ≡ Some o → is_among o (later_names e) ≡ true
  other-later o is = among-left o (listed e.other) _ (subst (λ z. is_among o (listed z) ≡ true) (sym is) (among-first o []))

  one-later : (m : Name) → one_made e.made ≡ Some m → is_among m (later_names e) ≡ true
  one-later m is = among-right m (listed e.other) _ (rw (is-one e.made m is) (among-first m []))

  second-later : (m : Name × Name) → two_made e.made ≡ Some m → is_among m.1 (later_names e) ≡ true
  second-later m is = among-right m.1 (listed e.other) _ (rw (is-two e.made m is) (among-later m.1 m.0 (m.1 ∷ []) (among-first m.1 [])))

  agent-made : (m : Name × Name) → two_made e.made ≡ Some m → is_among m.0 (made_agent e.made) ≡ true
  agent-made m is = rw (is-two e.made m is) (among-first m.0 [])

  later : (q : Name) → is_among q (later_names e) ≡ true → is_among q (names_of e) ≡ true
  later q h = among-later q e.actor _ h

  actor : is_among e.actor (names_of e) ≡ true
  actor = among-first e.actor _

module _ (sites : ℕ) (x : Contents) (e : Event) (d : Change) where
  abbrev w : Sight
  w = sight sites x e.site

  abbrev Tr : Kind → Change → Type 0
  Tr k d = Traced k x e d

  gives : (m agent chan : Name) (v : Value) → offered_in w.atom m agent chan ≡ Some v → IsSome (x.atom m)
  gives m agent chan v h = then (w.atom m) _ h λ b there h. some _ b (seen-at x sites e.site m b there).there

  -- an event that writes no packet, and only atoms that stand there or are made
  abbrev Stands : Name → Type 0
  Stands q = IsSome (x.atom q) ⊎ IsMade e.made q

  apart-by : (ps : List (Write Place)) (ws : List (Write Atom)) (v : Option Value) → Every (λ w. Stands w.0) ws
      → Apart x e (record { places = ps; atoms = ws; packets = []; said = v })
  apart-by ps ws v h = record {
    after = λ old made q. left-by (λ o. IsSome o → x.packet q ≡ None) ws q (x.atom q) (old q)
        (every-map (λ (w : Write Atom). Stands w.0) (λ w. q ≡ w.0 → IsSome w.1 → x.packet q ≡ None)
        (λ w stands same is. subst (λ n. x.packet n ≡ None) (sym same) (⊎_elim (old w.0) (made w.0) stands)) ws h);
  }

  sent : (t : Bool) (o : Option Atom) (p p' : Option Packet) → (IsSome o → p' ≡ None) → IsSome (cond t None o) → cond t p p' ≡ None
  sent true o p p' f is = absurd cc
  sent false o p p' f is = f is

  apart-send : (p : Packet) → Apart x e (record still { atoms = cut e.actor ∷ []; packets = put e.actor p ∷ [] })
  apart-send p = record { after = λ old made q. sent (same_name q e.actor) (x.atom q) (Some p) (x.packet q) (old q) }

  came : (t : Bool) (o o' : Option Atom) (p : Option Packet) → (IsSome o → p ≡ None) → IsSome (cond t o' o) → cond t None p ≡ None
  came true o o' p f is = refl
  came false o o' p f is = f is

  gone : (t : Bool) (o : Option Atom) (p : Option Packet) → (IsSome o → p ≡ None) → IsSome o → cond t None p ≡ None
  gone true o p f is = refl
  gone false o p f is = f is

  apart-land : (t : Bool) (b : Atom) → Apart x e (record still { packets = cut e.actor ∷ []; atoms = cond t (put e.actor b ∷ []) [] })
  apart-land true b = record { after = λ old made q. came (same_name q e.actor) (x.atom q) (Some b) (x.packet q) (old q) }
  apart-land false b = record { after = λ old made q. gone (same_name q e.actor) (x.atom q) (x.packet q) (old q) }

  module _ (a : Atom) (acts : acting_in w e ≡ Some a) where
    stands : IsSome (x.atom e.actor)
    stands = some _ a (actor-seen sites x e a acts).there

    there : IsMark x e.actor
    there = inl stands

    -- an event that takes no output touches its actor's mark, and one that takes an output also that
    alone : e.other ≡ None → Every (IsMark x) (e.actor ∷ listed e.other)
    alone is = (there, subst (λ o. Every (IsMark x) (listed o)) (sym is) tt)

    both : (o n : Name) (v : Value) → e.other ≡ Some o → offered_in w.atom o a.agent n ≡ Some v → Every (IsMark x) (e.actor ∷ listed e.other)
    both o n v is offer = (there, subst (λ o. Every (IsMark x) (listed o)) (sym is) (inl (gives o a.agent n v offer), tt))

    actor-of : a.agent ≡ a.agent → is_among a.agent (agent_of_atom (x.atom e.actor)) ≡ true
    actor-of u = subst (λ o. is_among a.agent (agent_of_atom o) ≡ true) (sym (actor-seen sites x e a acts).there) (among-first a.agent [])

    tested : (t : Bool) (met unmet : Proc) (b n : Name) (v : Value) → e.other ≡ None → cond t (here_row e a met b n v) (away_row e a unmet) ≡ Some d
        → Tr kind.Local d
    unfolding here_row away_row
    tested true met unmet b n v o h = then (one_made e.made) _ h λ m made h.
        so (Tr kind.Local) e h (record {
          own = record { places = tt; atoms = (later e m (one-later e m made), (actor e, tt)); packets = tt };
          there = alone o;
          says = refl;
          apart = apart-by _ _ _ (inr (makes-one e.made m made), (inl stands, tt));
        })
    tested false met unmet b n v o h = then (none_made e.made) _ h λ m made h.
        so (Tr kind.Local) e h (record { own = record { places = tt; atoms = (actor e, tt); packets = tt }; there = alone o; says = refl; apart = apart-by _ _ _ (inl stands, tt) })

    traced-act : (k : Kind) → act k (layer a.proc) w e a ≡ Some d → Tr k d
    unfolding act
    traced-act kind.Stop h = parts kind.Stop w e a h λ p form h. lonely e h λ o h.
        so (Tr kind.Stop) e h (record { own = record { places = tt; atoms = (actor e, tt); packets = tt }; there = alone o; says = refl; apart = apart-by _ _ _ (inl stands, tt) })
    traced-act kind.Fork h = parts kind.Fork w e a h λ p form h. then (one_made e.made) _ h λ m made h. then (no_other e.other) _ h λ l other h.
        so (Tr kind.Fork) e h (record {
          own = record { places = tt; atoms = (later e m (one-later e m made), (actor e, tt)); packets = tt };
          there = alone (no-other e.other l other);
          says = refl;
          apart = apart-by _ _ _ (inr (makes-one e.made m made), (inl stands, tt));
        })
    traced-act kind.New h = parts kind.New w e a h λ p form h. then (one_made e.made) _ h λ m made h. then (no_other e.other) _ h λ l other h.
        so (Tr kind.New) e h (record { own = record { places = tt; atoms = (actor e, tt); packets = tt }; there = alone (no-other e.other l other); says = refl; apart = apart-by _ _ _ (inl stands, tt) })
    traced-act kind.Let h = parts kind.Let w e a h λ p form h. then (eval p.1 a.env) _ h λ v gives h. then (bind p.0 v a.env) _ h λ env binds h. lonely e h λ o h.
        so (Tr kind.Let) e h (record { own = record { places = tt; atoms = (actor e, tt); packets = tt }; there = alone o; says = refl; apart = apart-by _ _ _ (inl stands, tt) })
    traced-act kind.If h = parts kind.If w e a h λ p form h. then (truth_of p.0 a.env) _ h λ t truth h. lonely e h λ o h.
        so (Tr kind.If) e h (record { own = record { places = tt; atoms = (actor e, tt); packets = tt }; there = alone o; says = refl; apart = apart-by _ _ _ (inl stands, tt) })
    traced-act kind.Comm h = parts kind.Comm w e a h λ p form h. takes w e a p.0 p.1 _ h λ n o v env other offer h.
        so (Tr kind.Comm) e h (record {
          own = record { places = tt; atoms = (actor e, (later e o (other-later e o other), tt)); packets = tt };
          there = both o n v other offer;
          says = refl;
          apart = apart-by _ _ _ (inl stands, (inl (gives o a.agent n v offer), tt));
        })
    traced-act kind.Rep h = parts kind.Rep w e a h λ p form h. takes w e a p.0 p.1 _ h λ n o v env other offer h.
        so (Tr kind.Rep) e h (record { own = record { places = tt; atoms = (other-later e o other, tt); packets = tt }; there = both o n v other offer; says = refl; apart = apart-by _ _ _ (inl (gives o a.agent n v offer), tt) })
    traced-act kind.Agent h = parts kind.Agent w e a h λ p form h. then (two_made e.made) _ h λ n made h. then (no_other e.other) _ h λ l other h.
        so (Tr kind.Agent) e h (record {
          own = record { places = (agent-made e n made, tt); atoms = (later e n.1 (second-later e n made), (actor e, tt)); packets = tt };
          there = alone (no-other e.other l other);
          says = refl;
          apart = apart-by _ _ _ (inr ((makes-two e.made n made).1), (inl stands, tt));
        })
    traced-act kind.Depart h = parts kind.Depart w e a h λ p form h. then (site_in sites p.0 a.env) _ h λ t names h. lonely e h λ o h.
        so (Tr kind.Depart) e h (record { own = record { places = (actor-of refl, tt); atoms = (actor e, tt); packets = tt }; there = alone o; says = refl; apart = apart-by _ _ _ (inl stands, tt) })
    traced-act kind.Arrive h = absurd cc
    traced-act kind.Local h = parts kind.Local w e a h λ p form h. then (agent_of p.0 a.env) _ h λ b names h. then (chan_of p.1 a.env) _ h λ n along h.
        then (eval p.2 a.env) _ h λ v gives h. then (no_other e.other) _ h λ l other h.
        tested (at_site (x.place b) e.site) p.3 p.4 b n v (no-other e.other l other) h
    traced-act kind.Send h = parts kind.Send w e a h λ p form h. then (agent_of p.0 a.env) _ h λ b names h. then (site_in sites p.1 a.env) _ h λ t goes_to h.
        then (chan_of p.2 a.env) _ h λ n along h. then (eval p.3 a.env) _ h λ v gives h. lonely e h λ o h.
        so (Tr kind.Send) e h (record { own = record { places = tt; atoms = (actor e, tt); packets = (actor e, tt) }; there = alone o; says = refl; apart = apart-send _ })
    traced-act kind.Land h = absurd cc
    traced-act kind.Print h = parts kind.Print w e a h λ p form h. then (eval p a.env) _ h λ v gives h. lonely e h λ o h.
        so (Tr kind.Print) e h (record { own = record { places = tt; atoms = (actor e, tt); packets = tt }; there = alone o; says = refl; apart = apart-by _ _ _ (inl stands, tt) })
    traced-act kind.Open h = parts kind.Open w e a h λ p form h. then (letter_of p a.env) _ h λ v gives h. lonely e h λ o h.
        so (Tr kind.Open) e h (record { own = record { places = tt; atoms = (actor e, tt); packets = tt }; there = alone o; says = refl; apart = apart-by _ _ _ (inl stands, tt) })
    traced-act kind.Lookup h = parts kind.Lookup w e a h λ p form h. then (agent_of p.0 a.env) _ h λ b names h. then (places_of p.1 a.env) _ h λ ps among h. lonely e h λ o h.
        so (Tr kind.Lookup) e h (record { own = record { places = tt; atoms = (actor e, tt); packets = tt }; there = alone o; says = refl; apart = apart-by _ _ _ (inl stands, tt) })
    traced-act kind.Post h = parts kind.Post w e a h λ p form h. then (agent_of p.0 a.env) _ h λ b names h. then (chan_of p.1 a.env) _ h λ n along h.
        then (eval p.2 a.env) _ h λ v gives h. lonely e h λ o h.
        so (Tr kind.Post) e h (record { own = record { places = tt; atoms = (actor e, tt); packets = tt }; there = alone o; says = refl; apart = apart-by _ _ _ (inl stands, tt) })

    prints-cuts : act kind.Print (layer a.proc) w e a ≡ Some d → PrintCuts x e d
    unfolding act
    prints-cuts h = parts kind.Print w e a h λ p form h. then (eval p a.env) _ h λ v gives h. then (none_made e.made) _ h λ u made h.
        then (no_other e.other) _ h λ l other h. so (PrintCuts x e) e h (record {
          other = no-other e.other l other;
          made = nothing e.made u made;
          stands = stands;
          atom = rw (same_name-itself e.actor) refl;
          packet = refl;
        })

  traced-arrive : arrive_row (x.place e.actor) e ≡ Some d → Tr kind.Arrive d
  unfolding arrive_row
  traced-arrive h =
      then (x.place e.actor) _ h λ p there h. then (way p) _ h λ s comes h. when (nat_eq s e.site) _ h λ here h.
      when (same_tag e.tag (record { node = 0; role = role.Plain })) _ h λ tag h. lonely e h λ o h.
      so (Tr kind.Arrive) e h (record { own = record { places = (among-first e.actor [], tt); atoms = tt; packets = tt }; there = tt; says = refl; apart = apart-by _ _ _ tt })

  landed : (t : Bool) (b : Atom) → IsMark x e.actor → Tr kind.Land (record still { packets = cut e.actor ∷ []; atoms = cond t (put e.actor b ∷ []) [] })
  landed true b is = record { own = record { places = tt; atoms = (actor e, tt); packets = (actor e, tt) }; there = (is, tt); says = refl; apart = apart-land true b }
  landed false b is = record { own = record { places = tt; atoms = tt; packets = (actor e, tt) }; there = (is, tt); says = refl; apart = apart-land false b }

  traced-land : land_row (x.packet e.actor) w e ≡ Some d → Tr kind.Land d
  unfolding land_row
  traced-land h =
      then (x.packet e.actor) _ h λ p flies h. when (nat_eq p.to e.site) _ h λ to h. when (same_tag p.tag e.tag) _ h λ tag h. lonely e h λ o h.
      so (Tr kind.Land) e h (landed (at_site (x.place p.agent) e.site) (output_in p.agent p.chan p.value e.tag) (inr (some _ p flies)))

  pub traced : (k : Kind) → change k sites x e ≡ Some d → Traced k x e d
  traced kind.Arrive h = traced-arrive h
  traced kind.Land h = traced-land h
  traced k h = then (acting_in w e) _ h λ a acts h. traced-act a acts k h

  pub print-cuts : change kind.Print sites x e ≡ Some d → PrintCuts x e d
  print-cuts h = then (acting_in w e) _ h λ a acts h. prints-cuts a acts h

  -- a landing takes no output
  pub land-alone : land_row (x.packet e.actor) w e ≡ Some d → e.other ≡ None
  unfolding land_row
  land-alone h = then (x.packet e.actor) _ h λ p flies h. when (nat_eq p.to e.site) _ h λ to h. when (same_tag p.tag e.tag) _ h λ tag h. lonely e h λ o h. o
