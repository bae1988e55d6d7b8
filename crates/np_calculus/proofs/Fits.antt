-- What holds of the change of each event, row by row.
use Rattle.std.proofs.Common.{◌≡◌, ℕ, Bool, true, false, cond, inl, inr, Option, None, Some, IsSome, nat_eq, [], ◌∷◌, refl, sym, subst, ◌∙◌}
use Rattle.std.proofs.lemmas.Bool.{eqb-true}
use Rattle.np_calculus.proofs.Common.{Name, Value, Proc, Event, Kind, Made, then, when, done, same_name, same_name-itself, chan_of, agent_of, truth_of}
use Rattle.np_calculus.proofs.Common.{letter_of, places_of, find_place, eval, bind, layer, Atom, Place, Contents, Sight, sight, at_site, Change, same_tag}
use Rattle.np_calculus.proofs.Common.{way, none_made, one_made, two_made, no_other, output_in, found_on, offered_in, acting_in, change, here_row, away_row}
use Rattle.np_calculus.proofs.Common.{act, arrive_row, land_row}
use Rattle.np_syntax.specs.declared.process.Role.TheVariants as role
use Rattle.np_syntax.specs.declared.event.Kind.TheVariants as kind
use Rattle.np_calculus.specs.declared.config.Place.TheVariants as place
use Rattle.np_calculus.specs.Changes.{put, cut, still}
use Rattle.np_calculus.specs.FrameRule.{Comes, Fits, IsMade}
use Rattle.np_calculus.specs.Parts.{IsMark}
use Rattle.np_calculus.specs.Reductions.{site_in}
use Rattle.np_calculus.proofs.Rows.{parts, so, lone, taking}
use Rattle.np_calculus.proofs.Steps.{at_site-is, is-one, is-two}

pub some : {X : Type 0} (o : Option X) (x : X) → o ≡ Some x → IsSome o
some o x h = rw h refl

pub makes-one : (x : Made) (m : Name) → one_made x ≡ Some m → IsMade x m
makes-one x m h = rw (is-one x m h) refl

pub makes-two : (x : Made) (m : Name × Name) → two_made x ≡ Some m → IsMade x m.0 × IsMade x m.1
makes-two x m h = rw (is-two x m h) (inl refl, inr refl)

-- an agent that is at a site has a place
pub has_place : (o : Option Place) (site : ℕ) → at_site o site ≡ true → IsSome o
has_place o site h = some o (place.At site) (at_site-is o site h)

-- an atom is seen at a site where it stands and its agent is there
pub record SeenAtom (x : Contents) (site : ℕ) (m : Name) (a : Atom) : Type 0 where
  pub there : x.atom m ≡ Some a
  pub here : at_site (x.place a.agent) site ≡ true

pub seen-at : (x : Contents) (sites site : ℕ) (m : Name) (a : Atom) → (sight sites x site).atom m ≡ Some a → SeenAtom x site m a
seen-at x sites site m a h = then (x.atom m) _ h λ b there h. when _ _ h λ here h. let same : a ≡ b = done h in rw same (record { there = there; here = here })

module _ (sites : ℕ) (x : Contents) (e : Event) where
  abbrev Fit : Change → Type 0
  Fit d = Fits x e d

  abbrev w : Sight
  w = sight sites x e.site

  pub actor-seen : (a : Atom) → acting_in w e ≡ Some a → SeenAtom x e.site e.actor a
  actor-seen a h = then (w.atom e.actor) _ h λ b there h. when _ _ h λ tag h. let same : a ≡ b = done h in rw same (seen-at x sites e.site e.actor b there)

  gives : (m agent chan : Name) (v : Value) → offered_in w.atom m agent chan ≡ Some v → IsMark x m
  gives m agent chan v h = then (w.atom m) _ h λ b there h. inl (some _ b (seen-at x sites e.site m b there).there)

  found-agent : (a : Atom) (y : ℕ) (p q : Proc) (o : Option Name) → (found_on a y p q o).agent ≡ a.agent
  found-agent a y p q (Some l) = refl
  found-agent a y p q None = refl

  put-place : (agent : Name) (p : Place) (o : Option Place) → IsSome (cond (same_name agent agent) (Some p) o)
  put-place agent p o = rw (same_name-itself agent) refl

  cond-place : (t : Bool) (p : Place) (o : Option Place) → IsSome o → IsSome (cond t (Some p) o)
  cond-place true p o h = refl
  cond-place false p o h = h

  module _ (d : Change) where
    module _ (a : Atom) (h : acting_in w e ≡ Some a) where
      there : IsMark x e.actor
      there = inl (some _ a (actor-seen a h).there)

      lodged : IsSome (x.place a.agent)
      lodged = has_place (x.place a.agent) e.site (actor-seen a h).here

      home : (b : Atom) → b.agent ≡ a.agent → IsSome (x.place b.agent)
      home b same = subst (λ agent. IsSome (x.place agent)) (sym same) lodged

      -- the actor goes on as an atom of its agent, alone
      on : (b : Atom) → b.agent ≡ a.agent → Fit (record still { atoms = put e.actor b ∷ [] })
      on b same = record { own = record { places = tt; atoms = (inl there, tt); packets = tt }; settled = tt; comes = tt; lodged = (inl (home b same), tt) }

      -- the actor is taken out
      out : (v : Option Value) → Fit (record still { atoms = cut e.actor ∷ []; said = v })
      out v = record { own = record { places = tt; atoms = (inl there, tt); packets = tt }; settled = tt; comes = tt; lodged = (tt, tt) }

      -- the actor goes on, and an atom of an agent that has a place stands under the mark that is made
      more : (m : Name) (n b : Atom) → IsMade e.made m → IsSome (x.place n.agent) → b.agent ≡ a.agent → Fit (record still { atoms = put m n ∷ put e.actor b ∷ [] })
      more m n b made lies same =
          record { own = record { places = tt; atoms = (inr made, (inl there, tt)); packets = tt }; settled = tt; comes = tt; lodged = (inl lies, (inl (home b same), tt)) }

      -- both ways of a location test
      tested : (t : Bool) (met unmet : Proc) (b n : Name) (v : Value) → (t ≡ true → IsSome (x.place b)) → cond t (here_row e a met b n v) (away_row e a unmet) ≡ Some d → Fit d
      unfolding here_row away_row
      tested true met unmet b n v lies h = then (one_made e.made) _ h λ m made h. so Fit e h (more m _ _ (makes-one e.made m made) (lies refl) refl)
      tested false met unmet b n v lies h = then (none_made e.made) _ h λ m made h. so Fit e h (on _ refl)

      fits-act : (k : Kind) → e.kind ≡ k → act k (layer a.proc) w e a ≡ Some d → Fit d
      unfolding act
      fits-act kind.Stop is h = parts kind.Stop w e a h λ p form h. lone Fit e h (out None)
      fits-act kind.Fork is h = parts kind.Fork w e a h λ p form h. then (one_made e.made) _ h λ m made h. then (no_other e.other) _ h λ l other h.
          so Fit e h (more m _ _ (makes-one e.made m made) lodged refl)
      fits-act kind.New is h = parts kind.New w e a h λ p form h. then (one_made e.made) _ h λ m made h. then (no_other e.other) _ h λ l other h. so Fit e h (on _ refl)
      fits-act kind.Let is h = parts kind.Let w e a h λ p form h. then (eval p.1 a.env) _ h λ v gives h. then (bind p.0 v a.env) _ h λ env binds h. lone Fit e h (on _ refl)
      fits-act kind.If is h = parts kind.If w e a h λ p form h. then (truth_of p.0 a.env) _ h λ t truth h. lone Fit e h (on _ refl)
      fits-act kind.Comm is h = parts kind.Comm w e a h λ p form h. taking w e a p.0 p.1 _ h λ n o v env on offer binds h.
          let taken = gives o a.agent n v offer in
          so Fit e h (record { own = record { places = tt; atoms = (inl there, (inl taken, tt)); packets = tt }; settled = tt; comes = tt; lodged = (inl lodged, (tt, tt)) })
      fits-act kind.Rep is h = parts kind.Rep w e a h λ p form h. taking w e a p.0 p.1 _ h λ n o v env on offer binds h.
          so Fit e h (record { own = record { places = tt; atoms = (inl (gives o a.agent n v offer), tt); packets = tt }; settled = tt; comes = tt; lodged = (inl lodged, tt) })
      fits-act kind.Agent is h = parts kind.Agent w e a h λ p form h. then (two_made e.made) _ h λ n made h. then (no_other e.other) _ h λ l other h.
          so Fit e h (record {
            own = record { places = (inr ((makes-two e.made n made).0), tt); atoms = (inr ((makes-two e.made n made).1), (inl there, tt)); packets = tt };
            settled = (refl, tt);
            comes = ((λ u at. let e : Some (place.At e.site) ≡ Some (place.At u) = at in cc), tt);
            lodged = (inl (put-place n.0 _ _), (inl (cond-place (same_name a.agent n.0) _ _ lodged), tt));
          })
      fits-act kind.Depart is h = parts kind.Depart w e a h λ p form h. then (site_in sites p.0 a.env) _ h λ t names h. lone Fit e h (record {
        own = record { places = (inl lodged, tt); atoms = (inl there, tt); packets = tt };
        settled = (refl, tt);
        comes = ((λ u at. absurd (let e : Some (place.Way t) ≡ Some (place.At u) = at in cc)), tt);
        lodged = (inl (put-place a.agent _ _), tt);
      })
      fits-act kind.Arrive is h = absurd cc
      fits-act kind.Local is h = parts kind.Local w e a h λ p form h. then (agent_of p.0 a.env) _ h λ b names h. then (chan_of p.1 a.env) _ h λ n along h.
          then (eval p.2 a.env) _ h λ v gives h. then (no_other e.other) _ h λ l other h.
          tested (at_site (x.place b) e.site) p.3 p.4 b n v (has_place (x.place b) e.site) h
      fits-act kind.Send is h = parts kind.Send w e a h λ p form h. then (agent_of p.0 a.env) _ h λ b names h. then (site_in sites p.1 a.env) _ h λ t goes_to h.
          then (chan_of p.2 a.env) _ h λ n along h. then (eval p.3 a.env) _ h λ v gives h.
          lone Fit e h (record { own = record { places = tt; atoms = (inl there, tt); packets = (inl there, tt) }; settled = tt; comes = tt; lodged = (tt, tt) })
      fits-act kind.Land is h = absurd cc
      fits-act kind.Print is h = parts kind.Print w e a h λ p form h. then (eval p a.env) _ h λ v gives h. lone Fit e h (out (Some v))
      fits-act kind.Open is h = parts kind.Open w e a h λ p form h. then (letter_of p a.env) _ h λ v gives h. lone Fit e h (on _ refl)
      fits-act kind.Lookup is h = parts kind.Lookup w e a h λ p form h. then (agent_of p.0 a.env) _ h λ b names h. then (places_of p.1 a.env) _ h λ ps among h.
          lone Fit e h (on _ (found-agent a p.2 p.3 p.4 (find_place ps b)))
      fits-act kind.Post is h = parts kind.Post w e a h λ p form h. then (agent_of p.0 a.env) _ h λ b names h. then (chan_of p.1 a.env) _ h λ n along h.
          then (eval p.2 a.env) _ h λ v gives h.
          lone Fit e h (record { own = record { places = tt; atoms = (inl there, tt); packets = tt }; settled = tt; comes = tt; lodged = (inr is, tt) })

    fits-arrive : arrive_row (x.place e.actor) e ≡ Some d → Fit d
    unfolding arrive_row
    fits-arrive h =
        then (x.place e.actor) _ h λ p there h. then (way p) _ h λ s comes h. when (nat_eq s e.site) _ h λ here h. when (same_tag e.tag (record { node = 0; role = role.Plain })) _ h λ tag h.
        lone Fit e h (record {
          own = record { places = (inl (some (x.place e.actor) p there), tt); atoms = tt; packets = tt };
          settled = (refl, tt);
          comes = ((λ u at. let same : u ≡ s = (let e : Some (place.At s) ≡ Some (place.At u) = at in cc) in same ∙ eqb-true s e.site here), tt);
          lodged = tt;
        })

    landed : (t : Bool) (b : Atom) → IsMark x e.actor → (t ≡ true → IsSome (x.place b.agent)) → Fit (record still { packets = cut e.actor ∷ []; atoms = cond t (put e.actor b ∷ []) [] })
    landed true b is lies = record { own = record { places = tt; atoms = (inl is, tt); packets = (inl is, tt) }; settled = tt; comes = tt; lodged = (inl (lies refl), tt) }
    landed false b is lies = record { own = record { places = tt; atoms = tt; packets = (inl is, tt) }; settled = tt; comes = tt; lodged = tt }

    fits-land : land_row (x.packet e.actor) w e ≡ Some d → Fit d
    unfolding land_row
    fits-land h =
        then (x.packet e.actor) _ h λ p flies h. when (nat_eq p.to e.site) _ h λ to h. when (same_tag p.tag e.tag) _ h λ tag h.
        lone Fit e h (landed (at_site (x.place p.agent) e.site) (output_in p.agent p.chan p.value e.tag) (inr (some _ p flies)) (has_place (x.place p.agent) e.site))

    fits-row : (k : Kind) → e.kind ≡ k → change k sites x e ≡ Some d → Fit d
    fits-row kind.Arrive is h = fits-arrive h
    fits-row kind.Land is h = fits-land h
    fits-row k is h = then (acting_in w e) _ h λ a acts h. fits-act a acts k is h

    -- the change of each event
    pub fits : change e.kind sites x e ≡ Some d → Fit d
    fits = fits-row e.kind refl

    -- what comes stands there
    comes : (k : Kind) → change k sites x e ≡ Some d → Comes k x e.actor
    unfolding arrive_row land_row
    comes kind.Arrive h = then (x.place e.actor) _ h λ p there h. some _ p there
    comes kind.Land h = then (x.packet e.actor) _ h λ p flies h. some _ p flies
    comes _ h = tt

    pub comes-in : change e.kind sites x e ≡ Some d → Comes e.kind x e.actor
    comes-in = comes e.kind
