-- What the rows that put something out, or tell an agent something, or make an agent say of their change.
use Rattle.std.proofs.Common.{◌≡◌, true, cond, [], ◌∷◌, Some, refl, sym, ap, ◌∙◌}
use Rattle.np_calculus.proofs.Common.{Change, Event, Name, Sight, ◌>>=◌, acting_in, agent_of, chan_of, done, eval, no_other, none_made, one_made, output_in, same_tag, then, two_made, when}
use Rattle.np_calculus.proofs.Common.{act, away_row, here_row}
use Rattle.np_syntax.specs.declared.event.Kind.TheVariants as kind
use Rattle.np_syntax.specs.declared.event.Made.TheVariants as made
use Rattle.np_calculus.specs.declared.config.Atom.{Atom}
use Rattle.np_calculus.specs.declared.config.Place.TheVariants as place
use Rattle.np_calculus.specs.Changes.{cut, put}
use Rattle.np_eval.specs.FormParts.{as_iflocal}
use Rattle.np_calculus.specs.Reductions.{site_in}
use Rattle.np_calculus.specs.Rows.{asked_of, change_in}
use Rattle.np_calculus.proofs.Rows.{parts}
use Rattle.np_calculus.proofs.Steps.{is-none, is-one, is-two}

module _ (w : Sight) (e : Event) where
  pub actor-there : (a : Atom) → acting_in w e ≡ Some a → w.atom e.actor ≡ Some a
  actor-there a h = then (w.atom e.actor) _ h λ b is h. when (same_tag b.proc.tag e.tag) _ h λ tag h. is ∙ ap Some (sym (done h))

  module _ (d : Change) where
    -- a message: the acting atom goes
    pub record Sent : Type 0 where
      pub atom : Atom
      pub there : w.atom e.actor ≡ Some atom
      pub atoms : d.atoms ≡ cut e.actor ∷ []
      pub none : e.made ≡ made.Nothing

    pub sent : change_in kind.Send w e ≡ Some d → Sent
    unfolding act
    sent h = then (acting_in w e) _ h λ a acts h. parts kind.Send w e a h λ p form h. then (agent_of p.0 a.env) _ h λ b names h. then (site_in w.sites p.1 a.env) _ h λ t to h.
        then (chan_of p.2 a.env) _ h λ n along h. then (eval p.3 a.env) _ h λ v gives h. then (none_made e.made) _ h λ u made h. then (no_other e.other) _ h λ l other h.
        record { atom = a; there = actor-there a acts; atoms = ap (λ (d : Change). d.atoms) (done h); none = is-none e.made u made }

    -- the acting atom goes on as another one of its agent
    pub record Onward : Type 0 where
      pub atom : Atom
      pub there : w.atom e.actor ≡ Some atom
      pub now : Atom
      pub of : now.agent ≡ atom.agent

    -- a migration
    pub record Departed : Type 0 where
      pub on : Onward
      pub atoms : d.atoms ≡ put e.actor on.now ∷ []
      pub none : e.made ≡ made.Nothing

    pub departed : change_in kind.Depart w e ≡ Some d → Departed
    unfolding act
    departed h = then (acting_in w e) _ h λ a acts h. parts kind.Depart w e a h λ p form h. then (site_in w.sites p.0 a.env) _ h λ t to h.
        then (none_made e.made) _ h λ u made h. then (no_other e.other) _ h λ l other h.
        record {
          on = record { atom = a; there = actor-there a acts; now = _; of = refl };
          atoms = ap (λ (d : Change). d.atoms) (done h);
          none = is-none e.made u made;
        }

    -- the making of an agent
    pub record Born : Type 0 where
      pub on : Onward
      pub child : Name
      pub mark : Name
      pub first : Atom
      pub of_child : first.agent ≡ child
      pub places : d.places ≡ put child (place.At e.site) ∷ []
      pub atoms : d.atoms ≡ put mark first ∷ put e.actor on.now ∷ []
      pub two : e.made ≡ made.Two child mark

    pub born : change_in kind.Agent w e ≡ Some d → Born
    unfolding act
    born h = then (acting_in w e) _ h λ a acts h. parts kind.Agent w e a h λ p form h. then (two_made e.made) _ h λ n made h. then (no_other e.other) _ h λ l other h.
        record {
          on = record { atom = a; there = actor-there a acts; now = _; of = refl };
          child = n.0;
          mark = n.1;
          first = _;
          of_child = refl;
          places = ap (λ (d : Change). d.places) (done h);
          atoms = ap (λ (d : Change). d.atoms) (done h);
          two = is-two e.made n made;
        }

    -- a location test that finds its agent
    pub record Told : Type 0 where
      pub on : Onward
      pub agent : Name
      pub asks : asked_of on.atom ≡ Some agent
      pub mark : Name
      pub output : Atom
      pub of_agent : output.agent ≡ agent
      pub atoms : d.atoms ≡ put mark output ∷ put e.actor on.now ∷ []
      pub one : e.made ≡ made.One mark

    pub told : ((q : Name) → w.here q ≡ true) → change_in kind.Local w e ≡ Some d → Told
    unfolding act here_row
    told here h = then (acting_in w e) _ h λ a acts h. parts kind.Local w e a h λ p form h. then (agent_of p.0 a.env) _ h λ b names h. then (chan_of p.1 a.env) _ h λ n along h.
        then (eval p.2 a.env) _ h λ v gives h. then (no_other e.other) _ h λ l other h.
        let h : here_row e a p.3 b n v ≡ Some d = ap (λ t. cond t (here_row e a p.3 b n v) (away_row e a p.4)) (sym (here b)) ∙ h in
        then (one_made e.made) _ h λ m made h.
        record {
          on = record { atom = a; there = actor-there a acts; now = _; of = refl };
          agent = b;
          asks = ap (λ l. as_iflocal l >>= λ (agent, c, v, met, unmet). agent_of agent a.env) form ∙ names;
          mark = m;
          output = output_in b n v e.tag;
          of_agent = refl;
          atoms = ap (λ (d : Change). d.atoms) (done h);
          one = is-one e.made m made;
        }
