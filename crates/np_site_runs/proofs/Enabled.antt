-- Of which agent an event is that is enabled in what a site holds.
use Rattle.std.proofs.Common.{◌≡◌, ℕ, Bool, true, false, cond, ◌+◌, Some, IsSome, refl, ap, subst, ◌∙◌}
use Rattle.std.specs.FinMap as table
use Rattle.np_calculus.proofs.Common.{Change, Event, Kind, Name, NameMap, Proc, Sight, Value, acting_in, agent_of, bind, chan_of, eval}
use Rattle.np_calculus.proofs.Common.{act, away_row, here_row, layer, letter_of, no_other, none_made, offered_in, one_made, places_of, then, truth_of, two_made}
use Rattle.np_syntax.specs.declared.event.Kind.TheVariants as kind
use Rattle.np_syntax.specs.declared.event.Made.TheVariants as made
use Rattle.np_calculus.specs.declared.config.Atom.{Atom}
use Rattle.np_calculus.specs.Reductions.{site_in}
use Rattle.np_calculus.specs.Rows.{change_in, made_of}
use Rattle.np_calculus.proofs.Fits.{some}
use Rattle.np_calculus.proofs.Rows.{asked, parts}
use Rattle.np_calculus.proofs.Steps.{is-none, is-one, is-two, row-step}
use Rattle.np_site_runs.specs.Enabled.{EnabledIsOfAgent}
use Rattle.np_site_runs.specs.Going.{own_sight}
use Rattle.np_site_runs.specs.Holdings.{Holding, name_of}
use Rattle.np_site_runs.specs.Making.{AreNext}
use Rattle.np_site_runs.proofs.HoldingActs.{changed-here}

-- ---- what is met with some names is met with any

module _ (sites : ℕ) (atoms : NameMap Atom) (e : Event) (d : Change) (here : Bool) where
  abbrev w : Sight
  w = own_sight sites atoms here

  -- the same event with other names, where it may be told otherwise
  module _ (there : Bool) (first second : Name) where
    abbrev other : Kind → Event
    other k = record e { site = 0; made = made_of k there first second }

    abbrev v : Sight
    v = own_sight sites atoms there

    again : (k : Kind) (a : Atom) → acting_in w e ≡ Some a → (p : (asked k).Parts) → layer a.proc ≡ (asked k).form p → IsSome (act k ((asked k).form p) v (other k) a)
        → IsSome (change_in k v (other k))
    again k a acts p form is = rw (acts, form) is

    -- a location test goes on whether or not its agent is here
    either-way : (t : Bool) (a : Atom) (met unmet : Proc) (b n : Name) (x : Value) (m : Name)
        → IsSome (cond t (here_row (record e { site = 0; made = cond t (made.One m) made.Nothing }) a met b n x) (away_row (record e { site = 0; made = cond t (made.One m) made.Nothing }) a unmet))
    unfolding here_row away_row
    either-way true a met unmet b n x m = refl
    either-way false a met unmet b n x m = refl

    pub met-again : (k : Kind) → (k ≡ kind.Post → ⊥) → change_in k w e ≡ Some d → IsSome (change_in k v (other k))
    unfolding act
    met-again kind.Stop post h = then (acting_in w e) _ h λ a acts h. parts kind.Stop w e a h λ p form h.
        then (none_made e.made) _ h λ u made h. then (no_other e.other) _ h λ o none h. again kind.Stop a acts p form (rw none refl)
    met-again kind.Fork post h = then (acting_in w e) _ h λ a acts h. parts kind.Fork w e a h λ p form h.
        then (one_made e.made) _ h λ u made h. then (no_other e.other) _ h λ o none h. again kind.Fork a acts p form (rw none refl)
    met-again kind.New post h = then (acting_in w e) _ h λ a acts h. parts kind.New w e a h λ p form h.
        then (one_made e.made) _ h λ u made h. then (no_other e.other) _ h λ o none h. again kind.New a acts p form (rw none refl)
    met-again kind.Let post h = then (acting_in w e) _ h λ a acts h. parts kind.Let w e a h λ p form h. then (eval p.1 a.env) _ h λ x gives h. then (bind p.0 x a.env) _ h λ env binds h.
        then (none_made e.made) _ h λ u made h. then (no_other e.other) _ h λ o none h. again kind.Let a acts p form (rw (gives, binds, none) refl)
    met-again kind.If post h = then (acting_in w e) _ h λ a acts h. parts kind.If w e a h λ p form h. then (truth_of p.0 a.env) _ h λ t truth h.
        then (none_made e.made) _ h λ u made h. then (no_other e.other) _ h λ o none h. again kind.If a acts p form (rw (truth, none) refl)
    met-again kind.Comm post h = then (acting_in w e) _ h λ a acts h. parts kind.Comm w e a h λ p form h. then (chan_of p.0 a.env) _ h λ n on h. then e.other _ h λ o is h.
        then (offered_in (table.get atoms) o a.agent n) _ h λ x offer h. then (bind p.1 x a.env) _ h λ env binds h. again kind.Comm a acts p form (rw (on, is, offer, binds) refl)
    met-again kind.Rep post h = then (acting_in w e) _ h λ a acts h. parts kind.Rep w e a h λ p form h. then (chan_of p.0 a.env) _ h λ n on h. then e.other _ h λ o is h.
        then (offered_in (table.get atoms) o a.agent n) _ h λ x offer h. then (bind p.1 x a.env) _ h λ env binds h. again kind.Rep a acts p form (rw (on, is, offer, binds) refl)
    met-again kind.Agent post h = then (acting_in w e) _ h λ a acts h. parts kind.Agent w e a h λ p form h.
        then (two_made e.made) _ h λ u made h. then (no_other e.other) _ h λ o none h. again kind.Agent a acts p form (rw none refl)
    met-again kind.Depart post h = then (acting_in w e) _ h λ a acts h. parts kind.Depart w e a h λ p form h. then (site_in sites p.0 a.env) _ h λ t names h.
        then (none_made e.made) _ h λ u made h. then (no_other e.other) _ h λ o none h. again kind.Depart a acts p form (rw (names, none) refl)
    met-again kind.Arrive post h = then (acting_in w e) _ h λ a acts h. parts kind.Arrive w e a h λ p form h. absurd p
    met-again kind.Local post h = then (acting_in w e) _ h λ a acts h. parts kind.Local w e a h λ p form h. then (agent_of p.0 a.env) _ h λ b names h. then (chan_of p.1 a.env) _ h λ n on h.
        then (eval p.2 a.env) _ h λ x gives h. then (no_other e.other) _ h λ o none h. again kind.Local a acts p form (rw (names, on, gives, none) (either-way there a p.3 p.4 b n x first))
    met-again kind.Send post h = then (acting_in w e) _ h λ a acts h. parts kind.Send w e a h λ p form h. then (agent_of p.0 a.env) _ h λ b names h. then (site_in sites p.1 a.env) _ h λ t to h.
        then (chan_of p.2 a.env) _ h λ n on h. then (eval p.3 a.env) _ h λ x gives h. then (none_made e.made) _ h λ u made h. then (no_other e.other) _ h λ o none h.
        again kind.Send a acts p form (rw (names, to, on, gives, none) refl)
    met-again kind.Land post h = then (acting_in w e) _ h λ a acts h. parts kind.Land w e a h λ p form h. absurd p
    met-again kind.Print post h = then (acting_in w e) _ h λ a acts h. parts kind.Print w e a h λ p form h. then (eval p a.env) _ h λ x gives h.
        then (none_made e.made) _ h λ u made h. then (no_other e.other) _ h λ o none h. again kind.Print a acts p form (rw (gives, none) refl)
    met-again kind.Open post h = then (acting_in w e) _ h λ a acts h. parts kind.Open w e a h λ p form h. then (letter_of p a.env) _ h λ x letter h.
        then (none_made e.made) _ h λ u made h. then (no_other e.other) _ h λ o none h. again kind.Open a acts p form (rw (letter, none) refl)
    met-again kind.Lookup post h = then (acting_in w e) _ h λ a acts h. parts kind.Lookup w e a h λ p form h. then (agent_of p.0 a.env) _ h λ b names h.
        then (places_of p.1 a.env) _ h λ x among h. then (none_made e.made) _ h λ u made h. then (no_other e.other) _ h λ o none h. again kind.Lookup a acts p form (rw (names, among, none) refl)
    met-again kind.Post post h = absurd (post refl)

-- ---- the names that it makes

module _ (h : Holding) (sites : ℕ) (atoms : NameMap Atom) (e : Event) (d : Change) (here : Bool) (next : AreNext h e.made) where
  abbrev see : Sight
  see = own_sight sites atoms here

  one-named : (m : Name) → one_made e.made ≡ Some m → e.made ≡ made.One (name_of h.site h.next)
  one-named m is = let one = is-one e.made m is in let n : m ≡ name_of h.site h.next = subst (AreNext h) one next in one ∙ ap made.One n

  two-named : (m : Name × Name) → two_made e.made ≡ Some m → e.made ≡ made.Two (name_of h.site h.next) (name_of h.site (h.next + 1))
  two-named m is =
      let two = is-two e.made m is in
      let n : (m.0 ≡ name_of h.site h.next) × (m.1 ≡ name_of h.site (h.next + 1)) = subst (AreNext h) two next in
      two ∙ (λ i. made.Two (n.0 i) (n.1 i))

  told-named : (t : Bool) (a : Atom) (met unmet : Proc) (b n : Name) (x : Value) → cond t (here_row e a met b n x) (away_row e a unmet) ≡ Some d → e.made ≡ cond t (made.One (name_of h.site h.next)) made.Nothing
  unfolding here_row away_row
  told-named true a met unmet b n x h = then (one_made e.made) _ h λ m made h. one-named m made
  told-named false a met unmet b n x h = then (none_made e.made) _ h λ u made h. is-none e.made u made

  pub made-is : (k : Kind) → (k ≡ kind.Post → ⊥) → change_in k see e ≡ Some d → e.made ≡ made_of k here (name_of h.site h.next) (name_of h.site (h.next + 1))
  unfolding act
  made-is kind.Stop post h = then (acting_in see e) _ h λ a acts h. parts kind.Stop see e a h λ p form h. then (none_made e.made) _ h λ u made h. is-none e.made u made
  made-is kind.Fork post h = then (acting_in see e) _ h λ a acts h. parts kind.Fork see e a h λ p form h. then (one_made e.made) _ h λ m made h. one-named m made
  made-is kind.New post h = then (acting_in see e) _ h λ a acts h. parts kind.New see e a h λ p form h. then (one_made e.made) _ h λ m made h. one-named m made
  made-is kind.Let post h = then (acting_in see e) _ h λ a acts h. parts kind.Let see e a h λ p form h. then (eval p.1 a.env) _ h λ x gives h.
      then (bind p.0 x a.env) _ h λ env binds h. then (none_made e.made) _ h λ u made h. is-none e.made u made
  made-is kind.If post h = then (acting_in see e) _ h λ a acts h. parts kind.If see e a h λ p form h. then (truth_of p.0 a.env) _ h λ t truth h.
      then (none_made e.made) _ h λ u made h. is-none e.made u made
  made-is kind.Comm post h = then (acting_in see e) _ h λ a acts h. parts kind.Comm see e a h λ p form h. then (chan_of p.0 a.env) _ h λ n on h. then e.other _ h λ o is h.
      then (offered_in (table.get atoms) o a.agent n) _ h λ x offer h. then (bind p.1 x a.env) _ h λ env binds h. then (none_made e.made) _ h λ u made h. is-none e.made u made
  made-is kind.Rep post h = then (acting_in see e) _ h λ a acts h. parts kind.Rep see e a h λ p form h. then (chan_of p.0 a.env) _ h λ n on h. then e.other _ h λ o is h.
      then (offered_in (table.get atoms) o a.agent n) _ h λ x offer h. then (bind p.1 x a.env) _ h λ env binds h. then (none_made e.made) _ h λ u made h. is-none e.made u made
  made-is kind.Agent post h = then (acting_in see e) _ h λ a acts h. parts kind.Agent see e a h λ p form h. then (two_made e.made) _ h λ m made h. two-named m made
  made-is kind.Depart post h = then (acting_in see e) _ h λ a acts h. parts kind.Depart see e a h λ p form h. then (site_in sites p.0 a.env) _ h λ t names h.
      then (none_made e.made) _ h λ u made h. is-none e.made u made
  made-is kind.Arrive post h = then (acting_in see e) _ h λ a acts h. parts kind.Arrive see e a h λ p form h. absurd p
  made-is kind.Local post h = then (acting_in see e) _ h λ a acts h. parts kind.Local see e a h λ p form h. then (agent_of p.0 a.env) _ h λ b names h.
      then (chan_of p.1 a.env) _ h λ n on h. then (eval p.2 a.env) _ h λ x gives h. then (no_other e.other) _ h λ o none h. told-named here a p.3 p.4 b n x h
  made-is kind.Send post h = then (acting_in see e) _ h λ a acts h. parts kind.Send see e a h λ p form h. then (agent_of p.0 a.env) _ h λ b names h.
      then (site_in sites p.1 a.env) _ h λ t to h. then (chan_of p.2 a.env) _ h λ n on h. then (eval p.3 a.env) _ h λ x gives h. then (none_made e.made) _ h λ u made h. is-none e.made u made
  made-is kind.Land post h = then (acting_in see e) _ h λ a acts h. parts kind.Land see e a h λ p form h. absurd p
  made-is kind.Print post h = then (acting_in see e) _ h λ a acts h. parts kind.Print see e a h λ p form h. then (eval p a.env) _ h λ x gives h.
      then (none_made e.made) _ h λ u made h. is-none e.made u made
  made-is kind.Open post h = then (acting_in see e) _ h λ a acts h. parts kind.Open see e a h λ p form h. then (letter_of p a.env) _ h λ x letter h.
      then (none_made e.made) _ h λ u made h. is-none e.made u made
  made-is kind.Lookup post h = then (acting_in see e) _ h λ a acts h. parts kind.Lookup see e a h λ p form h. then (agent_of p.0 a.env) _ h λ b names h.
      then (places_of p.1 a.env) _ h λ x among h. then (none_made e.made) _ h λ u made h. is-none e.made u made
  made-is kind.Post post h = absurd (post refl)

pub enabled_is_of_agent : EnabledIsOfAgent
enabled_is_of_agent h c next e part post is =
    let s = row-step c e next e.kind is in
    let a = changed-here h c part e s.made e.kind s.gives in
    record {
      agent = a.agent;
      atoms = a.atoms;
      stands = a.stands;
      site = a.site;
      ready = λ there first second. met-again h.sites a.atoms e s.made a.here there first second e.kind post a.row;
      here = a.here;
      told = a.told;
      row = some _ s.made a.row;
      made = λ makes. made-is h h.sites a.atoms e s.made a.here makes e.kind post a.row;
    }
