-- An event of an agent's atoms is one of all that stands where the agent does, with the same change.
use Rattle.std.proofs.Common.{◌≡◌, ℕ, Bool, true, false, cond, ◌⊎◌, inl, inr, Option, None, Some, IsSome, IfSome, refl, sym, ap, subst, ◌∙◌}
use Rattle.std.specs.FinMap as map
use Rattle.np_calculus.proofs.Common.{Name, Value, Expr, Pat, ProcForm-F, Event, Kind, ◌>>=◌, ◌>>◌, need, then, when, done, same_name, same_name-is, same_name-itself, NameMap}
use Rattle.np_calculus.proofs.Common.{chan_of, agent_of, eval, bind, layer, Contents, Sight, sight, at_site, Change, same_tag, no_other, sends, offered_in}
use Rattle.np_calculus.proofs.Common.{acting_in, change, act, here_row, away_row}
use Rattle.np_syntax.specs.declared.event.Kind.TheVariants as kind
use Rattle.np_eval.specs.Eval.{Env}
use Rattle.np_calculus.specs.declared.config.Atom.{Atom}
use Rattle.np_calculus.specs.declared.config.Place.TheVariants as place
use Rattle.np_calculus.specs.FrameRule.{Every, Fits, IsMade, changed}
use Rattle.np_calculus.specs.Rows.{asked_of, change_in}
use Rattle.np_calculus.proofs.Fits.{fits}
use Rattle.np_calculus.proofs.Rows.{step, asked, by}
use Rattle.np_calculus.proofs.Steps.{same_site, offer-seen}
use Rattle.np_calculus.proofs.Writes.{agent-changed, every-map}
use Rattle.np_site_runs.specs.Going.{own_sight}
use Rattle.np_site_runs.proofs.Holds.{every-both}

-- ---- a row depends on little that is seen

module _ (w v : Sight) (e : Event) (a : Atom) (sites : w.sites ≡ v.sites) (same : (o n : Name) → offered_in w.atom o a.agent n ≡ offered_in v.atom o a.agent n) where
  taken : (c : Expr) (pat : Pat) (f : Name → Env → Option Change)
      → (chan_of c a.env >>= λ n. e.other >>= λ o. offered_in w.atom o a.agent n >>= λ x. bind pat x a.env >>= λ env. f o env)
      ≡ (chan_of c a.env >>= λ n. e.other >>= λ o. offered_in v.atom o a.agent n >>= λ x. bind pat x a.env >>= λ env. f o env)
  taken c pat f = step (chan_of c a.env) (chan_of c a.env) _ _ refl λ n on. step e.other e.other _ _ refl λ o other. ap (λ x. x >>= λ y. bind pat y a.env >>= λ env. f o env) (same o n)

  -- a location test asks for an agent
  abbrev Asks : (k : Kind) → (asked k).Parts → Name → Type 0
  Asks kind.Local p b = agent_of p.0 a.env ≡ Some b
  Asks _ p b = ⊥

  -- each row of a form
  same-form : (k : Kind) (p : (asked k).Parts) → ((b : Name) → Asks k p b → w.here b ≡ v.here b) → act k ((asked k).form p) w e a ≡ act k ((asked k).form p) v e a
  unfolding act
  same-form kind.Comm p here = taken p.0 p.1 _
  same-form kind.Rep p here = taken p.0 p.1 _
  same-form kind.Depart p here = ap (λ n. act kind.Depart (ProcForm-F.Migrate p.0 p.1) (record { sites = n; here = w.here; atom = w.atom }) e a) sites
  same-form kind.Send p here = ap (λ n. act kind.Send (ProcForm-F.Send p.0 p.1 p.2 p.3) (record { sites = n; here = w.here; atom = w.atom }) e a) sites
  same-form kind.Local p here =
      step (agent_of p.0 a.env) (agent_of p.0 a.env) _ _ refl λ agent names.
      ap (λ t. chan_of p.1 a.env >>= λ n. eval p.2 a.env >>= λ y. no_other e.other >> cond t (here_row e a p.3 agent n y) (away_row e a p.4)) (here agent names)
  same-form kind.Arrive p here = absurd p
  same-form kind.Land p here = absurd p
  same-form _ p here = refl

  asks-of : (k : Kind) (p : (asked k).Parts) → (asked k).parts (layer a.proc) ≡ Some p → (b : Name) → Asks k p b → asked_of a ≡ Some b
  asks-of kind.Local p is b h = ap (λ o. o >>= λ (b, c, x, met, unmet). agent_of b a.env) is ∙ h
  asks-of _ p is b h = absurd h

  same-act : (k : Kind) → ((b : Name) → asked_of a ≡ Some b → w.here b ≡ v.here b) → act k (layer a.proc) w e a ≡ act k (layer a.proc) v e a
  same-act k here =
      by k (layer a.proc) w e a
      ∙ step ((asked k).parts (layer a.proc)) ((asked k).parts (layer a.proc)) _ _ refl (λ p is. same-form k p (λ b h. here b (asks-of k p is b h)))
      ∙ sym (by k (layer a.proc) v e a)

-- an arrival and a landing are no events of an atom
module _ (w : Sight) (e : Event) (d : Change) where
  not-arrive : change_in kind.Arrive w e ≡ Some d → ⊥
  unfolding act
  not-arrive h = then (acting_in w e) _ h λ a acts h. let h : None ≡ Some d = sym (by kind.Arrive (layer a.proc) w e a) ∙ h in cc

  not-land : change_in kind.Land w e ≡ Some d → ⊥
  unfolding act
  not-land h = then (acting_in w e) _ h λ a acts h. let h : None ≡ Some d = sym (by kind.Land (layer a.proc) w e a) ∙ h in cc

-- ---- the agent's atoms among all

-- the agent stands at a site, and these are all its atoms
pub record Shows (x : Contents) (agent : Name) (atoms : NameMap Atom) (site : ℕ) : Type 0 where
  pub stands : x.place agent ≡ Some (place.At site)
  pub own : (m : Name) (a : Atom) → map.get atoms m ≡ Some a → a.agent ≡ agent
  pub has : (m : Name) (a : Atom) → map.get atoms m ≡ Some a → x.atom m ≡ Some a
  pub only : (m : Name) (a : Atom) → x.atom m ≡ Some a → a.agent ≡ agent → map.get atoms m ≡ Some a

-- it was told right whether the agent for which the acting atom asks is here
pub record IsTold (x : Contents) (atoms : NameMap Atom) (e : Event) (here : Bool) : Type 0 where
  pub each : (a : Atom) (b : Name) → map.get atoms e.actor ≡ Some a → asked_of a ≡ Some b → at_site (x.place b) e.site ≡ here

module _ (sites : ℕ) (x : Contents) (agent : Name) (atoms : NameMap Atom) (here : Bool) (e : Event) (shows : Shows x agent atoms e.site) where
  abbrev whole : Sight
  whole = sight sites x e.site

  at-site : (q : Name) → q ≡ agent → at_site (x.place q) e.site ≡ true
  at-site q is = ap (λ n. at_site (x.place n) e.site) is ∙ ap (λ o. at_site o e.site) shows.stands ∙ same_site e.site

  module _ (a : Atom) (acts : acting_in (own_sight sites atoms here) e ≡ Some a) where
    pub own-actor : map.get atoms e.actor ≡ Some a
    own-actor = then (map.get atoms e.actor) _ acts λ b is h. when (same_tag b.proc.tag e.tag) _ h λ tag h. is ∙ ap Some (sym (done h))

    tag : same_tag a.proc.tag e.tag ≡ true
    tag = then (map.get atoms e.actor) _ acts λ b is h. when (same_tag b.proc.tag e.tag) _ h λ t h. subst (λ (y : Atom). same_tag y.proc.tag e.tag ≡ true) (sym (done h)) t

    of-agent : a.agent ≡ agent
    of-agent = shows.own e.actor a own-actor

    acts-there : acting_in whole e ≡ Some a
    acts-there = rw (shows.has e.actor a own-actor, at-site a.agent of-agent, tag) refl

    -- what an atom of the whole offers in this agent is what one of its own does
    offers : (o n : Name) → offered_in whole.atom o a.agent n ≡ offered_in (map.get atoms) o a.agent n
    offers o n = offer-seen x sites e.site o a.agent n (at-site a.agent of-agent) ∙ by (map.get atoms o) refl (x.atom o) refl
      where
        rest : Atom → Option Value
        rest b = sends b >>= λ sent. need (same_name n sent.0) >> Some sent.1

        other : (t : Bool) (b : Atom) → same_name a.agent b.agent ≡ t → x.atom o ≡ Some b → map.get atoms o ≡ None → (need (same_name a.agent b.agent) >> rest b) ≡ None
        other true b is got gone = absurd (let y = sym gone ∙ shows.only o b got (sym (same_name-is a.agent b.agent is) ∙ of-agent) in cc)
        other false b is got gone = rw is refl

        by : (y : Option Atom) → map.get atoms o ≡ y → (z : Option Atom) → x.atom o ≡ z → offered_in x.atom o a.agent n ≡ offered_in (map.get atoms) o a.agent n
        by (Some b) is z got = rw (shows.has o b is, is) refl
        by None is None got = rw (got, is) refl
        by None is (Some b) got = rw (got, is) (other (same_name a.agent b.agent) b refl got is)

  -- where it was told right, it sees what stands there
  pub sees : IsTold x atoms e here → (k : Kind) (a : Atom) → acting_in (own_sight sites atoms here) e ≡ Some a
      → act k (layer a.proc) (sight sites x e.site) e a ≡ act k (layer a.proc) (own_sight sites atoms here) e a
  sees told k a acts = same-act whole (own_sight sites atoms here) e a refl (offers a acts) k (λ b asked. told.each a b (own-actor a acts) asked)

  module _ (told : IsTold x atoms e here) (d : Change) where
    pub shown : (k : Kind) → change_in k (own_sight sites atoms here) e ≡ Some d → change k sites x e ≡ Some d
    shown kind.Arrive h = absurd (not-arrive (own_sight sites atoms here) e d h)
    shown kind.Land h = absurd (not-land (own_sight sites atoms here) e d h)
    shown k h = then (acting_in (own_sight sites atoms here) e) _ h λ a acts h.
        rw (acts-there a acts) (sees told k a acts ∙ h)

-- ---- the agent alone

abbrev pub alone : Name → NameMap Atom → ℕ → Contents
alone agent atoms site = record { place = λ q. cond (same_name q agent) (Some (place.At site)) None; atom = map.get atoms; packet = λ m. None }

module _ (sites : ℕ) (agent : Name) (atoms : NameMap Atom) (e : Event) (own : (m : Name) (a : Atom) → map.get atoms m ≡ Some a → a.agent ≡ agent) where
  shows-alone : Shows (alone agent atoms e.site) agent atoms e.site
  shows-alone = record {
    stands = ap (λ t. cond t (Some (place.At e.site)) None) (same_name-itself agent);
    own = own;
    has = λ m a h. h;
    only = λ m a h of. h;
  }

  not-at : (b : Name) → (b ≡ agent → ⊥) → (t : Bool) → same_name b agent ≡ t → at_site (cond t (Some (place.At e.site)) None) e.site ≡ false
  not-at b far true is = absurd (far (same_name-is b agent is))
  not-at b far false is = refl

  -- the atoms that an event of the agent writes are the agent's, under its marks or new ones
  module _ (k : Kind) (of : e.kind ≡ k) (apart : k ≡ kind.Post → ⊥) (d : Change) (away : (a : Atom) (b : Name) → map.get atoms e.actor ≡ Some a → asked_of a ≡ Some b → b ≡ agent → ⊥) where
    module _ (h : change_in k (own_sight sites atoms false) e ≡ Some d) (places : Every (λ w. w.0 ≡ agent) d.places) where
      fit : Fits (alone agent atoms e.site) e d
      fit = fits sites (alone agent atoms e.site) e d (subst (λ k. change k sites (alone agent atoms e.site) e ≡ Some d) (sym of)
          (shown sites (alone agent atoms e.site) agent atoms false e shows-alone
          (record { each = λ a b is asks. not-at b (away a b is asks) (same_name b agent) refl }) d k h))

      mark-own : (q : Name) → (IsSome (map.get atoms q) ⊎ IsSome ((alone agent atoms e.site).packet q)) ⊎ IsMade e.made q → IsSome (map.get atoms q) ⊎ IsMade e.made q
      mark-own q (inl (inl is)) = inl is
      mark-own q (inl (inr is)) = absurd cc
      mark-own q (inr is) = inr is

      stands-alone : (q : Name) (t : Bool) → same_name q agent ≡ t → IsSome (cond t (Some (place.At e.site)) None) → q ≡ agent
      stands-alone q true is h = same_name-is q agent is
      stands-alone q false is h = absurd cc

      placed : (q : Name) → IsSome ((changed (alone agent atoms e.site) d).place q) → q ≡ agent
      placed = agent-changed (λ q. q ≡ agent) (λ q. Unit {0}) (alone agent atoms e.site) d
          (record { places = places; atoms = every-map _ _ (λ w f. tt) d.atoms fit.own.atoms; packets = every-map _ _ (λ w f. tt) d.packets fit.own.packets })
          (λ q. stands-alone q (same_name q agent) refl)

      of-it : (v : Option Atom) → IfSome v (λ a. IsSome ((changed (alone agent atoms e.site) d).place a.agent) ⊎ (e.kind ≡ kind.Post)) → IfSome v (λ a. a.agent ≡ agent)
      of-it None h = tt
      of-it (Some a) (inl h) = placed a.agent h
      of-it (Some a) (inr h) = absurd (apart (sym of ∙ h))

      pub own-writes : Every (λ w. (IsSome (map.get atoms w.0) ⊎ IsMade e.made w.0) × IfSome w.1 (λ a. a.agent ≡ agent)) d.atoms
      own-writes = every-both _ _ d.atoms (every-map _ _ (λ w. mark-own w.0) d.atoms fit.own.atoms) (every-map _ _ (λ w. of-it w.1) d.atoms fit.lodged)
