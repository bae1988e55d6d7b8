-- An event of an agent is one of each configuration that shows it.
use Rattle.std.proofs.Common.{◌≡◌, Bool, true, false, cond, Option, None, Some, refl, sym, ap, subst, ◌∙◌}
use Rattle.std.specs.FinMap as map
use Rattle.np_calculus.proofs.Common.{Name, Value, Expr, Pat, ProcForm-F, Event, Kind, ◌>>=◌, ◌>>◌, need, then, when, done, same_name, same_name-is, chan_of, agent_of, eval, bind}
use Rattle.np_calculus.proofs.Common.{Layer, layer, Config, Sight, inside, sight, at_site, Change, same_tag, no_other, sends, offered_in, acting_in, change, act, here_row, away_row}
use Rattle.np_syntax.specs.declared.event.Kind.TheVariants as kind
use Rattle.np_eval.specs.Eval.{Env}
use Rattle.np_calculus.specs.declared.config.Atom.{Atom}
use Rattle.np_eval.proofs.FormsByParts as form
use Rattle.np_calculus.proofs.Rows.{step, asked, by}
use Rattle.np_calculus.proofs.Steps.{same_site, offer-seen}
use Rattle.np_code.specs.Programs.{ProgramTable}
use Rattle.agent_pool.specs.Pools.{Pool, atoms_of}
use Rattle.agent_pool.specs.Rows.{own_sight}
use Rattle.agent_pool.proofs.Maps.{own-agent}
use Rattle.agent_pool.specs.Shown.{Shows, asked_at, ChangesTheWhole}

-- ---- a row depends on little that is seen

module _ (w v : Sight) (e : Event) (a : Atom) (sites : w.sites ≡ v.sites) (same : (o n : Name) → offered_in w.atom o a.agent n ≡ offered_in v.atom o a.agent n) where
  taken : (c : Expr) (pat : Pat) (f : Name → Env → Option Change)
      → (chan_of c a.env >>= λ n. e.other >>= λ o. offered_in w.atom o a.agent n >>= λ x. bind pat x a.env >>= λ env. f o env)
      ≡ (chan_of c a.env >>= λ n. e.other >>= λ o. offered_in v.atom o a.agent n >>= λ x. bind pat x a.env >>= λ env. f o env)
  taken c pat f = step (chan_of c a.env) (chan_of c a.env) _ _ refl λ n on. step e.other e.other _ _ refl λ o other. ap (λ x. x >>= λ y. bind pat y a.env >>= λ env. f o env) (same o n)

  -- each row of a form
  same-form : (k : Kind) (p : (asked k).Parts) → ((b : Name) → asked_at ((asked k).form p) a.env ≡ Some b → w.here b ≡ v.here b) → act k ((asked k).form p) w e a ≡ act k ((asked k).form p) v e a
  unfolding act
  same-form kind.Comm p here = taken p.0 p.1 _
  same-form kind.Rep p here = taken p.0 p.1 _
  same-form kind.Depart p here = ap (λ n. act kind.Depart (ProcForm-F.Migrate p.0 p.1) (record { sites = n; here = w.here; atom = w.atom }) e a) sites
  same-form kind.Send p here = ap (λ n. act kind.Send (ProcForm-F.Send p.0 p.1 p.2 p.3) (record { sites = n; here = w.here; atom = w.atom }) e a) sites
  same-form kind.Local p here =
      step (agent_of p.0 a.env) (agent_of p.0 a.env) _ _ refl λ agent names.
      ap (λ t. chan_of p.1 a.env >>= λ n. eval p.2 a.env >>= λ y. no_other e.other >> cond t (here_row e a p.3 agent n y) (away_row e a p.4)) (here agent names)
  same-form kind.Arrive p here = absurd p
  same-form kind.Land p here = absurd p
  same-form _ p here = refl

  -- only a location test asks for an agent
  asked-form : (k : Kind) (l : Layer) (p : (asked k).Parts) → (asked k).parts l ≡ Some p → (b : Name) → asked_at ((asked k).form p) a.env ≡ Some b → asked_at l a.env ≡ Some b
  asked-form kind.Local l p is b h = ap (λ m. asked_at m a.env) (form.iflocal-form l p is) ∙ h
  asked-form kind.Arrive l p is b h = absurd p
  asked-form kind.Land l p is b h = absurd p
  asked-form _ l p is b h = absurd (let x = h in cc)

  pub same-act : (k : Kind) (l : Layer) → ((b : Name) → asked_at l a.env ≡ Some b → w.here b ≡ v.here b) → act k l w e a ≡ act k l v e a
  same-act k l here =
      by k l w e a ∙ step ((asked k).parts l) ((asked k).parts l) _ _ refl (λ p is. same-form k p (λ b h. here b (asked-form k l p is b h))) ∙ sym (by k l v e a)

-- ---- the agent's atoms in the whole

module _ (code : ProgramTable) (p : Pool) (c : Config) (here : Bool) (e : Event) (shows : Shows code p c e.site) where
  abbrev own : Name → Option Atom
  own = map.get (atoms_of code.processes p)

  abbrev whole : Sight
  whole = sight c.sites (inside c) e.site

  at-site : (agent : Name) → agent ≡ p.name → at_site (map.get c.places agent) e.site ≡ true
  at-site agent is = ap (λ n. at_site (map.get c.places n) e.site) is ∙ ap (λ o. at_site o e.site) shows.stands ∙ same_site e.site

  module _ (a : Atom) (acts : acting_in (own_sight code p here) e ≡ Some a) where
    there : own e.actor ≡ Some a
    there = then (own e.actor) _ acts λ b is h. when (same_tag b.proc.tag e.tag) _ h λ tag h. is ∙ ap Some (sym (done h))

    tag : same_tag a.proc.tag e.tag ≡ true
    tag = then (own e.actor) _ acts λ b is h. when (same_tag b.proc.tag e.tag) _ h λ t h. subst (λ (x : Atom). same_tag x.proc.tag e.tag ≡ true) (sym (done h)) t

    of-agent : a.agent ≡ p.name
    of-agent = own-agent code.processes p.name p.atoms e.actor a there

    acts-there : acting_in whole e ≡ Some a
    acts-there = rw (shows.has e.actor a there, at-site a.agent of-agent, tag) refl

    -- what an atom of the whole offers in this agent is what one of its own does
    offers : (o n : Name) → offered_in whole.atom o a.agent n ≡ offered_in own o a.agent n
    offers o n = offer-seen (inside c) c.sites e.site o a.agent n (at-site a.agent of-agent) ∙ by (own o) refl (map.get c.atoms o) refl
      where
        rest : Atom → Option Value
        rest b = sends b >>= λ sent. need (same_name n sent.0) >> Some sent.1

        other : (t : Bool) (b : Atom) → same_name a.agent b.agent ≡ t → map.get c.atoms o ≡ Some b → own o ≡ None → (need (same_name a.agent b.agent) >> rest b) ≡ None
        other true b is got gone = absurd (let x = sym gone ∙ shows.only o b got (sym (same_name-is a.agent b.agent is) ∙ of-agent) in cc)
        other false b is got gone = rw is refl

        by : (x : Option Atom) → own o ≡ x → (y : Option Atom) → map.get c.atoms o ≡ y → offered_in (map.get c.atoms) o a.agent n ≡ offered_in own o a.agent n
        by (Some b) is y got = rw (shows.has o b is, is) refl
        by None is None got = rw (got, is) refl
        by None is (Some b) got = rw (got, is) (other (same_name a.agent b.agent) b refl got is)

pub changes_the_whole : ChangesTheWhole
changes_the_whole code p c here e d no_arrive no_land shows told h =
    then (acting_in (own_sight code p here) e) _ h λ a acts h. by e.kind refl a acts h
  where
    chain : (k : Kind) (a : Atom) → acting_in (own_sight code p here) e ≡ Some a → act k (layer a.proc) (own_sight code p here) e a ≡ Some d
        → (acting_in (whole code p c here e shows) e >>= λ b. act k (layer b.proc) (whole code p c here e shows) e b) ≡ Some d
    chain k a acts h = rw (acts-there code p c here e shows a acts)
        (same-act (whole code p c here e shows) (own_sight code p here) e a shows.sites (offers code p c here e shows a acts) k (layer a.proc)
        (λ b asked. told.each a b (shows.has e.actor a (there code p c here e shows a acts)) asked) ∙ h)

    by : (k : Kind) → e.kind ≡ k → (a : Atom) → acting_in (own_sight code p here) e ≡ Some a → act k (layer a.proc) (own_sight code p here) e a ≡ Some d → change k c.sites (inside c) e ≡ Some d
    by kind.Arrive is a acts h = absurd (no_arrive is)
    by kind.Land is a acts h = absurd (no_land is)
    by k is a acts h = chain k a acts h
