-- Of which agent's atoms an event is that changes what a site holds.
use Rattle.std.proofs.Common.{◌≡◌, ℕ, Bool, false, nat_eq, is_some, Option, None, Some, option_map, refl, sym, ap, subst, ◌∙◌}
use Rattle.std.specs.FinMap as table
use Rattle.np_calculus.proofs.Common.{Change, Config, Event, Kind, Name, NameMap, ◌>>=◌, act, acting, acting_in, arrive_row, at_site, change, done, inside, land_row, layer, sight, then, way}
use Rattle.np_syntax.specs.declared.event.Kind.TheVariants as kind
use Rattle.np_calculus.specs.declared.config.Atom.{Atom}
use Rattle.np_calculus.specs.declared.config.Place.{Place}
use Rattle.np_calculus.specs.declared.config.Place.TheVariants as place
use Rattle.np_calculus.specs.Rows.{asked_of, change_in}
use Rattle.np_calculus.proofs.Steps.{acting-step, same_site}
use Rattle.np_site_runs.specs.Going.{AsksFor, own_sight}
use Rattle.np_site_runs.specs.Holdings.{Holding, IsHeld, IsPart}
use Rattle.np_site_runs.proofs.Parts.{place-of, shows}
use Rattle.np_site_runs.proofs.Showing.{IsTold, sees}

module _ (h : Holding) (c : Config) (part : IsPart h c) where
  -- where an agent stands, this is the site
  its-site : (q : Name) (t : NameMap Atom) (site : ℕ) → table.get h.agents q ≡ Some t → table.get c.places q ≡ Some (place.At site) → site ≡ h.site
  its-site q t site is stands = let e : Some (place.At h.site) ≡ Some (place.At site) = sym (place-of h c part q t is) ∙ stands in cc

  -- no agent is under way
  pub not-way : (q : Name) (s : ℕ) → table.get c.places q ≡ Some (place.Way s) → ⊥
  not-way q s is = by (table.get h.agents q) (sym (part.places q) ∙ is)
    where
      by : (o : Option (NameMap Atom)) → option_map (λ t. place.At h.site) o ≡ Some (place.Way s) → ⊥
      by None e = cc
      by (Some t) e = cc

  not-flying : (o : Option Place) → ((s : ℕ) → o ≡ Some (place.Way s) → ⊥) → (p : Place) → o ≡ Some p → (s : ℕ) → way p ≡ Some s → ⊥
  not-flying o none (place.At t) is s h = cc
  not-flying o none (place.Way t) is s h = none t is

  module _ (e : Event) (d : Change) where
    -- an agent that stands here, by whose atoms the event has this change
    pub record ActsHere (k : Kind) : Type 0 where
      pub agent : Name
      pub atoms : NameMap Atom
      pub stands : table.get h.agents agent ≡ Some atoms
      pub site : e.site ≡ h.site
      pub here : Bool
      pub told : (other : Name) → AsksFor atoms e.actor other → is_some (table.get h.agents other) ≡ here
      pub row : change_in k (own_sight h.sites atoms here) e ≡ Some d

    -- whether an agent for which an atom asks is here
    abbrev asked_here : Option Name → Bool
    asked_here None = false
    asked_here (Some b) = at_site (table.get c.places b) e.site

    is-at : e.site ≡ h.site → (q : Name) → is_some (table.get h.agents q) ≡ at_site (table.get c.places q) e.site
    is-at at q = by (table.get h.agents q) ∙ ap (λ o. at_site o e.site) (sym (part.places q))
      where
        by : (o : Option (NameMap Atom)) → is_some o ≡ at_site (option_map (λ t. place.At h.site) o) e.site
        by None = refl
        by (Some t) = sym (ap (nat_eq h.site) at ∙ same_site h.site)

    acts-here : (k : Kind) (a : Atom) → acting c e ≡ Some a → act k (layer a.proc) (sight c.sites (inside c) e.site) e a ≡ Some d → ActsHere k
    acts-here k a acts row =
        let s = acting-step c e a acts in
        let held : IsHeld h e.actor a = part.only e.actor a s.there in
        let here : Bool = asked_here (asked_of a) in
        let at : e.site ≡ h.site = its-site a.agent held.atoms e.site held.here s.stands in
        let own : acting_in (own_sight h.sites held.atoms here) e ≡ Some a = rw (held.has, s.tag) refl in
        let told : IsTold (inside c) held.atoms e here = record {
          each = λ b q there asks. sym (ap asked_here (ap asked_of (sym (done (sym held.has ∙ there))) ∙ asks));
        } in
        let seen : act k (layer a.proc) (own_sight h.sites held.atoms here) e a ≡ Some d =
        sym (sees h.sites (inside c) a.agent held.atoms here e (shows h c part a.agent held.atoms e.site at held.here) told k a own)
        ∙ subst (λ n. act k (layer a.proc) (sight n (inside c) e.site) e a ≡ Some d) part.sites row in
        record {
          agent = a.agent;
          atoms = held.atoms;
          stands = held.here;
          site = at;
          here = here;
          told = λ other asks. is-at at other ∙ sym (ap asked_here (ap (λ o. o >>= asked_of) (sym held.has) ∙ asks));
          row = rw own seen;
        }

    -- nothing arrives and nothing lands in what a site holds
    pub changed-here : (k : Kind) → change k c.sites (inside c) e ≡ Some d → ActsHere k
    unfolding arrive_row land_row
    changed-here kind.Arrive row = then (table.get c.places e.actor) _ row λ p there row. then (way p) _ row λ s comes row.
        absurd (not-flying (table.get c.places e.actor) (not-way e.actor) p there s comes)
    changed-here kind.Land row = then (table.get c.packets e.actor) _ row λ p flies row. absurd (let x : None ≡ Some p = sym (part.packets e.actor) ∙ flies in cc)
    changed-here k row = then (acting c e) _ row λ a acts row. acts-here k a acts row
