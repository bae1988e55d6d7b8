-- What an event within an agent does.
use Rattle.std.proofs.Common.{◌≡◌, ℕ, Bool, false, ◌⊎◌, inl, inr, [], Option, None, Some, IsSome, IfSome, option_map, refl, sym, ap, subst, ◌∙◌}
use Rattle.std.specs.FinMap as table
use Rattle.np_calculus.proofs.Common.{Change, Config, Env, Event, Kind, Name, NameMap, Sight, Value, ◌>>=◌, acting_in, agent_of, apply, at_site, change, done, effect, inside, same_tag, then, when}
use Rattle.np_syntax.specs.declared.event.Kind.TheVariants as kind
use Rattle.np_calculus.specs.declared.config.Atom.{Atom}
use Rattle.np_calculus.specs.declared.config.Place.TheVariants as place
use Rattle.np_calculus.specs.Changes.{Write, still, with_said, written}
use Rattle.np_calculus.specs.FrameRule.{Every, IsMade}
use Rattle.np_calculus.specs.Parts.{IsOfSite}
use Rattle.np_calculus.specs.Rows.{asked_of, change_in}
use Rattle.np_calculus.proofs.Rows.{asked, parts}
use Rattle.np_calculus.proofs.Writes.{every-map}
use Rattle.np_eval.specs.FormParts.{as_iflocal}
use Rattle.stamp_history.specs.declared.stamped.Stamped.{Stamped}
use Rattle.np_site_runs.proofs.merged.Items.{inner_step}
use Rattle.np_site_runs.specs.Holdings.{Holding, IsPart, AreMade, StepsOn}
use Rattle.np_site_runs.specs.Going.{Goes, own_sight}
use Rattle.np_site_runs.specs.Making.{AreNext, next_after}
use Rattle.np_site_runs.specs.Within.{GoesOn, GoesOnAlone, IsOwnEvent, gone_on, inner, with_value}
use Rattle.np_site_runs.proofs.Holds.{Holds, hold-write}
use Rattle.np_site_runs.proofs.Parts.{are-new, born-after, holds, no-mark, no-place, numbers-next, of-site, own-names, part-of, said-after, same-places, shows}
use Rattle.np_site_runs.proofs.Showing.{IsTold, own-writes, shown}

-- an event that is shown is enabled
module _ (h : Holding) (old : Config) (part : IsPart h old) (agent : Name) (atoms : NameMap Atom) (k : Kind) (e : Event) (o : IsOwnEvent h agent atoms k e) where
  pub applied : (d : Change) → change k old.sites (inside old) e ≡ Some d → apply old e ≡ Some (effect old e d)
  applied d is =
      let is : change e.kind old.sites (inside old) e ≡ Some d = subst (λ k. change k old.sites (inside old) e ≡ Some d) (sym o.kind) is in
      rw (is, are-new h old part e.made o.makes) refl

  pub own-made : (q : Name) → IsMade e.made q → q.site ≡ e.site
  own-made q is = own-names h old part e.made o.makes q is ∙ sym o.site

  pub own-site : IsOfSite e.site (inside old)
  own-site = subst (λ s. IsOfSite s (inside old)) (sym o.site) (of-site h old part)

  -- what the agent's atoms see is what stands here
  module _ (here : Bool) (told : IsTold (inside old) atoms e here) (d : Change) where
    pub changes : change_in k (own_sight h.sites atoms here) e ≡ Some d → change k old.sites (inside old) e ≡ Some d
    changes is = subst (λ n. change k n (inside old) e ≡ Some d) (sym part.sites) (shown h.sites (inside old) agent atoms here e (shows h old part agent atoms e.site o.site o.stands) told d k is)

-- what an event leaves, by its change
module _ (k : Kind) (sites : ℕ) (old new : NameMap Atom) (e : Event) (rest : Change) where
  pub record Parted : Type 0 where
    pub change : Change
    pub is : change_in k (own_sight sites old false) e ≡ Some change
    pub atoms : new ≡ written old change.atoms
    pub others : rest ≡ record change { atoms = [] }

  pub parted : Goes k sites old new e rest → Parted
  parted h = then (change_in k (own_sight sites old false) e) _ h λ d is h.
      record { change = d; is = is; atoms = ap (λ (p : Change × NameMap Atom). p.1) (done h); others = ap (λ (p : Change × NameMap Atom). p.0) (done h) }

-- the writes of an agent's atoms are free
module _ (h : Holding) (old : Config) (part : IsPart h old) (agent : Name) (atoms : NameMap Atom) (k : Kind) (e : Event) (o : IsOwnEvent h agent atoms k e) (m : AreMade h) where
  abbrev IsFree : Write Atom → Type 0
  IsFree w = (IsSome (table.get atoms w.0) ⊎ (table.get old.atoms w.0 ≡ None)) × IfSome w.1 (λ a. a.agent ≡ agent)

  free : (w : Write Atom) → (IsSome (table.get atoms w.0) ⊎ IsMade e.made w.0) × IfSome w.1 (λ a. a.agent ≡ agent) → IsFree w
  free w (inl is, of) = (inl is, of)
  free w (inr is, of) = (inr (no-mark h old part m e.made o.makes w.0 is), of)

  module _ (d : Change) (away : (a : Atom) (b : Name) → table.get atoms e.actor ≡ Some a → asked_of a ≡ Some b → table.get h.agents b ≡ None) (post : k ≡ kind.Post → ⊥) where
    module _ (is : change_in k (own_sight h.sites atoms false) e ≡ Some d) (places : Every (λ w. w.0 ≡ agent) d.places) where
      not_it : (a : Atom) (b : Name) → table.get atoms e.actor ≡ Some a → asked_of a ≡ Some b → b ≡ agent → ⊥
      not_it a b there asks same = let x : None ≡ Some atoms = sym (away a b there asks) ∙ ap (table.get h.agents) same ∙ o.stands in cc

      pub free-writes : Every IsFree d.atoms
      free-writes = every-map _ _ free d.atoms (own-writes h.sites agent atoms e (λ q a g. part.own agent atoms q a o.stands g) k o.kind post d not_it is places)

-- ---- what is left

module _ (h : Holding) (old : Config) (part : IsPart h old) (e : Event) (d : Change) (site : e.site ≡ h.site) (makes : AreNext h e.made) (agents : NameMap (NameMap Atom)) (value : Option Value) where
  abbrev then_held : Holding
  then_held = record h { agents = agents; next = next_after h.next e.made; said = with_value h.said value }

  pub part-after : ((q : Name) → table.get (written old.places d.places) q ≡ option_map (λ t. place.At h.site) (table.get agents q)) → Holds agents (written old.atoms d.atoms)
      → ((m : Name) → table.get (written old.packets d.packets) m ≡ None) → d.said ≡ value → IsPart then_held (effect old e d)
  part-after places atoms packets said = part-of then_held (effect old e d) part.sites places atoms packets (born-after h old part e.made makes)
      (ap (with_said old.said e.site) said ∙ said-after h old part e value site)

-- only a location test asks for an agent
only-local : (k : Kind) (p : (asked k).Parts) (env : Env) (b : Name) → (as_iflocal ((asked k).form p) >>= λ (agent, c, v, met, unmet). agent_of agent env) ≡ Some b → k ≡ kind.Local
only-local kind.Local p env b h = refl
only-local kind.Arrive p env b h = absurd p
only-local kind.Land p env b h = absurd p
only-local _ p env b h = absurd cc

pub asks-none : (w : Sight) (e : Event) (k : Kind) (d : Change) → (k ≡ kind.Local → ⊥) → change_in k w e ≡ Some d → (a : Atom) (b : Name) → w.atom e.actor ≡ Some a → asked_of a ≡ Some b → ⊥
asks-none w e k d local is a b there asks = then (acting_in w e) _ is λ y acts h.
    then (w.atom e.actor) _ acts λ z found rest. when (same_tag z.proc.tag e.tag) _ rest λ tag rest.
    let same : a ≡ y = sym (done (sym there ∙ found)) ∙ sym (done rest) in
    parts k w e y h λ p form h.
    local (only-local k p y.env b (ap (λ l. as_iflocal l >>= λ (agent, c, v, met, unmet). agent_of agent y.env) (sym form) ∙ ap asked_of (sym same) ∙ asks))

module _ (h : Holding) (agent : Name) (old new : NameMap Atom) (k : Kind) (value : Option Value) (x : Stamped) (o : IsOwnEvent h agent old k x.event) (m : AreMade h) where
  module _ (post : k ≡ kind.Post → ⊥) (g : Goes k h.sites old new x.event (record still { said = value })) where
    abbrev gone : Parted k h.sites old new x.event (record still { said = value })
    gone = parted k h.sites old new x.event (record still { said = value }) g

    -- an event within an agent, where an agent for which its acting atom asks is not here
    within : ((a : Atom) (b : Name) → table.get old x.event.actor ≡ Some a → asked_of a ≡ Some b → table.get h.agents b ≡ None) → StepsOn h (inner x) (gone_on h agent new x.event value)
    within away c part items apart =
        let d : Change = gone.change in
        let e : Event = x.event in
        let places : [] ≡ d.places = ap (λ (r : Change). r.places) gone.others in
        let packets : [] ≡ d.packets = ap (λ (r : Change). r.packets) gone.others in
        let said : value ≡ d.said = ap (λ (r : Change). r.said) gone.others in
        let told : IsTold (inside c) old e false = record { each = λ a b there asks. ap (λ o. at_site o e.site) (no-place h c part b (away a b there asks)) } in
        let is : apply c e ≡ Some (effect c e d) = applied h c part agent old k e o d (changes h c part agent old k e o false told d gone.is) in
        let free = free-writes h c part agent old k e o m d away post gone.is (subst (λ ws. Every (λ w. w.0 ≡ agent) ws) places tt) in (
          effect c e d,
          part-after h c part e d o.site o.makes (table.insert h.agents agent new) value
              (λ q. ap (λ ws. table.get (written c.places ws) q) (sym places) ∙ part.places q ∙ same-places h.agents agent old new (place.At h.site) o.stands q)
              (subst (λ t. Holds (table.insert h.agents agent t) (written c.atoms d.atoms)) (sym gone.atoms) (hold-write h.agents c.atoms (holds h c part) agent old o.stands d.atoms free))
              (λ q. ap (λ ws. table.get (written c.packets ws) q) (sym packets) ∙ part.packets q)
              (sym said),
          inner_step c (effect c e d) e (own-site h c part agent old k e o) (λ p. post (sym o.kind ∙ p)) (own-made h c part agent old k e o) is,
        )

pub goes_on : GoesOn
goes_on h x agent old new k value o local post g = (
  refl,
  λ m.
      within h agent old new k value x o m post g
      (λ a b there asks. let p = parted k h.sites old new x.event _ g in absurd (asks-none (own_sight h.sites old false) x.event k p.change local p.is a b there asks)),
  numbers-next h (gone_on h agent new x.event value) x.event.made o.makes refl,
  tt,
)

pub goes_on_alone : GoesOnAlone
goes_on_alone h x agent other old new o asks_for absent g = (
  refl,
  λ m.
      within h agent old new kind.Local None x o m (λ e. cc) g
      (λ a b there asks. let same : b ≡ other = sym (done (sym (ap (λ q. q >>= asked_of) there ∙ asks) ∙ asks_for)) in ap (table.get h.agents) same ∙ absent),
  numbers-next h (gone_on h agent new x.event None) x.event.made o.makes refl,
  tt,
)
