-- An event that is enabled in what a site holds is one that the site can do.
use Rattle.std.proofs.Common.{◌≡◌, ◌+◌, ℕ, Bool, false, is_some, Option, Some, refl, sym, ap, subst, ◌∙◌}
use Rattle.std.specs.FinMap as map
use Rattle.np_syntax.specs.declared.event.Event.{Event}
use Rattle.np_syntax.specs.declared.event.Kind.{Kind}
use Rattle.np_syntax.specs.declared.event.Kind.TheVariants as kind
use Rattle.np_syntax.specs.declared.event.Made.{Made}
use Rattle.np_syntax.specs.declared.value.Name.{Name}
use Rattle.np_syntax.specs.Options.{◌>>=◌}
use Rattle.np_tables.specs.Names.{NameMap}
use Rattle.np_tables.proofs.Mapped.{mapped_there}
use Rattle.np_calculus.proofs.Common.{Change, Sight, acting_in, agent_of, done, then, when}
use Rattle.np_calculus.proofs.Common.{act}
use Rattle.np_calculus.proofs.Rows.{parts}
use Rattle.np_calculus.specs.declared.config.Atom.{Atom}
use Rattle.np_calculus.specs.Config.{Config}
use Rattle.np_calculus.specs.Reductions.{same_tag}
use Rattle.np_calculus.specs.Rows.{asked_of, change_in, made_of}
use Rattle.np_syntax.proofs.Options.{there-is}
use Rattle.np_site_runs.specs.Holdings.{IsPart, name_of}
use Rattle.np_site_runs.specs.Making.{AreNext}
use Rattle.np_code.specs.Programs.{ProgramTable}
use Rattle.agent_pool.specs.declared.ready.Ready.{Ready}
use Rattle.agent_pool.specs.Pools.{Pool, atoms_of}
use Rattle.agent_pool.specs.Readies.{IsReady, sight_of}
use Rattle.agent_pool.specs.Rows.{event_of, ready_of}
use Rattle.site_agents.specs.deeds.Resting.{IsOfReady}
use Rattle.site_agents.specs.Standings.{CanDo}
use Rattle.site_state.specs.Doing.{IsPossible, event_at, finds}
use Rattle.site_state.specs.Standings.{Standing, holding_of}

-- the acting atom of an event of a ready is one of the agent's
acting-atom : (code : ProgramTable) (atoms : NameMap Atom) (here : Bool) (site : ℕ) (r : Ready) (made : Made) (a : Atom)
    → acting_in (sight_of code atoms here) (event_of site r made) ≡ Some a → map.get atoms r.actor ≡ Some a
acting-atom code atoms here site r made a acts =
    then (map.get atoms r.actor) _ acts λ x found rest. when (same_tag x.proc.tag r.tag) _ rest λ tag rest. found ∙ ap Some (sym (done rest))

ready-atom : (code : ProgramTable) (atoms : NameMap Atom) (r : Ready) (q : Name) → IsReady code atoms r → (a : Atom) × (map.get atoms r.actor ≡ Some a)
ready-atom code atoms r q ready =
    let made : Made = made_of r.kind false q q in
    let met = there-is _ (ready false q q) in
    then (acting_in (sight_of code atoms false) (event_of 0 r made)) _ met.1 λ a acts rest. (a, acting-atom code atoms false 0 r made a acts)

-- a location test asks for an agent
asks-for : (code : ProgramTable) (atoms : NameMap Atom) (r : Ready) (made : Made) (d : Change) → change_in kind.Local (sight_of code atoms false) (event_of 0 r made) ≡ Some d
    → (other : Name) × ((map.get atoms r.actor >>= asked_of) ≡ Some other)
unfolding act
asks-for code atoms r made d h =
    let w : Sight = sight_of code atoms false in
    let e : Event = event_of 0 r made in
    then (acting_in w e) _ h λ a acts h. parts kind.Local w e a h λ p form h. then (agent_of p.0 a.env) _ h λ b names h.
    (b, rw (acting-atom code atoms false 0 r made a acts, form, names) refl)

local-asks : (code : ProgramTable) (atoms : NameMap Atom) (r : Ready) (q : Name) → r.kind ≡ kind.Local → IsReady code atoms r → (other : Name) × ((map.get atoms r.actor >>= asked_of) ≡ Some other)
local-asks code atoms r q is ready =
    let met = there-is _ (ready false q q) in
    asks-for code atoms r (made_of r.kind false q q) met.0 (ap (λ k. change_in k (sight_of code atoms false) (event_of 0 r (made_of r.kind false q q))) (sym is) ∙ met.1)

-- what is made does not depend on whether an agent is here, but by a location test
made-same : (k : Kind) (a b : Bool) (p q : Name) → (k ≡ kind.Local → a ≡ b) → made_of k a p q ≡ made_of k b p q
made-same kind.Local a b p q h = ap (λ t. made_of kind.Local t p q) (h refl)
made-same kind.Stop a b p q h = refl
made-same kind.Fork a b p q h = refl
made-same kind.New a b p q h = refl
made-same kind.Let a b p q h = refl
made-same kind.If a b p q h = refl
made-same kind.Comm a b p q h = refl
made-same kind.Rep a b p q h = refl
made-same kind.Agent a b p q h = refl
made-same kind.Depart a b p q h = refl
made-same kind.Arrive a b p q h = refl
made-same kind.Send a b p q h = refl
made-same kind.Land a b p q h = refl
made-same kind.Print a b p q h = refl
made-same kind.Open a b p q h = refl
made-same kind.Lookup a b p q h = refl
made-same kind.Post a b p q h = refl

module _ (code : ProgramTable) (s : Standing) (c : Config) (e : Event) (part : IsPart (holding_of code s) c) (ready : IsOfReady code s.site s.agents s.next s.history.said e) where
  -- an atom of an agent that stands there is one of the configuration
  held : (q : Name) (p : Pool) (m : Name) (a : Atom) → map.get s.agents q ≡ Some p → map.get (atoms_of code.processes p) m ≡ Some a → (a.agent ≡ q) × (map.get c.atoms m ≡ Some a)
  held q p m a there has =
      let stands = mapped_there (atoms_of code.processes) s.agents q p there in
      let own : a.agent ≡ q = part.own q (atoms_of code.processes p) m a stands has in
      (own, part.has m a (record { atoms = atoms_of code.processes p; here = ap (map.get (holding_of code s).agents) own ∙ stands; has = has }))

  -- one agent alone can do the event
  only : (name : Name) → CanDo code s.agents name (ready_of e) → name ≡ ready.name
  only name can =
      let one = ready-atom code (atoms_of code.processes can.agent) (ready_of e) name can.ready in
      let two = ready-atom code (atoms_of code.processes ready.agent) (ready_of e) name ready.ready in
      let first = held name can.agent e.actor one.0 can.here one.1 in
      let second = held ready.name ready.agent e.actor two.0 ready.stands two.1 in
      let same : one.0 ≡ two.0 = (let x = first.1 in let y = second.1 in cc) in
      sym first.0 ∙ ap (λ (a : Atom). a.agent) same ∙ second.0

  finds-here : e.kind ≡ kind.Local → finds code s.agents ready.name (ready_of e) ≡ ready.here
  finds-here is =
      let asks = local-asks code (atoms_of code.processes ready.agent) (ready_of e) ready.name is ready.ready in
      ap (λ (o : Option Pool). is_some (o >>= λ p. map.get (atoms_of code.processes p) e.actor >>= asked_of >>= map.get s.agents)) ready.stands
      ∙ ap (λ (o : Option Name). is_some (o >>= map.get s.agents)) asks.1 ∙ ready.told asks.0 asks.1

  is-event : AreNext (holding_of code s) e.made → e ≡ event_at code s ready.name (ready_of e)
  is-event next =
      ready.is next
      ∙ ap (event_of s.site (ready_of e)) (sym (made-same e.kind (finds code s.agents ready.name (ready_of e)) ready.here (name_of s.site s.next) (name_of s.site (s.next + 1)) finds-here))

  pub is_possible : AreNext (holding_of code s) e.made → IsPossible code s e
  is_possible next = record {
    agent = ready.name;
    can = record { agent = ready.agent; here = ready.stands; ready = ready.ready };
    is = λ name can. subst (λ (q : Name). e ≡ event_at code s q (ready_of e)) (sym (only name can)) (is-event next);
  }
