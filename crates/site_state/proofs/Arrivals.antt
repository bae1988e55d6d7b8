-- What comes to a site does what the calculus says.
use Rattle.std.proofs.Common.{◌≡◌, ◌+◌, ℕ, max, List, length, Option, None, Some, refl, sym, ap, subst, ◌∙◌}
use Rattle.std.specs.Prelude.{MatchOption, option_map}
use Rattle.std.specs.FinMap as map
use Rattle.np_syntax.specs.declared.event.Event.{Event}
use Rattle.np_syntax.specs.declared.event.Made.TheVariants as made
use Rattle.np_syntax.specs.declared.process.Proc.{Proc}
use Rattle.np_syntax.specs.declared.value.Name.{Name}
use Rattle.np_syntax.specs.declared.value.Value.{Value}
use Rattle.np_syntax.specs.declared.process.Tag.{Tag}
use Rattle.np_tables.specs.Names.{NameMap}
use Rattle.np_tables.specs.Mapped.{mapped}
use Rattle.np_tables.proofs.Mapped.{get-mapped, mapped-put, mapped_there}
use Rattle.np_tables.proofs.Tables.{same_tables}
use Rattle.np_calculus.specs.declared.config.Atom.{Atom}
use Rattle.np_calculus.specs.declared.config.Packet.{Packet}
use Rattle.np_calculus.specs.Begins.{landing}
use Rattle.np_calculus.specs.Reductions.{output_in}
use Rattle.np_calculus.specs.Rows.{output_of}
use Rattle.stamp_history.specs.declared.stamped.Stamped.{Stamped}
use Rattle.stamp_history.specs.Histories.{Recorded}
use Rattle.np_site_runs.specs.Coming.{Arrives, IsLost, Lands, taking}
use Rattle.np_site_runs.specs.Holdings.{Does, Holding}
use Rattle.np_site_runs.specs.Making.{next_after}
use Rattle.np_code.specs.Programs.{ProgramTable}
use Rattle.agent_index.specs.Shelves.{Kept}
use Rattle.agent_index.specs.declared.wait.Wait.TheVariants as wait
use Rattle.agent_pool.specs.declared.held.Held.{Held}
use Rattle.agent_pool.specs.declared.held.Held.TheVariants as held
use Rattle.agent_pool.specs.Pools.{Pool, atoms_of, seen_as, without_room}
use Rattle.agent_pool.proofs.Maps.{gone-on}
use Rattle.agent_move.specs.declared.item.Item.{Item}
use Rattle.agent_move.specs.declared.load.Load.{Load}
use Rattle.agent_move.specs.declared.load.Load.TheVariants as load
use Rattle.agent_move.specs.Items.{contents_of, item_of}
use Rattle.agent_move.specs.Loads.{site_for}
use Rattle.item_events.specs.Coming.{event_for}
use Rattle.site_state.specs.Coming.{HasCome, HasGot}
use Rattle.site_state.specs.Doing.{HasTaken, deed_of, recorded}
use Rattle.site_state.specs.Lines.{queue_at}
use Rattle.site_state.specs.Parts.{IsNoted}
use Rattle.site_agents.specs.Standings.{AreNamed}
use Rattle.site_state.specs.Standings.{KeepsQuiet, SameAgents, SameRecords, Standing, holding_of}
use Rattle.site_state.proofs.Done.{same_quiet}

-- the calculus does not see the room of agents
seen_of : List Proc → Name × NameMap (Kept Held) → NameMap Atom
seen_of ts p = mapped (seen_as ts p.0) p.1

seen_map : (ts : List Proc) (o : Option Pool) → option_map (seen_of ts) (option_map without_room o) ≡ option_map (atoms_of ts) o
unfolding seen_of
seen_map ts None = refl
seen_map ts (Some p) = refl

pub same_seen : (ts : List Proc) (old new : NameMap Pool) → SameAgents old new → mapped (atoms_of ts) new ≡ mapped (atoms_of ts) old
same_seen ts old new h = same_tables _ _ λ q.
    get-mapped (atoms_of ts) new q ∙ sym (seen_map ts (map.get new q)) ∙ ap (option_map (seen_of ts)) (h.each q) ∙ seen_map ts (map.get old q) ∙ sym (get-mapped (atoms_of ts) old q)

-- an agent with one more output, as the calculus sees it
pub got_seen : (ts : List Proc) (old new : NameMap Pool) (to : Name) (before : Pool) (mark chan : Name) (value : Value) (tag : Tag) → before.name ≡ to
    → (g : HasGot old to before mark chan value tag new)
    → mapped (atoms_of ts) new ≡ map.insert (mapped (atoms_of ts) old) to (map.insert (atoms_of ts before) mark (output_in to chan value tag))
got_seen ts old new to before mark chan value tag named g =
    ap (mapped (atoms_of ts)) g.agents ∙ mapped-put (atoms_of ts) old to g.after
    ∙ ap (map.insert (mapped (atoms_of ts) old) to) (gone-on ts before g.after mark (wait.Gives chan) (held.Given chan value tag) g.name g.atoms
    ∙ ap (λ n. map.insert (atoms_of ts before) mark (output_in n chan value tag)) named)

-- what the site is to the calculus when a load has come
abbrev pub with_agents : Holding → NameMap (NameMap Atom) → Holding
with_agents h agents = record h { agents = agents }

module _ (arrives : Arrives) (lands : Lands) (lost : IsLost) (code : ProgramTable) (h : Holding) (x : Stamped) (item : Item) (agents new : NameMap Pool)
    (seen : h.agents ≡ mapped (atoms_of code.processes) agents) (named : AreNamed agents) (for_site : item.to ≡ h.site) where
  landed : (mark : Name) (packet : Packet) → item.load ≡ load.Packet mark packet → packet.to ≡ h.site → x.event ≡ landing mark packet → (o : Option Pool) → map.get agents packet.agent ≡ o
      → MatchOption o (new ≡ agents) (λ before. HasGot agents packet.agent before mark packet.chan packet.value packet.tag new)
      → Does h (taking x (item_of code item)) (with_agents h (mapped (atoms_of code.processes) new))
  landed mark packet is to event None e same =
      let none : map.get h.agents packet.agent ≡ None = ap (λ m. map.get m packet.agent) seen ∙ get-mapped (atoms_of code.processes) agents packet.agent ∙ ap (option_map (atoms_of code.processes)) e in
      subst (λ m. Does h (taking x (item_of code item)) (with_agents h m)) (seen ∙ sym (ap (mapped (atoms_of code.processes)) same))
      (lost h x (item_of code item) mark packet event to (ap (λ l. contents_of code.processes l item.to) is) none)
  landed mark packet is to event (Some before) e got =
      let there : map.get h.agents packet.agent ≡ Some (atoms_of code.processes before) = ap (λ m. map.get m packet.agent) seen ∙ mapped_there (atoms_of code.processes) agents packet.agent before e in
      subst (λ m. Does h (taking x (item_of code item)) (with_agents h m))
      (ap (λ m. map.insert m packet.agent (map.insert (atoms_of code.processes before) mark (output_of packet))) seen
      ∙ sym (got_seen code.processes agents new packet.agent before mark packet.chan packet.value packet.tag (named.each _ _ e) got))
      (lands h x (item_of code item) mark packet (atoms_of code.processes before) event to (ap (λ l. contents_of code.processes l item.to) is) there)

  pub come : (l : Load) → item.load ≡ l → site_for l item.to ≡ item.to → x.event ≡ event_for h.site l → HasCome agents l new
      → Does h (taking x (item_of code item)) (with_agents h (mapped (atoms_of code.processes) new))
  come (load.Agent agent) is to event e =
      subst (λ m. Does h (taking x (item_of code item)) (with_agents h m))
      (ap (λ m. map.insert m agent.name (atoms_of code.processes agent)) seen ∙ sym (ap (mapped (atoms_of code.processes)) e ∙ mapped-put (atoms_of code.processes) agents agent.name agent))
      (arrives h x (item_of code item) agent.name (atoms_of code.processes agent) event (ap (λ l. contents_of code.processes l item.to) is ∙ ap (contents_of code.processes (load.Agent agent)) for_site))
  come (load.Packet mark packet) is to event e = landed mark packet is (to ∙ for_site) event (map.get agents packet.agent) refl e

event_at : (l : Load) (s to : ℕ) → site_for l to ≡ to → to ≡ s → (event_for s l).site ≡ s
event_at (load.Agent agent) s to e f = refl
event_at (load.Packet mark packet) s to e f = e ∙ f

nothing_made : (l : Load) (s : ℕ) → (event_for s l).made ≡ made.Nothing
nothing_made (load.Agent agent) s = refl
nothing_made (load.Packet mark packet) s = refl

module _ (arrives : Arrives) (lands : Lands) (lost : IsLost) (old mid new : Standing) (item : Item) (event : Event) (ready : NameMap Pool) (same : SameAgents old.agents ready)
    (named : AreNamed ready) (has_come : HasCome ready item.load mid.agents) (for_site : item.to ≡ old.site) (addressed : site_for item.load item.to ≡ item.to)
    (is : event ≡ event_for old.site item.load) (records : SameRecords old mid) (outgoing : mid.outgoing ≡ old.outgoing) (quiet : (code : ProgramTable) → KeepsQuiet code old mid)
    (noted : IsNoted mid (max mid.clock item.stamp + 1) event None new) where
  module _ (code : ProgramTable) where
    abbrev stamped : Stamped
    stamped = record { stamp = new.clock; event = event }

    next_same : new.next ≡ old.next
    next_same = noted.next ∙ ap (next_after mid.next) (ap (λ (e : Event). e.made) is ∙ nothing_made item.load old.site) ∙ records.next

    ends : with_agents (holding_of code old) (mapped (atoms_of code.processes) mid.agents) ≡ holding_of code new
    ends = λ i. record {
      site = (sym (noted.site ∙ records.site)) i;
      sites = length code.sites;
      agents = (sym (ap (mapped (atoms_of code.processes)) noted.agents)) i;
      next = (sym next_same) i;
      said = (sym (ap (λ (h : Recorded). h.said) noted.history ∙ ap (λ (h : Recorded). h.said) records.history)) i;
    }

    pub does_take : Does (holding_of code old) (deed_of code (record { stamp = new.clock; event = event }) (Some item) None) (holding_of code new)
    does_take = subst (Does (holding_of code old) (taking stamped (item_of code item))) ends
        (come arrives lands lost code (holding_of code old) stamped item ready mid.agents (sym (same_seen code.processes old.agents ready same)) named for_site item.load refl addressed is has_come)

  pub has_taken : HasTaken old new item
  has_taken = record {
    event = event;
    coming = is;
    did = λ code long. record {
      site = noted.site ∙ records.site;
      at = ap (λ (e : Event). e.site) is ∙ event_at item.load old.site item.to addressed for_site;
      clock = noted.clock ∙ ap (λ n. max n item.stamp + 1) records.clock;
      value = None;
      history = subst (λ h. new.history ≡ recorded h (record { stamp = new.clock; event = event }) None) records.history
          (subst (λ n. new.history ≡ recorded mid.history (record { stamp = n; event = event }) None) (sym noted.clock) noted.history);
      outgoing = record { sites = ap length (noted.outgoing ∙ outgoing); queues = λ t. ap (λ m. queue_at m t) (noted.outgoing ∙ outgoing) };
      put = tt;
      quiet = λ q. same_quiet code _ _ noted.agents noted.quiet (quiet code q);
      does = does_take code;
    };
  }
