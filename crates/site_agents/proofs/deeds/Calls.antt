-- What an agent's calls do at its site.
use Rattle.std.proofs.Common.{◌≡◌, ℕ, true, false, length, List, [], ◌∷◌, Option, None, Some, refl, sym, ap, subst, ◌∙◌}
use Rattle.std.specs.Prelude.{option_map}
use Rattle.std.specs.FinMap as map
use Rattle.np_syntax.specs.declared.value.Name.{Name}
use Rattle.np_syntax.specs.declared.value.Value.{Value}
use Rattle.np_syntax.specs.declared.event.Event.{Event}
use Rattle.np_syntax.specs.declared.event.Kind.{Kind}
use Rattle.np_syntax.specs.declared.event.Kind.TheVariants as kind
use Rattle.np_syntax.specs.declared.event.Made.{Made}
use Rattle.np_syntax.specs.declared.event.Made.TheVariants as made
use Rattle.np_syntax.proofs.Options.{done}
use Rattle.np_syntax.specs.Options.{◌>>=◌}
use Rattle.np_tables.specs.Mapped.{mapped}
use Rattle.np_tables.specs.Names.{NameMap}
use Rattle.np_tables.proofs.Mapped.{get-mapped, mapped-cut, mapped-empty, mapped-put, mapped_there}
use Rattle.np_tables.proofs.Tables.{same_tables}
use Rattle.np_calculus.specs.declared.config.Atom.{Atom}
use Rattle.np_calculus.specs.declared.config.Packet.{Packet}
use Rattle.np_calculus.specs.declared.config.Place.TheVariants as place
use Rattle.np_calculus.specs.Changes.{Change, put, still}
use Rattle.np_calculus.specs.Rows.{asked_of, output_of}
use Rattle.stamp_history.specs.declared.stamped.Stamped.{Stamped}
use Rattle.np_site_runs.specs.Holdings.{Does, Holding}
use Rattle.np_site_runs.specs.Coming.{taking}
use Rattle.np_site_runs.specs.Going.{Goes, GoesPast}
use Rattle.np_site_runs.specs.Leaving.{putting}
use Rattle.np_site_runs.specs.Loads.{agent_load, packet_load}
use Rattle.np_site_runs.specs.Making.{AreNext, next_after}
use Rattle.np_site_runs.specs.Within.{IsOwnEvent, inner, with_value}
use Rattle.np_site_runs.proofs.Coming.{arrives, is_lost, lands}
use Rattle.np_site_runs.proofs.Leaving.{leaves, sends}
use Rattle.np_site_runs.proofs.Telling.{makes, tells}
use Rattle.np_site_runs.proofs.Within.{goes_on, goes_on_alone}
use Rattle.np_code.specs.Programs.{ProgramTable}
use Rattle.agent_pool.specs.declared.ready.Ready.{Ready}
use Rattle.agent_pool.specs.Held.{atom_of, wait_of}
use Rattle.agent_pool.specs.Moves.{Births}
use Rattle.agent_pool.specs.Pools.{Pool, atoms_of, seen_as, without_room}
use Rattle.agent_pool.specs.Rows.{Reduces}
use Rattle.site_agents.specs.deeds.Calls as calls
use Rattle.site_agents.specs.deeds.Calls.{Ever}
use Rattle.site_agents.specs.deeds.Standing.{IsCall, Received, RoomIsUnseen, holding, without_room_if}

-- ---- what is seen of agents

module _ (code : ProgramTable) where
  abbrev seen : Pool → NameMap Atom
  seen p = atoms_of code.processes p

  -- its name and its atoms tell it
  same-seen : (p q : Pool) → without_room p ≡ without_room q → seen p ≡ seen q
  same-seen p q e = λ i. mapped (seen_as code.processes (e i).0) (e i).1

  same-seen-if : (o p : Option Pool) → without_room_if o ≡ without_room_if p → option_map seen o ≡ option_map seen p
  same-seen-if None None e = refl
  same-seen-if None (Some p) e = absurd cc
  same-seen-if (Some p) None e = absurd cc
  same-seen-if (Some p) (Some q) e = ap Some (same-seen p q (sym (done e)))

  -- the agent that received a packet has its output
  has-received : (old new : Pool) (mark : Name) (packet : Packet) → Received old new mark packet → seen new ≡ map.insert (seen old) mark (output_of packet)
  has-received old new mark packet r =
      (λ i. mapped (seen_as code.processes (r.name i)) (r.atoms i)) ∙ mapped-put (seen_as code.processes old.name) old.atoms mark _
      ∙ ap (λ n. map.insert (seen old) mark (record (output_of packet) { agent = n })) r.agent

  -- a new agent has its first atom
  has-first : (old new child : Pool) (r : Ready) (agent mark : Name) (b : Births code old new r agent mark child)
      → seen child ≡ map.insert map.empty mark (atom_of code.processes agent b.body)
  has-first old new child r agent mark b =
      (λ i. mapped (seen_as code.processes (b.name i)) (b.atoms i)) ∙ mapped-put (seen_as code.processes agent) map.empty mark (wait_of code.processes b.body, b.body)
      ∙ ap (λ m. map.insert m mark (atom_of code.processes agent b.body)) (mapped-empty (seen_as code.processes agent))

pub room_is_unseen : RoomIsUnseen
room_is_unseen code site next old new said same = λ i. holding-with (tables i)
  where
    holding-with : NameMap (NameMap Atom) → Holding
    holding-with t = record (holding code site new next said) { agents = t }

    tables : mapped (seen code) new ≡ mapped (seen code) old
    tables = same_tables _ _ λ q. get-mapped (seen code) new q ∙ same-seen-if code (map.get new q) (map.get old q) (same q) ∙ sym (get-mapped (seen code) old q)

-- ---- calls

module _ (code : ProgramTable) (site : ℕ) (agents : NameMap Pool) (next : ℕ) (said : List Value) where
  abbrev h : Holding
  h = holding code site agents next said

  -- the same with another table of atoms
  abbrev tabled : NameMap (NameMap Atom) → ℕ → List Value → Holding
  tabled t n vs = record { site = site; sites = h.sites; agents = t; next = n; said = vs }

  module _ (x : Stamped) (old new : Pool) (r : Ready) (k : Kind) (m : Made) (c : IsCall (holding code site agents next said) agents old new r k m x.event) where
    own-event : IsOwnEvent h old.name (seen code old) k x.event
    own-event = record {
      site = ap (λ (e : Event). e.site) c.event;
      kind = ap (λ (e : Event). e.kind) c.event ∙ c.kind;
      stands = mapped_there (seen code) agents old.name old c.stands;
      makes = subst (AreNext h) (sym (ap (λ (e : Event). e.made) c.event)) c.makes;
    }

    made-now : next_after next x.event.made ≡ next_after next m
    made-now = ap (λ (e : Event). next_after next e.made) c.event

    goes : (rest : Change) → Reduces k code old new r m rest → Goes k h.sites (seen code old) (seen code new) x.event rest
    goes rest red = subst (λ e. Goes k h.sites (seen code old) (seen code new) e rest) (sym c.event) (red site)

    on-holding : (vs : List Value) → tabled (map.insert (mapped (seen code) agents) old.name (seen code new)) (next_after next x.event.made) vs
        ≡ holding code site (map.insert agents old.name new) (next_after next m) vs
    on-holding vs = λ i. tabled (sym (mapped-put (seen code) agents old.name new) i) (made-now i) vs

  absent : (q : Name) → map.get agents q ≡ None → map.get (mapped (seen code) agents) q ≡ None
  absent q none = get-mapped (seen code) agents q ∙ ap (option_map (seen code)) none

pub goes_on_at : Ever calls.GoesOn
goes_on_at code site agents next said x old new r k m value c local post red =
    subst (Does (holding code site agents next said) (inner x)) (on-holding code site agents next said x old new r k m c (with_value said value))
    (goes_on (holding code site agents next said) x old.name (seen code old) (seen code new) k value (own-event code site agents next said x old new r k m c) local post
    (goes code site agents next said x old new r k m c (record still { said = value }) red))

pub passes_at : Ever calls.Passes
passes_at code site agents next said x old new r mark other c target none red =
    subst (Does (holding code site agents next said) (inner x)) (on-holding code site agents next said x old new r kind.Local made.Nothing c said)
    (goes_on_alone (holding code site agents next said) x old.name other (seen code old) (seen code new) (own-event code site agents next said x old new r kind.Local made.Nothing c)
    (ap (λ (e : Event). map.get (seen code old) e.actor >>= asked_of) c.event ∙ target) (absent code site agents next said other none)
    (goes code site agents next said x old new r kind.Local made.Nothing c still red))

module _ (code : ProgramTable) (site : ℕ) (agents : NameMap Pool) (next : ℕ) (said : List Value) where
  abbrev atoms : NameMap Pool → NameMap (NameMap Atom)
  atoms t = mapped (seen code) t

  -- a table with an agent more, and with one that received a packet
  with-seen : (t : NameMap Pool) (q : Name) (p : Pool) (b : NameMap Atom) → b ≡ seen code p → map.insert (atoms t) q b ≡ atoms (map.insert t q p)
  with-seen t q p b is = ap (map.insert (atoms t) q) is ∙ sym (mapped-put (seen code) t q p)

  two-seen : (t : NameMap Pool) (q s : Name) (p o : Pool) (b : NameMap Atom) → b ≡ seen code o → map.insert (map.insert (atoms t) q (seen code p)) s b ≡ atoms (map.insert (map.insert t q p) s o)
  two-seen t q s p o b is = ap (λ y. map.insert y s b) (with-seen t q p (seen code p) refl) ∙ with-seen (map.insert t q p) s o b is

pub tells_at : Ever calls.Tells
tells_at code site agents next said x old new there then r mark packet c red stands received =
    let own = own-event code site agents next said x old new r kind.Local (made.One mark) c in
    subst (Does (holding code site agents next said) (inner x))
    (λ i. tabled code site agents next said
    (two-seen code site agents next said agents old.name packet.agent new then (map.insert (seen code there) mark (output_of packet)) (sym (has-received code there then mark packet received)) i)
    (made-now code site agents next said x old new r kind.Local (made.One mark) c i) said)
    (tells (holding code site agents next said) x old.name mark packet (seen code old) (seen code new) (seen code there) own
    (subst (λ e. GoesPast kind.Local (length code.sites) true (seen code old) (seen code new) e (record still { atoms = put mark (output_of packet) ∷ [] })) (sym c.event) (red site))
    (ap (λ t. map.get t packet.agent) (with-seen code site agents next said agents old.name new (seen code new) refl)
    ∙ mapped_there (seen code) (map.insert agents old.name new) packet.agent there stands))

pub makes_at : Ever calls.Makes
makes_at code site agents next said x old new child r agent mark c b =
    let own = own-event code site agents next said x old new r kind.Agent (made.Two agent mark) c in
    subst (Does (holding code site agents next said) (inner x))
    (λ i. tabled code site agents next said
    (two-seen code site agents next said agents old.name agent new child (map.insert map.empty mark (atom_of code.processes agent b.body)) (sym (has-first code old new child r agent mark b)) i)
    (made-now code site agents next said x old new r kind.Agent (made.Two agent mark) c i) said)
    (makes (holding code site agents next said) x old.name agent mark (atom_of code.processes agent b.body) (seen code old) (seen code new) own
    (subst (λ e. GoesPast kind.Agent (length code.sites) false (seen code old) (seen code new) e
    (record still { places = put agent (place.At site) ∷ []; atoms = put mark (atom_of code.processes agent b.body) ∷ [] })) (sym c.event) (b.row site)))

pub leaves_at : Ever calls.Leaves
leaves_at code site agents next said x item old new r to c red load =
    let own = own-event code site agents next said x old new r kind.Depart made.Nothing c in
    subst (Does (holding code site agents next said) (putting x item)) (λ i. tabled code site agents next said (sym (mapped-cut (seen code) agents old.name) i) next said)
    (leaves (holding code site agents next said) x item old.name to (seen code old) (seen code new) own
    (goes code site agents next said x old new r kind.Depart made.Nothing c (record still { places = put old.name (place.Way to) ∷ [] }) red)
    (load ∙ ap (λ q. agent_load q (seen code new) to) c.name))

pub sends_at : Ever calls.Sends
sends_at code site agents next said x item old new r packet c red load =
    let own = own-event code site agents next said x old new r kind.Send made.Nothing c in
    let actor : r.actor ≡ x.event.actor = sym (ap (λ (e : Event). e.actor) c.event) in
    subst (Does (holding code site agents next said) (putting x item)) (on-holding code site agents next said x old new r kind.Send made.Nothing c said)
    (sends (holding code site agents next said) x item old.name packet (seen code old) (seen code new) own
    (subst (λ e. Goes kind.Send (length code.sites) (seen code old) (seen code new) e (record still { packets = put e.actor packet ∷ [] })) (sym c.event) (red site))
    (load ∙ ap (λ q. packet_load q packet) actor))

pub arrives_at : Ever calls.Arrives
arrives_at code site agents next said x item new is load =
    subst (Does (holding code site agents next said) (taking x item))
    (λ i. tabled code site agents next said (with-seen code site agents next said agents new.name new (seen code new) refl i) next said)
    (arrives (holding code site agents next said) x item new.name (seen code new) is load)

pub lands_at : Ever calls.Lands
lands_at code site agents next said x item mark packet there then is to load stands received =
    subst (Does (holding code site agents next said) (taking x item))
    (λ i. tabled code site agents next said
    (with-seen code site agents next said agents packet.agent then (map.insert (seen code there) mark (output_of packet)) (sym (has-received code there then mark packet received)) i) next said)
    (lands (holding code site agents next said) x item mark packet (seen code there) is to load (mapped_there (seen code) agents packet.agent there stands))

pub is_lost_at : Ever calls.IsLost
is_lost_at code site agents next said x item mark packet is to load none =
    is_lost (holding code site agents next said) x item mark packet is to load (absent code site agents next said packet.agent none)
