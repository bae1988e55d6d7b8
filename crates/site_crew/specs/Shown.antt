-- What a crew shows of the whole: the agents at its sites, and what is under way between them (docs/LANGUAGE.md, "Configurations").
use Rattle.std.specs.Prelude.{◌≡◌, ◌⊎◌, ◌-◌, ◌==◌, ◌↔◌, ◌++◌, ℕ, true, List, [], length, map, take, drop, get_or, Some, slice_get}
use Rattle.std.specs.Prelude.{option_to_list, refl}
use Rattle.std.specs.Coded.{Coded, code_by, coded×, coded_list}
use Rattle.std.specs.List.{filter, range_with_len}
use Rattle.std.specs.FinMap as table
use Rattle.std.specs.FinSet as set
use Rattle.np_syntax.specs.declared.value.Name.{Name}
use Rattle.np_syntax.specs.contracts.value.Name as name_row
use Rattle.np_tables.specs.Names.{NameMap}
use Rattle.np_tables.specs.Mapped.{mapped}
use Rattle.np_calculus.specs.declared.config.Atom.{Atom}
use Rattle.np_calculus.specs.declared.config.Packet.{Packet}
use Rattle.np_calculus.specs.declared.config.Place.{Place}
use Rattle.np_calculus.specs.declared.config.Place.TheVariants as place
use Rattle.np_calculus.specs.Config.{Config}
use Rattle.np_calculus.specs.FrameRule.{IsMade}
use Rattle.np_calculus.specs.Starts.{own_names}
use Rattle.stamp_history.specs.Histories.{Recorded}
use Rattle.run_merge.specs.Merged.{items, merged, said}
use Rattle.np_site_runs.specs.merged.Elements.{Occurs}
use Rattle.site_links.specs.declared.port.Port as Port
use Rattle.np_code.specs.Programs.{ProgramTable}
use Rattle.agent_pool.specs.Pools.{Pool, atoms_of, pool_code}
use Rattle.agent_move.specs.declared.item.Item.{Item}
use Rattle.agent_move.specs.contracts.item.Item as item_row
use Rattle.agent_move.specs.declared.load.Load.TheVariants as load
use Rattle.site_state.specs.Lines.{queue_at}
use Rattle.site_turn.specs.declared.seat.Seat.{Seat}

-- Of one site: the agents that stand there; and by the number of the other site what is still to be put on the link to it, what was put
-- there, and what was taken from the link from it. An item that was taken and could not be accepted counts as on its link still.
pub record SeatState : Type 0 where
  pub agents : NameMap Pool
  pub outgoing : List (List Item)
  pub sent : List (List Item)
  pub got : List (List Item)

abbrev pub lines_code : Coded (List (List Item))
lines_code = coded_list (coded_list item_row.the_row.coded)

abbrev pub seat_code : Coded SeatState
seat_code =
    code_by (NameMap Pool × (List (List Item) × (List (List Item) × List (List Item))))
    (coded× (table.code name_row.the_row.coded pool_code) (coded× lines_code (coded× lines_code lines_code)))
    (λ s. (s.agents, (s.outgoing, (s.sent, s.got)))) (λ p. record { agents = p.0; outgoing = p.1.0; sent = p.1.1.0; got = p.1.1.1 })
    (λ _. refl)

-- ---- of seats

-- what a function gives for each of n sites
abbrev pub by_site : {X : Type 0} → ℕ → (ℕ → X) → List X
by_site n f = map f (range_with_len 0 n)

module _ {P R : Type 0} (g : Port.Ghosts P R Item) where
  -- what was taken from the link from a site, but for an item that is set aside
  abbrev pub accepted : Seat P → ℕ → List Item
  accepted s k = take (length (g.got s.port k) - length (filter (λ x. x.from == k) (option_to_list s.aside))) (g.got s.port k)

  -- a seat, one of n
  abbrev pub seat_state : ℕ → Seat P → SeatState
  seat_state n s =
      record {
        agents = s.site.agents;
        outgoing = by_site n (queue_at s.site.outgoing);
        sent = by_site n (g.sent s.port);
        got = by_site n (accepted s);
      }

  unfoldable pub seat_states : List (Seat P) → List SeatState
  seat_states xs = map (seat_state (length xs)) xs

-- ---- what is under way

-- of what was put on the link from one site to another what was not taken, and then what is still to be put there
abbrev pub under_way : (from to : ℕ) (sender receiver : SeatState) → List Item
under_way from to sender receiver = drop (length (get_or receiver.got from [])) (get_or sender.sent to []) ++ get_or sender.outgoing to []

-- the item is on the link from one site to another, or still to be put there
pub record IsUnderWay (seats : List SeatState) (from to : ℕ) (x : Item) : Type 0 where
  pub sender : SeatState
  pub sends : slice_get seats from ≡ Some sender
  pub receiver : SeatState
  pub receives : slice_get seats to ≡ Some receiver
  pub goes : Occurs (λ y. y ≡ x) (under_way from to sender receiver)

-- ---- what stands where

-- the agent stands at a site, with these atoms
pub record Stands (code : ProgramTable) (seats : List SeatState) (site : ℕ) (agent : Name) (atoms : NameMap Atom) : Type 0 where
  pub seat : SeatState
  pub its : slice_get seats site ≡ Some seat
  pub there : table.get (mapped (atoms_of code.processes) seat.agents) agent ≡ Some atoms

-- it is in an item that is under way to a site
pub record Travels (code : ProgramTable) (seats : List SeatState) (to : ℕ) (agent : Name) (atoms : NameMap Atom) : Type 0 where
  pub from : ℕ
  pub item : Item
  pub goes : IsUnderWay seats from to item
  pub pool : Pool
  pub is : item.load ≡ load.Agent pool
  pub named : pool.name ≡ agent
  pub its : atoms_of code.processes pool ≡ atoms

-- the packet is in such an item
pub record Flies (seats : List SeatState) (mark : Name) (packet : Packet) : Type 0 where
  pub from : ℕ
  pub to : ℕ
  pub item : Item
  pub goes : IsUnderWay seats from to item
  pub is : item.load ≡ load.Packet mark packet

-- the agent is in this place, with these atoms
abbrev pub HasAgent : ProgramTable → List SeatState → Place → Name → NameMap Atom → Type 0
HasAgent code seats (place.At site) agent atoms = Stands code seats site agent atoms
HasAgent code seats (place.Way to) agent atoms = Travels code seats to agent atoms

-- the atom is one of an agent in some place
pub record HasAtom (code : ProgramTable) (seats : List SeatState) (mark : Name) (atom : Atom) : Type 0 where
  pub at : Place
  pub agent : Name
  pub atoms : NameMap Atom
  pub has : HasAgent code seats at agent atoms
  pub its : table.get atoms mark ≡ Some atom

-- the name is one of a program of n sites, or an event of the histories has made it
abbrev pub IsBorn : ℕ → List Recorded → Name → Type 0
IsBorn n hs q = (set.contains (own_names n) q ≡ true) ⊎ Occurs (λ e. IsMade e.made q) (items (merged hs))

-- The configuration is what the sites, the links and the histories show: each agent is where they have it, with its atoms; the packets
-- are those that are under way; the names are those of the program and those that the events have made; and what is said is what was
-- printed.
pub record IsShownBy (code : ProgramTable) (seats : List SeatState) (hs : List Recorded) (c : Config) : Type 0 where
  pub sites : c.sites ≡ length code.sites
  pub places : (q : Name) (p : Place) → (table.get c.places q ≡ Some p) ↔ ((atoms : NameMap Atom) × HasAgent code seats p q atoms)
  pub atoms : (m : Name) (a : Atom) → (table.get c.atoms m ≡ Some a) ↔ HasAtom code seats m a
  pub packets : (m : Name) (p : Packet) → (table.get c.packets m ≡ Some p) ↔ Flies seats m p
  pub born : (q : Name) → (set.contains c.born q ≡ true) ↔ IsBorn (length code.sites) hs q
  pub said : c.said ≡ said hs
