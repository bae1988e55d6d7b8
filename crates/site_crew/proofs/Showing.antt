-- The run of seats that stand between rounds ends in just what they show.
use Rattle.std.proofs.Common.{◌≡◌, ◌<◌, ◌⊎◌, inl, inr, ⊎_elim, ℕ, zero, suc, Bool, true, false, cond, List, [], ◌∷◌, ◌++◌, length, map, Option, None, Some, option_map, refl, sym, ap, subst, ◌∙◌, arith}
use Rattle.std.specs.Prelude.{slice_get}
use Rattle.std.specs.FinMap as table
use Rattle.std.proofs.lemmas.Option.{slice_get_within}
use Rattle.np_syntax.specs.declared.process.Proc.{Proc}
use Rattle.np_tables.specs.Mapped.{mapped}
use Rattle.np_tables.specs.Names.{NameMap, same_name}
use Rattle.np_tables.proofs.Tables.{same_name-is, same_name-itself}
use Rattle.np_calculus.proofs.Common.{Config, Contents, Name, inside}
use Rattle.np_calculus.specs.declared.config.Atom.{Atom}
use Rattle.np_calculus.specs.declared.config.Packet.{Packet}
use Rattle.np_calculus.specs.declared.config.Place.{Place}
use Rattle.np_calculus.specs.declared.config.Place.TheVariants as place
use Rattle.run_merge.specs.Merged.{items, merged}
use Rattle.np_site_runs.specs.merged.Deeds.{StampedItem}
use Rattle.np_site_runs.specs.merged.Elements.{Occurs}
use Rattle.np_site_runs.specs.merged.Joined.{together}
use Rattle.np_site_runs.specs.merged.Links.{air, over}
use Rattle.np_site_runs.specs.merged.Steps.{sites}
use Rattle.np_site_runs.specs.Holdings.{Holding, IsPart}
use Rattle.np_site_runs.proofs.merged.Elements.{every-occurs, mapped-occurs, occurs-either, occurs-first, occurs-map, occurs-mapped, occurs-over, occurs-second, over-occurs}
use Rattle.np_site_runs.proofs.merged.Resting.{atom-out, either-is, in_sites, packet-out, place-in, place-out}
use Rattle.np_code.specs.Programs.{ProgramTable, program}
use Rattle.agent_pool.specs.Pools.{Pool, atoms_of}
use Rattle.agent_move.specs.declared.item.Item.{Item}
use Rattle.agent_move.specs.declared.load.Load.{Load}
use Rattle.agent_move.specs.declared.load.Load.TheVariants as load
use Rattle.agent_move.specs.Items.{contents_of, item_of}
use Rattle.site_links.specs.declared.port.Port as Port
use Rattle.site_state.specs.Standings.{holding_of}
use Rattle.site_turn.specs.declared.seat.Seat.{Seat}
use Rattle.site_crew.specs.Runs.{IsCrewRun, IsProgram}
use Rattle.site_crew.specs.Seats.{Stand, histories}
use Rattle.site_crew.specs.Shown.{Flies, HasAgent, HasAtom, IsShownBy, IsUnderWay, Stands, seat_state, seat_states}
use Rattle.site_crew.proofs.Born.{born-low}
use Rattle.site_crew.proofs.CrewRuns.{run_of}
use Rattle.site_crew.proofs.Stillness.{Whole}
use Rattle.site_crew.proofs.Underway.{between, items-own, map-some, of_state, raw, rest-is, state_of, under_way-of}
use Rattle.site_crew.proofs.Whole.{accounts, end_of, sites_end, some}

-- ---- elements

occurs-some : {A : Type 0} (P : A → Type 0) (xs : List A) → Occurs P xs → (x : A) × Occurs (λ y. y ≡ x) xs × P x
occurs-some P [] h = absurd h
occurs-some P (x ∷ xs) (inl h) = (x, inl refl, h)
occurs-some P (x ∷ xs) (inr h) = let t = occurs-some P xs h in (t.0, inr t.1, t.2)

of_sites : (P : Contents → Type 0) (here : ℕ → Config) (n : ℕ) → Occurs P (sites n here) → (u : ℕ) × (u < n) × P (inside (here u))
of_sites P here zero h = absurd h
of_sites P here (suc n) (inl h) = (n, omega arith, h)
of_sites P here (suc n) (inr h) = let t = of_sites P here n h in let less : t.0 < n = t.1 in (t.0, omega arith, t.2)

atom-in : (ps : List Contents) (m : Name) (a : Atom) → (together ps).atom m ≡ Some a → Occurs (λ x. x.atom m ≡ Some a) ps
atom-in [] m a h = absurd cc
atom-in (x ∷ ps) m a h = ⊎_elim (λ i. inl i) (λ i. inr (atom-in ps m a i)) (either-is (x.atom m) ((together ps).atom m) a h)

packet-in : (ps : List Contents) (m : Name) (p : Packet) → (together ps).packet m ≡ Some p → Occurs (λ x. x.packet m ≡ Some p) ps
packet-in [] m p h = absurd cc
packet-in (x ∷ ps) m p h = ⊎_elim (λ i. inl i) (λ i. inr (packet-in ps m p i)) (either-is (x.packet m) ((together ps).packet m) p h)

-- ---- loads

if-some : {X : Type 0} (q k : Name) (t : Bool) (x y : X) → same_name q k ≡ t → cond t (Some x) None ≡ Some y → (q ≡ k) × (x ≡ y)
if-some q k true x y is h = (same_name-is q k is, cc)
if-some q k false x y is h = absurd cc

-- an agent is in the load
record HasLoad (ts : List Proc) (l : Load) (to : ℕ) (q : Name) (p : Place) : Type 0 where
  pool : Pool
  is : l ≡ load.Agent pool
  named : pool.name ≡ q
  away : p ≡ place.Way to

load-agent : (ts : List Proc) (l : Load) (to : ℕ) (q : Name) (p : Place) → (contents_of ts l to).place q ≡ Some p → HasLoad ts l to q p
load-agent ts (load.Agent pool) to q p h = let t = if-some q pool.name (same_name q pool.name) (place.Way to) p refl h in record { pool = pool; is = refl; named = sym t.0; away = sym t.1 }
load-agent ts (load.Packet mark packet) to q p h = absurd cc

agent-load : (ts : List Proc) (l : Load) (to : ℕ) (pool : Pool) → l ≡ load.Agent pool → (contents_of ts l to).place pool.name ≡ Some (place.Way to)
agent-load ts l to pool is =
    ap (λ l. (contents_of ts l to).place pool.name) is ∙ ap (λ t. cond t (Some (place.Way to)) None) (same_name-itself pool.name)

load-atom : (ts : List Proc) (l : Load) (to : ℕ) (m : Name) (a : Atom) → (contents_of ts l to).atom m ≡ Some a → (pool : Pool) × (l ≡ load.Agent pool) × (table.get (atoms_of ts pool) m ≡ Some a)
load-atom ts (load.Agent pool) to m a h = (pool, refl, h)
load-atom ts (load.Packet mark packet) to m a h = absurd cc

load-packet : (ts : List Proc) (l : Load) (to : ℕ) (m : Name) (p : Packet) → (contents_of ts l to).packet m ≡ Some p → l ≡ load.Packet m p
load-packet ts (load.Agent pool) to m p h = absurd cc
load-packet ts (load.Packet mark packet) to m p h =
    let t = if-some m mark (same_name m mark) packet p refl h in λ i. load.Packet (sym t.0 i) (t.1 i)

packet-load : (ts : List Proc) (l : Load) (to : ℕ) (m : Name) (p : Packet) → l ≡ load.Packet m p → (contents_of ts l to).packet m ≡ Some p
packet-load ts l to m p is = ap (λ l. (contents_of ts l to).packet m) is ∙ ap (λ t. cond t (Some p) None) (same_name-itself m)

module _ {P R : Type 0} (g : Port.Ghosts P R Item) (code : ProgramTable) (limit : ℕ) (xs : List (Seat P)) (stand : Stand g code limit xs) (is : IsProgram code) where
  abbrev n : ℕ
  n = length code.sites

  seat-of : (u : ℕ) (o : Option (Seat P)) → slice_get xs u ≡ o → u < n → (s : Seat P) × (slice_get xs u ≡ Some s)
  seat-of u None at less = absurd (some g code limit xs stand.seats u less at)
  seat-of u (Some s) at less = (s, at)

  seat : (u : ℕ) → u < n → (s : Seat P) × (slice_get xs u ≡ Some s)
  seat u less = seat-of u (slice_get xs u) refl less

  low : (i : ℕ) (s : Seat P) → slice_get xs i ≡ Some s → i < n
  low i s at = subst (λ (m : ℕ). i < m) stand.seats.count (slice_get_within xs i s at)

  -- ---- what is left on a link, and the items of the states

  module _ (u t : ℕ) (Q : StampedItem → Type 0) where
    to-items : (a b : Seat P) → slice_get xs u ≡ Some a → slice_get xs t ≡ Some b → Occurs Q ((accounts g code limit xs stand.seats).rest u t)
        → (x : Item) × IsUnderWay (seat_states g xs) u t x × Q (item_of code x) × (x.to ≡ t)
    to-items a b from to h =
        let k = occurs-some (λ x. Q (item_of code x)) (raw g code limit u t a b)
        (occurs-mapped Q (item_of code) (raw g code limit u t a b) (subst (Occurs Q) (sym (rest-is g code limit xs stand.seats stand.settled u t a b from to)) h)) in (
          k.0,
          under_way-of g xs code limit u t a b (slice_get_within xs u a from) (slice_get_within xs t b to) k.0 from to k.1,
          k.2,
          (every-occurs (λ x. (x.to ≡ t) × (x.from ≡ u)) k.0 (raw g code limit u t a b) (items-own g code limit xs stand.seats stand.settled u t a b from to) k.1).0,
        )

    of-items : (x : Item) → IsUnderWay (seat_states g xs) u t x → (x.to ≡ t → Q (item_of code x)) → Occurs Q ((accounts g code limit xs stand.seats).rest u t)
    of-items x goes holds =
        let k = between g xs code limit u t x goes in
        let own = every-occurs (λ x. (x.to ≡ t) × (x.from ≡ u)) x (raw g code limit u t k.sender k.receiver)
        (items-own g code limit xs stand.seats stand.settled u t k.sender k.receiver k.sends k.receives) k.goes in
        subst (Occurs Q) (rest-is g code limit xs stand.seats stand.settled u t k.sender k.receiver k.sends k.receives)
        (mapped-occurs Q (item_of code) (raw g code limit u t k.sender k.receiver)
        (occurs-map (λ y. y ≡ x) (λ y. Q (item_of code y)) (λ y same. subst (λ z. Q (item_of code z)) (sym same) (holds own.0)) (raw g code limit u t k.sender k.receiver) k.goes))

  module _ (e : Whole g code limit xs stand is) where
    abbrev rest : ℕ → ℕ → List StampedItem
    rest = (accounts g code limit xs stand.seats).rest

    abbrev flying : List Contents
    flying = air n (λ s t. map (λ x. x.item) (rest s t))

    part-of : (u : ℕ) (s : Seat P) → slice_get xs u ≡ Some s → IsPart (holding_of code s.site) (e.here u)
    unfolding accounts
    part-of u s at = subst (λ (h : Holding). IsPart h (e.here u)) (ap (end_of g code limit u) at) (e.parts u (low u s at))

    number : (u : ℕ) (s : Seat P) → slice_get xs u ≡ Some s → s.site.site ≡ u
    number u s at = (stand.seats.each u s at).number

    -- an element of what is under way is one on a link
    from_air : (Q : Contents → Type 0) → Occurs Q flying → (u t : ℕ) × (u < n) × (t < n) × Occurs (λ x. Q x.item.load) (rest u t)
    from_air Q h =
        let u = occurs-over Q n (λ u. over n (λ t. map (λ x. x.load) (map (λ (x : StampedItem). x.item) (rest u t)))) h in
        let t = occurs-over Q n (λ t. map (λ x. x.load) (map (λ (x : StampedItem). x.item) (rest u.0 t))) u.2 in (
          u.0,
          t.0,
          u.1,
          t.1,
          occurs-mapped (λ x. Q x.load) (λ (x : StampedItem). x.item) (rest u.0 t.0) (occurs-mapped Q (λ x. x.load) (map (λ (x : StampedItem). x.item) (rest u.0 t.0)) t.2),
        )

    to_air : (Q : Contents → Type 0) (u t : ℕ) → u < n → t < n → Occurs (λ x. Q x.item.load) (rest u t) → Occurs Q flying
    to_air Q u t from to h =
        over-occurs Q n (λ u. over n (λ t. map (λ x. x.load) (map (λ (x : StampedItem). x.item) (rest u t)))) u from
        (over-occurs Q n (λ t. map (λ x. x.load) (map (λ (x : StampedItem). x.item) (rest u t))) t to
        (mapped-occurs Q (λ x. x.load) (map (λ (x : StampedItem). x.item) (rest u t)) (mapped-occurs (λ x. Q x.load) (λ (x : StampedItem). x.item) (rest u t) h)))

    -- what holds of a part of the whole holds of what a site has, or of an item that is under way
    record InAir (Q : Contents → Type 0) : Type 0 where
      from : ℕ
      to : ℕ
      item : Item
      goes : IsUnderWay (seat_states g xs) from to item
      holds : Q (contents_of code.processes item.load item.to)
      its : item.to ≡ to

    record InSite (Q : Contents → Type 0) : Type 0 where
      at : ℕ
      seat : Seat P
      its : slice_get xs at ≡ Some seat
      holds : Q (inside (e.here at))

    either-part : (Q : Contents → Type 0) → Occurs Q (sites n e.here ++ flying) → InSite Q ⊎ InAir Q
    either-part Q h = ⊎_elim
        (λ i. let t = of_sites Q e.here n i in let s = seat t.0 t.1 in inl (record { at = t.0; seat = s.0; its = s.1; holds = t.2 }))
        (λ i.
        let t = from_air Q i in
        let a = seat t.0 t.2 in
        let b = seat t.1 t.3 in
        let x = to-items t.0 t.1 (λ x. Q x.item.load) a.0 b.0 a.1 b.1 t.4 in
        inr (record { from = t.0; to = t.1; item = x.0; goes = x.1; holds = x.2; its = x.3 }))
        (occurs-either Q (sites n e.here) flying h)

    site-part : (Q : Contents → Type 0) (u : ℕ) (s : Seat P) → slice_get xs u ≡ Some s → Q (inside (e.here u)) → Occurs Q (sites n e.here ++ flying)
    site-part Q u s at h = occurs-first Q (sites n e.here) flying (in_sites Q e.here n u (low u s at) h)

    air-part : (Q : Contents → Type 0) (u t : ℕ) (x : Item) → IsUnderWay (seat_states g xs) u t x → (x.to ≡ t → Q (contents_of code.processes x.load x.to))
        → Occurs Q (sites n e.here ++ flying)
    air-part Q u t x goes holds =
        let k = between g xs code limit u t x goes in
        occurs-second Q (sites n e.here) flying (to_air Q u t (low u k.sender k.sends) (low t k.receiver k.receives) (of-items u t (λ x. Q x.item.load) x goes holds))

    -- ---- places

    site-place : (u : ℕ) (s : Seat P) (q : Name) (p : Place) → slice_get xs u ≡ Some s → (inside (e.here u)).place q ≡ Some p
        → (atoms : NameMap Atom) × HasAgent code (seat_states g xs) p q atoms
    site-place u s q p at h =
        let k = map-some (λ (atoms : NameMap Atom). place.At s.site.site) (table.get (mapped (atoms_of code.processes) s.site.agents) q) p (sym ((part-of u s at).places q) ∙ h) in (
          k.0,
          subst (λ (p : Place). HasAgent code (seat_states g xs) p q k.0) (sym (k.2 ∙ ap place.At (number u s at)))
              (record { seat = seat_state g (length xs) s; its = state_of g xs u s at; there = k.1 }),
        )

    air-place : (q : Name) (p : Place) → InAir (λ x. x.place q ≡ Some p) → (atoms : NameMap Atom) × HasAgent code (seat_states g xs) p q atoms
    air-place q p a =
        let k = load-agent code.processes a.item.load a.item.to q p a.holds in (
          atoms_of code.processes k.pool,
          subst (λ (p : Place). HasAgent code (seat_states g xs) p q (atoms_of code.processes k.pool)) (sym (k.away ∙ ap place.Way a.its))
              (record { from = a.from; item = a.item; goes = a.goes; pool = k.pool; is = k.is; named = k.named; its = refl }),
        )

    -- the seat of an agent that stands at a site
    record StandsIn (u : ℕ) (q : Name) (atoms : NameMap Atom) : Type 0 where
      seat : Seat P
      its : slice_get xs u ≡ Some seat
      there : table.get (mapped (atoms_of code.processes) seat.site.agents) q ≡ Some atoms

    stands-in : (u : ℕ) (q : Name) (atoms : NameMap Atom) → Stands code (seat_states g xs) u q atoms → StandsIn u q atoms
    stands-in u q atoms h =
        let s = of_state g xs u h.seat h.its in
        record { seat = s.0; its = s.1; there = subst (λ y. table.get (mapped (atoms_of code.processes) y.agents) q ≡ Some atoms) s.2 h.there }

    place-part : (q : Name) (p : Place) (atoms : NameMap Atom) → HasAgent code (seat_states g xs) p q atoms → Occurs (λ x. x.place q ≡ Some p) (sites n e.here ++ flying)
    place-part q (place.At u) atoms h =
        let k = stands-in u q atoms h in
        site-part (λ x. x.place q ≡ Some (place.At u)) u k.seat k.its
        ((part-of u k.seat k.its).places q ∙ ap (option_map (λ (atoms : NameMap Atom). place.At k.seat.site.site)) k.there ∙ ap (λ u. Some (place.At u)) (number u k.seat k.its))
    place-part q (place.Way t) atoms h =
        air-part (λ x. x.place q ≡ Some (place.Way t)) h.from t h.item h.goes
        (λ to. subst (λ q. (contents_of code.processes h.item.load h.item.to).place q ≡ Some (place.Way t)) h.named
        (agent-load code.processes h.item.load h.item.to h.pool h.is ∙ ap (λ u. Some (place.Way u)) to))

    -- ---- atoms

    site-atom : (u : ℕ) (s : Seat P) (m : Name) (a : Atom) → slice_get xs u ≡ Some s → (inside (e.here u)).atom m ≡ Some a → HasAtom code (seat_states g xs) m a
    site-atom u s m a at h =
        let k = (part-of u s at).only m a h in
        record {
          at = place.At u;
          agent = a.agent;
          atoms = k.atoms;
          has = record { seat = seat_state g (length xs) s; its = state_of g xs u s at; there = k.here };
          its = k.has;
        }

    air-atom : (m : Name) (a : Atom) → InAir (λ x. x.atom m ≡ Some a) → HasAtom code (seat_states g xs) m a
    air-atom m a h =
        let k = load-atom code.processes h.item.load h.item.to m a h.holds in
        record {
          at = place.Way h.to;
          agent = k.0.name;
          atoms = atoms_of code.processes k.0;
          has = record { from = h.from; item = h.item; goes = h.goes; pool = k.0; is = k.1; named = refl; its = refl };
          its = k.2;
        }

    atom-part : (m : Name) (a : Atom) (p : Place) (q : Name) (atoms : NameMap Atom) → HasAgent code (seat_states g xs) p q atoms → table.get atoms m ≡ Some a
        → Occurs (λ x. x.atom m ≡ Some a) (sites n e.here ++ flying)
    atom-part m a (place.At u) q atoms h its =
        let k = stands-in u q atoms h in
        let part = part-of u k.seat k.its in
        let own : a.agent ≡ q = part.own q atoms m a k.there its in
        site-part (λ x. x.atom m ≡ Some a) u k.seat k.its
        (part.has m a (record { atoms = atoms; here = ap (table.get (mapped (atoms_of code.processes) k.seat.site.agents)) own ∙ k.there; has = its }))
    atom-part m a (place.Way t) q atoms h its =
        air-part (λ x. x.atom m ≡ Some a) h.from t h.item h.goes
        (λ to. ap (λ (l : Load). (contents_of code.processes l h.item.to).atom m) h.is ∙ ap (λ (z : NameMap Atom). table.get z m) h.its ∙ its)

    -- ---- packets

    air-packet : (m : Name) (p : Packet) → InAir (λ x. x.packet m ≡ Some p) → Flies (seat_states g xs) m p
    air-packet m p h = record { from = h.from; to = h.to; item = h.item; goes = h.goes; is = load-packet code.processes h.item.load h.item.to m p h.holds }

    site-packet : (m : Name) (p : Packet) → InSite (λ x. x.packet m ≡ Some p) → Flies (seat_states g xs) m p
    site-packet m p h = let none : None ≡ Some p = sym ((part-of h.at h.seat h.its).packets m) ∙ h.holds in absurd cc

    packet-part : (m : Name) (p : Packet) → Flies (seat_states g xs) m p → Occurs (λ x. x.packet m ≡ Some p) (sites n e.here ++ flying)
    packet-part m p h = air-part (λ x. x.packet m ≡ Some p) h.from h.to h.item h.goes (λ to. packet-load code.processes h.item.load h.item.to m p h.is)

    -- ---- all

    parts-is : inside e.whole ≡ together (sites n e.here ++ flying)
    parts-is = e.spread.joined.is

    count : e.whole.sites ≡ n
    count = let some_site = is.some in let s = seat 0 (omega arith) in e.spread.number 0 ∙ (part-of 0 s.0 s.1).sites

    pub shown_by : IsShownBy code (seat_states g xs) (histories xs) e.whole
    shown_by = record {
      sites = count;
      places = λ q p. (
        λ h. ⊎_elim (λ s. site-place s.at s.seat q p s.its s.holds) (air-place q p)
            (either-part (λ x. x.place q ≡ Some p) (place-in (sites n e.here ++ flying) q p (ap (λ (x : Contents). x.place q) (sym parts-is) ∙ h))),
        λ h. ap (λ (x : Contents). x.place q) parts-is ∙ place-out (sites n e.here ++ flying) q p e.spread.joined.apart (place-part q p h.0 h.1),
      );
      atoms = λ m a. (
        λ h. ⊎_elim (λ s. site-atom s.at s.seat m a s.its s.holds) (air-atom m a)
            (either-part (λ x. x.atom m ≡ Some a) (atom-in (sites n e.here ++ flying) m a (ap (λ (x : Contents). x.atom m) (sym parts-is) ∙ h))),
        λ h. ap (λ (x : Contents). x.atom m) parts-is ∙ atom-out (sites n e.here ++ flying) m a e.spread.joined.apart (atom-part m a h.at h.agent h.atoms h.has h.its),
      );
      packets = λ m p. (
        λ h. ⊎_elim (site-packet m p) (air-packet m p)
            (either-part (λ x. x.packet m ≡ Some p) (packet-in (sites n e.here ++ flying) m p (ap (λ (x : Contents). x.packet m) (sym parts-is) ∙ h))),
        λ h. ap (λ (x : Contents). x.packet m) parts-is ∙ packet-out (sites n e.here ++ flying) m p e.spread.joined.apart (packet-part m p h),
      );
      born = λ q. born-low (program code) (items (merged (histories xs))) e.whole q e.runs;
      said = e.said;
    }

  pub shown_run : (end : Config) × IsCrewRun (program code) limit (histories xs) end × IsShownBy code (seat_states g xs) (histories xs) end
  shown_run =
      let e = sites_end g code limit xs stand.seats stand.settled stand.whole is.at in (e.whole, run_of g code limit xs stand is e, shown_by e)
