-- The next event of a list is one that its site can do, where those before it were done.
use Rattle.std.proofs.Common.{◌≡◌, ◌<◌, ◌≤◌, ◌+◌, ℕ, zero, suc, Bool, true, false, not, inl, inr, List, [], ◌∷◌, ◌++◌, length, map, take, get_or, nat_eq, cond, Option, None, Some, refl, sym, ap, ap₂, subst, ◌∙◌, append_assoc, arith}
use Rattle.std.specs.Prelude.{slice_get}
use Rattle.std.specs.List.{AllByRecursion}
use Rattle.std.proofs.lemmas.Bool.{eqb-true}
use Rattle.std.proofs.lemmas.List.Elements.{recursion_from_All}
use Rattle.std.proofs.lemmas.Option.{slice_get_within, slice_get-get_or}
use Rattle.std.specs.FinMap as table
use denote.Enum.Bare.{sameb, same_true, true_same}
use Rattle.np_syntax.specs.declared.event.Event.{Event}
use Rattle.np_syntax.specs.declared.event.Kind.{Kind}
use Rattle.np_syntax.specs.declared.event.Kind.TheVariants as kind
use Rattle.np_syntax.specs.contracts.event.Kind as kinds
use Rattle.np_syntax.specs.declared.process.Role.TheVariants as role
use Rattle.np_syntax.specs.declared.event.Made.{Made}
use Rattle.np_syntax.specs.declared.event.Made.TheVariants as made
use Rattle.np_syntax.specs.Options.{◌>>=◌}
use Rattle.np_syntax.specs.declared.process.Proc.{Proc}
use Rattle.np_syntax.specs.declared.value.Name.{Name}
use Rattle.np_calculus.proofs.Common.{Change, change, inside, same_name, same_name-is, then, when, way}
use Rattle.np_calculus.proofs.Common.{arrive_row, land_row}
use Rattle.np_calculus.proofs.FrameRule.{not-false}
use Rattle.np_calculus.proofs.Steps.{row-step}
use Rattle.np_calculus.specs.declared.config.Place.{Place}
use Rattle.np_calculus.specs.declared.config.Place.TheVariants as place
use Rattle.np_calculus.specs.Begins.{arrival, landing}
use Rattle.np_calculus.specs.Config.{Config}
use Rattle.np_calculus.specs.Idle.{Can}
use Rattle.np_calculus.specs.NotEnabled.{by_atom}
use Rattle.np_calculus.specs.Reductions.{apply, run}
use Rattle.np_calculus.specs.Starts.{start_low}
use Rattle.stamp_history.specs.declared.stamped.Stamped.{Stamped}
use Rattle.run_merge.specs.Laws.{HasOwnSite}
use Rattle.run_merge.specs.Merged.{items, merged}
use Rattle.run_merge.proofs.InOrder.{all_map, all_weaker}
use Rattle.site_links.specs.declared.port.Port as Port
use Rattle.np_site_runs.specs.merged.Deeds.{Deed, IsDeedOf, StampedItem}
use Rattle.np_syntax.proofs.Options.{there-is}
use Rattle.np_site_runs.specs.Holdings.{Holding, IsPart}
use Rattle.np_site_runs.specs.Making as holding
use Rattle.np_site_runs.specs.Accounts.{SitesEnd, came_on}
use Rattle.np_site_runs.proofs.Acting.{only_sites_can}
use Rattle.np_code.specs.Programs.{ProgramTable, program}
use Rattle.run_save.specs.following.Coming.{IsComing}
use Rattle.run_save.specs.following.TravelLaws.{PutsLead}
use Rattle.run_save.proofs.RunLaws.{prefix-ours}
use Rattle.run_save.proofs.following.Coming.{coming_is_first}
use Rattle.run_save.proofs.following.Following.{room_is_left}
use Rattle.run_save.proofs.following.Names.{next_is_counted}
use Rattle.run_save.proofs.following.Parts.{enabled_in_part, event_is_of_site}
use Rattle.run_save.specs.Ours.{AreNext, IsOurs, names_by, names_of}
use Rattle.run_save.proofs.NameLaws.{names-not, names-prefix}
use Rattle.site_agents.proofs.deeds.Resting.{enabled_at}
use Rattle.agent_move.specs.declared.item.Item.{Item}
use Rattle.agent_move.specs.declared.load.Load.{Load}
use Rattle.agent_move.specs.declared.load.Load.TheVariants as load
use Rattle.agent_move.specs.Items.{contents_of, item_of}
use Rattle.item_events.specs.Coming.{event_for}
use Rattle.site_state.specs.Doing.{HasRoom, IsPossible}
use Rattle.site_state.specs.Lines.{queue_at}
use Rattle.site_state.specs.Standings.{holding_of}
use Rattle.site_turn.specs.declared.seat.Seat.{Seat}
use Rattle.site_turn.specs.Turns.{came_from, shown}
use Rattle.site_crew.specs.Bringing.{AreClear, HasDue, HasNotBrought}
use Rattle.site_crew.specs.Following.{HasNotRedone, HaveAdded, HaveDone, HaveMissed, StopsAt}
use Rattle.site_crew.specs.Lists.{IsToFollow}
use Rattle.site_crew.specs.Runs.{IsProgram, RunsSafely}
use Rattle.site_crew.specs.Seats.{AreSeats, Stand, histories}
use Rattle.site_crew.proofs.Clearing.{none_known}
use Rattle.site_crew.proofs.Directed.{are_directed, puts_lead}
use Rattle.site_crew.proofs.Doing.{done_more, history-at, in_place, seat-of}
use Rattle.site_crew.proofs.Possible.{is_possible}
use Rattle.site_crew.proofs.Replacing.{there_too}
use Rattle.site_crew.proofs.Whole.{SeatOf, accounts, are_settled, are_theirs, end_of, here, long-histories, rest_of, sites_end}
use Rattle.site_crew.proofs.Whole as whole

-- its site can do the event of its own, and record it with this stamp
record CanForce {P : Type 0} (code : ProgramTable) (e : Event) (stamp : ℕ) (s : Seat P) : Type 0 where
  room : HasRoom s.site
  possible : IsPossible code s.site e
  above : s.site.clock < stamp

-- ---- lists and runs

pub split-at : {T : Type 0} (xs : List T) (k : ℕ) (x : T) → slice_get xs k ≡ Some x → (rest : List T) × (xs ≡ take k xs ++ x ∷ rest)
split-at [] k x at = absurd (let e = at in cc)
split-at (y ∷ ys) zero x at = (ys, (let e : y ≡ x = cc in ap (λ z. z ∷ ys) e))
split-at (y ∷ ys) (suc k) x at = let s = split-at ys k x at in (s.0, ap (λ zs. y ∷ zs) s.1)

pub take-more : {T : Type 0} (xs : List T) (k : ℕ) (x : T) → slice_get xs k ≡ Some x → take (suc k) xs ≡ take k xs ++ x ∷ []
take-more [] k x at = absurd (let e = at in cc)
take-more (y ∷ ys) zero x at = (let e : y ≡ x = cc in ap (λ z. z ∷ []) e)
take-more (y ∷ ys) (suc k) x at = ap (λ zs. y ∷ zs) (take-more ys k x at)

pub take-length : {T : Type 0} (xs : List T) (k : ℕ) → k ≤ length xs → length (take k xs) ≡ k
take-length xs zero less = refl
take-length [] (suc k) less = absurd (omega arith)
take-length (x ∷ xs) (suc k) less = ap suc (take-length xs k (omega arith))

pub take-all : {T : Type 0} (xs : List T) (k : ℕ) → k ≡ length xs → take k xs ≡ xs
take-all [] zero e = refl
take-all [] (suc k) e = absurd (omega arith)
take-all (x ∷ xs) zero e = absurd (omega arith)
take-all (x ∷ xs) (suc k) e = ap (λ zs. x ∷ zs) (take-all xs k (omega arith))

run-behind : (c : Config) (es later : List Event) (d : Config) → run c es ≡ Some d → run c (es ++ later) ≡ run d later
run-behind c [] later d h = let same : c ≡ d = cc in ap (λ (x : Config). run x later) same
run-behind c (e ∷ es) later d h = then (apply c e) (λ x. run x es) h (λ x first rest. ap (λ o. o >>= λ z. run z (es ++ later)) first ∙ run-behind x es later d rest)

-- what stands past the end of a list of events
abbrev pub no_event : Event
no_event = record { site = 0; kind = kind.Stop; actor = record { site = 0; n = 0 }; other = None; tag = record { node = 0; role = role.Plain }; made = made.Nothing }

-- ---- kinds

pub is_own : (k : Kind) (t : Bool) → t ≡ not (by_atom k) → t ≡ false → by_atom k ≡ true
is_own k t told is = one (by_atom k) (sym told ∙ is)
  where
    one : (b : Bool) → not b ≡ false → b ≡ true
    one true h = refl
    one false h = absurd (let e = h in cc)

pub is_coming : (k : Kind) (t : Bool) → t ≡ not (by_atom k) → t ≡ true → by_atom k ≡ false
is_coming k t told is = not-false (by_atom k) (sym told ∙ is)

pub is_post : (k : Kind) (t : Bool) → t ≡ sameb kinds.the_type k kind.Post → t ≡ true → k ≡ kind.Post
is_post k t told is = same_true kinds.the_type tt k kind.Post (sym told ∙ is)

pub no_post : (k : Kind) (t : Bool) → t ≡ sameb kinds.the_type k kind.Post → t ≡ false → k ≡ kind.Post → ⊥
no_post k t told is e = let yes_it_is : sameb kinds.the_type k kind.Post ≡ true = true_same kinds.the_type k kind.Post e in let f : true ≡ false = sym yes_it_is ∙ sym told ∙ is in absurd cc

-- ---- what comes to a site

way-is : (p : Place) (s : ℕ) → way p ≡ Some s → p ≡ place.Way s
way-is (place.At t) s h = absurd (let e = h in cc)
way-is (place.Way t) s h = let e : t ≡ s = cc in ap place.Way e

module _ (c : Config) (e : Event) where
  coming-by : (k : Kind) → by_atom k ≡ false → (m : Change) → change k c.sites (inside c) e ≡ Some m → Can c e.site
  unfolding arrive_row land_row
  coming-by kind.Arrive comes m gives = then (table.get c.places e.actor) _ gives λ p there gives. then (way p) _ gives λ s is gives. when (nat_eq s e.site) _ gives λ here gives.
      let same : s ≡ e.site = eqb-true s e.site here in
      inr (inl (record { agent = e.actor; comes = there ∙ ap Some (way-is p s is ∙ ap place.Way same) }))
  coming-by kind.Land comes m gives = then (table.get c.packets e.actor) _ gives λ p there gives. when (nat_eq p.to e.site) _ gives λ here gives.
      inl (record { mark = e.actor; packet = p; flies = there; to = eqb-true p.to e.site here })
  coming-by _ comes m gives = absurd (let e = comes in cc)

  coming-can : (d : Config) → by_atom e.kind ≡ false → apply c e ≡ Some d → Can c e.site
  coming-can d comes applies = let s = row-step c e d e.kind applies in coming-by e.kind comes s.made s.gives

-- ---- items

cond-some : {T : Type 0} (b : Bool) (x y : T) → cond b (Some x) None ≡ Some y → (b ≡ true) × (x ≡ y)
cond-some true x y e = (refl, cc)
cond-some false x y e = absurd (let f = e in cc)

-- what comes is just the event
is-event : (ts : List Proc) (e : Event) (l : Load) (to : ℕ) → IsComing e (contents_of ts l to) → event_for e.site l ≡ e
is-event ts e (load.Agent agent) to (IsComing.agent comes is) =
    let c = cond-some (same_name e.actor agent.name) (place.Way to) (place.Way e.site) comes in
    ap (λ (n : Name). arrival n e.site) (sym (same_name-is e.actor agent.name c.0)) ∙ sym is
is-event ts e (load.Agent agent) to (IsComing.packet p flies is) = absurd (let f = flies in cc)
is-event ts e (load.Packet mark packet) to (IsComing.agent comes is) = absurd (let f = comes in cc)
is-event ts e (load.Packet mark packet) to (IsComing.packet p flies is) =
    let c = cond-some (same_name e.actor mark) packet p flies in
    ap₂ landing (sym (same_name-is e.actor mark c.0)) c.1 ∙ sym is

first-shown : (code : ProgramTable) (xs : List Item) (first : StampedItem) (later : List StampedItem) → shown code xs ≡ first ∷ later
    → (x : Item) × (more : List Item) × (xs ≡ x ∷ more) × (item_of code x ≡ first)
first-shown code [] first later e = absurd (let f = e in cc)
first-shown code (x ∷ xs) first later e = let is : item_of code x ≡ first = cc in (x, xs, refl, is)

place-in : {T : Type 0} (xs : List T) (i : ℕ) → i < length xs → (x : T) × (slice_get xs i ≡ Some x)
place-in [] i less = absurd (omega arith)
place-in (x ∷ xs) zero less = (x, refl)
place-in (x ∷ xs) (suc i) less = place-in xs i (omega arith)

-- ---- names

next-of : (h : Holding) (s n : ℕ) (x : Made) → h.site ≡ s → h.next ≡ n → AreNext s n (names_of x) → holding.AreNext h x
next-of h s n made.Nothing site number next = tt
next-of h s n (made.One p) site number next = rw (site, number) next.0
next-of h s n (made.Two p q) site number next = rw (site, number) (next.0, next.1.0)

-- ---- the histories have their sites' events

module _ {P R : Type 0} (g : Port.Ghosts P R Item) (code : ProgramTable) where
  own-events : (budget : ℕ) (xs : List (Seat P)) → AreSeats g code budget xs → AllByRecursion HasOwnSite (histories xs)
  own-events budget xs seats = recursion_from_All HasOwnSite (histories xs) (λ k d less.
      let s = seat-of xs k (get_or (histories xs) k d) (slice_get-get_or (histories xs) k d less) in
      let is = seats.each k s.0 s.1 in
      let own : AllByRecursion (IsDeedOf (length code.sites) s.0.site.site) is.kept.deeds = is.kept.account.run.own in
      let same : s.0.site.site ≡ s.0.site.history.site = is.number ∙ sym is.owner in
      let at : AllByRecursion (λ (x : Stamped). x.event.site ≡ s.0.site.history.site) (map (λ (d : Deed). d.event) is.kept.deeds) =
      all_map (λ (x : Stamped). x.event.site ≡ s.0.site.history.site) (λ (d : Deed). d.event) is.kept.deeds
      (all_weaker (IsDeedOf (length code.sites) s.0.site.site) (λ d. d.event.event.site ≡ s.0.site.history.site) (λ d h. h.at ∙ same) is.kept.deeds own) in
      subst HasOwnSite (sym s.2) (subst (AllByRecursion (λ (x : Stamped). x.event.site ≡ s.0.site.history.site)) (sym is.kept.events) at))

  module _ (budget : ℕ) (xs : List (Seat P)) (events : List Event) (k : ℕ) (e : Event) (done : HaveDone g code budget (take k events) xs) (is : IsProgram code)
      (list : IsToFollow (program code) budget events) (at : slice_get events k ≡ Some e) where
    ends : SitesEnd (length code.sites) (accounts g code budget xs done.stand.seats) (histories xs) (start_low (program code))
    ends = sites_end g code budget xs done.stand.seats done.stand.settled done.stand.whole is.at

    reaches : run (start_low (program code)) (take k events) ≡ Some ends.whole
    reaches = ap (run (start_low (program code))) (sym done.of.items) ∙ ends.runs

    -- it is enabled
    applies : (after : Config) × (apply ends.whole e ≡ Some after)
    applies =
        let s = split-at events k e at in
        let all = there-is (run (start_low (program code)) events) list.runs in
        let behind : run ends.whole (e ∷ s.0) ≡ Some all.0 =
        sym (run-behind (start_low (program code)) (take k events) (e ∷ s.0) ends.whole reaches) ∙ ap (run (start_low (program code))) (sym s.1) ∙ all.1 in
        then (apply ends.whole e) (λ x. run x s.0) behind λ after first rest. (after, first)

    -- its names are the next of its site
    names-first : (u : ℕ) → AreNext u 0 (names_by u (take k events ++ e ∷ []))
    names-first u =
        let s = split-at events k e at in
        let whole : events ≡ (take k events ++ e ∷ []) ++ s.0 = s.1 ∙ sym (append_assoc (take k events) (e ∷ []) s.0) in
        names-prefix u (take k events ++ e ∷ []) s.0 (subst (λ (l : List Event). AreNext u 0 (names_by u l)) whole (list.ours.names u))

    names-before : (u : ℕ) → AreNext u 0 (names_by u (items (merged (histories xs))))
    names-before u = subst (λ (l : List Event). AreNext u 0 (names_by u l)) (sym done.of.items) (names-prefix u (take k events) (e ∷ []) (names-first u))

    few : length (take k events) ≡ k
    few = let less : k < length events = slice_get_within events k e at in take-length events k (omega arith)

    -- it is of one of the sites
    pub site_own : by_atom e.kind ≡ true → e.site < length xs
    site_own own =
        subst (λ (m : ℕ). e.site < m) (sym done.stand.seats.count)
        (event_is_of_site (length code.sites) (accounts g code budget xs done.stand.seats) (histories xs) (start_low (program code)) applies.0 ends e own applies.1)

    pub site_coming : by_atom e.kind ≡ false → e.site < length xs
    site_coming comes =
        subst (λ (m : ℕ). e.site < m) (sym done.stand.seats.count)
        (only_sites_can (length code.sites) (accounts g code budget xs done.stand.seats) (histories xs) (start_low (program code)) ends e.site
        (are_directed g code budget xs done.stand.seats done.stand.settled) (coming-can ends.whole e applies.0 comes applies.1))

    -- and its site can do it
    pub possible_there : by_atom e.kind ≡ true → (e.kind ≡ kind.Post → ⊥) → (s : Seat P) → slice_get xs e.site ≡ Some s → IsPossible code s.site e
    unfolding accounts
    possible_there own post s there =
        let low : e.site < length code.sites = subst (λ (m : ℕ). e.site < m) done.stand.seats.count (slice_get_within xs e.site s there) in
        let held : end_of g code budget e.site (slice_get xs e.site) ≡ holding_of code s.site = ap (end_of g code budget e.site) there in
        let site : (end_of g code budget e.site (slice_get xs e.site)).site ≡ e.site = (are_directed g code budget xs done.stand.seats done.stand.settled).at e.site low in
        let number : (end_of g code budget e.site (slice_get xs e.site)).next ≡ length (names_by e.site (take k events)) =
        next_is_counted (program code) (accounts g code budget xs done.stand.seats) (histories xs) e.site is.at ends low site names-before ∙ ap (λ (l : List Event). length (names_by e.site l)) done.of.items in
        let next : holding.AreNext (end_of g code budget e.site (slice_get xs e.site)) e.made =
        next-of (end_of g code budget e.site (slice_get xs e.site)) e.site (length (names_by e.site (take k events))) e.made site number (names-not (take k events) e names-first) in
        let part : IsPart (holding_of code s.site) (ends.here e.site) = subst (λ (h : Holding). IsPart h (ends.here e.site)) held (ends.parts e.site low) in
        let here = enabled_in_part (length code.sites) (accounts g code budget xs done.stand.seats) (histories xs) (start_low (program code)) applies.0 ends e own applies.1 next in
        is_possible code s.site (ends.here e.site) e part
        (enabled_at code s.site.site s.site.agents s.site.next s.site.history.said (ends.here e.site) here.0 e part post here.1)
        (subst (λ (h : Holding). holding.AreNext h e.made) held next)

    -- there is room for it
    room_there : (s : Seat P) → slice_get xs e.site ≡ Some s → HasRoom s.site
    room_there s there =
        let low : e.site < length code.sites = subst (λ (m : ℕ). e.site < m) done.stand.seats.count (slice_get_within xs e.site s there) in
        let seat = done.stand.seats.each e.site s there in
        let most : s.site.history.budget ≡ budget = sym seat.placed.budget ∙ seat.budget in
        let fewer = room_is_left events k e (histories xs) s.site.history (in_place done.stand) (own-events budget xs done.stand.seats) done.of.items at (history-at xs e.site s there) in
        let within = list.within.each e.site low in omega arith

    can_force : by_atom e.kind ≡ true → (e.kind ≡ kind.Post → ⊥) → (s : Seat P) → slice_get xs e.site ≡ Some s → CanForce code e (k + 1) s
    can_force own post s there =
        let clock = done.clocks e.site s there in
        record { room = room_there s there; possible = possible_there own post s there; above = omega (arith, few) }

    -- what is left on a link from a site, where nothing waits on it, is what the site has in its line
    in-line : (from : ℕ) (o p : Option (Seat P)) (hp : SeatOf g code budget e.site p) (first : StampedItem) (later : List StampedItem) → slice_get xs from ≡ o → slice_get xs e.site ≡ p
        → AreClear g xs → (o ≡ None → ⊥) → (p ≡ None → ⊥) → rest_of g code budget from e.site o p hp ≡ first ∷ later
        → (s : Seat P) × (o ≡ Some s) × (shown code (queue_at s.site.outgoing e.site) ≡ first ∷ later)
    in-line from None p hp first later at_from at_to clear sends takes left = absurd (sends refl)
    in-line from (Some s) None hp first later at_from at_to clear sends takes left = absurd (takes refl)
    in-line from (Some s) (Some t) hp first later at_from at_to clear sends takes left =
        let none : t.aside ≡ None = clear.aside e.site t at_to in
        let settled = (done.stand.settled.each e.site (slice_get_within xs e.site t at_to)).settled from in
        let known : g.known t.port from ≡ [] = none_known clear from e.site settled s t at_from at_to in
        let same : came_on from (came_from code hp.kept.from t.aside) ++ (shown code (g.known t.port from) ++ shown code (queue_at s.site.outgoing e.site)) ≡ shown code (queue_at s.site.outgoing e.site) =
        ap₂ (λ (x : Option Item) (l : List Item). came_on from (came_from code hp.kept.from x) ++ (shown code l ++ shown code (queue_at s.site.outgoing e.site))) none known in
        (s, refl, sym same ∙ left)

    ours-then : IsOurs (program code) (items (merged (histories xs)) ++ e ∷ [])
    ours-then =
        let whole : take (suc k) events ≡ items (merged (histories xs)) ++ e ∷ [] = take-more events k e at ∙ ap (λ l. l ++ e ∷ []) (sym done.of.items) in
        subst (IsOurs (program code)) whole (prefix-ours (start_low (program code)) events (suc k) list.ours)

    -- so what comes by it is the first there
    is_due : by_atom e.kind ≡ false → AreClear g xs → (from : ℕ) × (s : Seat P) × (slice_get xs from ≡ Some s) × HasDue e s
    unfolding accounts
    is_due comes clear =
        let seats = done.stand.seats in
        let lead : PutsLead (length code.sites) (accounts g code budget xs done.stand.seats) = record { each = puts_lead g code budget xs done.stand.seats done.stand.settled } in
        let f = coming_is_first (program code) (accounts g code budget xs done.stand.seats) (histories xs) is.at (are_settled g code budget xs done.stand.seats done.stand.settled)
        (are_theirs g code budget xs done.stand.seats done.stand.whole) lead ends e applies.0 comes applies.1 ours-then in
        let to : e.site < length code.sites = subst (λ (m : ℕ). e.site < m) done.stand.seats.count (site_coming comes) in
        let l = in-line f.from (slice_get xs f.from) (slice_get xs e.site) (here g code budget xs done.stand.seats e.site) f.first f.later refl refl clear
        (whole.some g code budget xs done.stand.seats f.from f.within) (whole.some g code budget xs done.stand.seats e.site to) f.left in
        let q = first-shown code (queue_at l.0.site.outgoing e.site) f.first f.later l.2 in (
          f.from,
          l.0,
          l.1,
          record {
            item = q.0;
            later = q.1;
            first = q.2;
            comes = is-event code.processes e q.0.load q.0.to (subst (λ (x : StampedItem). IsComing e x.item.load) (sym q.3) f.comes);
          },
        )

    -- so it is done
    pub never_missed : RunsSafely (program code) → AreClear g xs → (ys : List (Seat P)) → length ys ≡ length xs → HaveMissed code e (k + 1) xs ys → ⊥
    never_missed safe clear ys count missed = by missed
      where
        there : by_atom e.kind ≡ true → (s : Seat P) × (slice_get xs e.site ≡ Some s)
        there own = place-in xs e.site (site_own own)

        done-own : (a b : Seat P) → CanForce code e (k + 1) a → HasNotRedone code e (k + 1) a b → ⊥
        done-own a b can (HasNotRedone.full full same) = full can.room
        done-own a b can (HasNotRedone.unable none stays) = none.each can.possible.agent can.possible.can
        done-own a b can (HasNotRedone.differs did differs) = differs (sym (can.possible.is did.agent did.can))

        nowhere : (own : Bool) → by_atom e.kind ≡ own → length xs ≤ e.site → ⊥
        nowhere true own past = let less : e.site < length xs = site_own own in omega arith
        nowhere false comes past = let less : e.site < length xs = site_coming comes in omega arith

        by : HaveMissed code e (k + 1) xs ys → ⊥
        by (HaveMissed.nowhere past) = nowhere (by_atom e.kind) refl past
        by (HaveMissed.coming comes (HasNotBrought.nowhere none)) = let d = is_due comes clear in none.none d.0 d.1 d.2 d.3
        by (HaveMissed.coming comes (HasNotBrought.full full)) = let s = place-in xs e.site (site_coming comes) in full s.0 s.1 (room_there s.0 s.1)
        by (HaveMissed.posts post) = safe.posts (take k events) ends.whole reaches e applies.0 applies.1 post
        by (HaveMissed.own own post missed) =
            let s = there own in
            let t = there_too xs ys e.site s.0 count s.1 in
            done-own s.0 t.0 (can_force own post s.0 s.1) (missed.there s.0 t.0 s.1 t.1)

  -- once it was recorded, one event more was done
  pub followed_one : {budget : ℕ} {xs ys : List (Seat P)} (events : List Event) (k : ℕ) (e : Event) (late : ℕ) → HaveDone g code budget (take k events) xs → slice_get events k ≡ Some e
      → Stand g code budget ys → late ≤ k → HaveAdded e (k + 1) late xs ys → HaveDone g code budget (take (k + 1) events) ys
  followed_one {budget} {xs} {ys} events k e late done at stand low added =
      let less : k < length events = slice_get_within events k e at in
      let few : length (take k events) ≡ k = take-length events k (omega arith) in
      let one : k + 1 ≡ suc k = omega arith in
      let more : take (k + 1) events ≡ take k events ++ e ∷ [] = ap (λ m. take m events) one ∙ take-more events k e at in
      subst (λ (l : List Event). HaveDone g code budget l ys) (sym more) (done_more done stand added (omega arith) (omega arith))

  -- where the list is a run that the sites make by themselves, within the budget, they do not stop
  pub never_stops : {budget : ℕ} {events : List Event} {xs : List (Seat P)} → IsProgram code → RunsSafely (program code) → IsToFollow (program code) budget events → StopsAt g code budget events xs → ⊥
  never_stops {budget} {events} {xs} is safe list stops =
      let m = stops.missed in
      let count : length xs ≡ length stops.mid = sym (long-histories xs) ∙ stops.grow.count ∙ long-histories stops.mid in
      never_missed budget stops.mid events stops.place m.event stops.done is list m.at safe stops.clear xs count m.missed
