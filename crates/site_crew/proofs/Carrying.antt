-- What the links and the outgoing lines of seats carry is what their sites put on their way, and took.
use Rattle.std.proofs.Common.{◌≡◌, ◌<◌, ◌≤◌, ◌==◌, ◌-◌, ⊎_elim, ℕ, Bool, true, false, cond, is_some, List, [], ◌∷◌, ◌++◌, length, map, take, drop, get_or, filter, flat_map, Option, None, Some, IsSome, IfSome, option_map, option_to_list, refl, sym, ap, ap₂, subst, subst₂, ◌∙◌, append_assoc}
use Rattle.std.specs.Prelude.{slice_get}
use Rattle.std.specs.List.{AllByRecursion}
use Rattle.std.proofs.lemmas.Bool.{eq-eqb}
use Rattle.std.proofs.lemmas.List.{append_cancel_right, take-append-drop}
use Rattle.std.proofs.lemmas.Option.{get_or_from_slice_get, slice_get-map, slice_get_within}
use Rattle.np_syntax.specs.declared.event.Event.{Event}
use Rattle.np_syntax.specs.declared.event.Kind.{Kind}
use Rattle.np_syntax.specs.declared.event.Kind.TheVariants as kind
use Rattle.np_syntax.specs.declared.process.Proc.{Proc}
use Rattle.np_syntax.specs.declared.value.Name.{Name}
use Rattle.np_syntax.proofs.Options.{some_is}
use Rattle.np_tables.specs.Names.{same_name}
use Rattle.np_tables.proofs.Tables.{same_name-is}
use Rattle.np_calculus.specs.Config.{Config}
use Rattle.np_calculus.specs.Starts.{start_low}
use Rattle.stamp_history.specs.declared.stamped.Stamped.{Stamped}
use Rattle.stamp_history.specs.Histories.{Recorded}
use Rattle.run_merge.proofs.InOrder.{all_weaker}
use Rattle.np_site_runs.specs.merged.Deeds.{Deed, IsDeedOf, StampedItem, Ticks, put_for, taken_from}
use Rattle.np_site_runs.specs.merged.StampedLaws.{ItemsRise}
use Rattle.np_site_runs.proofs.merged.Growing.{stamps_rise}
use Rattle.np_site_runs.proofs.merged.Moving.{below_or_not}
use Rattle.np_site_runs.specs.Accounts as told
use Rattle.np_site_runs.specs.Accounts.{Accounts, AreTheirs, came_on, held_runs}
use Rattle.np_site_runs.specs.SiteRuns.{AreHeldRuns, HeldRuns}
use Rattle.np_site_runs.specs.Starting.{start_holding}
use Rattle.np_site_runs.proofs.Accounts.{inner, rest-is as rest-inner, settled_are_runs}
use Rattle.np_site_runs.proofs.Ending.{all-put}
use Rattle.np_site_runs.proofs.Running.{held_runs_are_runs}
use Rattle.np_site_runs.proofs.Starting.{low_start_is_held}
use Rattle.run_save.specs.following.ByKind.{Brings, IsOfKind, puts_out, takes_in}
use Rattle.run_save.specs.following.TravelLaws.{PutsLead}
use Rattle.run_save.proofs.following.Ending.{deeds_are_of_kinds}
use Rattle.site_links.specs.Words.{Begins}
use Rattle.site_links.specs.declared.port.Port as Port
use Rattle.np_code.specs.Programs.{ProgramTable, program}
use Rattle.agent_move.specs.declared.item.Item.{Item}
use Rattle.agent_move.specs.declared.load.Load.{Load}
use Rattle.agent_move.specs.declared.load.Load.TheVariants as load
use Rattle.agent_move.specs.Items.{contents_of, item_of}
use Rattle.site_state.specs.Lines.{queue_at}
use Rattle.site_turn.specs.declared.seat.Seat.{Seat}
use Rattle.site_turn.specs.Turns.{shown}
use Rattle.site_crew.specs.Carried.{AreTakenBy, HasSent, HasTaken, IsCarriedBy, IsTakenBy, RiseInLine, line_to}
use Rattle.site_crew.specs.Runs.{IsCrewRun, IsProgram}
use Rattle.site_crew.specs.Seats.{Stand, histories}
use Rattle.site_crew.specs.Shown.{IsShownBy, SeatState, accepted, seat_state, seat_states}
use Rattle.site_crew.proofs.Directed.{puts_lead}
use Rattle.site_crew.proofs.Showing.{shown_run}
use Rattle.site_crew.proofs.Underway.{all-mapped, at_site, came-is, long-map, of_state}
use Rattle.site_crew.proofs.Unmerged.{Unmerged, unmerged}
use Rattle.site_crew.proofs.Whole.{SeatOf, accounts, are_settled, are_theirs, deeds_of, here}

-- ---- what is put

put-step : (d : Deed) (rest : List StampedItem) (events : List Stamped) → IsOfKind d → IfSome d.put (λ x. x.stamp ≡ d.event.stamp)
    → map (λ (x : StampedItem). x.stamp) rest ≡ map (λ (e : Stamped). e.stamp) events → (o : Option StampedItem) → d.put ≡ o
    → map (λ (x : StampedItem). x.stamp) (option_to_list d.put ++ rest) ≡ map (λ (e : Stamped). e.stamp) (cond (puts_out d.event.event.kind) (d.event ∷ events) events)
put-step d rest events k stamp more None is =
    ap (λ o. map (λ (x : StampedItem). x.stamp) (option_to_list o ++ rest)) is ∙ more
    ∙ ap (λ t. map (λ (e : Stamped). e.stamp) (cond t (d.event ∷ events) events)) (sym (k.put ∙ ap is_some is))
put-step d rest events k stamp more (Some y) is =
    let first : y.stamp ≡ d.event.stamp = subst (λ o. IfSome o (λ x. x.stamp ≡ d.event.stamp)) is stamp in
    ap (λ o. map (λ (x : StampedItem). x.stamp) (option_to_list o ++ rest)) is ∙ (λ i. first i ∷ more i)
    ∙ ap (λ t. map (λ (e : Stamped). e.stamp) (cond t (d.event ∷ events) events)) (sym (k.put ∙ ap is_some is))

put-stamps : (ds : List Deed) (clock : ℕ) → AllByRecursion IsOfKind ds → Ticks clock ds
    → map (λ (x : StampedItem). x.stamp) (flat_map (λ d. option_to_list d.put) ds) ≡ map (λ (e : Stamped). e.stamp) (filter (λ e. puts_out e.event.kind) (map (λ d. d.event) ds))
put-stamps [] clock kinds ticks = refl
put-stamps (d ∷ ds) clock kinds ticks =
    put-step d (flat_map (λ d. option_to_list d.put) ds) (filter (λ e. puts_out e.event.kind) (map (λ d. d.event) ds)) kinds.0 ticks.0.put
    (put-stamps ds d.event.stamp kinds.1 ticks.1) d.put refl

-- ---- what is taken

is-name : {X : Type 0} (q k : Name) (t : Bool) (x y : X) → same_name q k ≡ t → cond t (Some x) None ≡ Some y → q ≡ k
is-name q k true x y is h = same_name-is q k is
is-name q k false x y is h = absurd cc

is-name-some : {X : Type 0} (q k : Name) (t : Bool) (x : X) → same_name q k ≡ t → IsSome (cond t (Some x) None) → q ≡ k
is-name-some q k true x is h = same_name-is q k is
is-name-some q k false x is h = absurd cc

taken-by : (ts : List Proc) (k : Kind) (e : Event) (l : Load) (to : ℕ) → takes_in k ≡ true → Brings k e (contents_of ts l to) → IsTakenBy k e l
taken-by ts kind.Arrive e (load.Agent pool) to takes h = sym (is-name e.actor pool.name (same_name e.actor pool.name) _ _ refl h)
taken-by ts kind.Arrive e (load.Packet mark packet) to takes h = absurd cc
taken-by ts kind.Land e (load.Agent pool) to takes h = absurd cc
taken-by ts kind.Land e (load.Packet mark packet) to takes h = sym (is-name-some e.actor mark (same_name e.actor mark) packet refl h)
taken-by ts k e l to takes h = absurd (let x = takes in cc)

taken-step : (code : ProgramTable) (d : Deed) (rest : List StampedItem) (events : List Stamped) → IsOfKind d
    → ((all : List Item) → map (item_of code) all ≡ rest → AreTakenBy events all) → (o : Option StampedItem) → d.taken ≡ o → (all : List Item)
    → map (item_of code) all ≡ option_to_list d.taken ++ rest → AreTakenBy (cond (takes_in d.event.event.kind) (d.event ∷ events) events) all
taken-step code d rest events k more None is all are =
    subst (λ t. AreTakenBy (cond t (d.event ∷ events) events) all) (sym (k.taken ∙ ap is_some is)) (more all (are ∙ ap (λ o. option_to_list o ++ rest) is))
taken-step code d rest events k more (Some y) is [] are = absurd (let e : [] ≡ y ∷ rest = are ∙ ap (λ o. option_to_list o ++ rest) is in cc)
taken-step code d rest events k more (Some y) is (x ∷ xs) are =
    let e : item_of code x ∷ map (item_of code) xs ≡ y ∷ rest = are ∙ ap (λ o. option_to_list o ++ rest) is in
    let first : item_of code x ≡ y = cc in
    let others : map (item_of code) xs ≡ rest = cc in
    subst (λ t. AreTakenBy (cond t (d.event ∷ events) events) (x ∷ xs)) (sym (k.taken ∙ ap is_some is)) (
      taken-by code.processes d.event.event.kind d.event.event x.load x.to (k.taken ∙ ap is_some is)
          (subst (λ (z : StampedItem). Brings d.event.event.kind d.event.event z.item.load) (sym first)
          (subst (λ o. IfSome o (λ x. Brings d.event.event.kind d.event.event x.item.load)) is k.brings)),
      more xs others,
    )

each-taken : (code : ProgramTable) (ds : List Deed) → AllByRecursion IsOfKind ds → (all : List Item) → map (item_of code) all ≡ flat_map (λ d. option_to_list d.taken) ds
    → AreTakenBy (filter (λ e. takes_in e.event.kind) (map (λ d. d.event) ds)) all
each-taken code [] kinds [] are = tt
each-taken code [] kinds (x ∷ xs) are = absurd cc
each-taken code (d ∷ ds) kinds all are =
    taken-step code d (flat_map (λ d. option_to_list d.taken) ds) (filter (λ e. takes_in e.event.kind) (map (λ d. d.event) ds)) kinds.0 (each-taken code ds kinds.1) d.taken refl all are

-- ---- lists

none-tail : {X : Type 0} (t : Bool) (x : X) (xs : List X) → cond t (x ∷ xs) xs ≡ [] → xs ≡ []
none-tail true x xs h = absurd cc
none-tail false x xs h = h

-- where no element has a key that is not below n, all are below it
all-below : {X : Type 0} (key : X → ℕ) (n : ℕ) (xs : List X) → ((s : ℕ) → n ≤ s → filter (λ x. key x == s) xs ≡ []) → AllByRecursion (λ x. key x < n) xs
all-below key n [] none = tt
all-below key n (x ∷ xs) none = (
  ⊎_elim (λ less. less)
      (λ above.
      let part = filter (λ y. key y == key x) xs in
      let e : x ∷ part ≡ [] = ap (λ t. cond t (x ∷ part) part) (sym (eq-eqb (key x) (key x) refl)) ∙ none (key x) above in
      absurd cc)
      (below_or_not (key x) n),
  all-below key n xs (λ s above. none-tail (key x == s) x (filter (λ y. key y == s) xs) (none s above)),
)

rise-in-line : (code : ProgramTable) (xs : List Item) → ItemsRise (map (item_of code) xs) → RiseInLine xs
rise-in-line code [] h = tt
rise-in-line code (x ∷ xs) h = (all-mapped (λ (later : StampedItem). x.stamp < later.stamp) (item_of code) xs h.0, rise-in-line code xs h.1)

stamps-of : (code : ProgramTable) (xs : List Item) → map (λ x. x.stamp) xs ≡ map (λ (x : StampedItem). x.stamp) (map (item_of code) xs)
stamps-of code [] = refl
stamps-of code (x ∷ xs) = ap (λ l. x.stamp ∷ l) (stamps-of code xs)

none-left : {X : Type 0} (xs ys : List X) → [] ≡ xs ++ ys → xs ≡ []
none-left [] ys h = refl
none-left (x ∷ xs) ys h = absurd cc

-- ---- seats

module _ {P R : Type 0} (g : Port.Ghosts P R Item) (code : ProgramTable) (limit : ℕ) where
  put-at : (k : ℕ) (o : Option (Seat P)) (h : SeatOf g code limit k o) (s : Seat P) → o ≡ Some s → (t : ℕ)
      → shown code (g.sent s.port t ++ queue_at s.site.outgoing t) ≡ put_for t (deeds_of g code limit k o h)
  put-at k None h s at t = absurd (let e = at in cc)
  put-at k (Some r) h s at t =
      subst (λ (y : Seat P). shown code (g.sent y.port t ++ queue_at y.site.outgoing t) ≡ put_for t (deeds_of g code limit k (Some r) h)) (some_is (Some r) r s refl at) (h.kept.put t)

  module _ (xs : List (Seat P)) (stand : Stand g code limit xs) (is : IsProgram code) where
    abbrev all : Accounts
    all = accounts g code limit xs stand.seats

    settled : told.AreSettled (length code.sites) (start_holding (program code)) (accounts g code limit xs stand.seats)
    settled = are_settled g code limit xs stand.seats stand.settled

    theirs : AreTheirs (length code.sites) (accounts g code limit xs stand.seats) (histories xs)
    theirs = are_theirs g code limit xs stand.seats stand.whole

    kinds : (s : ℕ) → s < length code.sites → AllByRecursion IsOfKind ((accounts g code limit xs stand.seats).deeds s)
    kinds =
        let lead : PutsLead (length code.sites) (accounts g code limit xs stand.seats) = record { each = puts_lead g code limit xs stand.seats stand.settled } in
        deeds_are_of_kinds (program code) all (histories xs) is.at settled theirs lead

    abbrev whole : HeldRuns
    whole = held_runs (length code.sites) (start_holding (program code)) (accounts g code limit xs stand.seats)

    runs : AreHeldRuns (length code.sites) whole
    runs = (settled_are_runs (length code.sites) (start_holding (program code)) all settled).0

    deeds-in : (s : ℕ) → s < length code.sites → whole.deeds s ≡ all.deeds s
    deeds-in s less = inner (length code.sites) s (all.deeds s) [] less

    -- the stamps of the items that a site puts on one link rise
    rises : (s t : ℕ) → s < length code.sites → ItemsRise (put_for t (all.deeds s))
    rises s t less =
        let low = low_start_is_held (program code) is.at in
        let run = (held_runs_are_runs (length code.sites) whole low.0 (start_low (program code)) runs low.1 low.2).2.each s in
        subst (λ ds. ItemsRise (put_for t ds)) (deeds-in s less) ((stamps_rise (length code.sites) s _ _ (whole.deeds s) run).items t)

    -- what a site took from a link, by what it did and by what it tells
    taken-in : (s t : ℕ) → s < length code.sites → t < length code.sites → taken_from s (all.deeds t) ≡ came_on s (all.came t)
    taken-in s t from to =
        append_cancel_right (taken_from s (all.deeds t)) (came_on s (all.came t)) (all.rest s t)
        (sym (sym (ap (put_for t) (deeds-in s from)) ∙ runs.links s t
        ∙ ap₂ (λ (ds : List Deed) (rest : List StampedItem). taken_from s ds ++ rest) (deeds-in t to) (rest-inner (length code.sites) s t (all.rest s t) from to))
        ∙ settled.links s t from to)

    none-from : (s t : ℕ) → length code.sites ≤ s → t < length code.sites → taken_from s (all.deeds t) ≡ []
    none-from s t above to =
        none-left (taken_from s (all.deeds t)) (whole.rest s t)
        (sym (ap (put_for t) (runs.others s above)) ∙ runs.links s t ∙ ap (λ ds. taken_from s ds ++ whole.rest s t) (deeds-in t to))

    module _ (s : ℕ) (a : Seat P) (at : slice_get xs s ≡ Some a) where
      low : s < length code.sites
      low = subst (λ (m : ℕ). s < m) stand.seats.count (slice_get_within xs s a at)

      among : (t : ℕ) → t < length code.sites → t < length xs
      among t less = subst (λ (m : ℕ). t < m) (sym stand.seats.count) less

      abbrev state : SeatState
      state = seat_state g (length xs) a

      abbrev deeds : List Deed
      deeds = (accounts g code limit xs stand.seats).deeds s

      events : a.site.history.events ≡ map (λ d. d.event) deeds
      events =
          let h = a.site.history in
          subst (λ (r : Recorded). r.events ≡ map (λ d. d.event) deeds)
          (get_or_from_slice_get (histories xs) s h h (slice_get-map (λ s. s.site.history) xs s ∙ ap (option_map (λ s. s.site.history)) at)) (theirs.each s h low).events

      put-lines : (t : ℕ) → t < length code.sites → map (item_of code) (line_to state t) ≡ put_for t deeds
      unfolding accounts
      put-lines t less =
          ap₂ (λ (xs ys : List Item). map (item_of code) (xs ++ ys)) (at_site (length xs) (g.sent a.port) t (among t less)) (at_site (length xs) (queue_at a.site.outgoing) t (among t less))
          ∙ put-at s (slice_get xs s) (here g code limit xs stand.seats s) a at t

      all-sent : Unmerged (item_of code) (λ x. x.to) (λ x. x.item.receiver) (λ x. refl) (length code.sites) (flat_map (λ d. option_to_list d.put) deeds) (line_to state)
      all-sent = unmerged (item_of code) (λ x. x.to) (λ x. x.item.receiver) (λ x. refl) (length code.sites) (flat_map (λ d. option_to_list d.put) deeds) (line_to state)
          (all-put (λ x. x.item.receiver < length code.sites) deeds
          (all_weaker (IsDeedOf (length code.sites) s) (λ d. IfSome d.put (λ x. x.item.receiver < length code.sites)) (λ d h. h.to) deeds (settled.each s low).run.own))
          put-lines

      pub has_sent : HasSent (length code.sites) a.site.history state
      has_sent = record {
        all = all-sent.all;
        stamps = stamps-of code all-sent.all ∙ ap (map (λ (x : StampedItem). x.stamp)) all-sent.images_are ∙ put-stamps deeds 0 (kinds s low) (settled.each s low).run.ticks
            ∙ ap (λ es. map (λ (e : Stamped). e.stamp) (filter (λ e. puts_out e.event.kind) es)) (sym events);
        within = all-sent.within;
        lines = all-sent.each;
        rise = λ t less. rise-in-line code (line_to state t) (subst ItemsRise (sym (put-lines t less)) (rises s t low));
      }

      taken-lines : (u : ℕ) → u < length code.sites → map (item_of code) (get_or state.got u []) ≡ filter (λ x. x.item.sender == u) (flat_map (λ d. option_to_list d.taken) deeds)
      taken-lines u less =
          ap (map (item_of code)) (at_site (length xs) (accepted g a) u (among u less)) ∙ came-is g code limit xs stand.seats stand.settled u s a at ∙ sym (taken-in u s less low)

      all-taken : Unmerged (item_of code) (λ x. x.from) (λ x. x.item.sender) (λ x. refl) (length code.sites) (flat_map (λ d. option_to_list d.taken) deeds) (λ u. get_or state.got u [])
      all-taken = unmerged (item_of code) (λ x. x.from) (λ x. x.item.sender) (λ x. refl) (length code.sites) (flat_map (λ d. option_to_list d.taken) deeds) (λ u. get_or state.got u [])
          (all-below (λ (x : StampedItem). x.item.sender) (length code.sites) (flat_map (λ d. option_to_list d.taken) deeds) (λ u above. none-from u s above low)) taken-lines

      pub has_taken : HasTaken (length code.sites) a.site.history state
      has_taken = record {
        all = all-taken.all;
        each = subst (λ es. AreTakenBy (filter (λ e. takes_in e.event.kind) es) all-taken.all) (sym events) (each-taken code deeds (kinds s low) all-taken.all all-taken.images_are);
        within = all-taken.within;
        lines = all-taken.each;
      }

    begins : (s t : ℕ) (a b : Seat P) → slice_get xs s ≡ Some a → slice_get xs t ≡ Some b
        → Begins (get_or (seat_state g (length xs) a).sent t []) (get_or (seat_state g (length xs) b).got s [])
    begins s t a b at there =
        let m : ℕ = length (g.got b.port s) - length (filter (λ x. x.from == s) (option_to_list b.aside)) in
        let got : List Item = g.got b.port s in
        let known : List Item = g.known b.port s in
        record {
          rest = drop m got ++ known;
          is = at_site (length xs) (g.sent a.port) t (slice_get_within xs t b there) ∙ sym (((stand.settled.each t (slice_get_within xs t b there)).settled s a b at there).all)
              ∙ ap (λ l. l ++ known) (sym (take-append-drop m got)) ∙ append_assoc (take m got) (drop m got) known
              ∙ ap (λ l. l ++ (drop m got ++ known)) (sym (at_site (length xs) (accepted g b) s (slice_get_within xs s a at)));
        }

    its-history : (s : ℕ) (a : Seat P) (h : Recorded) → slice_get xs s ≡ Some a → slice_get (histories xs) s ≡ Some h → a.site.history ≡ h
    its-history s a h at hat = some_is (slice_get (histories xs) s) a.site.history h (slice_get-map (λ s. s.site.history) xs s ∙ ap (option_map (λ s. s.site.history)) at) hat

    count : length code.sites ≡ length (seat_states g xs)
    unfolding seat_states
    count = sym (long-map (seat_state g (length xs)) xs ∙ stand.seats.count)

    pub carried_by : IsCarriedBy (seat_states g xs) (histories xs)
    carried_by = record {
      sent = λ s seat h at hat.
          let k = of_state g xs s seat at in
          subst (λ (m : ℕ). HasSent m h seat) count (subst (HasSent (length code.sites) h) (sym k.2)
          (subst (λ (r : Recorded). HasSent (length code.sites) r (seat_state g (length xs) k.0)) (its-history s k.0 h k.1 hat) (has_sent s k.0 k.1)));
      taken = λ s seat h at hat.
          let k = of_state g xs s seat at in
          subst (λ (m : ℕ). HasTaken m h seat) count (subst (HasTaken (length code.sites) h) (sym k.2)
          (subst (λ (r : Recorded). HasTaken (length code.sites) r (seat_state g (length xs) k.0)) (its-history s k.0 h k.1 hat) (has_taken s k.0 k.1)));
      first = λ s t sender receiver from to.
          let a = of_state g xs s sender from in
          let b = of_state g xs t receiver to in
          subst₂ (λ (x y : SeatState). Begins (get_or x.sent t []) (get_or y.got s [])) (sym a.2) (sym b.2) (begins s t a.0 b.0 a.1 b.1);
    }

-- seats that stand between rounds have a run, which ends in what they show, and what they carry is what was put on its way and taken
abbrev pub HasEnd : {P R : Type 0} → Port.Ghosts P R Item → ProgramTable → ℕ → List (Seat P) → Type 0
HasEnd g code limit xs =
    (end : Config) × IsCrewRun (program code) limit (histories xs) end × IsShownBy code (seat_states g xs) (histories xs) end × IsCarriedBy (seat_states g xs) (histories xs)

pub has_end : {P R : Type 0} (g : Port.Ghosts P R Item) (code : ProgramTable) (limit : ℕ) (xs : List (Seat P)) → Stand g code limit xs → IsProgram code → HasEnd g code limit xs
has_end g code limit xs stand is = let r = shown_run g code limit xs stand is in (r.0, r.1, r.2, carried_by g code limit xs stand is)
