-- Steps of a turn that made an event, and steps that made none.
use Rattle.std.proofs.Common.{◌≡◌, ◌<◌, ◌+◌, ℕ, Bool, true, false, List, [], ◌∷◌, ◌++◌, length, Option, None, Some, option_map, refl, sym, ap, subst, ◌∙◌, arith, inl, inr, length-append, ◌≢◌, ◌≤◌, append-nil, cond, eq-eqb}
use Rattle.std.specs.Prelude.{◌⊎◌, is_some}
use Rattle.std.proofs.lemmas.Bool.{cases_lt}
use Rattle.std.proofs.lemmas.Bool.Decides.{eqb_tells}
use Rattle.std.proofs.lemmas.List.{append_assoc, append_cancel_left}
use Rattle.std.specs.FinMap as table
use Rattle.np_syntax.specs.declared.event.Event.{Event}
use Rattle.site_links.specs.Words.{only_at}
use Rattle.site_links.specs.declared.port.Port as Port
use Rattle.np_code.specs.Programs.{ProgramTable}
use Rattle.agent_pool.specs.Pools.{without_room}
use Rattle.agent_pool.specs.Readies.{NothingReady}
use Rattle.agent_move.specs.declared.item.Item.{Item}
use Rattle.site_agents.specs.Standings.{NoneCan}
use Rattle.site_state.specs.declared.stepping.Stepped.{Stepped}
use Rattle.site_state.specs.declared.stepping.Stepped.TheVariants as stepped
use Rattle.site_state.specs.Doing.{Did, HasRoom, HasTaken, IsStepped, IsTried}
use Rattle.site_state.specs.Lines.{queue_at}
use Rattle.site_state.specs.Standings.{IsOut, SameRecords, SameSite, Standing, Stays, StaysForAll}
use Rattle.site_state.proofs.Tellings.{same_atoms, there_still}
use Rattle.site_turn.specs.declared.seat.Seat.{Seat}
use Rattle.site_turn.specs.Turns.{Accepts, HadNothing, MakesNone, MakesOne, LeavesLink, OnlySends, Receives, ReceivesAside, ReceivesNone, Seated, SetsAside, Steps, Sends, SendsAll, SendsFor, SendsNone, Turned}
use Rattle.site_links.proofs.Rows.{only_at-other}
use Rattle.site_links.specs.declared.places.TheConstants.{PLACES}
use Rattle.site_turn.proofs.Holdings.{recorded_events}
use Rattle.site_turn.proofs.Steps.{address, quiet_kept}

-- ---- no event

pub same_refl : (s : Standing) → SameSite s s
same_refl s = record { site = refl; agents = record { each = λ q. refl }; next = refl; clock = refl; history = refl; outgoing = record { sites = refl; queues = λ t. refl } }

module _ {code : ProgramTable} where
  pub none_refl : (s : Standing) → MakesNone code s s
  none_refl s = record { agents = record { each = λ q. refl }; quiet = λ h. h; records = record { site = refl; next = refl; clock = refl; history = refl } }

  pub none_trans : {a b c : Standing} → MakesNone code a b → MakesNone code b c → MakesNone code a c
  none_trans h k = record {
    agents = record { each = λ q. k.agents.each q ∙ h.agents.each q };
    quiet = λ i. k.quiet (h.quiet i);
    records = record {
      site = k.records.site ∙ h.records.site;
      next = k.records.next ∙ h.records.next;
      clock = k.records.clock ∙ h.records.clock;
      history = k.records.history ∙ h.records.history;
    };
  }

  pub none_stays : {a b : Standing} → Stays code a b → MakesNone code a b
  none_stays s = record { agents = s.same.agents; quiet = s.quiet; records = record { site = s.same.site; next = s.same.next; clock = s.same.clock; history = s.same.history } }

  pub none_for_all : {a b : Standing} → StaysForAll a b → MakesNone code a b
  none_for_all s = none_stays (record { same = s.same; quiet = s.quiet code })

  pub none_same : {a b : Standing} → b ≡ a → MakesNone code a b
  none_same {a} {b} e = subst (λ (s : Standing). MakesNone code a s) (sym e) (none_refl a)

  none_kept : (a b : Standing) → b.agents ≡ a.agents → b.quiet ≡ a.quiet → SameRecords a b → MakesNone code a b
  none_kept a b agents quiet records = record {
    agents = record { each = λ q. ap (λ m. option_map without_room (table.get m q)) agents };
    quiet = quiet_kept code a b agents quiet;
    records = records;
  }

  -- the first item of a line was taken from it, and given back
  pub none_out : {to : ℕ} {item : Item} {a b : Standing} → IsOut to item a b → MakesNone code a b
  none_out {to} {item} {a} {b} out = none_kept a b out.agents out.quiet out.same

  pub none_back : {to from : ℕ} {item back : Item} {a mid b : Standing} → IsOut to item a mid → IsOut from back b mid → MakesNone code a b
  none_back {to} {from} {item} {back} {a} {mid} {b} out again = none_kept a b (sym again.agents ∙ out.agents) (sym again.quiet ∙ out.quiet) (record {
    site = sym again.same.site ∙ out.same.site;
    next = sym again.same.next ∙ out.same.next;
    clock = sym again.same.clock ∙ out.same.clock;
    history = sym again.same.history ∙ out.same.history;
  })

  -- where no agent can do anything then, none could before
  pub none_could : {a b : Standing} → MakesNone code a b → NoneCan code b.agents → NoneCan code a.agents
  none_could {a} {b} h none = record {
    each = λ q p at.
        let t = there_still b.agents a.agents q p (record { each = λ r. sym (h.agents.each r) }) at in
        subst (NothingReady code) (sym (same_atoms code p t.was t.same)) (none.each q t.was t.stood);
  }

  pub room_before : {a b : Standing} → MakesNone code a b → HasRoom a → HasRoom b
  room_before h room = subst (λ r. length r.events < r.budget) (sym h.records.history) room

  -- ---- an event

  pub one_did : {a b : Standing} {event : Event} {taken out : Option Item} → Did code a b event taken out → MakesOne a b
  one_did {a} {b} {event} did = record {
    event = record { stamp = b.clock; event = event };
    events = ap (λ h. h.events) did.history ∙ recorded_events a.history (record { stamp = b.clock; event = event }) did.value;
  }

  pub one_after : {a b c : Standing} → MakesNone code a b → MakesOne b c → MakesOne a c
  one_after h one = record { event = one.event; events = one.events ∙ ap (λ r. r.events ++ one.event ∷ []) h.records.history }

one_taken : (code : ProgramTable) {a b : Standing} {item : Item} → HasTaken a b item → length code.sites ≡ length a.outgoing → MakesOne a b
one_taken code taken sites = one_did (taken.did code sites)

pub count_one : {a b : Standing} → MakesOne a b → length b.history.events ≡ length a.history.events + 1
count_one {a} {b} one = ap length one.events ∙ length-append a.history.events (one.event ∷ [])

pub count_none : {code : ProgramTable} {a b : Standing} → MakesNone code a b → length b.history.events ≡ length a.history.events
count_none h = ap (λ r. length r.events) h.records.history

some-none : {T : Type 0} (o : Option T) (x : T) → o ≡ Some x → o ≡ None → ⊥
some-none o x h k = let e : Some x ≡ None = sym h ∙ k in absurd cc

module _ {P R : Type 0} (g : Port.Ghosts P R Item) where
  -- nothing was known to wait for it, if it had room
  pub record NoneKnown (a : Seat P) : Type 0 where
    pub each : HasRoom a.site → (k : ℕ) → g.known a.port k ≡ []

pub not_some : {T : Type 0} (o : Option T) (b : Bool) → b ≡ is_some o → b ≡ false → o ≡ None
not_some None b is none = refl
not_some (Some x) b is none = let e : true ≡ false = sym is ∙ none in absurd cc

module _ {P R : Type 0} (g : Port.Ghosts P R Item) (code : ProgramTable) where
  -- after so many items
  pub record HasSentSome (to n : ℕ) (a b : Seat P) : Type 0 where
    pub sent : length (g.sent b.port to) ≡ length (g.sent a.port to) + n
    pub room : g.room a.port to ≤ g.room b.port to + n
    pub others : (k : ℕ) → k ≢ to → LeavesLink g code k a b

  -- the sites below n have had their items, and the links to the others are as they were
  pub record HasSentBelow (n : ℕ) (a b : Seat P) : Type 0 where
    pub below : (to : ℕ) → to < n → SendsFor g code to a b
    pub others : (to : ℕ) → n ≤ to → LeavesLink g code to a b

-- ---- sending

module _ {P R : Type 0} {g : Port.Ghosts P R Item} {code : ProgramTable} where
  pub sends_refl : (a : Seat P) → OnlySends g code a a
  sends_refl a = record { site = none_refl a.site; known = λ k. refl; aside = refl; failed = refl }

  pub sends_trans : {a b c : Seat P} → OnlySends g code a b → OnlySends g code b c → OnlySends g code a c
  sends_trans h k = record { site = none_trans h.site k.site; known = λ j. k.known j ∙ h.known j; aside = k.aside ∙ h.aside; failed = k.failed ∙ h.failed }

  -- the first item of a line came back from the port, and the lines are as they were
  pub lines_back : {a : Seat P} {now mid : Standing} {to : ℕ} {item back : Item} → Seated g code a → IsOut to item a.site mid → back ≡ item → IsOut back.to back now mid
      → SameSite a.site now
  lines_back {a} {now} {mid} {to} {item} {back} seated out same put =
      let again : IsOut to item now mid = subst (λ (m : ℕ). IsOut m item now mid) (address seated out).0 (subst (λ (x : Item). IsOut x.to x now mid) same put) in record {
        site = sym again.same.site ∙ out.same.site;
        agents = record { each = λ q. ap (λ m. option_map without_room (table.get m q)) (sym again.agents ∙ out.agents) };
        next = sym again.same.next ∙ out.same.next;
        clock = sym again.same.clock ∙ out.same.clock;
        history = sym again.same.history ∙ out.same.history;
        outgoing = record {
          sites = sym again.outgoing.sites ∙ out.outgoing.sites;
          queues = λ t. elim (eqb_tells t to) [
            | inl w ↦
                subst (λ (m : ℕ). queue_at now.outgoing m ≡ queue_at a.site.outgoing m) (sym w.1) (again.outgoing.there ∙ sym out.outgoing.there)
            | inr w ↦ sym (again.outgoing.others t w.1) ∙ out.outgoing.others t w.1
          ];
        };
      }

  links_refl : (k : ℕ) (a : Seat P) → LeavesLink g code k a a
  links_refl k a = record { queue = refl; sent = refl; room = omega arith }

  links_trans : (k : ℕ) {a b c : Seat P} → LeavesLink g code k a b → LeavesLink g code k b c → LeavesLink g code k a c
  links_trans k h l = let low = h.room in let high = l.room in record { queue = l.queue ∙ h.queue; sent = l.sent ∙ h.sent; room = omega arith }

  -- what one item on a link leaves of another link
  one_other : (k to : ℕ) {a b : Seat P} → k ≢ to → Sends g code to a b → LeavesLink g code k a b
  one_other k to {a} {b} apart h =
      let none = only_at-other k to h.item apart in
      let room : g.room a.port k ≤ g.room b.port k + length (only_at k to h.item) = h.room k in
      let zero : length (only_at k to h.item) ≡ 0 = ap length none in record {
        queue = h.out.outgoing.others k apart;
        sent = h.sent k ∙ ap (λ l. g.sent a.port k ++ l) none ∙ append-nil (g.sent a.port k);
        room = omega arith;
      }

  none_other : (k to : ℕ) {a b : Seat P} → SendsNone g code to a b → LeavesLink g code k a b
  none_other k to {a} {b} h = let room = h.room k in record { queue = h.site.outgoing.queues k; sent = h.sent k; room = omega arith }

  pub sent_zero : (to : ℕ) (a : Seat P) → HasSentSome g code to 0 a a
  sent_zero to a = record { sent = omega arith; room = omega arith; others = λ k apart. links_refl k a }

  pub sent_more : (to n : ℕ) {a b c : Seat P} → HasSentSome g code to n a b → Sends g code to b c → HasSentSome g code to (n + 1) a c
  sent_more to n {a} {b} {c} h one =
      let here : only_at to to one.item ≡ one.item ∷ [] = ap (λ t. cond t (one.item ∷ []) []) (eq-eqb to to refl) in
      let more : length (g.sent c.port to) ≡ length (g.sent b.port to) + 1 =
      ap length (one.sent to ∙ ap (λ l. g.sent b.port to ++ l) here) ∙ length-append (g.sent b.port to) (one.item ∷ []) in
      let place : length (only_at to to one.item) ≡ 1 = ap length here in
      let low : g.room b.port to ≤ g.room c.port to + length (only_at to to one.item) = one.room to in
      let was = h.sent in let had = h.room in record {
        sent = omega arith;
        room = omega arith;
        others = λ k apart. links_trans k (h.others k apart) (one_other k to apart one);
      }

  pub sent_end : (to n : ℕ) {a b c : Seat P} → HasSentSome g code to n a b → SendsNone g code to b c → SendsFor g code to a c
  sent_end to n {a} {b} {c} h none = record {
    most = elim none.why [
      | inl e ↦ inl (none.site.outgoing.queues to ∙ e)
      | inr e ↦
          let same : length (g.sent c.port to) ≡ length (g.sent b.port to) = ap length (none.sent to) in
          let was = h.sent in let had = h.room in inr (omega arith)
    ];
  }

  pub sent_end_others : (to n : ℕ) {a b c : Seat P} → HasSentSome g code to n a b → SendsNone g code to b c → (k : ℕ) → k ≢ to → LeavesLink g code k a c
  sent_end_others to n h none k apart = links_trans k (h.others k apart) (none_other k to none)

  pub sent_full : (to n : ℕ) {a b : Seat P} → HasSentSome g code to n a b → PLACES ≤ n → SendsFor g code to a b
  sent_full to n {a} {b} h full = record { most = inr (let was = h.sent in omega arith) }

  pub sent_below_none : (a : Seat P) → HasSentBelow g code 0 a a
  sent_below_none a = record { below = λ to less. absurd (omega arith); others = λ to more. links_refl to a }

  sent_from : (to : ℕ) {a b c : Seat P} → LeavesLink g code to a b → SendsFor g code to b c → SendsFor g code to a c
  sent_from to {a} {b} {c} h one = record {
    most = elim one.most [
      | inl e ↦ inl e
      | inr e ↦
          let same : length (g.sent b.port to) ≡ length (g.sent a.port to) = ap length h.sent in
          let room = h.room in inr (omega arith)
    ];
  }

  sent_still : (to : ℕ) {a b c : Seat P} → SendsFor g code to a b → LeavesLink g code to b c → SendsFor g code to a c
  sent_still to {a} {b} {c} one h = record {
    most = elim one.most [
      | inl e ↦ inl (h.queue ∙ e)
      | inr e ↦ let same : length (g.sent c.port to) ≡ length (g.sent b.port to) = ap length h.sent in inr (omega arith)
    ];
  }

  pub sent_below_more : (n : ℕ) {a b c : Seat P} → HasSentBelow g code n a b → SendsFor g code n b c → ((k : ℕ) → k ≢ n → LeavesLink g code k b c) → HasSentBelow g code (n + 1) a c
  sent_below_more n {a} {b} {c} h one others = record {
    below = λ to less. elim (eqb_tells to n) [
      | inl w ↦ subst (λ (m : ℕ). SendsFor g code m a c) (sym w.1) (sent_from n (h.others n (omega arith)) one)
      | inr w ↦ sent_still to (h.below to (omega arith)) (others to w.1)
    ];
    others = λ to more. links_trans to (h.others to (omega arith)) (others to (λ e. absurd (omega arith)));
  }

  -- the sites between two numbers had no items
  pub sent_below_next : (n m : ℕ) {a b : Seat P} → HasSentBelow g code n a b → n ≤ m → ((to : ℕ) → n ≤ to → to < m → queue_at b.site.outgoing to ≡ []) → HasSentBelow g code m a b
  sent_below_next n m h more none = record {
    below = λ to less. elim (cases_lt to n) [
      | inl l ↦ h.below to l
      | inr l ↦ record { most = inl (none to l less) }
    ];
    others = λ to above. h.others to (omega arith);
  }

  -- ---- receiving

  pub received : {a b m : Seat P} (from : ℕ) (item : Item) → ((k : ℕ) → g.got m.port k ≡ g.got a.port k ++ only_at k from item) → m.site ≡ a.site → Accepts m item b → Receives g code a b
  received {a} {b} {m} from item got site accepts = record {
    item = item;
    from = from;
    got = λ k. ap (λ p. g.got p k) accepts.port ∙ got k;
    site = subst (λ (s : Standing). HasTaken s b.site item) site accepts.site;
  }

  pub received_aside : {a b m : Seat P} (from : ℕ) (item : Item) → ((k : ℕ) → g.got m.port k ≡ g.got a.port k ++ only_at k from item) → m.site ≡ a.site → SetsAside m item b
      → ReceivesAside g code a b
  received_aside {a} {b} {m} from item got site sets = record {
    item = item;
    from = from;
    got = λ k. ap (λ p. g.got p k) sets.port ∙ got k;
    aside = sets.aside;
    site = subst (λ (s : Standing). StaysForAll s b.site) site sets.site;
  }

  pub one_received : {a b : Seat P} → Seated g code a → Receives g code a b → MakesOne a.site b.site
  one_received seated h = one_taken code h.site (sym seated.placed.lines)

  pub none_received : (a b : Seat P) → ReceivesNone g code a b → MakesNone code a.site b.site
  none_received a b (inl h) = none_same h.site
  none_received a b (inr h) = none_for_all h.site

  -- where no item is set aside, none was known to wait
  pub none_waited : (a b : Seat P) → ReceivesNone g code a b → b.aside ≡ None → NoneKnown g a
  none_waited a b (inl h) free = record { each = h.none (sym h.aside ∙ free) }
  none_waited a b (inr h) free = absurd (some-none b.aside h.item h.aside free)

-- ---- a step of the site's own

module _ {P : Type 0} (code : ProgramTable) (a b : Seat P) where
  pub stepped_surely : (s : Stepped) → IsStepped code a.site b.site s → Steps code true a b s
  stepped_surely stepped.Did h = h
  stepped_surely stepped.Quiet h = (h.0, h.1, λ walks. h.2)
  stepped_surely stepped.Spent h = (h.1, inl h.0)

  pub stepped_likely : (s : Stepped) → IsTried code a.site b.site s → Steps code false a b s
  stepped_likely stepped.Did h = h
  stepped_likely stepped.Quiet h = (h.0, h.1, λ walks. absurd cc)
  stepped_likely stepped.Spent h = (h.1, inl h.0)

no-list : {T : Type 0} (xs ys : List T) → xs ++ ys ≡ [] → ys ≡ []
no-list [] ys e = e
no-list (x ∷ xs) ys e = absurd (let h = e in cc)

-- ---- one event

module _ {P R : Type 0} {g : Port.Ghosts P R Item} {code : ProgramTable} where
  -- an item is set aside, or memory ran out
  pub had_failed : (a b : Seat P) (walks : Bool) → (b.failed ≡ false → b.aside ≡ None → ⊥) → HadNothing g code walks a b
  had_failed a b walks h = record {
    waits = record { none = λ ok free room. absurd (h ok free) };
    agents = λ w ok free room. absurd (h ok free);
  }

  pub had_spent : (a m b : Seat P) (walks : Bool) → MakesNone code a.site m.site → (length m.site.history.events ≡ m.site.history.budget) ⊎ (b.failed ≡ true) → HadNothing g code walks a b
  had_spent a m b walks none (inl full) =
      let no : HasRoom a.site → ⊥ = λ room. (let there : length m.site.history.events < m.site.history.budget = room_before none room in absurd (omega arith)) in record {
        waits = record { none = λ ok free room. absurd (no room) };
        agents = λ w ok free room. absurd (no room);
      }
  had_spent a m b walks none (inr failed) = had_failed a b walks (λ ok free. (let e = sym failed ∙ ok in absurd cc))

  pub had_quiet : (a m b : Seat P) (walks : Bool) → MakesNone code a.site m.site → NoneKnown g a → (walks ≡ true → NoneCan code m.site.agents) → HadNothing g code walks a b
  had_quiet a m b walks none known can = record {
    waits = record { none = λ ok free room. known.each room };
    agents = λ w ok free room. none_could none (can w);
  }

  -- ---- a turn

  -- what was outgoing was put on its link before
  pub had_sent : (a m b : Seat P) (walks : Bool) → OnlySends g code a m → HadNothing g code walks m b → HadNothing g code walks a b
  had_sent a m b walks only had = record {
    waits = record { none = λ ok free room k. sym (only.known k) ∙ had.waits.none ok free (room_before only.site room) k };
    agents = λ w ok free room. none_could only.site (had.agents w ok free (room_before only.site room));
  }

  -- what was put on the links before an event was looked for is put there still
  pub sends_still : {a m b : Seat P} → SendsAll g code a m → Turned g code m b → b.site.history.events ≡ m.site.history.events → SendsAll g code a b
  sends_still {a} {m} {b} sends turned same = record {
    each = λ to less. record {
      most =
          let grown = turned.sent to in
          let long : length (g.sent b.port to) ≡ length (g.sent m.port to) + length grown.rest = ap length grown.is ∙ length-append (g.sent m.port to) grown.rest in
          elim (sends.each to less).most [
            | inl e ↦
                let all : g.sent b.port to ++ queue_at b.site.outgoing to ≡ g.sent m.port to ++ [] = turned.line same to ∙ ap (λ q. g.sent m.port to ++ q) e in
                let none : grown.rest ++ queue_at b.site.outgoing to ≡ [] =
                append_cancel_left (g.sent m.port to) (grown.rest ++ queue_at b.site.outgoing to) [] (sym (append_assoc (g.sent m.port to) grown.rest (queue_at b.site.outgoing to)) ∙ ap (λ l. l ++ queue_at b.site.outgoing to) (sym grown.is) ∙ all) in
                inl (no-list grown.rest (queue_at b.site.outgoing to) none)
            | inr e ↦ inr (omega arith)
          ];
    };
  }
