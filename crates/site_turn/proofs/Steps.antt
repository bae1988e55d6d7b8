-- Steps of a turn.
use Rattle.std.proofs.Common.{◌≡◌, ◌<◌, ◌≤◌, ◌==◌, ℕ, Bool, true, false, cond, List, [], ◌∷◌, ◌++◌, length, map, filter, flat_map, Option, None, Some, IfSome, option_map, option_to_list, refl, sym, ap, ap₂, subst, subst₂, ◌∙◌, append-nil, append_assoc, arith, inl, inr}
use Rattle.std.proofs.lemmas.Bool.{eq-eqb, eqb-true}
use Rattle.std.proofs.lemmas.Bool.Decides.{eqb_tells}
use Rattle.std.proofs.lemmas.List.{map-append}
use Rattle.std.specs.List.{AllByRecursion}
use Rattle.np_calculus.specs.declared.config.Place.TheVariants as place
use Rattle.np_syntax.specs.declared.event.Event.{Event}
use Rattle.np_syntax.specs.declared.process.Proc.{Proc}
use Rattle.np_tables.proofs.Tables.{same_name-itself}
use Rattle.stamp_history.specs.Histories.{Recorded}
use Rattle.std.specs.FinMap as table
use Rattle.site_links.specs.Words.{Begins, Keeps, KeepsAll, only_at}
use Rattle.site_links.specs.declared.port.Port as Port
use Rattle.std.proofs.Math.Logic.{∥∥₁_map}
use Rattle.site_links.proofs.Kept.{Begins-same, Begins-trans, Keeps-refl, all_trans, kept_all}
use Rattle.run_merge.proofs.InOrder.{all_filter, all_flat_map, all_pass, all_weaker}
use Rattle.np_site_runs.specs.merged.Deeds.{Deed, HasStamps, IsDeedOf, StampedItem, clock_after, put_for, ticked}
use Rattle.np_site_runs.proofs.merged.Flowing.{all_both}
use Rattle.np_site_runs.proofs.merged.Growing.{clock_goes_on, puts_follow}
use Rattle.np_site_runs.proofs.merged.Linking.{all_second}
use Rattle.np_site_runs.specs.merged.Elements.{Occurs}
use Rattle.np_site_runs.specs.Holdings.{Holding}
use Rattle.np_site_runs.specs.Accounts.{Came, IsAccount, SendsLoad, came_on, taken_on}
use Rattle.np_site_runs.specs.Ending.{IsLoad}
use Rattle.np_site_runs.specs.SiteRuns.{IsNextDeed}
use Rattle.np_site_runs.proofs.Accounts.{account_grows, came_follows}
use Rattle.np_code.specs.Programs.{ProgramTable}
use Rattle.agent_move.specs.declared.item.Item.{Item}
use Rattle.agent_move.specs.declared.load.Load.{Load}
use Rattle.agent_move.specs.declared.load.Load.TheVariants as load
use Rattle.agent_move.specs.Items.{contents_of, item_of}
use Rattle.site_state.specs.Doing.{ArePut, Did, HasDone, HasTaken, IsSent, IsStepped, IsTried, deed_of}
use Rattle.site_state.specs.declared.stepping.Stepped.{Stepped}
use Rattle.site_state.specs.declared.stepping.Stepped.TheVariants as stepped
use Rattle.site_state.specs.Lines.{Waiting, queue_at, room_at}
use Rattle.site_state.specs.Standings.{IsOut, KeepsQuiet, SameSite, Standing, Stays, holding_of}
use Rattle.site_turn.specs.declared.seat.Seat.{Seat}
use Rattle.site_turn.specs.Turns.{Accepts, AsideIsStrange, HistoryGrows, IsLater, IsStrange, Kept, Seated, SetsAside, Turned, came_from, shown}
use Rattle.site_turn.proofs.Steady.{got_stays, steady_more, steady_same, steady_taken}
use Rattle.site_turn.proofs.Holdings.{history_same, history_trans, holding_same, later_one, later_same, later_trans, not_recorded, recorded_events, recorded_grows, same_between}

-- ---- from step to step

module _ {P R : Type 0} {g : Port.Ghosts P R Item} {code : ProgramTable} where
  pub turned_refl : (a : Seat P) → Turned g code a a
  turned_refl a = record {
    keeps = kept_all (Keeps-refl a.port);
    number = refl;
    lines = refl;
    budget = refl;
    history = history_same a.site.history a.site.history refl;
    clock = λ same. refl;
    later = later_same a.site.clock a.site.clock a.site.history.events a.site.history.events refl refl;
    steady = λ set h. h;
    aside = λ h. h;
    kept = λ start h. h;
    quiet = λ h. h;
    sent = λ t. Begins-same (g.sent a.port t) (g.sent a.port t) refl;
    free = λ h. h;
    holding = λ same. refl;
    line = λ same t. refl;
    got = λ same free k. refl;
  }

  pub turned_trans : {a b c : Seat P} → Turned g code a b → Turned g code b c → Turned g code a c
  turned_trans h k = record {
    keeps = all_trans h.keeps k.keeps;
    number = k.number ∙ h.number;
    lines = k.lines ∙ h.lines;
    budget = k.budget ∙ h.budget;
    history = history_trans h.history k.history;
    clock = λ same. let b = same_between h.history.events k.history.events same in k.clock b.1 ∙ h.clock b.0;
    later = later_trans h.later k.later;
    steady = λ set s. k.steady set (h.steady set s);
    aside = λ s. k.aside (h.aside s);
    kept = λ start s. k.kept start (h.kept start s);
    quiet = λ q. k.quiet (h.quiet q);
    sent = λ t. Begins-trans (h.sent t) (k.sent t);
    free = λ f. h.free (k.free f);
    holding = λ same. let b = same_between h.history.events k.history.events same in k.holding b.1 ∙ h.holding b.0;
    line = λ same t. let b = same_between h.history.events k.history.events same in k.line b.1 t ∙ h.line b.0 t;
    got = λ same f i. let b = same_between h.history.events k.history.events same in k.got b.1 f i ∙ h.got b.0 (k.free f) i;
  }

  pub seated_after : {a b : Seat P} → Turned g code a b → Seated g code a → Seated g code b
  seated_after {a} {b} t s = record {
    placed = record {
      number = t.keeps.others.site_same ∙ s.placed.number ∙ sym t.number;
      among = t.keeps.others.among_same ∙ s.placed.among;
      lines = t.lines ∙ s.placed.lines;
      budget = t.budget ∙ s.placed.budget ∙ sym t.history.budget;
    };
    own = ∥∥₁_map s.own t.keeps.own;
    quiet = t.quiet s.quiet;
    start = s.start;
    kept = t.kept s.start s.kept;
  }

-- ---- no event

-- what stays where there was no event
pub record Still {P R : Type 0} (g : Port.Ghosts P R Item) (code : ProgramTable) (a b : Seat P) : Type 0 where
  pub number : b.site.site ≡ a.site.site
  pub holding : holding_of code b.site ≡ holding_of code a.site
  pub clock : b.site.clock ≡ a.site.clock
  pub history : b.site.history ≡ a.site.history
  pub aside : b.aside ≡ a.aside
  pub got : (k : ℕ) → g.got b.port k ≡ g.got a.port k
  pub put : (t : ℕ) → g.sent b.port t ++ queue_at b.site.outgoing t ≡ g.sent a.port t ++ queue_at a.site.outgoing t

-- where the agents are the same, and which were found to be quiet
pub quiet_kept : (code : ProgramTable) (a b : Standing) → b.agents ≡ a.agents → b.quiet ≡ a.quiet → KeepsQuiet code a b
quiet_kept code a b agents quiet = λ h. record { each = λ q p none at. h.each q p (ap (λ m. table.get m q) (sym quiet) ∙ none) (ap (λ m. table.get m q) (sym agents) ∙ at) }

aside_still : {P : Type 0} (a b : Seat P) → (b.failed ≡ false → a.failed ≡ false) → b.site.site ≡ a.site.site → b.aside ≡ a.aside → AsideIsStrange a → AsideIsStrange b
aside_still a b f n e h ok = subst₂ (λ (o : Option Item) (m : ℕ). IfSome o (IsStrange m)) (sym e) (sym n) (h (f ok))

keeps_same : {P R : Type 0} (g : Port.Ghosts P R Item) (a b : P) → b ≡ a → Keeps g.site g.among g.linked a b
keeps_same {P} {R} g a b e = subst (λ (p : P). Keeps g.site g.among g.linked a p) (sym e) (Keeps-refl a)

module _ {P R : Type 0} {g : Port.Ghosts P R Item} {code : ProgramTable} where
  pub kept_still : {a b : Seat P} → Still g code a b → (start : Holding) → Kept g code start a → Kept g code start b
  kept_still {a} {b} s start h = record {
    deeds = h.deeds;
    came = h.came;
    account = subst₂ (λ (n : ℕ) (e : Holding). IsAccount (length code.sites) n start h.deeds e h.came) (sym s.number) (sym s.holding) h.account;
    clock = subst (λ (m : ℕ). clock_after 0 h.deeds ≤ m) (sym s.clock) h.clock;
    events = ap (λ r. r.events) s.history ∙ h.events;
    from = h.from;
    within = subst (λ (o : Option Item). IfSome o (λ x. h.from < length code.sites)) (sym s.aside) h.within;
    got = λ k. ap (shown code) (s.got k) ∙ h.got k ∙ ap (λ o. came_on k (h.came ++ came_from code h.from o)) (sym s.aside);
    put = λ t. ap (shown code) (s.put t) ∙ h.put t;
  }

  pub turned_settled : {a b : Seat P} → Still g code a b → KeepsQuiet code a.site b.site → ((t : ℕ) → Begins (g.sent b.port t) (g.sent a.port t))
      → KeepsAll g.site g.among g.linked a.port b.port → length b.site.outgoing ≡ length a.site.outgoing → b.budget ≡ a.budget
      → (b.failed ≡ false → a.failed ≡ false) → Turned g code a b
  turned_settled {a} {b} s quiet sent keeps lines budget f = record {
    keeps = keeps;
    number = s.number;
    lines = lines;
    budget = budget;
    history = history_same a.site.history b.site.history s.history;
    clock = λ same. s.clock;
    later = later_same a.site.clock b.site.clock a.site.history.events b.site.history.events s.clock (ap (λ (h : Recorded). h.events) s.history);
    steady = λ set h. steady_same s.clock (ap (λ (h : Recorded). h.events) s.history) (λ k u is. subst (Occurs (λ (x : Item). x.stamp ≡ k)) (sym (s.got u)) is) h;
    aside = aside_still a b f s.number s.aside;
    kept = kept_still s;
    quiet = quiet;
    sent = sent;
    free = λ h. sym s.aside ∙ h;
    holding = λ same. s.holding;
    line = λ same t. s.put t;
    got = λ same free k. s.got k;
  }

  -- and the links that the port had are as they were
  pub turned_still : {a b : Seat P} → Still g code a b → KeepsQuiet code a.site b.site → ((t : ℕ) → Begins (g.sent b.port t) (g.sent a.port t))
      → Keeps g.site g.among g.linked a.port b.port → length b.site.outgoing ≡ length a.site.outgoing → b.budget ≡ a.budget
      → (b.failed ≡ false → a.failed ≡ false) → Turned g code a b
  turned_still s quiet sent keeps lines budget f = turned_settled s quiet sent (kept_all keeps) lines budget f

  -- nothing of the site has changed, nor of what the port carried
  pub turned_stays : {a b : Seat P} → Stays code a.site b.site → b.port ≡ a.port → b.aside ≡ a.aside → b.budget ≡ a.budget → (b.failed ≡ false → a.failed ≡ false) → Turned g code a b
  turned_stays {a} {b} s port aside budget f = turned_still (record {
    number = s.same.site;
    holding = holding_same code a.site b.site s.same;
    clock = s.same.clock;
    history = s.same.history;
    aside = aside;
    got = λ k. ap (λ p. g.got p k) port;
    put = λ t. ap₂ (λ p q. g.sent p t ++ q) port (s.same.outgoing.queues t);
  }) s.quiet (λ t. Begins-same (g.sent a.port t) (g.sent b.port t) (ap (λ p. g.sent p t) port)) (keeps_same g a.port b.port port) s.same.outgoing.sites budget f

  -- so it is where memory ran out
  pub turned_failed : {a b : Seat P} → Stays code a.site b.site → b.port ≡ a.port → b.aside ≡ a.aside → b.budget ≡ a.budget → b.failed ≡ true → Turned g code a b
  turned_failed {a} {b} s port aside budget failed = turned_stays s port aside budget (λ h. absurd (let e : true ≡ false = sym failed ∙ h in cc))

-- ---- sending

-- the first item of a line, moved over a seam
moved : {T : Type 0} (sent queue rest : List T) (x : T) → queue ≡ x ∷ rest → (sent ++ x ∷ []) ++ rest ≡ sent ++ queue
moved sent queue rest x e = append_assoc sent (x ∷ []) rest ∙ ap (λ q. sent ++ q) (sym e)

sends-own : (site : ℕ) (o : Option StampedItem) → IfSome o (λ x. (x.item.sender ≡ site) × IsLoad x.item.load) → AllByRecursion (λ x. x.item.sender ≡ site) (option_to_list o)
sends-own site None h = tt
sends-own site (Some x) h = (h.0, tt)

-- what a site puts on its way to another is for that one, and from this
pub puts_are_own : (site t : ℕ) (ds : List Deed) → AllByRecursion (SendsLoad site) ds → AllByRecursion (λ x. (x.item.receiver ≡ t) × (x.item.sender ≡ site)) (put_for t ds)
puts_are_own site t ds sends =
    let all : List StampedItem = flat_map (λ (d : Deed). option_to_list d.put) ds in
    let own : AllByRecursion (λ x. x.item.sender ≡ site) all =
    all_flat_map (λ (x : StampedItem). x.item.sender ≡ site) (λ d. option_to_list d.put) ds
    (all_weaker (SendsLoad site) (λ d. AllByRecursion (λ x. x.item.sender ≡ site) (option_to_list d.put)) (λ d h. sends-own site d.put h) ds sends) in
    all_both (λ x. x.item.receiver ≡ t) (λ x. x.item.sender ≡ site) (put_for t ds)
    (all_weaker (λ x. (x.item.receiver == t) ≡ true) (λ x. x.item.receiver ≡ t) (λ x is. eqb-true x.item.receiver t is) (put_for t ds)
    (all_pass (λ (x : StampedItem). x.item.receiver == t) all))
    (all_filter (λ (x : StampedItem). x.item.sender ≡ site) (λ x. x.item.receiver == t) all own)

module _ {P R : Type 0} {g : Port.Ghosts P R Item} {code : ProgramTable} where
  -- an item that is still to be put on the link to a site is for that site, and from this one
  pub address : {a : Seat P} {to : ℕ} {item : Item} {mid : Standing} → Seated g code a → IsOut to item a.site mid → (item.to ≡ to) × (item.from ≡ g.site a.port)
  address {a} {to} {item} {mid} s out =
      let own = puts_are_own a.site.site to s.kept.deeds s.kept.account.sends in
      let all : AllByRecursion (λ x. (x.item.receiver ≡ to) × (x.item.sender ≡ a.site.site)) (shown code (g.sent a.port to) ++ shown code (item ∷ queue_at mid.outgoing to)) =
      subst (AllByRecursion (λ x. (x.item.receiver ≡ to) × (x.item.sender ≡ a.site.site)))
      (sym (s.kept.put to) ∙ map-append (item_of code) (g.sent a.port to) (queue_at a.site.outgoing to) ∙ ap (λ q. shown code (g.sent a.port to) ++ shown code q) out.outgoing.there) own in
      let here = (all_second _ (shown code (g.sent a.port to)) (shown code (item ∷ queue_at mid.outgoing to)) all).0 in
      (here.0, here.1 ∙ sym s.placed.number)

  -- the first item of a line went to the port
  pub turned_sent : {a b : Seat P} (to : ℕ) (item : Item) → IsOut to item a.site b.site → Keeps g.site g.among g.linked a.port b.port
      → ((k : ℕ) → g.sent b.port k ≡ g.sent a.port k ++ only_at k to item) → ((k : ℕ) → (g.got b.port k ≡ g.got a.port k) × (g.known b.port k ≡ g.known a.port k))
      → b.aside ≡ a.aside → b.budget ≡ a.budget → b.failed ≡ a.failed → Turned g code a b
  turned_sent {a} {b} to item out keeps sent got aside budget failed = turned_still (record {
    number = out.same.site;
    holding = rw (out.same.site, out.agents, out.same.next, out.same.history) refl;
    clock = out.same.clock;
    history = out.same.history;
    aside = aside;
    got = λ k. (got k).0;
    put = λ t. elim (eqb_tells t to) [
      | inl w ↦
          subst (λ (m : ℕ). g.sent b.port m ++ queue_at b.site.outgoing m ≡ g.sent a.port m ++ queue_at a.site.outgoing m) (sym w.1)
          (ap (λ l. l ++ queue_at b.site.outgoing to) (sent to ∙ ap (λ t. g.sent a.port to ++ cond t (item ∷ []) []) (eq-eqb to to refl)) ∙ moved (g.sent a.port to) (queue_at a.site.outgoing to) (queue_at b.site.outgoing to) item out.outgoing.there)
      | inr w ↦
          ap₂ (λ l q. l ++ q) (sent t ∙ ap (λ b. g.sent a.port t ++ cond b (item ∷ []) []) w.0 ∙ append-nil (g.sent a.port t)) (out.outgoing.others t w.1)
    ];
  }) (quiet_kept code a.site b.site out.agents out.quiet) (λ t. record { rest = only_at t to item; is = sent t }) keeps out.outgoing.sites budget (λ h. sym failed ∙ h)

  -- the first item of a line came back from the port
  module _ {a : Seat P} {mid : Standing} {to : ℕ} {item : Item} (seated : Seated g code a) (out : IsOut to item a.site mid) (back : Item) (same : back ≡ item) where
    back_to : back.to ≡ to
    back_to = ap (λ (x : Item). x.to) same ∙ (address seated out).0

    pub back_within : to < length code.sites → back.to < length mid.outgoing
    back_within h = subst₂ (λ (m n : ℕ). m < n) (sym back_to) (sym (out.outgoing.sites ∙ seated.placed.lines)) h

    pub back_place : 0 < room_at mid.outgoing back.to
    back_place = subst (λ (m : ℕ). 0 < room_at mid.outgoing m) (sym back_to) out.outgoing.place

    pub turned_back : {b : Seat P} → IsOut back.to back b.site mid → Keeps g.site g.among g.linked a.port b.port
        → ((k : ℕ) → (g.sent b.port k ≡ g.sent a.port k) × (g.room b.port k ≡ g.room a.port k)) → ((k : ℕ) → (g.got b.port k ≡ g.got a.port k) × (g.known b.port k ≡ g.known a.port k))
        → b.aside ≡ a.aside → b.budget ≡ a.budget → b.failed ≡ a.failed → Turned g code a b
    turned_back {b} put keeps sent got aside budget failed =
        let again : IsOut to item b.site mid = subst (λ (m : ℕ). IsOut m item b.site mid) (address seated out).0 (subst (λ (x : Item). IsOut x.to x b.site mid) same put) in
        turned_still (record {
          number = sym again.same.site ∙ out.same.site;
          holding = rw (sym again.same.site ∙ out.same.site, sym again.agents ∙ out.agents, sym again.same.next ∙ out.same.next, sym again.same.history ∙ out.same.history) refl;
          clock = sym again.same.clock ∙ out.same.clock;
          history = sym again.same.history ∙ out.same.history;
          aside = aside;
          got = λ k. (got k).0;
          put = λ t. elim (eqb_tells t to) [
            | inl w ↦
                subst (λ (m : ℕ). g.sent b.port m ++ queue_at b.site.outgoing m ≡ g.sent a.port m ++ queue_at a.site.outgoing m) (sym w.1)
                (ap₂ (λ l q. l ++ q) (sent to).0 (again.outgoing.there ∙ sym out.outgoing.there))
            | inr w ↦ ap₂ (λ l q. l ++ q) (sent t).0 (sym (again.outgoing.others t w.1) ∙ out.outgoing.others t w.1)
          ];
        }) (quiet_kept code a.site b.site (sym again.agents ∙ out.agents) (sym again.quiet ∙ out.quiet)) (λ t. Begins-same (g.sent a.port t) (g.sent b.port t) (sent t).0) keeps
        (sym again.outgoing.sites ∙ out.outgoing.sites) budget (λ h. sym failed ∙ h)

-- ---- events

-- what is put out is an agent or a packet for some site
pub loads_bring : (ts : List Proc) (l : Load) (to : ℕ) → IsLoad (contents_of ts l to)
loads_bring ts (load.Agent agent) to = (to, inr (record { agent = agent.name; comes = ap (λ t. cond t (Some (place.Way to)) None) (same_name-itself agent.name) }))
loads_bring ts (load.Packet mark packet) to = (packet.to, inl (record { mark = mark; packet = packet; flies = ap (λ t. cond t (Some packet) None) (same_name-itself mark); to = refl }))

sent-within : (code : ProgramTable) (n : ℕ) (s : Standing) (o : Option Item) → IfSome o (IsSent s) → length s.outgoing ≡ n → IfSome (option_map (item_of code) o) (λ x. x.item.receiver < n)
sent-within code n s None h e = tt
sent-within code n s (Some x) h e = subst (λ (m : ℕ). x.to < m) e h.to

sent-loads : (code : ProgramTable) (site : ℕ) (s : Standing) (o : Option Item) → IfSome o (IsSent s) → s.site ≡ site → IfSome (option_map (item_of code) o) (λ x. (x.item.sender ≡ site) × IsLoad x.item.load)
sent-loads code site s None h e = tt
sent-loads code site s (Some x) h e = (h.from ∙ e, loads_bring code.processes x.load x.to)

sent-stamp : (code : ProgramTable) (n : ℕ) (s : Standing) (o : Option Item) → IfSome o (IsSent s) → s.clock ≡ n → IfSome (option_map (item_of code) o) (λ x. x.stamp ≡ n)
sent-stamp code n s None h e = tt
sent-stamp code n s (Some x) h e = h.stamp ∙ e

put-lines : (old : List Waiting) (o : Option Item) (new : List Waiting) → ArePut old o new → length new ≡ length old
put-lines old None new h = h.sites
put-lines old (Some x) new h = h.sites

-- what is put out stands behind what was to be put on its link
put-more : (code : ProgramTable) (old : List Waiting) (o : Option Item) (new : List Waiting) → ArePut old o new → (t : ℕ)
    → shown code (queue_at new t) ≡ shown code (queue_at old t) ++ filter (λ x. x.item.receiver == t) (option_to_list (option_map (item_of code) o) ++ [])
put-more code old None new h t = ap (shown code) (h.queues t) ∙ sym (append-nil (shown code (queue_at old t)))
put-more code old (Some x) new h t =
    elim (eqb_tells x.to t) [
      | inl w ↦
          subst (λ (m : ℕ). shown code (queue_at new m) ≡ shown code (queue_at old m) ++ cond (x.to == m) (item_of code x ∷ []) []) w.1
          (ap (shown code) h.there ∙ map-append (item_of code) (queue_at old x.to) (x ∷ []) ∙ ap (λ b. shown code (queue_at old x.to) ++ cond b (item_of code x ∷ []) []) (sym (eq-eqb x.to x.to refl)))
      | inr w ↦
          ap (shown code) (h.others t (λ e. w.1 (sym e))) ∙ sym (append-nil (shown code (queue_at old t))) ∙ ap (λ b. shown code (queue_at old t) ++ cond b (item_of code x ∷ []) []) (sym w.0)
    ]

-- the deed of an event that leaves the site as it is now
abbrev deed_at : ProgramTable → Standing → Event → Option Item → Option Item → Deed
deed_at code new event taken out = deed_of code (record { stamp = new.clock; event = event }) taken out

-- a later clock ticks later
ticked-later : (m n : ℕ) (o : Option StampedItem) → m ≤ n → ticked m o ≤ ticked n o
ticked-later m n None h = omega arith
ticked-later m n (Some x) h = omega arith

ticks : (m : ℕ) (o : Option StampedItem) → m < ticked m o
ticks m None = omega arith
ticks m (Some x) = omega arith

-- the event is the next one of the account
module _ (code : ProgramTable) (old new : Standing) (event : Event) (taken out : Option Item) (did : Did code old new event taken out) (lines : length old.outgoing ≡ length code.sites) where
  abbrev deed : Deed
  deed = deed_at code new event taken out

  pub account_more : (start : Holding) (ds : List Deed) (came : List Came) → IsAccount (length code.sites) old.site start ds (holding_of code old) came → clock_after 0 ds ≤ old.clock
      → (from : ℕ) → IfSome (option_map (item_of code) taken) (λ x. from < length code.sites)
      → IsAccount (length code.sites) new.site start (ds ++ deed_at code new event taken out ∷ []) (holding_of code new) (came ++ taken_on from (deed_at code new event taken out))
  account_more start ds came account clock from within =
      let own : IsDeedOf (length code.sites) old.site deed =
      record { at = did.at; to = sent-within code (length code.sites) new out did.put (put-lines old.outgoing out new.outgoing did.outgoing ∙ lines) } in
      let stamps : HasStamps (clock_after 0 ds) deed =
      record {
        event = subst (λ (m : ℕ). ticked (clock_after 0 ds) (option_map (item_of code) taken) ≤ m) (sym did.clock) (ticked-later (clock_after 0 ds) old.clock (option_map (item_of code) taken) clock);
        put = sent-stamp code new.clock new out did.put refl;
      } in
      let next : IsNextDeed (length code.sites) old.site ds (holding_of code old) deed (holding_of code new) =
      record { own = own; does = did.does; stamps = stamps } in
      subst (λ (n : ℕ). IsAccount (length code.sites) n start (ds ++ deed ∷ []) (holding_of code new) (came ++ taken_on from deed)) (sym did.site)
      (account_grows (length code.sites) old.site start (holding_of code old) (holding_of code new) ds deed came from account next (sent-loads code old.site new out did.put did.site) within)

  pub events_more : (ds : List Deed) → old.history.events ≡ map (λ d. d.event) ds → new.history.events ≡ map (λ d. d.event) (ds ++ deed_at code new event taken out ∷ [])
  events_more ds e =
      ap (λ h. h.events) did.history ∙ recorded_events old.history (record { stamp = new.clock; event = event }) did.value
      ∙ ap (λ es. es ++ record { stamp = new.clock; event = event } ∷ []) e ∙ sym (map-append (λ (d : Deed). d.event) ds (deed ∷ []))

  pub puts_more : (sent : List Item) (t : ℕ) (ds : List Deed) → shown code (sent ++ queue_at old.outgoing t) ≡ put_for t ds
      → shown code (sent ++ queue_at new.outgoing t) ≡ put_for t (ds ++ deed_at code new event taken out ∷ [])
  puts_more sent t ds e =
      map-append (item_of code) sent (queue_at new.outgoing t) ∙ ap (λ q. shown code sent ++ q) (put-more code old.outgoing out new.outgoing did.outgoing t)
      ∙ sym (append_assoc (shown code sent) (shown code (queue_at old.outgoing t)) (put_for t (deed ∷ [])))
      ∙ ap (λ l. l ++ put_for t (deed ∷ [])) (sym (map-append (item_of code) sent (queue_at old.outgoing t)) ∙ e) ∙ sym (puts_follow t ds (deed ∷ []))

  pub later_more : IsLater old.clock old.history.events new.clock new.history.events
  later_more =
      let tick : old.clock < new.clock = subst (λ (m : ℕ). old.clock < m) (sym did.clock) (ticks old.clock (option_map (item_of code) taken)) in
      later_one old.clock new.clock old.history.events new.history.events (record { stamp = new.clock; event = event }) tick refl
      (ap (λ (h : Recorded). h.events) did.history ∙ recorded_events old.history (record { stamp = new.clock; event = event }) did.value)

  pub grows_more : HistoryGrows old.history new.history
  grows_more = subst (HistoryGrows old.history) (sym did.history) (recorded_grows old.history (record { stamp = new.clock; event = event }) did.value)

module _ {P R : Type 0} {g : Port.Ghosts P R Item} {code : ProgramTable} where
  -- the site has done an event of its own
  pub turned_done : {a b : Seat P} → HasDone code a.site b.site → length a.site.outgoing ≡ length code.sites → b.port ≡ a.port → b.aside ≡ a.aside → b.budget ≡ a.budget
      → b.failed ≡ a.failed → Turned g code a b
  turned_done {a} {b} done lines port aside budget failed = record {
    keeps = kept_all (keeps_same g a.port b.port port);
    number = done.did.site;
    lines = put-lines a.site.outgoing done.out b.site.outgoing done.did.outgoing;
    budget = budget;
    history = grows_more code a.site b.site done.event None done.out done.did lines;
    clock = λ same. absurd (not_recorded a.site.history _ done.did.value b.site.history.events (ap (λ h. h.events) done.did.history) same);
    later = later_more code a.site b.site done.event None done.out done.did lines;
    steady = λ set h. steady_more (record { stamp = b.site.clock; event = done.event }) refl
        (ap (λ (h : Recorded). h.events) done.did.history ∙ recorded_events a.site.history (record { stamp = b.site.clock; event = done.event }) done.did.value)
        (λ k u is. subst (λ (p : P). Occurs (λ (x : Item). x.stamp ≡ k) (g.got p u)) (sym port) is) (inl done.did.clock) h;
    aside = aside_still a b (λ h. sym failed ∙ h) done.did.site aside;
    kept = λ start h.
        let d : Deed = deed_at code b.site done.event None done.out in record {
          deeds = h.deeds ++ d ∷ [];
          came = h.came ++ taken_on 0 d;
          account = account_more code a.site b.site done.event None done.out done.did lines start h.deeds h.came h.account h.clock 0 tt;
          clock = let last : clock_after 0 (h.deeds ++ d ∷ []) ≡ b.site.clock = clock_goes_on 0 h.deeds d in omega arith;
          events = events_more code a.site b.site done.event None done.out done.did lines h.deeds h.events;
          from = h.from;
          within = subst (λ (o : Option Item). IfSome o (λ x. h.from < length code.sites)) (sym aside) h.within;
          got = λ k. ap (λ p. shown code (g.got p k)) port ∙ h.got k ∙ ap₂ (λ xs o. came_on k (xs ++ came_from code h.from o)) (sym (append-nil h.came)) (sym aside);
          put = λ t.
              ap (λ p. shown code (g.sent p t ++ queue_at b.site.outgoing t)) port
              ∙ puts_more code a.site b.site done.event None done.out done.did lines (g.sent a.port t) t h.deeds (h.put t);
        };
    quiet = done.did.quiet;
    sent = λ t. Begins-same (g.sent a.port t) (g.sent b.port t) (ap (λ p. g.sent p t) port);
    free = λ h. sym aside ∙ h;
    holding = λ same. absurd (not_recorded a.site.history _ done.did.value b.site.history.events (ap (λ h. h.events) done.did.history) same);
    line = λ same. absurd (not_recorded a.site.history _ done.did.value b.site.history.events (ap (λ h. h.events) done.did.history) same);
    got = λ same. absurd (not_recorded a.site.history _ done.did.value b.site.history.events (ap (λ h. h.events) done.did.history) same);
  }

  -- what came of a step
  pub turned_tried : {a b : Seat P} (s : Stepped) → IsTried code a.site b.site s → length a.site.outgoing ≡ length code.sites → b.port ≡ a.port → b.aside ≡ a.aside → b.budget ≡ a.budget
      → b.failed ≡ a.failed → Turned g code a b
  turned_tried stepped.Did h lines port aside budget failed = turned_done h.1 lines port aside budget failed
  turned_tried stepped.Quiet h lines port aside budget failed = turned_stays h.1 port aside budget (λ e. sym failed ∙ e)
  turned_tried stepped.Spent h lines port aside budget failed = turned_stays h.1 port aside budget (λ e. sym failed ∙ e)

  pub turned_stepped : {a b : Seat P} (s : Stepped) → IsStepped code a.site b.site s → length a.site.outgoing ≡ length code.sites → b.port ≡ a.port → b.aside ≡ a.aside → b.budget ≡ a.budget
      → b.failed ≡ a.failed → Turned g code a b
  turned_stepped stepped.Did h lines port aside budget failed = turned_done h.1 lines port aside budget failed
  turned_stepped stepped.Quiet h lines port aside budget failed = turned_stays h.1 port aside budget (λ e. sym failed ∙ e)
  turned_stepped stepped.Spent h lines port aside budget failed = turned_stays h.1 port aside budget (λ e. sym failed ∙ e)

-- ---- what comes

-- an item that came from a site, on the link from there alone
came-one : (code : ProgramTable) (k from : ℕ) (item : Item) → shown code (only_at k from item) ≡ came_on k (came_from code from (Some item))
came-one code k from item =
    elim (eqb_tells k from) [
      | inl w ↦
          ap (λ t. shown code (cond t (item ∷ []) [])) w.0
          ∙ subst (λ (m : ℕ). item_of code item ∷ [] ≡ map (λ (c : Came). c.item) (cond (m == k) (record { from = m; item = item_of code item } ∷ []) [])) w.1
          (ap (λ t. map (λ (c : Came). c.item) (cond t (record { from = k; item = item_of code item } ∷ []) [])) (sym (eq-eqb k k refl)))
      | inr w ↦ elim (eqb_tells from k) [
        | inl v ↦ absurd (w.1 (sym v.1))
        | inr v ↦
            ap (λ t. shown code (cond t (item ∷ []) [])) w.0
            ∙ ap (λ t. map (λ (c : Came). c.item) (cond t (record { from = from; item = item_of code item } ∷ []) [])) (sym v.0)
      ]
    ]

module _ {P R : Type 0} {g : Port.Ghosts P R Item} {code : ProgramTable} where
  -- what was got is what came, and the item behind it
  got_more : {start : Holding} {a : Seat P} {b : P} (h : Kept g code start a) (from : ℕ) (item : Item) → a.aside ≡ None
      → ((k : ℕ) → g.got b k ≡ g.got a.port k ++ only_at k from item) → (k : ℕ) → shown code (g.got b k) ≡ came_on k (h.came ++ came_from code from (Some item))
  got_more {start} {a} {b} h from item none got k =
      ap (shown code) (got k) ∙ map-append (item_of code) (g.got a.port k) (only_at k from item)
      ∙ ap₂ (λ xs ys. xs ++ ys) (h.got k ∙ ap (λ o. came_on k (h.came ++ came_from code h.from o)) none ∙ ap (came_on k) (append-nil h.came)) (came-one code k from item)
      ∙ sym (came_follows k h.came (came_from code from (Some item)))

  -- an item was taken from the port, and the site has accepted it
  turned_taken : {a b m : Seat P} (from : ℕ) (item : Item) → Seated g code a → from < g.among a.port → Keeps g.site g.among g.linked a.port m.port
      → ((k : ℕ) → g.sent m.port k ≡ g.sent a.port k) → ((k : ℕ) → g.got m.port k ≡ g.got a.port k ++ only_at k from item)
      → m.site ≡ a.site → m.budget ≡ a.budget → m.aside ≡ a.aside → Accepts m item b → Turned g code a b
  turned_taken {a} {b} {m} from item seated within keeps sent got site budget aside accepts =
      let lines = seated.placed.lines in
      let has : HasTaken a.site b.site item = subst (λ (s : Standing). HasTaken s b.site item) site accepts.site in
      let event : Event = has.event in
      let did : Did code a.site b.site event (Some item) None = has.did code (sym lines) in
      let low : from < length code.sites = subst (λ (n : ℕ). from < n) seated.placed.among within in
      let none : a.aside ≡ None = sym aside ∙ accepts.free in
      let d : Deed = deed_at code b.site event (Some item) None in
      record {
        keeps = kept_all (subst (λ (p : P). Keeps g.site g.among g.linked a.port p) (sym accepts.port) keeps);
        number = did.site;
        lines = did.outgoing.sites;
        budget = accepts.budget ∙ budget;
        history = grows_more code a.site b.site event (Some item) None did lines;
        clock = λ same. absurd (not_recorded a.site.history _ did.value b.site.history.events (ap (λ h. h.events) did.history) same);
        later = later_more code a.site b.site event (Some item) None did lines;
        steady = λ set h. steady_taken (record { stamp = b.site.clock; event = event }) from item refl
            (ap (λ (h : Recorded). h.events) did.history ∙ recorded_events a.site.history (record { stamp = b.site.clock; event = event }) did.value)
            did.clock low (λ k. ap (λ (p : P). g.got p k) accepts.port ∙ got k) h;
        aside = λ h ok. subst (λ (o : Option Item). IfSome o (IsStrange b.site.site)) (sym accepts.aside) tt;
        kept = λ start h. record {
          deeds = h.deeds ++ d ∷ [];
          came = h.came ++ taken_on from d;
          account = account_more code a.site b.site event (Some item) None did lines start h.deeds h.came h.account h.clock from low;
          clock = let last : clock_after 0 (h.deeds ++ d ∷ []) ≡ b.site.clock = clock_goes_on 0 h.deeds d in omega arith;
          events = events_more code a.site b.site event (Some item) None did lines h.deeds h.events;
          from = from;
          within = subst (λ (o : Option Item). IfSome o (λ x. from < length code.sites)) (sym accepts.aside) tt;
          got = λ k.
              ap (λ p. shown code (g.got p k)) accepts.port ∙ got_more h from item none got k ∙ ap (came_on k) (sym (append-nil (h.came ++ came_from code from (Some item))))
              ∙ ap (λ o. came_on k ((h.came ++ came_from code from (Some item)) ++ came_from code from o)) (sym accepts.aside);
          put = λ t.
              ap (λ p. shown code (g.sent p t ++ queue_at b.site.outgoing t)) accepts.port ∙ ap (λ l. shown code (l ++ queue_at b.site.outgoing t)) (sent t)
              ∙ puts_more code a.site b.site event (Some item) None did lines (g.sent a.port t) t h.deeds (h.put t);
        };
        quiet = did.quiet;
        sent = λ t. Begins-same (g.sent a.port t) (g.sent b.port t) (ap (λ p. g.sent p t) accepts.port ∙ sent t);
        free = λ h. none;
        holding = λ same. absurd (not_recorded a.site.history _ did.value b.site.history.events (ap (λ h. h.events) did.history) same);
        line = λ same. absurd (not_recorded a.site.history _ did.value b.site.history.events (ap (λ h. h.events) did.history) same);
        got = λ same. absurd (not_recorded a.site.history _ did.value b.site.history.events (ap (λ h. h.events) did.history) same);
      }

  -- an item was taken from the port, and set aside
  turned_aside : {a b m : Seat P} (from : ℕ) (item : Item) → Seated g code a → from < g.among a.port → Keeps g.site g.among g.linked a.port m.port
      → ((k : ℕ) → g.sent m.port k ≡ g.sent a.port k) → ((k : ℕ) → g.got m.port k ≡ g.got a.port k ++ only_at k from item)
      → m.site ≡ a.site → m.budget ≡ a.budget → m.aside ≡ a.aside → SetsAside m item b → Turned g code a b
  turned_aside {a} {b} {m} from item seated within keeps sent got site budget aside sets =
      let low : from < length code.sites = subst (λ (n : ℕ). from < n) seated.placed.among within in
      let s : SameSite a.site b.site = subst (λ (s : Standing). SameSite s b.site) site sets.site.same in
      let none : a.aside ≡ None = sym aside ∙ sets.free in
      record {
        keeps = kept_all (subst (λ (p : P). Keeps g.site g.among g.linked a.port p) (sym sets.port) keeps);
        number = s.site;
        lines = s.outgoing.sites;
        budget = sets.budget ∙ budget;
        history = history_same a.site.history b.site.history s.history;
        clock = λ same. s.clock;
        later = later_same a.site.clock b.site.clock a.site.history.events b.site.history.events s.clock (ap (λ (h : Recorded). h.events) s.history);
        steady = λ set h. steady_same s.clock (ap (λ (h : Recorded). h.events) s.history) (got_stays g a b from item (λ k. ap (λ (p : P). g.got p k) sets.port ∙ got k)) h;
        aside = λ h. sets.strange;
        kept = λ start h. record {
          deeds = h.deeds;
          came = h.came;
          account = subst₂ (λ (n : ℕ) (e : Holding). IsAccount (length code.sites) n start h.deeds e h.came) (sym s.site) (sym (holding_same code a.site b.site s)) h.account;
          clock = subst (λ (m : ℕ). clock_after 0 h.deeds ≤ m) (sym s.clock) h.clock;
          events = ap (λ r. r.events) s.history ∙ h.events;
          from = from;
          within = subst (λ (o : Option Item). IfSome o (λ x. from < length code.sites)) (sym sets.aside) low;
          got = λ k. ap (λ p. shown code (g.got p k)) sets.port ∙ got_more h from item none got k ∙ ap (λ o. came_on k (h.came ++ came_from code from o)) (sym sets.aside);
          put = λ t. ap (λ p. shown code (g.sent p t ++ queue_at b.site.outgoing t)) sets.port ∙ ap₂ (λ l q. shown code (l ++ q)) (sent t) (s.outgoing.queues t) ∙ h.put t;
        };
        quiet = subst (λ (v : Standing). KeepsQuiet code v b.site) site (sets.site.quiet code);
        sent = λ t. Begins-same (g.sent a.port t) (g.sent b.port t) (ap (λ p. g.sent p t) sets.port ∙ sent t);
        free = λ h. none;
        holding = λ same. holding_same code a.site b.site s;
        line = λ same t. ap (λ p. g.sent p t ++ queue_at b.site.outgoing t) sets.port ∙ ap₂ (λ l q. l ++ q) (sent t) (s.outgoing.queues t);
        got = λ same h. absurd (let some : Some item ≡ None = sym sets.aside ∙ h in cc);
      }

  -- an item was taken from the port
  pub turned_received : {a b m : Seat P} (result : Bool) (from : ℕ) (item : Item) → Seated g code a → from < g.among a.port → Keeps g.site g.among g.linked a.port m.port
      → ((k : ℕ) → (g.sent m.port k ≡ g.sent a.port k) × (g.room m.port k ≡ g.room a.port k)) → ((k : ℕ) → g.got m.port k ≡ g.got a.port k ++ only_at k from item)
      → m.site ≡ a.site → m.budget ≡ a.budget → m.aside ≡ a.aside → (result ≡ true → Accepts m item b) → (result ≡ false → SetsAside m item b) → Turned g code a b
  turned_received true from item seated within keeps sent got site budget aside accepts sets =
      turned_taken from item seated within keeps (λ k. (sent k).0) got site budget aside (accepts refl)
  turned_received false from item seated within keeps sent got site budget aside accepts sets =
      turned_aside from item seated within keeps (λ k. (sent k).0) got site budget aside (sets refl)
