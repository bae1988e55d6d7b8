-- What one seat does where an event of a list is done again.
use Rattle.std.proofs.Common.{◌≡◌, ◌<◌, ◌≤◌, ◌+◌, ◌-◌, ℕ, zero, suc, Bool, true, false, inl, inr, List, [], ◌∷◌, ◌++◌, length, set, get_or, Option, None, Some, Result, Ok, Err, IfOk, OnErr}
use Rattle.std.proofs.Common.{refl, sym, ap, subst, ◌∙◌, arith, length-append, length-set}
use Rattle.std.specs.Prelude.{max, slice_get}
use Rattle.std.proofs.lemmas.Bool.{eqb-true}
use Rattle.std.proofs.lemmas.Option.{slice_get_within, slice_get-get_or}
use Rattle.std.specs.Option.{option_eq}
use Rattle.std.specs.Prelude.{eqb}
use Rattle.std.proofs.Common.{eq-eqb}
use denote.Enum.Bare.{sameb, same_true, true_same}
use Rattle.np_syntax.proofs.Bools.{and-in, and-out}
use Rattle.np_syntax.proofs.Options.{some_is}
use Rattle.np_syntax.specs.declared.memory.Memory.{Memory}
use Rattle.np_syntax.specs.declared.value.Name.{Name}
use Rattle.np_syntax.specs.contracts.value.NamePartialEq.TheImpl as names
use Rattle.np_syntax.specs.contracts.process.Role as roles
use Rattle.np_syntax.specs.declared.event.Event.{Event}
use Rattle.np_syntax.specs.contracts.event.EventPartialEq.TheImpl as events
use Rattle.np_syntax.specs.contracts.event.Kind as kinds
use Rattle.np_syntax.specs.declared.event.Made.{Made}
use Rattle.np_syntax.specs.declared.event.Made.TheVariants as made
use Rattle.np_syntax.specs.contracts.event.MadePartialEq.TheImpl as mades
use Rattle.stamp_history.specs.declared.stamped.Stamped.{Stamped}
use Rattle.stamp_history.specs.Histories.{IsHistory, Recorded}
use Rattle.site_links.specs.declared.port.Port as Port
use Rattle.site_links.proofs.Rows.{get-push_at, get-set_same}
use Rattle.np_code.specs.Programs.{ProgramTable}
use Rattle.agent_pool.specs.declared.ready.Ready.{Ready}
use Rattle.agent_pool.specs.Rows.{ready_of}
use Rattle.agent_move.specs.declared.item.Item.{Item}
use Rattle.site_state.specs.Doing.{HasDoneAsked, HasDoneEvent, HasTaken, IsRedone, event_at}
use Rattle.site_state.specs.Standings.{Standing, Stays, with_clock}
use Rattle.site_turn.specs.declared.seat.Seat.{Seat}
use Rattle.site_turn.specs.Turns.{Accepts, SetsAside, Turned}
use Rattle.site_turn.proofs.Holdings.{recorded_events}
use Rattle.site_turn.proofs.Steps.{turned_done, turned_stays}
use Rattle.site_crew.specs.Following.{Adds, AllRest, HasAccepted, HasNotRedone, HaveAdded, HaveNotRedone, IsNotEarly, Moves, Rests, StandBut, TurnsBy, at_clock}
use Rattle.site_crew.specs.Bringing.{IsLast}
use Rattle.site_crew.specs.Links.{AllStill, AreSettledIn}
use Rattle.site_crew.specs.Clocks.{low_count}
use Rattle.site_crew.specs.Seats.{AllGrow, Stand, histories}
use Rattle.site_crew.proofs.Clocks.{rest_histories}
use Rattle.site_crew.proofs.Replacing.{but_none, grows_by, grows_moved, none_but, replaced, rests_refl, stand_caught, stand_moved, there_too}

-- ---- answers

pub on_yes : {X Y : Type 0} (r : Result Bool Memory) → (X → Y) → IfOk r (λ is. is ≡ true → X) → IfOk r (λ is. is ≡ true → Y)
on_yes (Ok is) f h = λ yes. f (h yes)
on_yes (Err m) f h = tt

pub on_no : {X Y : Type 0} (r : Result Bool Memory) → (X → Y) → IfOk r (λ is. is ≡ false → X) → IfOk r (λ is. is ≡ false → Y)
on_no (Ok is) f h = λ none. f (h none)
on_no (Err m) f h = tt

pub on_any : {X : Type 0} (r : Result Bool Memory) → X → IfOk r (λ is. is ≡ true → X)
on_any (Ok is) x = λ yes. x
on_any (Err m) x = tt

-- ---- events are compared

same-is : (a b : Name) → names.eq-value.it a b ≡ true → a ≡ b
same-is a b h =
    let both = and-out (eqb a.site b.site) (eqb a.n b.n) h in
    let site : a.site ≡ b.site = eqb-true a.site b.site both.0 in
    let n : a.n ≡ b.n = eqb-true a.n b.n both.1 in
    λ i. record { site = site i; n = n i }

other-is : (o p : Option Name) → option_eq names.eq-value.it o p ≡ true → o ≡ p
other-is None None h = refl
other-is None (Some b) h = absurd cc
other-is (Some a) None h = absurd cc
other-is (Some a) (Some b) h = ap Some (same-is a b h)

made-is : (x y : Made) → mades.eq-value.it x y ≡ true → x ≡ y
made-is made.Nothing made.Nothing h = refl
made-is made.Nothing (made.One b) h = absurd cc
made-is made.Nothing (made.Two b d) h = absurd cc
made-is (made.One a) made.Nothing h = absurd cc
made-is (made.One a) (made.One b) h = ap made.One (same-is a b h)
made-is (made.One a) (made.Two b d) h = absurd cc
made-is (made.Two a c) made.Nothing h = absurd cc
made-is (made.Two a c) (made.One b) h = absurd cc
made-is (made.Two a c) (made.Two b d) h =
    let both = and-out (names.eq-value.it a b) (names.eq-value.it c d) h in
    let one : a ≡ b = same-is a b both.0 in
    let two : c ≡ d = same-is c d both.1 in
    λ i. made.Two (one i) (two i)

pub event-is : (e f : Event) → events.eq-value.it e f ≡ true → e ≡ f
event-is e f h =
    let a = and-out (eqb e.site f.site) _ h in
    let b = and-out (sameb kinds.the_type e.kind f.kind) _ a.1 in
    let c = and-out (names.eq-value.it e.actor f.actor) _ b.1 in
    let d = and-out (option_eq names.eq-value.it e.other f.other) _ c.1 in
    let t = and-out _ (mades.eq-value.it e.made f.made) d.1 in
    let u = and-out (eqb e.tag.node f.tag.node) (sameb roles.the_type e.tag.role f.tag.role) t.0 in
    let site : e.site ≡ f.site = eqb-true e.site f.site a.0 in
    let kind : e.kind ≡ f.kind = same_true kinds.the_type tt e.kind f.kind b.0 in
    let actor : e.actor ≡ f.actor = same-is e.actor f.actor c.0 in
    let other : e.other ≡ f.other = other-is e.other f.other d.0 in
    let node : e.tag.node ≡ f.tag.node = eqb-true e.tag.node f.tag.node u.0 in
    let role : e.tag.role ≡ f.tag.role = same_true roles.the_type tt e.tag.role f.tag.role u.1 in
    let made : e.made ≡ f.made = made-is e.made f.made t.1 in
    λ i. record { site = site i; kind = kind i; actor = actor i; other = other i; tag = record { node = node i; role = role i }; made = made i }

same-itself : (a : Name) → names.eq-value.it a a ≡ true
same-itself a = and-in (eq-eqb a.site a.site refl) (eq-eqb a.n a.n refl)

other-itself : (o : Option Name) → option_eq names.eq-value.it o o ≡ true
other-itself None = refl
other-itself (Some a) = same-itself a

made-itself : (m : Made) → mades.eq-value.it m m ≡ true
made-itself made.Nothing = refl
made-itself (made.One a) = same-itself a
made-itself (made.Two a b) = and-in (same-itself a) (same-itself b)

pub event-itself : (e : Event) → events.eq-value.it e e ≡ true
event-itself e =
    and-in (eq-eqb e.site e.site refl) (and-in (true_same kinds.the_type e.kind e.kind refl) (and-in (same-itself e.actor) (and-in (other-itself e.other)
    (and-in (and-in (eq-eqb e.tag.node e.tag.node refl) (true_same roles.the_type e.tag.role e.tag.role refl)) (made-itself e.made)))))

-- the last of a list with one more element is that
last-is : {T : Type 0} (xs ys : List T) (x y : T) → ys ≡ xs ++ y ∷ [] → IsLast ys x → x ≡ y
last-is xs ys x y e last =
    let long : length (xs ++ y ∷ []) ≡ last.before + 1 = ap length (sym e) ∙ last.count in
    let here : length xs ≡ last.before = omega (arith, length-append xs (y ∷ [])) in
    some_is (slice_get (xs ++ y ∷ []) last.before) x y (subst (λ l. slice_get l last.before ≡ Some x) e last.last) (get-push_at xs last.before y here)

-- the last of a list was found to be this event, with this stamp
pub last_found : (xs : List Stamped) (d : Stamped) (stamp : ℕ) (e : Event) (r : Bool) → (length xs ≡ 0 → ⊥) → (get_or xs (length xs - 1) d).stamp ≡ stamp
    → r ≡ events.eq-value.it (get_or xs (length xs - 1) d).event e → r ≡ true → IsLast xs (record { stamp = stamp; event = e })
last_found xs d stamp e r some stamped told is =
    let less : length xs - 1 < length xs = omega arith in
    let event : (get_or xs (length xs - 1) d).event ≡ e = event-is (get_or xs (length xs - 1) d).event e (sym told ∙ is) in
    let same : get_or xs (length xs - 1) d ≡ record { stamp = stamp; event = e } = λ i. record { stamp = stamped i; event = event i } in
    record { before = length xs - 1; count = omega arith; last = slice_get-get_or xs (length xs - 1) d less ∙ ap Some same }

-- it was found not to be
pub last_missed : (xs : List Stamped) (d : Stamped) (stamp : ℕ) (e : Event) (r : Bool) → r ≡ events.eq-value.it (get_or xs (length xs - 1) d).event e → r ≡ false
    → IsLast xs (record { stamp = stamp; event = e }) → ⊥
last_missed xs d stamp e r told missed last =
    let x : Stamped = record { stamp = stamp; event = e } in
    let count : length xs ≡ last.before + 1 = last.count in
    let less : length xs - 1 < length xs = omega arith in
    let place : last.before ≡ length xs - 1 = omega arith in
    let there : get_or xs (length xs - 1) d ≡ x =
    some_is (slice_get xs (length xs - 1)) (get_or xs (length xs - 1) d) x (slice_get-get_or xs (length xs - 1) d less) (subst (λ i. slice_get xs i ≡ Some x) place last.last) in
    let same : false ≡ true = sym missed ∙ told ∙ ap (λ (y : Stamped). events.eq-value.it y.event e) there ∙ event-itself e in absurd cc

-- an element that is set twice
set_twice : {T : Type 0} (xs : List T) (i : ℕ) (x y : T) → set (set xs i x) i y ≡ set xs i y
set_twice [] i x y = refl
set_twice (z ∷ xs) zero x y = refl
set_twice (z ∷ xs) (suc i) x y = ap (λ ys. z ∷ ys) (set_twice xs i x y)

-- ---- an event of the site's own

module _ {P R : Type 0} {g : Port.Ghosts P R Item} {code : ProgramTable} where
  -- the site has done an event once its clock was set
  turned_late : (a b : Seat P) (clock : ℕ) (e : Event) → HasDoneEvent code (with_clock a.site clock) b.site e → length a.site.outgoing ≡ length code.sites
      → b.port ≡ a.port → b.aside ≡ a.aside → b.budget ≡ a.budget → b.failed ≡ a.failed → Turned g code (at_clock a clock) b
  turned_late a b clock e done lines port aside budget failed = turned_done (record { event = e; out = done.out; did = done.did }) lines port aside budget failed

  -- a seat that has moved by itself alone
  pub moves_alone : {i to : ℕ} {a c : Seat P} → Turned g code a c → c.port ≡ a.port → c.waits ≡ a.waits → Moves g code i to a c
  moves_alone {i} {to} {a} {c} turned port waits = record {
    turned = turned;
    sent = λ k h. ap (λ (p : P). g.sent p k) port;
    room = λ k h. let same : g.room c.port k ≡ g.room a.port k = ap (λ (p : P). g.room p k) port in omega arith;
    got = λ h k. (ap (λ (p : P). g.got p k) port, ap (λ (p : P). g.known p k) port);
    waits = λ h. waits;
  }

  pub stand_alone : {budget : ℕ} (i : ℕ) {xs : List (Seat P)} {a c : Seat P} → Stand g code budget xs → slice_get xs i ≡ Some a → Turned g code a c → c.port ≡ a.port → c.waits ≡ a.waits
      → IsHistory c.site.history → Stand g code budget (set xs i c)
  stand_alone {budget} i {xs} {a} {c} stand at turned port waits history =
      none_but (stand_moved (but_none stand (length (set xs i c))) at (moves_alone turned port waits) history)

  -- it may be one of which the clock was set before
  pub stand_turned : {budget : ℕ} (stamp i : ℕ) {xs : List (Seat P)} {a c : Seat P} → Stand g code budget xs → slice_get xs i ≡ Some a → a.site.clock < stamp → IsNotEarly (stamp - 1) xs
      → TurnsBy g code stamp a c → c.port ≡ a.port → c.waits ≡ a.waits → IsHistory c.site.history → Stand g code budget (set xs i c)
  stand_turned {budget} stamp i {xs} {a} {c} stand at above early (inl turned) port waits history = stand_alone i stand at turned port waits history
  stand_turned {budget} stamp i {xs} {a} {c} stand at above early (inr turned) port waits history =
      let clock : max a.site.clock (stamp - 1) ≡ stamp - 1 = omega arith in
      let set_now : Stand g code budget (set xs i (at_clock a (stamp - 1))) =
      subst (λ (m : ℕ). Stand g code budget (set xs i (at_clock a m))) clock (stand_caught xs i (stamp - 1) a at stand early) in
      subst (Stand g code budget) (set_twice xs i (at_clock a (stamp - 1)) c)
      (stand_alone i set_now (get-set_same xs i (at_clock a (stamp - 1)) (slice_get_within xs i a at)) turned port waits history)

  pub grows_turned : (stamp i : ℕ) (xs : List (Seat P)) (a c : Seat P) → slice_get xs i ≡ Some a → TurnsBy g code stamp a c → AllGrow (histories xs) (histories (set xs i c))
  grows_turned stamp i xs a c at (inl turned) = grows_moved xs i a c at turned
  grows_turned stamp i xs a c at (inr turned) = grows_by xs i a c at turned.history

  -- a seat that has put an item on its link
  pub stand_sent : {budget to : ℕ} (i : ℕ) {xs : List (Seat P)} {a c : Seat P} → StandBut g code budget to xs → slice_get xs i ≡ Some a → Moves g code i to a c → Rests 0 a c
      → StandBut g code budget to (set xs i c)
  stand_sent {budget} {to} i {xs} {a} {c} stand at moves rests = stand_moved stand at moves (subst IsHistory (sym rests.history) (stand.whole.each i a at))

-- one seat has added the event
pub added_one : {P : Type 0} (e : Event) (stamp : ℕ) (xs : List (Seat P)) (a c : Seat P) → slice_get xs e.site ≡ Some a → Adds e stamp a c → HaveAdded e stamp 0 xs (set xs e.site c)
added_one e stamp xs a c at adds = record {
  count = length-set xs e.site c;
  at = slice_get_within xs e.site a at;
  there = λ x y was is.
      let first : a ≡ x = some_is (slice_get xs e.site) a x at was in
      let last : c ≡ y = some_is (slice_get (set xs e.site c) e.site) c y (get-set_same xs e.site c (slice_get_within xs e.site a at)) is in
      subst (λ (v : Seat _). Adds e stamp v y) first (subst (λ (v : Seat _). Adds e stamp a v) last adds);
  others = λ i x y apart was is. elim (replaced xs e.site i a c y at is) [
    | inl w ↦ absurd (apart w.0)
    | inr w ↦ subst (λ (v : Seat _). Rests 0 x v) (some_is (slice_get xs i) x y was w.1) (rests_refl 0 x)
  ];
}

-- ---- an item that is taken

module _ {P : Type 0} where
  pub port_admitted : {item : Item} (m b : Seat P) (r : Bool) → (r ≡ true → Accepts m item b) → (r ≡ false → SetsAside m item b) → b.port ≡ m.port
  port_admitted m b true accepts sets = (accepts refl).port
  port_admitted m b false accepts sets = (sets refl).port

  pub has_accepted : (code : ProgramTable) (a b : Seat P) (item : Item) → length code.sites ≡ length a.site.outgoing → HasTaken a.site b.site item → HasAccepted a b
  has_accepted code a b item lines taken =
      let did = taken.did code lines in
      record { event = taken.event; events = ap (λ (h : Recorded). h.events) did.history ∙ recorded_events a.site.history (record { stamp = b.site.clock; event = taken.event }) did.value }

  -- what was accepted is the event, where that is the last
  pub adds_last : (e : Event) (stamp : ℕ) (a b : Seat P) → HasAccepted a b → b.failed ≡ false → IsLast b.site.history.events (record { stamp = stamp; event = e }) → Adds e stamp a b
  adds_last e stamp a b accepted ok last =
      let same : record { stamp = stamp; event = e } ≡ record { stamp = b.site.clock; event = accepted.event } =
      last-is a.site.history.events b.site.history.events (record { stamp = stamp; event = e }) (record { stamp = b.site.clock; event = accepted.event }) accepted.events last in
      record {
        events = accepted.events ∙ ap (λ (x : Stamped). a.site.history.events ++ x ∷ []) (sym same);
        clock = ap (λ (x : Stamped). x.stamp) (sym same);
        sound = λ was. ok;
      }

-- what stands behind all others is the last
pub last_behind : (es later : List Stamped) (x : Stamped) → later ≡ es ++ x ∷ [] → IsLast later x
last_behind es later x is = record {
  before = length es;
  count = ap length is ∙ length-append es (x ∷ []);
  last = ap (λ l. slice_get l (length es)) is ∙ get-push_at es (length es) x refl;
}

-- ---- all seats

module _ {P : Type 0} where
  -- what is not early stays so where none makes an event
  pub early_still : {late stamp : ℕ} {xs ys : List (Seat P)} → AllRest late xs ys → IsNotEarly stamp xs → IsNotEarly stamp ys
  early_still {late} {stamp} {xs} {ys} rest early = record {
    none = λ none. early.none (λ i s at. let b = there_too xs ys i s rest.count at in ap (λ (h : Recorded). h.events) (sym (rest.each i s b.0 at b.1).history) ∙ none i b.0 b.1);
    few = subst (λ hs. stamp ≤ low_count stamp hs) (sym (rest_histories xs ys rest)) early.few;
  }

  -- a link that is settled changes no site
  pub rest_of_still : {R : Type 0} {g : Port.Ghosts P R Item} {xs ys : List (Seat P)} → AllStill g xs ys → AllRest 0 xs ys
  rest_of_still {R} {g} {xs} {ys} is = record {
    count = is.count;
    each = λ i a b x y.
        let w = is.each i b y in
        let same : w.before ≡ a = some_is (slice_get xs i) w.before a w.was x in
        subst (λ (v : Seat P). Rests 0 v b) same (record {
          history = ap (λ (v : Standing). v.history) w.still.site_same;
          clock = let e : b.site.clock ≡ w.before.site.clock = ap (λ (v : Standing). v.clock) w.still.site_same in omega arith;
          later = let e : b.site.clock ≡ w.before.site.clock = ap (λ (v : Standing). v.clock) w.still.site_same in omega arith;
          failed = w.still.failed_same;
        });
  }

  pub rest_of_settled : {R : Type 0} {g : Port.Ghosts P R Item} {to : ℕ} {xs ys : List (Seat P)} → AreSettledIn g to xs ys → AllRest 0 xs ys
  rest_of_settled is = rest_of_still is.still

-- ---- an event that is tried again

module _ {P R : Type 0} {g : Port.Ghosts P R Item} {code : ProgramTable} where
  pub turned_redone : (a b : Seat P) (asked : Ready) (stamp : ℕ) (r : Result Bool Memory) → a.site.clock < stamp → IfOk r (IsRedone code asked stamp a.site b.site) → OnErr r (Stays code a.site b.site)
      → length a.site.outgoing ≡ length code.sites → b.port ≡ a.port → b.aside ≡ a.aside → b.budget ≡ a.budget → b.failed ≡ a.failed → TurnsBy g code stamp a b
  turned_redone a b asked stamp (Ok true) above done stays lines port aside budget failed =
      inr (turned_late a b (stamp - 1) (event_at code a.site done.agent asked) done.done lines port aside budget failed)
  turned_redone a b asked stamp (Ok false) above done stays lines port aside budget failed = inl (turned_stays done.0 port aside budget (λ h. sym failed ∙ h))
  turned_redone a b asked stamp (Err m) above done stays lines port aside budget failed = inl (turned_stays stays port aside budget (λ h. sym failed ∙ h))

-- what was done is the event, where that is the last
pub adds_redone : {P : Type 0} (code : ProgramTable) (e deed : Event) (stamp : ℕ) (a b : Seat P) → HasDoneEvent code (with_clock a.site (stamp - 1)) b.site deed → b.failed ≡ a.failed
    → IsLast b.site.history.events (record { stamp = stamp; event = e }) → Adds e stamp a b
adds_redone code e deed stamp a b done failed last =
    let events = ap (λ (h : Recorded). h.events) done.did.history ∙ recorded_events a.site.history (record { stamp = b.site.clock; event = deed }) done.did.value in
    let same : record { stamp = stamp; event = e } ≡ record { stamp = b.site.clock; event = deed } =
    last-is a.site.history.events b.site.history.events (record { stamp = stamp; event = e }) (record { stamp = b.site.clock; event = deed }) events last in
    record {
      events = events ∙ ap (λ (x : Stamped). a.site.history.events ++ x ∷ []) (sym same);
      clock = ap (λ (x : Stamped). x.stamp) (sym same);
      sound = λ ok. failed ∙ ok;
    }

-- what was done is another event, where that is not the last
pub differs_redone : {P : Type 0} {code : ProgramTable} {e : Event} {stamp : ℕ} {a b : Seat P} → HasDoneAsked code (ready_of e) stamp a.site b.site
    → (IsLast b.site.history.events (record { stamp = stamp; event = e }) → ⊥) → HasNotRedone code e stamp a b
differs_redone {P} {code} {e} {stamp} {a} {b} done missed = HasNotRedone.differs done (λ same.
    let deed : Event = event_at code a.site done.agent (ready_of e) in
    let x : Stamped = record { stamp = b.site.clock; event = deed } in
    let did = done.done.did in
    let is : x ≡ record { stamp = stamp; event = e } = λ i. record { stamp = done.clock i; event = same i } in
    let events = ap (λ (h : Recorded). h.events) did.history ∙ recorded_events a.site.history x did.value in
    let all = events ∙ ap (λ (y : Stamped). a.site.history.events ++ y ∷ []) is in
    missed (last_behind a.site.history.events b.site.history.events (record { stamp = stamp; event = e }) all))

-- so it is among all seats
pub not_redone_at : {P : Type 0} (code : ProgramTable) (e : Event) (stamp : ℕ) (xs : List (Seat P)) (a c : Seat P) → slice_get xs e.site ≡ Some a
    → HasNotRedone code e stamp a c → HaveNotRedone code e stamp xs (set xs e.site c)
not_redone_at {P} code e stamp xs a c at none = record {
  there = λ x y was is.
      let first : a ≡ x = some_is (slice_get xs e.site) a x at was in
      let last : c ≡ y = some_is (slice_get (set xs e.site c) e.site) c y (get-set_same xs e.site c (slice_get_within xs e.site a at)) is in
      subst (λ (v : Seat P). HasNotRedone code e stamp v y) first (subst (λ (v : Seat P). HasNotRedone code e stamp a v) last none);
}
