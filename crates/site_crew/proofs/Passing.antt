-- Where a pass of turns after another adds no event, no site that may make more has anything left to do.
use Rattle.std.proofs.Common.{◌≡◌, ◌<◌, ◌≤◌, ◌+◌, min, ℕ, zero, suc, Bool, true, false, List, [], ◌∷◌, ◌++◌, length, get_or, None, Some, inl, inr, refl, sym, ap, subst, ◌∙◌, arith, append-nil, append_assoc, length-append}
use Rattle.std.specs.Prelude.{slice_get}
use Rattle.std.specs.FinMap as map
use Rattle.std.proofs.lemmas.List.{append_cancel_left}
use Rattle.std.proofs.lemmas.Option.{slice_get_within, slice_get-get_or, get_or_from_slice_get}
use Rattle.np_tables.specs.Mapped.{mapped}
use Rattle.np_tables.proofs.Mapped.{mapped_there}
use Rattle.stamp_history.specs.Histories.{Recorded}
use Rattle.site_links.specs.Words.{Begins}
use Rattle.site_links.specs.declared.places.TheConstants.{PLACES}
use Rattle.site_links.specs.declared.port.Port as Port
use Rattle.np_site_runs.specs.Holdings.{Holding}
use Rattle.np_code.specs.Programs.{ProgramTable}
use Rattle.agent_pool.specs.Pools.{atoms_of}
use Rattle.agent_pool.specs.Readies.{NothingReady}
use Rattle.agent_move.specs.declared.item.Item.{Item}
use Rattle.site_agents.proofs.deeds.Resting.{mapped-from}
use Rattle.site_agents.specs.Standings.{NoneCan}
use Rattle.site_state.specs.Lines.{queue_at}
use Rattle.site_state.specs.Standings.{Standing, holding_of}
use Rattle.site_turn.specs.declared.seat.Seat.{Seat}
use Rattle.site_turn.specs.Turns.{TookTurn}
use Rattle.crew_ends.specs.Quiet.{AreOver}
use Rattle.site_crew.specs.Crews.{NoneFailed}
use Rattle.site_crew.specs.Links.{EndsAgree, Still}
use Rattle.site_crew.specs.Passes.{AreDone, HavePassed, NoneAside}
use Rattle.site_crew.specs.Seats.{AllGrow, AllTookTurns, AllTurned, Stand, event_count, histories}
use Rattle.site_crew.proofs.Crewing.{at_place}
use Rattle.site_crew.proofs.Whole.{long-histories}

-- ---- lists

empty-list : {T : Type 0} (xs : List T) → length xs ≡ 0 → xs ≡ []
empty-list [] e = refl
empty-list (x ∷ xs) e = absurd (omega arith)

no-front : {T : Type 0} (xs ys : List T) → xs ++ ys ≡ [] → xs ≡ []
no-front [] ys e = refl
no-front (x ∷ xs) ys e = absurd (let h = e in cc)

no-back : {T : Type 0} (xs ys : List T) → xs ++ ys ≡ [] → ys ≡ []
no-back [] ys e = e
no-back (x ∷ xs) ys e = absurd (let h = e in cc)

-- what is put behind a whole that stays the same is nothing
pub nothing-behind : {T : Type 0} (xs ys : List T) → xs ++ ys ≡ xs → ys ≡ []
nothing-behind xs ys e = append_cancel_left xs ys [] (e ∙ sym (append-nil xs))

-- ---- histories that have no more events

grown-count : (xs ys : List Recorded) → AllGrow xs ys → event_count xs ≤ event_count ys
grown-count [] [] grow = omega arith
grown-count [] (y ∷ ys) grow = absurd (let e = grow.count in omega arith)
grown-count (x ∷ xs) [] grow = absurd (let e = grow.count in omega arith)
grown-count (x ∷ xs) (y ∷ ys) grow =
    let first = (grow.each 0 x (omega arith)).events in
    let long : length y.events ≡ length x.events + length first.rest = ap length first.is ∙ length-append x.events first.rest in
    let more : event_count xs ≤ event_count ys = grown-count xs ys (record { count = let e = grow.count in omega arith; each = λ i d h. grow.each (suc i) d (omega arith) }) in
    omega arith

pub same-events : (xs ys : List Recorded) → AllGrow xs ys → event_count ys ≤ event_count xs → (i : ℕ) (d : Recorded) → i < length xs → (get_or ys i d).events ≡ (get_or xs i d).events
same-events [] ys grow few i d h = absurd (omega arith)
same-events (x ∷ xs) [] grow few i d h = absurd (let e = grow.count in omega arith)
same-events (x ∷ xs) (y ∷ ys) grow few zero d h =
    let first = (grow.each 0 x (omega arith)).events in
    let long : length y.events ≡ length x.events + length first.rest = ap length first.is ∙ length-append x.events first.rest in
    let more : event_count xs ≤ event_count ys = grown-count xs ys (record { count = let e = grow.count in omega arith; each = λ i d h. grow.each (suc i) d (omega arith) }) in
    let none : first.rest ≡ [] = empty-list first.rest (omega arith) in
    first.is ∙ ap (λ l. x.events ++ l) none ∙ append-nil x.events
same-events (x ∷ xs) (y ∷ ys) grow few (suc i) d h =
    let first = (grow.each 0 x (omega arith)).events in
    let long : length y.events ≡ length x.events + length first.rest = ap length first.is ∙ length-append x.events first.rest in
    same-events xs ys (record { count = let e = grow.count in omega arith; each = λ k e less. grow.each (suc k) e (omega arith) }) (omega arith) i d (omega arith)

-- ---- agents

-- where the site holds the same, none can do anything if none could
none_can_same : (code : ProgramTable) (a b : Standing) → holding_of code b ≡ holding_of code a → NoneCan code a.agents → NoneCan code b.agents
none_can_same code a b same none = record {
  each = λ q p at.
      let there : map.get (mapped (atoms_of code.processes) a.agents) q ≡ Some (atoms_of code.processes p) =
      ap (λ (h : Holding). map.get h.agents q) (sym same) ∙ mapped_there (atoms_of code.processes) b.agents q p at in
      let was = mapped-from (atoms_of code.processes) a.agents q (atoms_of code.processes p) there in
      subst (NothingReady code) (sym was.2) (none.each q was.0 was.1);
}

-- ---- a pass

module _ {P R : Type 0} (g : Port.Ghosts P R Item) (code : ProgramTable) where
  -- what became of a seat: what its turn left, and what it is once the links are settled
  pub record Became (walks : Bool) (a c b : Seat P) : Type 0 where
    pub took : TookTurn g code walks a c
    pub still : Still g c b

  -- the seat that a place had before a pass, and between the turns and the settling
  pub record WasIn (walks : Bool) (xs : List (Seat P)) (i : ℕ) (b : Seat P) : Type 0 where
    pub before : Seat P
    pub was : slice_get xs i ≡ Some before
    pub left : Seat P
    pub became : Became walks before left b

module _ {P R : Type 0} {g : Port.Ghosts P R Item} {code : ProgramTable} where
  pub all_turned : {walks : Bool} {xs ys : List (Seat P)} → AllTookTurns g code walks xs ys → AllTurned g code xs ys
  all_turned took = record { count = took.count; each = λ i d h. (took.each i d h).turned }

  pub passed_at : {walks : Bool} {xs ys : List (Seat P)} → HavePassed g code walks xs ys → (i : ℕ) (b : Seat P) → slice_get ys i ≡ Some b → WasIn g code walks xs i b
  passed_at {walks} {xs} {ys} passed i b at =
      let s = passed.still.each i b at in
      let c : Seat P = s.before in
      let lt : i < length passed.between = slice_get_within passed.between i c s.was in
      let lx : i < length xs = omega (arith, passed.took.count) in
      let e : get_or passed.between i c ≡ c = get_or_from_slice_get passed.between i c c s.was in
      record {
        before = get_or xs i c;
        was = slice_get-get_or xs i c lx;
        left = c;
        became = record { took = subst (λ (o : Seat P). TookTurn g code walks (get_or xs i c) o) e (passed.took.each i c lx); still = s.still };
      }

  module _ {walks : Bool} {a c b : Seat P} (became : Became g code walks a c b) where
    site_left : b.site ≡ c.site
    site_left = became.still.site_same

    left-events : b.site.history.events ≡ a.site.history.events → c.site.history.events ≡ a.site.history.events
    left-events same = ap (λ (s : Standing). s.history.events) (sym site_left) ∙ same

    -- memory had not run out before
    pub sound_before : b.failed ≡ false → a.failed ≡ false
    sound_before ok = by a.failed refl
      where
        by : (f : Bool) → a.failed ≡ f → a.failed ≡ false
        by false e = e
        by true e = absurd (let same : c ≡ a = became.took.failed e in let h : true ≡ false = sym e ∙ sym (ap (λ (s : Seat P). s.failed) same) ∙ sym became.still.failed_same ∙ ok in cc)

    pub free_before : b.aside ≡ None → a.aside ≡ None
    free_before free = became.took.turned.free (sym became.still.aside_same ∙ free)

    pub got_before : b.site.history.events ≡ a.site.history.events → b.aside ≡ None → (k : ℕ) → g.got b.port k ≡ g.got a.port k
    got_before same free k = became.still.got_same k ∙ became.took.turned.got (left-events same) (sym became.still.aside_same ∙ free) k

    pub line_before : b.site.history.events ≡ a.site.history.events → (t : ℕ) → g.sent b.port t ++ queue_at b.site.outgoing t ≡ g.sent a.port t ++ queue_at a.site.outgoing t
    line_before same t =
        ap (λ l. l ++ queue_at b.site.outgoing t) (became.still.sent_same t) ∙ ap (λ (s : Standing). g.sent c.port t ++ queue_at s.outgoing t) site_left ∙ became.took.turned.line (left-events same) t

    pub sent_grown : (t : ℕ) → Begins (g.sent b.port t) (g.sent a.port t)
    sent_grown t = let grown = became.took.turned.sent t in record { rest = grown.rest; is = became.still.sent_same t ∙ grown.is }

    -- what is still to be put on a link that had free places, if fewer items were put there
    pub none-left-out : b.site.history.events ≡ a.site.history.events → b.failed ≡ false → (t : ℕ) → t < length code.sites → PLACES ≤ g.room a.port t
        → length (g.sent b.port t) ≤ length (g.sent a.port t) → queue_at b.site.outgoing t ≡ []
    none-left-out same ok t less room few =
        let sent : length (g.sent b.port t) ≡ length (g.sent c.port t) = ap length (became.still.sent_same t) in
        elim ((became.took.sends (left-events same) (sym became.still.failed_same ∙ ok)).each t less).most [
          | inl e ↦ ap (λ (s : Standing). queue_at s.outgoing t) site_left ∙ e
          | inr e ↦ absurd (let h : length (g.sent a.port t) + min PLACES (g.room a.port t) ≤ length (g.sent c.port t) = e in omega arith)
        ]

  module _ {limit : ℕ} {xs ys zs : List (Seat P)} (first : Stand g code limit xs) (mid : Stand g code limit ys) (last : Stand g code limit zs)
      (once : HavePassed g code false xs ys) (again : HavePassed g code true ys zs)
      (same : (i : ℕ) (a b : Seat P) → slice_get xs i ≡ Some a → slice_get ys i ≡ Some b → b.site.history.events ≡ a.site.history.events)
      (still : (i : ℕ) (b c : Seat P) → slice_get ys i ≡ Some b → slice_get zs i ≡ Some c → c.site.history.events ≡ b.site.history.events)
      (ok : NoneFailed zs) (free : NoneAside zs) where
    module _ (i : ℕ) (s : Seat P) (at : slice_get zs i ≡ Some s) (few : length s.site.history.events < limit) where
      is : WasIn g code true ys i s
      is = passed_at again i s at

      was : WasIn g code false xs i is.before
      was = passed_at once i is.before is.was

      within : i < length code.sites
      within = subst (λ (m : ℕ). i < m) last.seats.count (slice_get_within zs i s at)

      events_same : s.site.history.events ≡ is.before.site.history.events
      events_same = still i is.before s is.was at

      free_now : is.left.aside ≡ None
      free_now = sym is.became.still.aside_same ∙ free.each i s at

      ok_now : is.left.failed ≡ false
      ok_now = sym is.became.still.failed_same ∙ ok.each i s at

      had-room : length is.before.site.history.events < is.before.site.history.budget
      had-room =
          let budget : is.before.site.history.budget ≡ limit = sym (mid.seats.each i is.before is.was).placed.budget ∙ (mid.seats.each i is.before is.was).budget in
          let long : length s.site.history.events ≡ length is.before.site.history.events = ap length events_same in
          omega arith

      had : (k : ℕ) → g.known is.before.port k ≡ []
      had = (is.became.took.idle (left-events is.became events_same)).waits.none ok_now free_now had-room

      -- nothing was to be put on a link to it before the second pass, and nothing is then
      module _ (k : ℕ) (u : Seat P) (from : slice_get zs k ≡ Some u) where
        it : WasIn g code true ys k u
        it = passed_at again k u from

        before : WasIn g code false xs k it.before
        before = passed_at once k it.before it.was

        agreed : EndsAgree g k i it.before is.before
        agreed = (mid.settled.each i (slice_get_within ys i is.before is.was)).settled k it.before is.before it.was is.was

        all-got : g.got is.before.port k ≡ g.sent it.before.port i
        all-got = sym (append-nil (g.got is.before.port k)) ∙ ap (λ l. g.got is.before.port k ++ l) (sym (had k)) ∙ agreed.all

        none-out : queue_at it.before.site.outgoing i ≡ []
        none-out =
            let old : EndsAgree g k i before.before was.before =
            (first.settled.each i (slice_get_within xs i was.before was.was)).settled k before.before was.before before.was was.was in
            let got : g.got is.before.port k ≡ g.got was.before.port k =
            got_before was.became (same i was.before is.before was.was is.was) (free_before is.became (free.each i s at)) k in
            let grown = sent_grown before.became i in
            let sum : length (g.got was.before.port k) + length (g.known was.before.port k) ≡ length (g.sent before.before.port i) =
            sym (length-append (g.got was.before.port k) (g.known was.before.port k)) ∙ ap length old.all in
            let long : length (g.sent it.before.port i) ≡ length (g.sent before.before.port i) + length grown.rest = ap length grown.is ∙ length-append (g.sent before.before.port i) grown.rest in
            let all : length (g.got was.before.port k) ≡ length (g.sent it.before.port i) = ap length (sym got ∙ all-got) in
            let places : PLACES ≤ g.room before.before.port i + length (g.known was.before.port k) = old.free in
            none-left-out before.became (same k before.before it.before before.was it.was) (sound_before it.became (ok.each k u from)) i within (omega arith) (omega arith)

        both : (g.sent u.port i ≡ g.sent it.before.port i) × (queue_at u.site.outgoing i ≡ [])
        both =
            let line : g.sent u.port i ++ queue_at u.site.outgoing i ≡ g.sent it.before.port i =
            line_before it.became (still k it.before u it.was from) i ∙ ap (λ q. g.sent it.before.port i ++ q) none-out ∙ append-nil (g.sent it.before.port i) in
            let grown = sent_grown it.became i in
            let none : grown.rest ++ queue_at u.site.outgoing i ≡ [] =
            nothing-behind (g.sent it.before.port i) (grown.rest ++ queue_at u.site.outgoing i)
            (sym (append_assoc (g.sent it.before.port i) grown.rest (queue_at u.site.outgoing i)) ∙ ap (λ l. l ++ queue_at u.site.outgoing i) (sym grown.is) ∙ line) in (
              grown.is ∙ ap (λ l. g.sent it.before.port i ++ l) (no-front grown.rest (queue_at u.site.outgoing i) none) ∙ append-nil (g.sent it.before.port i),
              no-back grown.rest (queue_at u.site.outgoing i) none,
            )

        pub none_known : g.known s.port k ≡ []
        none_known =
            let now : EndsAgree g k i u s = (last.settled.each i (slice_get_within zs i s at)).settled k u s from at in
            let got : g.got s.port k ≡ g.got is.before.port k = got_before is.became events_same (free.each i s at) k in
            nothing-behind (g.got s.port k) (g.known s.port k) (now.all ∙ both.0 ∙ sym all-got ∙ sym got)

        pub none_out : queue_at u.site.outgoing i ≡ []
        none_out = both.1

      pub none_can : NoneCan code s.site.agents
      none_can =
          let idle = is.became.took.idle (left-events is.became events_same) in
          let could : NoneCan code is.before.site.agents = idle.agents refl ok_now free_now had-room in
          none_can_same code is.before.site s.site (ap (holding_of code) (site_left is.became) ∙ is.became.took.turned.holding (left-events is.became events_same)) could

    pub done_again : AreDone code limit zs
    done_again = record {
      each = λ i less. record {
        rests = λ s at few. record {
          agents = inr (none_can i s at few);
          waits = ((last.settled.each i less).told s at).some (λ k lt.
              let u : Seat P = get_or zs k s in none_known i s at few k u (slice_get-get_or zs k s lt));
          aside = free.each i s at;
        };
        sent = λ s at few. record { each = λ k u from. none_out i s at few k u from };
      };
    }

-- where each site is over, each is done
pub done_over : {P : Type 0} {code : ProgramTable} {limit : ℕ} {xs : List (Seat P)} → AreOver code limit xs → AreDone code limit xs
done_over over = record {
  each = λ i less. record {
    rests = λ s at few. let r = (over.each i less).rests s at few in record { agents = inl r.idle; waits = r.waits; aside = r.aside };
    sent = λ s at few. (over.each i less).sent s at few;
  };
}

-- where no event was added, each seat has the events that it had
pub seats_same : {P : Type 0} (xs ys : List (Seat P)) → AllGrow (histories xs) (histories ys) → event_count (histories ys) ≤ event_count (histories xs)
    → (i : ℕ) (a b : Seat P) → slice_get xs i ≡ Some a → slice_get ys i ≡ Some b → b.site.history.events ≡ a.site.history.events
seats_same xs ys grow few i a b at there =
    let less : i < length (histories xs) = subst (λ (m : ℕ). i < m) (sym (long-histories xs)) (slice_get_within xs i a at) in
    ap (λ (h : Recorded). h.events) (sym (at_place ys i b b.site.history there)) ∙ same-events (histories xs) (histories ys) grow few i b.site.history less
    ∙ ap (λ (h : Recorded). h.events) (at_place xs i a b.site.history at)

-- two passes that added no event, if memory did not run out and no item is set aside
pub done_round : {P R : Type 0} {g : Port.Ghosts P R Item} {code : ProgramTable} {limit : ℕ} {xs ys zs : List (Seat P)} → Stand g code limit xs → Stand g code limit ys → Stand g code limit zs
    → HavePassed g code false xs ys → HavePassed g code true ys zs → AllGrow (histories xs) (histories ys) → AllGrow (histories ys) (histories zs)
    → event_count (histories zs) ≤ event_count (histories xs) → NoneFailed zs → NoneAside zs → AreDone code limit zs
done_round {P} {R} {g} {code} {limit} {xs} {ys} {zs} first mid last once again grow more few ok free =
    let low : event_count (histories xs) ≤ event_count (histories ys) = grown-count (histories xs) (histories ys) grow in
    let high : event_count (histories ys) ≤ event_count (histories zs) = grown-count (histories ys) (histories zs) more in
    done_again first mid last once again (seats_same xs ys grow (omega arith)) (seats_same ys zs more (omega arith)) ok free
