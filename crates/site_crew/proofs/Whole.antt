-- What the seats of a crew tell together: their merged histories are a run from the low start.
use Rattle.std.proofs.Common.{◌≡◌, ◌<◌, ℕ, zero, suc, List, [], ◌∷◌, ◌++◌, length, map, get_or, Option, None, Some, option_map, refl, sym, ap, subst, ◌∙◌, append_assoc, arith}
use Rattle.std.specs.Prelude.{slice_get}
use Rattle.std.proofs.lemmas.List.{map-append}
use Rattle.std.proofs.lemmas.Option.{slice_get-get_or, slice_get-map}
use Rattle.np_calculus.specs.Starts.{start_low}
use Rattle.stamp_history.specs.Histories.{IsHistory, Recorded}
use Rattle.site_links.specs.declared.port.Port as Port
use Rattle.np_site_runs.specs.merged.Deeds.{Deed, StampedItem, put_for}
use Rattle.np_site_runs.specs.Holdings.{Holding}
use Rattle.np_site_runs.specs.Accounts as told
use Rattle.np_site_runs.specs.Accounts.{Accounts, AreTheirs, Came, IsAccount, SitesEnd, came_on}
use Rattle.np_site_runs.specs.Ending.{HasPrinted}
use Rattle.np_site_runs.specs.Starting.{start_holding}
use Rattle.np_site_runs.proofs.Accounts.{came_follows, low_sites_end}
use Rattle.np_code.specs.Programs.{ProgramTable, program}
use Rattle.agent_move.specs.declared.item.Item.{Item}
use Rattle.agent_move.specs.Items.{item_of}
use Rattle.site_state.specs.Lines.{queue_at}
use Rattle.site_state.specs.Standings.{holding_of}
use Rattle.site_turn.specs.declared.seat.Seat.{Seat}
use Rattle.site_turn.specs.Turns.{came_from, shown}
use Rattle.site_crew.specs.Links.{AreSettled}
use Rattle.site_crew.specs.Runs.{AreHistoriesOf}
use Rattle.site_crew.specs.Seats.{AreSeats, AreWhole, IsSeat, histories}
use Rattle.np_syntax.proofs.Options.{some_is}

pub not-past : {T : Type 0} (xs : List T) (k : ℕ) → slice_get xs k ≡ None → k < length xs → ⊥
not-past [] k e h = absurd (omega arith)
not-past (x ∷ xs) zero e h = absurd (let f = e in cc)
not-past (x ∷ xs) (suc k) e h = not-past xs k e (omega arith)

pub long-histories : {P : Type 0} (xs : List (Seat P)) → length (histories xs) ≡ length xs
long-histories [] = refl
long-histories (s ∷ ss) = ap (λ n. suc n) (long-histories ss)

module _ {P R : Type 0} (g : Port.Ghosts P R Item) (code : ProgramTable) (limit : ℕ) where
  -- what stands in a place is the seat of that site
  abbrev pub SeatOf : ℕ → Option (Seat P) → Type 0
  SeatOf k None = Unit {0}
  SeatOf k (Some s) = IsSeat g code limit k s

  abbrev pub deeds_of : (k : ℕ) (o : Option (Seat P)) → SeatOf k o → List Deed
  deeds_of k None h = []
  deeds_of k (Some s) h = h.kept.deeds

  abbrev pub came_of : (k : ℕ) (o : Option (Seat P)) → SeatOf k o → List Came
  came_of k None h = []
  came_of k (Some s) h = h.kept.came

  abbrev pub aside_of : (k : ℕ) (o : Option (Seat P)) → SeatOf k o → List Came
  aside_of k None h = []
  aside_of k (Some s) h = came_from code h.kept.from s.aside

  abbrev pub end_of : ℕ → Option (Seat P) → Holding
  end_of k None = start_holding (program code) k
  end_of k (Some s) = holding_of code s.site

  abbrev pub known_of : ℕ → Option (Seat P) → List Item
  known_of i None = []
  known_of i (Some s) = g.known s.port i

  abbrev pub queue_of : ℕ → Option (Seat P) → List Item
  queue_of j None = []
  queue_of j (Some s) = queue_at s.site.outgoing j

  -- what is left on the link from i to j
  abbrev pub rest_of : (i j : ℕ) (o p : Option (Seat P)) → SeatOf j p → List StampedItem
  rest_of i j o p hp = came_on i (aside_of j p hp) ++ (shown code (known_of i p) ++ shown code (queue_of j o))

  account : (k : ℕ) (o : Option (Seat P)) (h : SeatOf k o) → (o ≡ None → ⊥) → IsAccount (length code.sites) k (start_holding (program code) k) (deeds_of k o h) (end_of k o) (came_of k o h)
  account k None h some = absurd (some refl)
  account k (Some s) h some = subst (λ (m : ℕ). IsAccount (length code.sites) m (start_holding (program code) k) h.kept.deeds (holding_of code s.site) h.kept.came) h.number h.kept.account

  link : (i j : ℕ) (a b : Seat P) (ha : IsSeat g code limit i a) (hb : IsSeat g code limit j b) → g.got b.port i ++ g.known b.port i ≡ g.sent a.port j
      → put_for j ha.kept.deeds ≡ came_on i hb.kept.came ++ (came_on i (came_from code hb.kept.from b.aside) ++ (shown code (g.known b.port i) ++ shown code (queue_at a.site.outgoing j)))
  link i j a b ha hb e =
      let sent : List StampedItem = shown code (g.sent a.port j) in
      let queue : List StampedItem = shown code (queue_at a.site.outgoing j) in
      let known : List StampedItem = shown code (g.known b.port i) in
      let came : List StampedItem = came_on i hb.kept.came in
      let aside : List StampedItem = came_on i (came_from code hb.kept.from b.aside) in
      let one : put_for j ha.kept.deeds ≡ sent ++ queue = sym (ha.kept.put j) ∙ map-append (item_of code) (g.sent a.port j) (queue_at a.site.outgoing j) in
      let two : sent ≡ (came ++ aside) ++ known =
      ap (shown code) (sym e) ∙ map-append (item_of code) (g.got b.port i) (g.known b.port i)
      ∙ ap (λ l. l ++ known) (hb.kept.got i ∙ came_follows i hb.kept.came (came_from code hb.kept.from b.aside)) in
      one ∙ ap (λ l. l ++ queue) two ∙ append_assoc (came ++ aside) known queue ∙ append_assoc came aside (known ++ queue)

  links : (i j : ℕ) (o p : Option (Seat P)) (ho : SeatOf i o) (hp : SeatOf j p) → (o ≡ None → ⊥) → (p ≡ None → ⊥)
      → ((a b : Seat P) → o ≡ Some a → p ≡ Some b → g.got b.port i ++ g.known b.port i ≡ g.sent a.port j)
      → put_for j (deeds_of i o ho) ≡ came_on i (came_of j p hp) ++ rest_of i j o p hp
  links i j None p ho hp some other settled = absurd (some refl)
  links i j (Some a) None ho hp some other settled = absurd (other refl)
  links i j (Some a) (Some b) ho hp some other settled = link i j a b ho hp (settled a b refl refl)

  -- the history of a place
  record Its (k : ℕ) (deeds : List Deed) (end : Holding) (h : Recorded) : Type 0 where
    site : h.site ≡ k
    history : IsHistory h
    events : h.events ≡ map (λ d. d.event) deeds
    printed : HasPrinted end h
    budget : h.budget ≡ limit

  its : (k : ℕ) (o : Option (Seat P)) (h : SeatOf k o) → ((s : Seat P) → o ≡ Some s → IsHistory s.site.history) → (r : Recorded) → option_map (λ s. s.site.history) o ≡ Some r
      → Its k (deeds_of k o h) (end_of k o) r
  its k None h whole r e = absurd (let f = e in cc)
  its k (Some s) h whole r e =
      let is : s.site.history ≡ r = some_is (Some s.site.history) s.site.history r refl e in
      subst (Its k h.kept.deeds (holding_of code s.site)) is
      (record { site = h.owner; history = whole s refl; events = h.kept.events; printed = record { site = h.number ∙ sym h.owner; said = refl }; budget = sym h.placed.budget ∙ h.budget })

  seat-at : (k : ℕ) (o : Option (Seat P)) → ((s : Seat P) → o ≡ Some s → IsSeat g code limit k s) → SeatOf k o
  seat-at k None f = tt
  seat-at k (Some s) f = f s refl

  module _ (xs : List (Seat P)) (seats : AreSeats g code limit xs) where
    pub here : (k : ℕ) → SeatOf k (slice_get xs k)
    here k = seat-at k (slice_get xs k) (seats.each k)

    pub some : (k : ℕ) → k < length code.sites → slice_get xs k ≡ None → ⊥
    some k h e = not-past xs k e (subst (λ (m : ℕ). k < m) (sym seats.count) h)

    unfoldable pub accounts : Accounts
    accounts = record {
      deeds = λ s. deeds_of s (slice_get xs s) (here s);
      end = λ s. end_of s (slice_get xs s);
      came = λ s. came_of s (slice_get xs s) (here s);
      rest = λ s t. rest_of s t (slice_get xs s) (slice_get xs t) (here t);
    }

    pub are_settled : AreSettled g xs → told.AreSettled (length code.sites) (start_holding (program code)) accounts
    unfolding accounts
    are_settled settled = record {
      at = λ s. refl;
      each = λ s h. account s (slice_get xs s) (here s) (some s h);
      links = λ s t h k. links s t (slice_get xs s) (slice_get xs t) (here s) (here t) (some s h) (some t k)
          (λ a b ea eb. ((settled.each t (subst (λ (m : ℕ). t < m) (sym seats.count) k)).settled s a b ea eb).all);
    }

    its_at : AreWhole xs → (s : ℕ) (d : Recorded) → s < length code.sites → Its s (deeds_of s (slice_get xs s) (here s)) (end_of s (slice_get xs s)) (get_or (histories xs) s d)
    its_at whole s d h =
        let long : s < length (histories xs) = subst (λ (m : ℕ). s < m) (sym (long-histories xs ∙ seats.count)) h in
        its s (slice_get xs s) (here s) (whole.each s) (get_or (histories xs) s d) (sym (slice_get-map (λ s. s.site.history) xs s) ∙ slice_get-get_or (histories xs) s d long)

    pub are_theirs : AreWhole xs → AreTheirs (length code.sites) accounts (histories xs)
    unfolding accounts
    are_theirs whole = record {
      count = long-histories xs ∙ seats.count;
      each = λ s d h. let r = its_at whole s d h in record { site = r.site; history = r.history; events = r.events; printed = r.printed };
    }

    pub are_histories : AreWhole xs → AreHistoriesOf (length code.sites) limit (histories xs)
    are_histories whole = record {
      count = long-histories xs ∙ seats.count;
      each = λ s d h. let r = its_at whole s d h in record { site = r.site; budget = r.budget; history = r.history };
    }

    pub sites_end : AreSettled g xs → AreWhole xs → code.at < length code.sites → SitesEnd (length code.sites) accounts (histories xs) (start_low (program code))
    sites_end settled whole at = low_sites_end (program code) accounts (histories xs) at (are_settled settled) (are_theirs whole)
