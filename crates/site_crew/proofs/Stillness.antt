-- When the whole rests, by what the seats tell.
use Rattle.std.proofs.Common.{◌≡◌, ◌<◌, ◌≤◌, ◌==◌, ⊎_elim, ℕ, zero, suc, cond, List, [], ◌∷◌, ◌++◌, length, map, Option, None, Some, IfSome, refl, sym, ap, subst, ◌∙◌, arith}
use Rattle.std.specs.Prelude.{slice_get}
use Rattle.std.proofs.lemmas.Bool.{eq-eqb}
use Rattle.std.proofs.lemmas.Option.{slice_get_within}
use Rattle.np_calculus.specs.Idle.{Idle}
use Rattle.np_calculus.specs.Starts.{start_low}
use Rattle.site_links.specs.declared.port.Port as Port
use Rattle.np_site_runs.proofs.merged.Moving.{below_or_not}
use Rattle.np_site_runs.specs.Holdings.{Holding, IsPart}
use Rattle.np_site_runs.specs.Accounts.{Came, SitesEnd, came_on}
use Rattle.np_site_runs.specs.Ending.{IsStill}
use Rattle.np_code.specs.Programs.{ProgramTable, program}
use Rattle.site_agents.proofs.deeds.Resting.{idle_at}
use Rattle.agent_move.specs.declared.item.Item.{Item}
use Rattle.agent_move.specs.Items.{item_of}
use Rattle.site_agents.specs.Standings.{AreIdle}
use Rattle.site_state.specs.Lines.{Waiting, queue_at}
use Rattle.site_state.specs.Standings.{holding_of}
use Rattle.site_turn.specs.declared.seat.Seat.{Seat}
use Rattle.site_turn.specs.Turns.{came_from, shown}
use Rattle.crew_ends.specs.Quiet.{AllQuiet, IsQuietSeat}
use Rattle.site_crew.specs.Runs.{IsProgram}
use Rattle.site_crew.specs.Seats.{Stand, histories}
use Rattle.np_syntax.proofs.Options.{some_is}
use Rattle.site_crew.proofs.Whole.{SeatOf, accounts, aside_of, end_of, here, known_of, queue_of, rest_of, some}

none-left : {T : Type 0} (xs ys : List T) → xs ++ ys ≡ [] → xs ≡ []
none-left [] ys e = refl
none-left (x ∷ xs) ys e = absurd (let h = e in cc)

none-right : {T : Type 0} (xs ys : List T) → xs ++ ys ≡ [] → ys ≡ []
none-right [] ys e = e
none-right (x ∷ xs) ys e = absurd (let h = e in cc)

none-map : {A B : Type 0} (f : A → B) (xs : List A) → map f xs ≡ [] → xs ≡ []
none-map f [] e = refl
none-map f (x ∷ xs) e = absurd (let h = e in cc)

-- an item that is set aside came on the link from some site
none-came : (code : ProgramTable) (n from : ℕ) (o : Option Item) → IfSome o (λ x. from < n) → ((k : ℕ) → k < n → came_on k (came_from code from o) ≡ []) → o ≡ None
none-came code n from None within none = refl
none-came code n from (Some x) within none =
    let e : map (λ (c : Came). c.item) (cond (from == from) (record { from = from; item = item_of code x } ∷ []) []) ≡ [] = none from within in
    let f : item_of code x ∷ [] ≡ [] = ap (λ t. map (λ (c : Came). c.item) (cond t (record { from = from; item = item_of code x } ∷ []) [])) (sym (eq-eqb from from refl)) ∙ e in
    absurd (let h = f in cc)

-- nothing stands past the last line
past-lines : (lines : List Waiting) (to : ℕ) → length lines ≤ to → queue_at lines to ≡ []
past-lines [] to h = refl
past-lines (w ∷ ws) zero h = absurd (omega arith)
past-lines (w ∷ ws) (suc to) h = past-lines ws to (omega arith)

module _ {P R : Type 0} (g : Port.Ghosts P R Item) (code : ProgramTable) (limit : ℕ) where
  left-aside : (i j : ℕ) (o p : Option (Seat P)) (hp : SeatOf g code limit j p) → rest_of g code limit i j o p hp ≡ [] → came_on i (aside_of g code limit j p hp) ≡ []
  left-aside i j o p hp e = none-left (came_on i (aside_of g code limit j p hp)) (shown code (known_of g code limit i p) ++ shown code (queue_of g code limit j o)) e

  left-known : (i j : ℕ) (o p : Option (Seat P)) (hp : SeatOf g code limit j p) → rest_of g code limit i j o p hp ≡ [] → known_of g code limit i p ≡ []
  left-known i j o p hp e =
      none-map (item_of code) (known_of g code limit i p)
      (none-left (shown code (known_of g code limit i p)) (shown code (queue_of g code limit j o))
      (none-right (came_on i (aside_of g code limit j p hp)) (shown code (known_of g code limit i p) ++ shown code (queue_of g code limit j o)) e))

  left-queue : (i j : ℕ) (o p : Option (Seat P)) (hp : SeatOf g code limit j p) → rest_of g code limit i j o p hp ≡ [] → queue_of g code limit j o ≡ []
  left-queue i j o p hp e =
      none-map (item_of code) (queue_of g code limit j o)
      (none-right (shown code (known_of g code limit i p)) (shown code (queue_of g code limit j o))
      (none-right (came_on i (aside_of g code limit j p hp)) (shown code (known_of g code limit i p) ++ shown code (queue_of g code limit j o)) e))

  aside-none : (j : ℕ) (p : Option (Seat P)) (hp : SeatOf g code limit j p) (s : Seat P) → p ≡ Some s → ((k : ℕ) → k < length code.sites → came_on k (aside_of g code limit j p hp) ≡ [])
      → s.aside ≡ None
  aside-none j None hp s e none = absurd (let h = e in cc)
  aside-none j (Some t) hp s e none =
      let same : t ≡ s = some_is (Some t) t s refl e in
      subst (λ (v : Seat P). v.aside ≡ None) same (none-came code (length code.sites) hp.kept.from t.aside hp.kept.within none)

  -- what each seat tells, the other way
  pub none-rest : (i j : ℕ) (o p : Option (Seat P)) (hp : SeatOf g code limit j p) → ((s : Seat P) → o ≡ Some s → queue_at s.site.outgoing j ≡ [])
      → ((s : Seat P) → p ≡ Some s → (s.aside ≡ None) × (g.known s.port i ≡ [])) → rest_of g code limit i j o p hp ≡ []
  none-rest i j None None hp queue quiet = refl
  none-rest i j (Some a) None hp queue quiet = ap (shown code) (queue a refl)
  none-rest i j None (Some b) hp queue quiet =
      let q = quiet b refl in ap (λ v. came_on i (came_from code hp.kept.from v) ++ (shown code (g.known b.port i) ++ [])) q.0 ∙ ap (λ xs. shown code xs ++ []) q.1
  none-rest i j (Some a) (Some b) hp queue quiet =
      let q = quiet b refl in
      ap (λ v. came_on i (came_from code hp.kept.from v) ++ (shown code (g.known b.port i) ++ shown code (queue_at a.site.outgoing j))) q.0
      ∙ ap (λ xs. shown code xs ++ shown code (queue_at a.site.outgoing j)) q.1 ∙ ap (shown code) (queue a refl)

  pub still-end : (k : ℕ) (o : Option (Seat P)) → (o ≡ None → ⊥) → ((s : Seat P) → o ≡ Some s → AreIdle code.processes s.site.agents) → IsStill (end_of g code limit k o)
  still-end k None some idle = absurd (some refl)
  still-end k (Some s) some idle = λ c part.
      (idle_at code s.site.site s.site.agents s.site.next s.site.history.said c part).1 (λ q p at. (idle s refl).each q p at)

  module _ (xs : List (Seat P)) (stand : Stand g code limit xs) (is : IsProgram code) where
    abbrev pub Whole : Type 0
    Whole = SitesEnd (length code.sites) (accounts g code limit xs stand.seats) (histories xs) (start_low (program code))

    place : (i : ℕ) (s : Seat P) → slice_get xs i ≡ Some s → i < length code.sites
    place i s at = subst (λ (m : ℕ). i < m) stand.seats.count (slice_get_within xs i s at)

    pub quiet_of : (e : Whole) → Idle e.whole → (i : ℕ) (s : Seat P) → slice_get xs i ≡ Some s → IsQuietSeat code s
    unfolding accounts
    quiet_of e idle i s at =
        let low : i < length code.sites = place i s at in
        let both = e.rests.0 idle in
        let is_end : end_of g code limit i (slice_get xs i) ≡ holding_of code s.site = ap (end_of g code limit i) at in
        let part : IsPart (holding_of code s.site) (e.here i) = subst (λ (h : Holding). IsPart h (e.here i)) is_end (e.parts i low) in
        let rests : Idle (e.here i) = both.0 i low (e.here i) (e.parts i low) in
        let each = (idle_at code s.site.site s.site.agents s.site.next s.site.history.said (e.here i) part).0 rests in
        let told = (stand.settled.each i (slice_get_within xs i s at)).told s at in
        record {
          idle = record { each = λ q p there. each q p there };
          waits = told.some (λ k lt.
              let lk : k < length code.sites = subst (λ (m : ℕ). k < m) stand.seats.count lt in
              ap (known_of g code limit k) (sym at) ∙ left-known k i (slice_get xs k) (slice_get xs i) (here g code limit xs stand.seats i) (both.1 k i lk low));
          aside = aside-none i (slice_get xs i) (here g code limit xs stand.seats i) s at
              (λ k lk. left-aside k i (slice_get xs k) (slice_get xs i) (here g code limit xs stand.seats i) (both.1 k i lk low));
          sent = record {
            each = λ to. ⊎_elim
                (λ lt. ap (queue_of g code limit to) (sym at) ∙ left-queue i to (slice_get xs i) (slice_get xs to) (here g code limit xs stand.seats to) (both.1 i to low lt))
                (λ ge. past-lines s.site.outgoing to (subst (λ (m : ℕ). m ≤ to) (sym (stand.seats.each i s at).placed.lines) ge))
                (below_or_not to (length code.sites));
          };
        }

    pub rests_of : (e : Whole) → AllQuiet code xs → Idle e.whole
    unfolding accounts
    rests_of e quiet = e.rests.1 (
      λ s lt. still-end s (slice_get xs s) (some g code limit xs stand.seats s lt) (λ v at. (quiet.each s v at).idle),
      λ s t ls lt. none-rest s t (slice_get xs s) (slice_get xs t) (here g code limit xs stand.seats t) (λ v at. (quiet.each s v at).sent.each t) (λ v at.
          let q = quiet.each t v at in
          let told = (stand.settled.each t (subst (λ (m : ℕ). t < m) (sym stand.seats.count) lt)).told v at in
          (q.aside, told.none q.waits s (subst (λ (m : ℕ). s < m) (sym stand.seats.count) ls))),
    )
