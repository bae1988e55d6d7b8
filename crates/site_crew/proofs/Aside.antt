-- No item is set aside, if memory did not run out and all stamps are low.
use Rattle.std.proofs.Common.{◌≡◌, ◌<◌, ◌==◌, ℕ, cond, List, [], ◌∷◌, ◌++◌, map, flat_map, length, get_or, Option, None, Some, IfSome, option_to_list, refl, sym, ap, subst, ◌∙◌, arith}
use Rattle.std.specs.Prelude.{slice_get}
use Rattle.std.specs.List.{AllByRecursion}
use Rattle.std.proofs.lemmas.Bool.{eq-eqb}
use Rattle.std.proofs.lemmas.List.{map-append}
use Rattle.std.proofs.lemmas.Option.{slice_get_within, slice_get-get_or}
use Rattle.np_syntax.specs.declared.limits.TheConstants.{STAMPS_END}
use Rattle.stamp_history.specs.declared.stamped.Stamped.{Stamped}
use Rattle.run_merge.proofs.InOrder.{all_append, all_filter}
use Rattle.np_site_runs.specs.merged.Deeds.{Deed, StampedItem, Ticks, put_for}
use Rattle.np_site_runs.proofs.merged.Linking.{all_second}
use Rattle.np_site_runs.specs.Accounts.{Came, came_on}
use Rattle.np_site_runs.proofs.Accounts.{came_follows}
use Rattle.np_site_runs.specs.Starting.{start_holding}
use Rattle.np_code.specs.Programs.{ProgramTable, program}
use Rattle.agent_move.specs.declared.item.Item.{Item}
use Rattle.agent_move.specs.Items.{item_of}
use Rattle.site_links.specs.declared.port.Port as Port
use Rattle.site_state.specs.Lines.{queue_at}
use Rattle.site_turn.specs.declared.seat.Seat.{Seat}
use Rattle.site_turn.specs.Turns.{Kept, came_from, shown}
use Rattle.site_turn.proofs.Steps.{puts_are_own}
use Rattle.site_crew.specs.Crews.{NoneFailed}
use Rattle.site_crew.specs.Links.{EndsAgree}
use Rattle.site_crew.specs.Passes.{AreLow, NoneAside}
use Rattle.site_crew.specs.Seats.{Stand}

all-front : {A : Type 0} (Q : A → Type 0) (xs ys : List A) → AllByRecursion Q (xs ++ ys) → AllByRecursion Q xs
all-front Q [] ys all = tt
all-front Q (x ∷ xs) ys all = (all.0, all-front Q xs ys all.1)

-- what is put has the stamp of its event
low-put : (m n : ℕ) (o : Option StampedItem) → n < m → IfSome o (λ x. x.stamp ≡ n) → AllByRecursion (λ x. x.stamp < m) (option_to_list o)
low-put m n None low is = tt
low-put m n (Some x) low is = (subst (λ k. k < m) (sym is) low, tt)

low-puts : (m clock : ℕ) (ds : List Deed) → Ticks clock ds → AllByRecursion (λ e. e.stamp < m) (map (λ d. d.event) ds) → AllByRecursion (λ x. x.stamp < m) (flat_map (λ d. option_to_list d.put) ds)
low-puts m clock [] ticks low = tt
low-puts m clock (d ∷ ds) ticks low =
    all_append (λ x. x.stamp < m) (option_to_list d.put) (flat_map (λ (d : Deed). option_to_list d.put) ds) (low-put m d.event.stamp d.put low.0 ticks.0.put) (low-puts m d.event.stamp ds ticks.1 low.1)

-- an item that came from a site and is set aside is the last that came from there
came-last : (code : ProgramTable) (k : ℕ) (came : List Came) (x : Item) → came_on k (came ++ came_from code k (Some x)) ≡ came_on k came ++ item_of code x ∷ []
came-last code k came x =
    came_follows k came (came_from code k (Some x))
    ∙ ap (λ t. came_on k came ++ map (λ (c : Came). c.item) (cond t (record { from = k; item = item_of code x } ∷ []) [])) (eq-eqb k k refl)

-- an item on its way to a site, with a stamp that is accepted
abbrev Travels : ℕ → StampedItem → Type 0
Travels j y = (y.item.receiver ≡ j) × (y.stamp < STAMPS_END)

module _ {P R : Type 0} {g : Port.Ghosts P R Item} {code : ProgramTable} {limit : ℕ} {xs : List (Seat P)} (stand : Stand g code limit xs) (low : AreLow xs) (ok : NoneFailed xs) where
  put-travels : (k j : ℕ) (u : Seat P) → slice_get xs k ≡ Some u → (kept : Kept g code (start_holding (program code) k) u) → AllByRecursion (Travels j) (put_for j kept.deeds)
  put-travels k j u at kept =
      let own = puts_are_own u.site.site j kept.deeds kept.account.sends in
      let stamps = all_filter (λ (y : StampedItem). y.stamp < STAMPS_END) (λ y. y.item.receiver == j) (flat_map (λ (d : Deed). option_to_list d.put) kept.deeds)
      (low-puts STAMPS_END 0 kept.deeds kept.account.run.ticks (subst (AllByRecursion (λ (e : Stamped). e.stamp < STAMPS_END)) kept.events (low.each k u at))) in
      both (put_for j kept.deeds) own stamps
    where
      both : (ys : List StampedItem) → AllByRecursion (λ y. (y.item.receiver ≡ j) × (y.item.sender ≡ u.site.site)) ys → AllByRecursion (λ y. y.stamp < STAMPS_END) ys → AllByRecursion (Travels j) ys
      both [] a b = tt
      both (y ∷ ys) a b = ((a.0.0, b.0), both ys a.1 b.1)

  module _ (j : ℕ) (s : Seat P) (at : slice_get xs j ≡ Some s) (x : Item) (aside : s.aside ≡ Some x) where
    abbrev kept : Kept g code (start_holding (program code) j) s
    kept = (stand.seats.each j s at).kept

    abbrev from : ℕ
    from = kept.from

    within : from < length xs
    within =
        let less : from < length code.sites = subst (λ (o : Option Item). IfSome o (λ x. from < length code.sites)) aside kept.within in
        let count : length xs ≡ length code.sites = stand.seats.count in
        omega arith

    abbrev sender : Seat P
    sender = get_or xs from s

    there : slice_get xs from ≡ Some sender
    there = slice_get-get_or xs from s within

    travels : Travels j (item_of code x)
    travels =
        let its = (stand.seats.each from sender there).kept in
        let agree : EndsAgree g from j sender s = (stand.settled.each j (less-of)).settled from sender s there at in
        let put : AllByRecursion (Travels j) (shown code (g.sent sender.port j ++ queue_at sender.site.outgoing j)) = subst (AllByRecursion (Travels j)) (sym (its.put j)) (put-travels from j sender there its) in
        let sent : AllByRecursion (Travels j) (shown code (g.sent sender.port j)) =
        all-front (Travels j) (shown code (g.sent sender.port j)) (shown code (queue_at sender.site.outgoing j))
        (subst (AllByRecursion (Travels j)) (map-append (item_of code) (g.sent sender.port j) (queue_at sender.site.outgoing j)) put) in
        let got : AllByRecursion (Travels j) (shown code (g.got s.port from)) =
        all-front (Travels j) (shown code (g.got s.port from)) (shown code (g.known s.port from))
        (subst (AllByRecursion (Travels j)) (ap (shown code) (sym agree.all) ∙ map-append (item_of code) (g.got s.port from) (g.known s.port from)) sent) in
        let came : AllByRecursion (Travels j) (came_on from kept.came ++ item_of code x ∷ []) =
        subst (AllByRecursion (Travels j)) (kept.got from ∙ ap (λ o. came_on from (kept.came ++ came_from code from o)) aside ∙ came-last code from kept.came x) got in
        (all_second (Travels j) (came_on from kept.came) (item_of code x ∷ []) came).0
      where
        less-of : j < length xs
        less-of = slice_get_within xs j s at

    not-aside : ⊥
    not-aside =
        let seat = stand.seats.each j s at in
        let strange = subst (λ (o : Option Item). IfSome o (λ x. x.to ≡ s.site.site → x.stamp < STAMPS_END → ⊥)) aside (seat.aside (ok.each j s at)) in
        strange (travels.0 ∙ sym seat.number) travels.1

  pub none_aside : NoneAside xs
  none_aside = record { each = λ j s at. by j s at s.aside refl }
    where
      by : (j : ℕ) (s : Seat P) → slice_get xs j ≡ Some s → (o : Option Item) → s.aside ≡ o → s.aside ≡ None
      by j s at None h = h
      by j s at (Some x) h = absurd (not-aside j s at x h)
