-- What is left on a link between two seats is what their states show there.
use Rattle.std.proofs.Common.{◌≡◌, ◌<◌, ◌≤◌, ◌+◌, ◌-◌, ◌==◌, ℕ, min, Bool, true, false, cond, List, [], ◌∷◌, ◌++◌, length, map, take, drop, get_or, filter, Option, None, Some, IfSome, option_map, option_to_list, refl, sym, ap, subst, subst₂, ◌∙◌, append_assoc, length-append, arith}
use Rattle.std.specs.Prelude.{slice_get}
use Rattle.std.specs.List.{AllByRecursion}
use Rattle.std.proofs.Math.Seq.{drop-append_seam, take-append_seam}
use Rattle.std.proofs.lemmas.Bool.{eq-eqb}
use Rattle.std.proofs.lemmas.List.{drop-append-le, drop-map, length-take, length-take-le, map-append, take-map}
use Rattle.std.proofs.lemmas.List.FromFn.{get_or-map-range_with_len}
use Rattle.std.proofs.lemmas.Option.{slice_get-map, slice_get_within}
use Rattle.site_links.specs.declared.port.Port as Port
use Rattle.np_site_runs.specs.merged.Deeds.{StampedItem}
use Rattle.np_site_runs.specs.merged.Elements.{Occurs}
use Rattle.np_site_runs.specs.Accounts as told
use Rattle.np_site_runs.specs.Accounts.{Accounts, Came, came_on}
use Rattle.np_site_runs.specs.Starting.{start_holding}
use Rattle.np_site_runs.proofs.Accounts.{came_follows}
use Rattle.np_site_runs.proofs.merged.Linking.{all_first, all_second}
use Rattle.run_merge.proofs.InOrder.{all_weaker}
use Rattle.np_syntax.proofs.Options.{some_is}
use Rattle.np_code.specs.Programs.{ProgramTable, program}
use Rattle.agent_move.specs.declared.item.Item.{Item}
use Rattle.agent_move.specs.Items.{item_of}
use Rattle.site_state.specs.Lines.{queue_at}
use Rattle.site_turn.specs.declared.seat.Seat.{Seat}
use Rattle.site_turn.specs.Turns.{came_from, shown}
use Rattle.site_turn.proofs.Steps.{puts_are_own}
use Rattle.site_crew.specs.Links.{AreSettled}
use Rattle.site_crew.specs.Seats.{AreSeats, IsSeat}
use Rattle.site_crew.specs.Shown.{IsUnderWay, SeatState, accepted, by_site, seat_state, seat_states, under_way}
use Rattle.site_crew.proofs.Whole.{SeatOf, accounts, are_settled, came_of, here, known_of, queue_of, rest_of}

-- ---- lists

pub long-map : {X Y : Type 0} (f : X → Y) (xs : List X) → length (map f xs) ≡ length xs
long-map f [] = refl
long-map f (x ∷ xs) = let e : length (map f xs) ≡ length xs = long-map f xs in omega arith

take-short : {X : Type 0} (k : ℕ) (xs : List X) → length (take k xs) ≤ length xs
take-short k xs = let e : length (take k xs) ≡ min k (length xs) = length-take k xs in omega arith

-- a list whose images are two lists, one behind the other, is cut between them
module _ {A B : Type 0} (f : A → B) (xs : List A) (front back : List B) (m : ℕ) (images : map f xs ≡ front ++ back) (many : m ≡ length back) where
  long : length xs ≡ length front + m
  long = sym (long-map f xs) ∙ ap length images ∙ length-append front back ∙ ap (λ k. length front + k) (sym many)

  cut-at : length xs - m ≡ length front
  cut-at = let l = long in omega arith

  pub cut_front : map f (take (length xs - m) xs) ≡ front
  cut_front = sym (take-map f (length xs - m) xs) ∙ ap (take (length xs - m)) images ∙ ap (λ k. take k (front ++ back)) cut-at ∙ take-append_seam front back

  front-long : length (take (length xs - m) xs) ≡ length front
  front-long = let l = long in length-take-le (length xs - m) xs (omega arith) ∙ cut-at

  pub cut_back : map f (drop (length (take (length xs - m) xs)) xs) ≡ back
  cut_back = sym (drop-map f (length (take (length xs - m) xs)) xs) ∙ ap (drop (length (take (length xs - m) xs))) images
      ∙ ap (λ k. drop k (front ++ back)) front-long ∙ drop-append_seam front back

pub all-mapped : {A B : Type 0} (P : B → Type 0) (f : A → B) (xs : List A) → AllByRecursion P (map f xs) → AllByRecursion (λ x. P (f x)) xs
all-mapped P f [] h = tt
all-mapped P f (x ∷ xs) h = (h.0, all-mapped P f xs h.1)

pub at_site : {X : Type 0} (n : ℕ) (f : ℕ → List X) (k : ℕ) → k < n → get_or (by_site n f) k [] ≡ f k
at_site n f k less = get_or-map-range_with_len f 0 n k k [] less (omega arith)

-- ---- an item that is set aside

count-aside : (code : ProgramTable) (i from : ℕ) (o : Option Item) → IfSome o (λ x. x.from ≡ from) → length (filter (λ x. x.from == i) (option_to_list o)) ≡ length (came_on i (came_from code from o))
count-aside code i from None h = refl
count-aside code i from (Some x) h = ap (λ a. length (cond (a == i) (x ∷ []) [])) h ∙ by (from == i)
  where
    by : (t : Bool) → length (cond t (x ∷ []) []) ≡ length (map (λ (c : Came). c.item) (cond t (record { from = from; item = item_of code x } ∷ []) []))
    by true = refl
    by false = refl

own-aside : (code : ProgramTable) (n from : ℕ) (o : Option Item) → IfSome o (λ x. from < n) → ((i : ℕ) → i < n → AllByRecursion (λ x. x.item.sender ≡ i) (came_on i (came_from code from o)))
    → IfSome o (λ x. x.from ≡ from)
own-aside code n from None within all = tt
own-aside code n from (Some x) within all =
    (subst (λ t. AllByRecursion (λ (x : StampedItem). x.item.sender ≡ from) (map (λ (c : Came). c.item) (cond t (record { from = from; item = item_of code x } ∷ []) [])))
    (eq-eqb from from refl) (all from within)).0

-- ---- two seats

module _ {P R : Type 0} (g : Port.Ghosts P R Item) (code : ProgramTable) (limit : ℕ) where
  -- what is on the link from the first to the second, and still to be put there
  abbrev pub raw : (i j : ℕ) (a b : Seat P) → List Item
  raw i j a b = drop (length (accepted g b i)) (g.sent a.port j) ++ queue_at a.site.outgoing j

  abbrev pub AsideOwn : (t : ℕ) (p : Option (Seat P)) → SeatOf g code limit t p → Type 0
  AsideOwn t None h = Unit {0}
  AsideOwn t (Some s) h = IfSome s.aside (λ x. x.from ≡ h.kept.from)

  module _ (i j : ℕ) (a b : Seat P) (h : IsSeat g code limit j b) (own : IfSome b.aside (λ x. x.from ≡ h.kept.from)) where
    abbrev aside : List StampedItem
    aside = came_on i (came_from code h.kept.from b.aside)

    got-parts : shown code (g.got b.port i) ≡ came_on i h.kept.came ++ aside
    got-parts = h.kept.got i ∙ came_follows i h.kept.came (came_from code h.kept.from b.aside)

    pub accepted-is : shown code (accepted g b i) ≡ came_on i h.kept.came
    accepted-is = cut_front (item_of code) (g.got b.port i) (came_on i h.kept.came) aside _ got-parts (count-aside code i h.kept.from b.aside own)

    left-is : shown code (drop (length (accepted g b i)) (g.got b.port i)) ≡ aside
    left-is = cut_back (item_of code) (g.got b.port i) (came_on i h.kept.came) aside _ got-parts (count-aside code i h.kept.from b.aside own)

    short : length (accepted g b i) ≤ length (g.got b.port i)
    short = take-short _ (g.got b.port i)

    raw-is : g.got b.port i ++ g.known b.port i ≡ g.sent a.port j → shown code (raw i j a b) ≡ aside ++ (shown code (g.known b.port i) ++ shown code (queue_at a.site.outgoing j))
    raw-is e =
        let k : ℕ = length (accepted g b i) in
        let queue : List StampedItem = shown code (queue_at a.site.outgoing j) in
        let known : List StampedItem = shown code (g.known b.port i) in
        map-append (item_of code) (drop k (g.sent a.port j)) (queue_at a.site.outgoing j)
        ∙ ap (λ l. l ++ queue)
        (ap (λ l. shown code (drop k l)) (sym e) ∙ ap (shown code) (drop-append-le k (g.got b.port i) (g.known b.port i) short)
        ∙ map-append (item_of code) (drop k (g.got b.port i)) (g.known b.port i) ∙ ap (λ l. l ++ known) left-is)
        ∙ append_assoc aside known queue

  rest-raw : (i j : ℕ) (o p : Option (Seat P)) (h : SeatOf g code limit j p) → AsideOwn j p h → (a b : Seat P) → o ≡ Some a → p ≡ Some b → g.got b.port i ++ g.known b.port i ≡ g.sent a.port j
      → shown code (raw i j a b) ≡ rest_of g code limit i j o p h
  rest-raw i j None p h own a b ea eb e = absurd (let x = ea in cc)
  rest-raw i j (Some c) None h own a b ea eb e = absurd (let x = eb in cc)
  rest-raw i j (Some c) (Some d) h own a b ea eb e =
      subst₂ (λ (x y : Seat P). g.got y.port i ++ g.known y.port i ≡ g.sent x.port j → shown code (raw i j x y) ≡ rest_of g code limit i j (Some c) (Some d) h)
      (some_is (Some c) c a refl ea) (some_is (Some d) d b refl eb) (raw-is i j c d h own) e

  accepted-at : (i j : ℕ) (p : Option (Seat P)) (h : SeatOf g code limit j p) → AsideOwn j p h → (b : Seat P) → p ≡ Some b → shown code (accepted g b i) ≡ came_on i (came_of g code limit j p h)
  accepted-at i j None h own b e = absurd (let x = e in cc)
  accepted-at i j (Some d) h own b e =
      subst (λ (y : Seat P). shown code (accepted g y i) ≡ came_on i (came_of g code limit j (Some d) h)) (some_is (Some d) d b refl e) (accepted-is i j d d h own)

  aside-own : (t : ℕ) (o : ℕ → Option (Seat P)) (p : Option (Seat P)) (h : SeatOf g code limit t p)
      → ((u : ℕ) → u < length code.sites → AllByRecursion (λ x. x.item.sender ≡ u) (rest_of g code limit u t (o u) p h)) → AsideOwn t p h
  aside-own t o None h all = tt
  aside-own t o (Some s) h all =
      own-aside code (length code.sites) h.kept.from s.aside h.kept.within (λ i less.
      all_first (λ x. x.item.sender ≡ i) (came_on i (came_from code h.kept.from s.aside)) (shown code (known_of g code limit i (Some s)) ++ shown code (queue_of g code limit t (o i))) (all i less))

  module _ (xs : List (Seat P)) (seats : AreSeats g code limit xs) (settled : AreSettled g xs) where
    all : told.AreSettled (length code.sites) (start_holding (program code)) (accounts g code limit xs seats)
    all = are_settled g code limit xs seats settled

    -- what is left on a link is from its sender and for its receiver
    pub rest-own : (u t : ℕ) → u < length code.sites → t < length code.sites
        → AllByRecursion (λ x. (x.item.receiver ≡ t) × (x.item.sender ≡ u)) ((accounts g code limit xs seats).rest u t)
    rest-own u t from to =
        all_second (λ x. (x.item.receiver ≡ t) × (x.item.sender ≡ u)) (came_on u ((accounts g code limit xs seats).came t)) ((accounts g code limit xs seats).rest u t)
        (subst (AllByRecursion (λ x. (x.item.receiver ≡ t) × (x.item.sender ≡ u))) (all.links u t from to)
        (puts_are_own u t ((accounts g code limit xs seats).deeds u) (all.each u from).sends))

    own-at : (t : ℕ) → t < length code.sites → AsideOwn t (slice_get xs t) (here g code limit xs seats t)
    unfolding accounts
    own-at t to =
        aside-own t (λ u. slice_get xs u) (slice_get xs t) (here g code limit xs seats t) (λ u from.
        all_weaker (λ x. (x.item.receiver ≡ t) × (x.item.sender ≡ u)) (λ x. x.item.sender ≡ u) (λ x h. h.1) ((accounts g code limit xs seats).rest u t) (rest-own u t from to))

    place : (i : ℕ) (s : Seat P) → slice_get xs i ≡ Some s → i < length code.sites
    place i s at = subst (λ (m : ℕ). i < m) seats.count (slice_get_within xs i s at)

    pub rest-is : (u t : ℕ) (a b : Seat P) → slice_get xs u ≡ Some a → slice_get xs t ≡ Some b → shown code (raw u t a b) ≡ (accounts g code limit xs seats).rest u t
    unfolding accounts
    rest-is u t a b from to =
        rest-raw u t (slice_get xs u) (slice_get xs t) (here g code limit xs seats t) (own-at t (place t b to)) a b from to
        (((settled.each t (slice_get_within xs t b to)).settled u a b from to).all)

    pub came-is : (u t : ℕ) (b : Seat P) → slice_get xs t ≡ Some b → shown code (accepted g b u) ≡ came_on u ((accounts g code limit xs seats).came t)
    unfolding accounts
    came-is u t b to = accepted-at u t (slice_get xs t) (here g code limit xs seats t) (own-at t (place t b to)) b to

    -- the items that are left lead from the one site to the other
    pub items-own : (u t : ℕ) (a b : Seat P) → slice_get xs u ≡ Some a → slice_get xs t ≡ Some b → AllByRecursion (λ x. (x.to ≡ t) × (x.from ≡ u)) (raw u t a b)
    items-own u t a b from to =
        all-mapped (λ x. (x.item.receiver ≡ t) × (x.item.sender ≡ u)) (item_of code) (raw u t a b)
        (subst (AllByRecursion (λ x. (x.item.receiver ≡ t) × (x.item.sender ≡ u))) (sym (rest-is u t a b from to)) (rest-own u t (place u a from) (place t b to)))

-- ---- what the states show

pub map-some : {A B : Type 0} (f : A → B) (o : Option A) (y : B) → option_map f o ≡ Some y → (x : A) × (o ≡ Some x) × (y ≡ f x)
map-some f None y e = absurd (let x = e in cc)
map-some f (Some x) y e = (x, refl, some_is (Some y) y (f x) refl (sym e))

module _ {P R : Type 0} (g : Port.Ghosts P R Item) (xs : List (Seat P)) where
  pub state_of : (i : ℕ) (s : Seat P) → slice_get xs i ≡ Some s → slice_get (seat_states g xs) i ≡ Some (seat_state g (length xs) s)
  unfolding seat_states
  state_of i s at = slice_get-map (seat_state g (length xs)) xs i ∙ ap (option_map (seat_state g (length xs))) at

  pub of_state : (i : ℕ) (y : SeatState) → slice_get (seat_states g xs) i ≡ Some y → (s : Seat P) × (slice_get xs i ≡ Some s) × (y ≡ seat_state g (length xs) s)
  unfolding seat_states
  of_state i y at = map-some (seat_state g (length xs)) (slice_get xs i) y (sym (slice_get-map (seat_state g (length xs)) xs i) ∙ at)

  module _ (code : ProgramTable) (limit u t : ℕ) (a b : Seat P) (from : u < length xs) (to : t < length xs) where
    pub under-raw : under_way u t (seat_state g (length xs) a) (seat_state g (length xs) b) ≡ raw g code limit u t a b
    under-raw =
        ap (λ l. drop (length l) (get_or (by_site (length xs) (g.sent a.port)) t []) ++ get_or (by_site (length xs) (queue_at a.site.outgoing)) t []) (at_site (length xs) (accepted g b) u from)
        ∙ ap (λ l. drop (length (accepted g b u)) l ++ get_or (by_site (length xs) (queue_at a.site.outgoing)) t []) (at_site (length xs) (g.sent a.port) t to)
        ∙ ap (λ l. drop (length (accepted g b u)) (g.sent a.port t) ++ l) (at_site (length xs) (queue_at a.site.outgoing) t to)

    pub under_way-of : (x : Item) → slice_get xs u ≡ Some a → slice_get xs t ≡ Some b → Occurs (λ y. y ≡ x) (raw g code limit u t a b) → IsUnderWay (seat_states g xs) u t x
    under_way-of x at there h = record {
      sender = seat_state g (length xs) a;
      sends = state_of u a at;
      receiver = seat_state g (length xs) b;
      receives = state_of t b there;
      goes = subst (Occurs (λ y. y ≡ x)) (sym under-raw) h;
    }

  -- the two seats of what is under way
  pub record Between (code : ProgramTable) (limit u t : ℕ) (x : Item) : Type 0 where
    pub sender : Seat P
    pub sends : slice_get xs u ≡ Some sender
    pub receiver : Seat P
    pub receives : slice_get xs t ≡ Some receiver
    pub goes : Occurs (λ y. y ≡ x) (raw g code limit u t sender receiver)

  pub between : (code : ProgramTable) (limit u t : ℕ) (x : Item) → IsUnderWay (seat_states g xs) u t x → Between code limit u t x
  between code limit u t x is =
      let a = of_state u is.sender is.sends in
      let b = of_state t is.receiver is.receives in
      record {
        sender = a.0;
        sends = a.1;
        receiver = b.0;
        receives = b.1;
        goes = subst (Occurs (λ y. y ≡ x)) (ap (λ z. under_way u t z is.receiver) a.2 ∙ ap (under_way u t (seat_state g (length xs) a.0)) b.2
            ∙ under-raw code limit u t a.0 b.0 (slice_get_within xs u a.0 a.1) (slice_get_within xs t b.0 b.1)) is.goes;
      }
