-- What is left on the link to a site is for that site.
use Rattle.std.proofs.Common.{◌≡◌, ◌<◌, ◌==◌, ℕ, Bool, true, false, cond, inl, inr, List, [], ◌∷◌, ◌++◌, length, map, Option, None, Some, refl, sym, ap, subst, ◌∙◌}
use Rattle.std.specs.List.{AllByRecursion}
use Rattle.std.specs.Prelude.{slice_get}
use Rattle.np_syntax.specs.declared.process.Proc.{Proc}
use Rattle.np_calculus.specs.declared.config.Packet.{Packet}
use Rattle.np_calculus.specs.declared.config.Place.{Place}
use Rattle.np_calculus.specs.declared.config.Place.TheVariants as place
use Rattle.run_merge.proofs.InOrder.{all_append, all_weaker}
use Rattle.np_site_runs.specs.merged.Deeds.{StampedItem, put_for}
use Rattle.np_site_runs.specs.merged.Resting.{Brings}
use Rattle.np_site_runs.proofs.merged.Linking.{all_second}
use Rattle.np_site_runs.specs.Accounts as told
use Rattle.np_site_runs.specs.Accounts.{Came, came_on}
use Rattle.np_site_runs.specs.Acting.{AreDirected, LeadsTo}
use Rattle.np_site_runs.specs.Starting.{start_holding}
use Rattle.np_code.specs.Programs.{ProgramTable, program}
use Rattle.agent_move.specs.declared.item.Item.{Item}
use Rattle.agent_move.specs.declared.load.Load.{Load}
use Rattle.agent_move.specs.declared.load.Load.TheVariants as load
use Rattle.agent_move.specs.Items.{contents_of, item_of}
use Rattle.agent_move.specs.Loads.{site_for}
use Rattle.site_links.specs.declared.port.Port as Port
use Rattle.site_state.specs.Lines.{queue_at}
use Rattle.site_turn.specs.declared.seat.Seat.{Seat}
use Rattle.site_turn.specs.Turns.{came_from, shown}
use Rattle.site_turn.proofs.Steps.{puts_are_own}
use Rattle.site_crew.specs.Links.{AreSettled}
use Rattle.site_crew.specs.Seats.{AreSeats}
use Rattle.site_crew.proofs.Whole.{SeatOf, accounts, are_settled, deeds_of, end_of, here, known_of, queue_of, rest_of}

-- what an item brings, it brings to the site that it is for
abbrev pub IsDirected : StampedItem → Type 0
IsDirected x = (site : ℕ) → Brings site x.item.load → site ≡ x.item.receiver

place-if : (t : Bool) (p q : Place) → cond t (Some p) None ≡ Some q → p ≡ q
place-if true p q e = cc
place-if false p q e = absurd (let h = e in cc)

packet-if : (t : Bool) (p q : Packet) → cond t (Some p) None ≡ Some q → p ≡ q
packet-if true p q e = cc
packet-if false p q e = absurd (let h = e in cc)

load-directed : (ts : List Proc) (l : Load) (to site : ℕ) → site_for l to ≡ to → Brings site (contents_of ts l to) → site ≡ to
load-directed ts (load.Agent agent) to site e (inl p) = absurd (let h = p.flies in cc)
load-directed ts (load.Agent agent) to site e (inr a) = let h : place.Way to ≡ place.Way site = place-if _ (place.Way to) (place.Way site) a.comes in cc
load-directed ts (load.Packet mark packet) to site e (inl p) = let h : packet ≡ p.packet = packet-if _ packet p.packet p.flies in sym p.to ∙ ap (λ (x : Packet). x.to) (sym h) ∙ e
load-directed ts (load.Packet mark packet) to site e (inr a) = absurd (let h = a.comes in cc)

item-directed : (code : ProgramTable) (x : Item) → IsDirected (item_of code x)
item-directed code x = λ site b. load-directed code.processes x.load x.to site x.addressed b

shown-directed : (code : ProgramTable) (xs : List Item) → AllByRecursion IsDirected (shown code xs)
shown-directed code [] = tt
shown-directed code (x ∷ xs) = (item-directed code x, shown-directed code xs)

if-came : (t : Bool) (x : Came) → IsDirected x.item → AllByRecursion IsDirected (map (λ (c : Came). c.item) (cond t (x ∷ []) []))
if-came true x is = (is, tt)
if-came false x is = tt

came-directed : (code : ProgramTable) (i from : ℕ) (o : Option Item) → AllByRecursion IsDirected (came_on i (came_from code from o))
came-directed code i from None = tt
came-directed code i from (Some x) = if-came (from == i) (record { from = from; item = item_of code x }) (item-directed code x)

leads : (t : ℕ) (xs : List StampedItem) → AllByRecursion IsDirected xs → AllByRecursion (λ x. x.item.receiver ≡ t) xs → AllByRecursion (LeadsTo t) xs
leads t [] d r = tt
leads t (x ∷ xs) d r = (λ site b. d.0 site b ∙ r.0, leads t xs d.1 r.1)

module _ {P R : Type 0} (g : Port.Ghosts P R Item) (code : ProgramTable) (limit : ℕ) where
  rest-directed : (i j : ℕ) (o p : Option (Seat P)) (hp : SeatOf g code limit j p) → AllByRecursion IsDirected (rest_of g code limit i j o p hp)
  rest-directed i j o None hp = shown-directed code (queue_of g code limit j o)
  rest-directed i j o (Some s) hp =
      all_append IsDirected (came_on i (came_from code hp.kept.from s.aside)) (shown code (known_of g code limit i (Some s)) ++ shown code (queue_of g code limit j o))
      (came-directed code i hp.kept.from s.aside)
      (all_append IsDirected (shown code (known_of g code limit i (Some s))) (shown code (queue_of g code limit j o))
      (shown-directed code (known_of g code limit i (Some s))) (shown-directed code (queue_of g code limit j o)))

  end-site : (k : ℕ) (o : Option (Seat P)) → SeatOf g code limit k o → (end_of g code limit k o).site ≡ k
  end-site k None h = refl
  end-site k (Some s) h = h.number

  puts-directed : (u t : ℕ) (o : Option (Seat P)) (h : SeatOf g code limit u o) → AllByRecursion IsDirected (put_for t (deeds_of g code limit u o h))
  puts-directed u t None h = tt
  puts-directed u t (Some s) h = subst (AllByRecursion IsDirected) (h.kept.put t) (shown-directed code (g.sent s.port t ++ queue_at s.site.outgoing t))

  module _ (xs : List (Seat P)) (seats : AreSeats g code limit xs) (settled : AreSettled g xs) where
    all : told.AreSettled (length code.sites) (start_holding (program code)) (accounts g code limit xs seats)
    all = are_settled g code limit xs seats settled

    receivers : (u t : ℕ) → u < length code.sites → AllByRecursion (λ x. x.item.receiver ≡ t) (put_for t ((accounts g code limit xs seats).deeds u))
    receivers u t from =
        all_weaker (λ x. (x.item.receiver ≡ t) × (x.item.sender ≡ u)) (λ x. x.item.receiver ≡ t) (λ x h. h.0) (put_for t ((accounts g code limit xs seats).deeds u))
        (puts_are_own u t ((accounts g code limit xs seats).deeds u) (all.each u from).sends)

    -- what a site put on its way to a site leads there
    pub puts_lead : (u t : ℕ) → u < length code.sites → t < length code.sites → AllByRecursion (LeadsTo t) (put_for t ((accounts g code limit xs seats).deeds u))
    unfolding accounts
    puts_lead u t from to =
        leads t (put_for t ((accounts g code limit xs seats).deeds u)) (puts-directed u t (slice_get xs u) (here g code limit xs seats u)) (receivers u t from)

    pub are_directed : AreDirected (length code.sites) (accounts g code limit xs seats)
    unfolding accounts
    are_directed = record {
      at = λ u less. end-site u (slice_get xs u) (here g code limit xs seats u);
      left = λ u t from to.
          leads t ((accounts g code limit xs seats).rest u t) (rest-directed u t (slice_get xs u) (slice_get xs t) (here g code limit xs seats t))
          (all_second (λ x. x.item.receiver ≡ t) (came_on u ((accounts g code limit xs seats).came t)) ((accounts g code limit xs seats).rest u t)
          (subst (AllByRecursion (λ x. x.item.receiver ≡ t)) (all.links u t from to) (receivers u t from)));
    }
