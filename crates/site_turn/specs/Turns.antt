-- What a turn leaves of a site and its port (docs/HISTORIES.md, "History text").
use Rattle.std.specs.Prelude.{◌≡◌, ◌<◌, ◌≤◌, ◌+◌, ◌⊎◌, min, ℕ, Bool, true, false, List, [], ◌∷◌, ◌++◌, length, map, Option, None, Some}
use Rattle.std.specs.Prelude.{IfSome, option_map, option_to_list}
use Rattle.std.specs.List.{AllByRecursion}
use Rattle.np_syntax.specs.declared.limits.TheConstants.{STAMPS_END}
use Rattle.np_syntax.specs.declared.event.Kind.{Kind}
use Rattle.np_syntax.specs.declared.event.Kind.TheVariants as kind
use Rattle.stamp_history.specs.declared.stamped.Stamped.{Stamped}
use Rattle.stamp_history.specs.Histories.{Recorded}
use Rattle.site_links.specs.Words.{Begins, KeepsAll, only_at}
use Rattle.site_links.specs.declared.places.TheConstants.{PLACES}
use Rattle.site_links.specs.declared.port.Port as Port
use Rattle.np_site_runs.specs.merged.Deeds.{Deed, StampedItem, clock_after, put_for}
use Rattle.np_site_runs.specs.Holdings.{Holding}
use Rattle.np_site_runs.specs.Accounts.{Came, IsAccount, came_on}
use Rattle.np_code.specs.Programs.{ProgramTable}
use Rattle.agent_move.specs.declared.item.Item.{Item}
use Rattle.agent_move.specs.Items.{item_of}
use Rattle.site_agents.specs.Standings.{NoneCan}
use Rattle.site_state.specs.declared.stepping.Stepped.{Stepped}
use Rattle.site_state.specs.declared.stepping.Stepped.TheVariants as stepped
use Rattle.site_state.specs.Doing.{HasDone, HasRoom, HasTaken}
use Rattle.site_state.specs.Lines.{queue_at}
use Rattle.site_state.specs.Standings.{IsOut, IsQuiet, KeepsQuiet, SameAgents, SameRecords, SameSite, Standing, Stays, StaysForAll}
use Rattle.site_state.specs.Standings.{holding_of}
use Rattle.site_turn.specs.declared.seat.Seat.{Seat}
use Rattle.site_turn.specs.Steady.{IsSteady}

-- items as the calculus sees them
abbrev pub shown : ProgramTable → List Item → List StampedItem
shown code = map (item_of code)

-- an item, if there is one, that came on the link from a site
abbrev pub came_from : ProgramTable → ℕ → Option Item → List Came
came_from code from o = map (λ x. record { from = from; item = x }) (option_to_list (option_map (item_of code) o))

-- a site with this number cannot accept the item
abbrev pub IsStrange : ℕ → Item → Type 0
IsStrange site x = x.to ≡ site → x.stamp < STAMPS_END → ⊥

-- a history at a later time
pub record HistoryGrows (old new : Recorded) : Type 0 where
  pub site : new.site ≡ old.site
  pub budget : new.budget ≡ old.budget
  pub events : Begins new.events old.events
  pub said : Begins new.said old.said

-- Events at a later time, and the clock that it was at them and is then: the clock only goes on, and what is added is stamped above the
-- one that it was.
pub record IsLater (was : ℕ) (old : List Stamped) (is : ℕ) (new : List Stamped) : Type 0 where
  pub clock : was ≤ is
  pub begins : Begins new old
  pub above : AllByRecursion (λ e. was < e.stamp) begins.rest

-- the site has made one event more
pub record MakesOne (old new : Standing) : Type 0 where
  pub event : Stamped
  pub events : new.history.events ≡ old.history.events ++ event ∷ []

-- The site has made no event: of what contracts see of it, no more has changed than room, what was found to be quiet, and what is still
-- to be put on its links.
pub record MakesNone (code : ProgramTable) (old new : Standing) : Type 0 where
  pub agents : SameAgents old.agents new.agents
  pub quiet : KeepsQuiet code old new
  pub records : SameRecords old new

-- an event of this kind puts an item out
abbrev pub PutsOut : Kind → Type 0
PutsOut k = (k ≡ kind.Depart) ⊎ (k ≡ kind.Send)

-- the last event of the site put an item out
pub record HasPut (s : Standing) : Type 0 where
  pub before : List Stamped
  pub last : Stamped
  pub events : s.history.events ≡ before ++ last ∷ []
  pub puts : PutsOut last.event.kind

module _ {P : Type 0} where
  -- if memory did not run out, an item that is set aside is one that the site cannot accept
  abbrev pub AsideIsStrange : Seat P → Type 0
  AsideIsStrange s = s.failed ≡ false → IfSome s.aside (IsStrange s.site.site)

  -- the site has accepted an item that came from its port
  pub record Accepts (old : Seat P) (item : Item) (new : Seat P) : Type 0 where
    pub port : new.port ≡ old.port
    pub budget : new.budget ≡ old.budget
    pub free : old.aside ≡ None
    pub aside : new.aside ≡ None
    pub site : HasTaken old.site new.site item

  -- the item is set aside, and the site is as it was
  pub record SetsAside (old : Seat P) (item : Item) (new : Seat P) : Type 0 where
    pub port : new.port ≡ old.port
    pub budget : new.budget ≡ old.budget
    pub free : old.aside ≡ None
    pub aside : new.aside ≡ Some item
    pub site : StaysForAll old.site new.site
    pub strange : AsideIsStrange new

  -- By a step the site did an event of its own; or it found none, and where it `walks` no agent can do anything; or there was no room
  -- for an event, or memory ran out.
  abbrev pub Steps : ProgramTable → Bool → Seat P → Seat P → Stepped → Type 0
  Steps code walks old new stepped.Did = HasRoom old.site × HasDone code old.site new.site
  Steps code walks old new stepped.Quiet = HasRoom old.site × Stays code old.site new.site × (walks ≡ true → NoneCan code old.site.agents)
  Steps code walks old new stepped.Spent = Stays code old.site new.site
      × ((length old.site.history.events ≡ old.site.history.budget) ⊎ (new.failed ≡ true))

module _ {P R : Type 0} (g : Port.Ghosts P R Item) (code : ProgramTable) where
  -- the port is the site's
  pub record Placed (s : Seat P) : Type 0 where
    pub number : g.site s.port ≡ s.site.site
    pub among : g.among s.port ≡ length code.sites
    pub lines : length s.site.outgoing ≡ length code.sites
    pub budget : s.budget ≡ s.site.history.budget

  -- What the site has done since it held this, and what it took: each item that the port has got from a site came on the link from
  -- there, but for one that is set aside. What the port has sent to a site, and what is still to be put on that link, is what the site
  -- has put out for it.
  pub record Kept (start : Holding) (s : Seat P) : Type 0 where
    pub deeds : List Deed
    pub came : List Came
    pub account : IsAccount (length code.sites) s.site.site start deeds (holding_of code s.site) came
    -- the clock may be later than its last event
    pub clock : clock_after 0 deeds ≤ s.site.clock
    pub events : s.site.history.events ≡ map (λ d. d.event) deeds
    -- the site on whose link the item came that is set aside
    pub from : ℕ
    pub within : IfSome s.aside (λ x. from < length code.sites)
    pub got : (k : ℕ) → shown code (g.got s.port k) ≡ came_on k (came ++ came_from code from s.aside)
    pub put : (t : ℕ) → shown code (g.sent s.port t ++ queue_at s.site.outgoing t) ≡ put_for t deeds

  -- at its port, which is linked with itself, with an account since some holding
  pub record Seated (s : Seat P) : Type 0 where
    pub placed : Placed s
    pub own : ∥ g.linked s.port s.port ∥₁
    pub quiet : IsQuiet code s.site
    pub start : Holding
    pub kept : Kept start s

  -- The seat at a later time: its site has only gone on, by deeds of its own, and its account since any holding has all of them, with
  -- what it took and put out.
  pub record Turned (old new : Seat P) : Type 0 where
    pub keeps : KeepsAll g.site g.among g.linked old.port new.port
    pub number : new.site.site ≡ old.site.site
    pub lines : length new.site.outgoing ≡ length old.site.outgoing
    pub budget : new.budget ≡ old.budget
    pub history : HistoryGrows old.site.history new.site.history
    -- where no event is added the clock stands still
    pub clock : new.site.history.events ≡ old.site.history.events → new.site.clock ≡ old.site.clock
    pub later : IsLater old.site.clock old.site.history.events new.site.clock new.site.history.events
    -- and it goes on by no more than it has to
    pub steady : (set : ℕ) → IsSteady g code set old → IsSteady g code set new
    pub aside : AsideIsStrange old → AsideIsStrange new
    pub kept : (start : Holding) → Kept start old → Kept start new
    pub quiet : KeepsQuiet code old.site new.site
    -- what was put on a link stays put, and an item that is set aside stays so
    pub sent : (t : ℕ) → Begins (g.sent new.port t) (g.sent old.port t)
    pub free : new.aside ≡ None → old.aside ≡ None
    -- where no event is added the site holds what it held, puts on a link only what was outgoing, and has taken no more than what it
    -- has set aside
    pub holding : new.site.history.events ≡ old.site.history.events → holding_of code new.site ≡ holding_of code old.site
    pub line : new.site.history.events ≡ old.site.history.events → (t : ℕ)
        → g.sent new.port t ++ queue_at new.site.outgoing t ≡ g.sent old.port t ++ queue_at old.site.outgoing t
    pub got : new.site.history.events ≡ old.site.history.events → new.aside ≡ None → (k : ℕ) → g.got new.port k ≡ g.got old.port k

  -- ---- sending

  -- the first item for a site went from its line to the port
  pub record Sends (to : ℕ) (old new : Seat P) : Type 0 where
    pub item : Item
    pub out : IsOut to item old.site new.site
    pub sent : (k : ℕ) → g.sent new.port k ≡ g.sent old.port k ++ only_at k to item
    pub room : (k : ℕ) → g.room old.port k ≤ g.room new.port k + length (only_at k to item)

  -- no item went: none was there for the site, or no place on its link was known to be free
  pub record SendsNone (to : ℕ) (old new : Seat P) : Type 0 where
    pub why : (queue_at old.site.outgoing to ≡ []) ⊎ (g.room old.port to ≡ 0)
    pub site : SameSite old.site new.site
    pub sent : (k : ℕ) → g.sent new.port k ≡ g.sent old.port k
    pub room : (k : ℕ) → g.room new.port k ≡ g.room old.port k

  -- all that was outgoing for a site went, or as many items as places on its link were known to be free, or as many as a link has places
  pub record SendsFor (to : ℕ) (old new : Seat P) : Type 0 where
    pub most : (queue_at new.site.outgoing to ≡ [])
        ⊎ (length (g.sent old.port to) + min PLACES (g.room old.port to) ≤ length (g.sent new.port to))

  -- so it is for each site
  pub record SendsAll (old new : Seat P) : Type 0 where
    pub each : (to : ℕ) → to < length code.sites → SendsFor to old new

  -- of the link to a site nothing has changed, but that more places may be known to be free
  pub record LeavesLink (k : ℕ) (old new : Seat P) : Type 0 where
    pub queue : queue_at new.site.outgoing k ≡ queue_at old.site.outgoing k
    pub sent : g.sent new.port k ≡ g.sent old.port k
    pub room : g.room old.port k ≤ g.room new.port k

  -- it made no event, and got nothing: it has at most put on its links some of what was outgoing
  pub record OnlySends (old new : Seat P) : Type 0 where
    pub site : MakesNone code old.site new.site
    pub known : (k : ℕ) → g.known new.port k ≡ g.known old.port k
    pub aside : new.aside ≡ old.aside
    pub failed : new.failed ≡ old.failed

  -- ---- receiving

  -- an item was taken from the port, and the site has accepted it
  pub record Receives (old new : Seat P) : Type 0 where
    pub item : Item
    pub from : ℕ
    pub got : (k : ℕ) → g.got new.port k ≡ g.got old.port k ++ only_at k from item
    pub site : HasTaken old.site new.site item

  -- the item that was taken from the port is set aside, and the site is as it was
  pub record ReceivesAside (old new : Seat P) : Type 0 where
    pub item : Item
    pub from : ℕ
    pub got : (k : ℕ) → g.got new.port k ≡ g.got old.port k ++ only_at k from item
    pub aside : new.aside ≡ Some item
    pub site : StaysForAll old.site new.site

  -- no item was taken: one is set aside already, or there is no room for an event, or none was known to wait
  pub record TakesNone (old new : Seat P) : Type 0 where
    pub site : new.site ≡ old.site
    pub aside : new.aside ≡ old.aside
    pub failed : new.failed ≡ old.failed
    pub got : (k : ℕ) → g.got new.port k ≡ g.got old.port k
    pub none : old.aside ≡ None → HasRoom old.site → (k : ℕ) → g.known old.port k ≡ []

  -- no item was accepted
  abbrev pub ReceivesNone : Seat P → Seat P → Type 0
  ReceivesNone old new = TakesNone old new ⊎ ReceivesAside old new

  -- nothing was known to wait for it, if it had room for an event, and if memory did not run out and no item is set aside
  pub record HadNoneWaiting (old new : Seat P) : Type 0 where
    pub none : new.failed ≡ false → new.aside ≡ None → HasRoom old.site → (k : ℕ) → g.known old.port k ≡ []

  -- A seat that made no event had nothing to do: if it had room for an event, and if memory did not run out and no item is set aside,
  -- then nothing was known to wait for it; and then, where it `walks`, no agent could do anything.
  pub record HadNothing (walks : Bool) (old new : Seat P) : Type 0 where
    pub waits : HadNoneWaiting old new
    pub agents : walks ≡ true → new.failed ≡ false → new.aside ≡ None → HasRoom old.site → NoneCan code old.site.agents

  -- What a turn leaves. One in which no event was made ended since there was nothing to do, and has put what was outgoing on the links,
  -- as far as places were known to be free when it began.
  pub record TookTurn (walks : Bool) (old new : Seat P) : Type 0 where
    pub turned : Turned old new
    pub idle : new.site.history.events ≡ old.site.history.events → HadNothing walks old new
    pub sends : new.site.history.events ≡ old.site.history.events → new.failed ≡ false → SendsAll old new
    pub failed : old.failed ≡ true → new ≡ old
