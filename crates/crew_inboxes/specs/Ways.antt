-- What a port over inboxes means, by what its inbox and its ways mean.
use Rattle.std.specs.Prelude.{◌≡◌, ◌≢◌, ℕ, ◌-◌, false, List, [], ◌++◌, length, Some, slice_get}
use Rattle.crossbeam_queue.specs.Passes.{view}
use Rattle.site_links.specs.Words.{IsAtRest, Keeps}
use Rattle.site_links.specs.Seats.{read}
use Rattle.site_links.specs.declared.places.TheConstants.{PLACES}
use Rattle.agent_move.specs.declared.item.Item.{Item}
use Rattle.np_inbox_rule.specs.Steps.{sent_in, last_in, got_in, told_in}
use Rattle.site_inboxes.specs.Views.{number_in}
use Rattle.site_inboxes.specs.Ends.{SameOutlet, SameInbox, Counts, got_at, known_at}
use Rattle.site_inboxes.specs.declared.ends.Inbox.{Inbox}
use Rattle.site_inboxes.specs.declared.ends.Outlet.{Outlet}
use Rattle.crew_inboxes.specs.declared.inboxes.Inboxes.{Inboxes}

-- the site that an item is from
abbrev pub from_of : Item → ℕ
from_of item = item.from

-- what was put into a way
abbrev pub sent_by : Outlet Item → List Item
sent_by way = sent_in (view way.pass)

-- what its site knew to have been taken when the way was settled last
abbrev pub last_by : Outlet Item → List Item
last_by way = last_in (view way.pass)

-- what was taken of a site
abbrev pub taken_of : Inbox Item → ℕ → List Item
taken_of inbox k = got_at from_of (view inbox.pass) k

-- what is known to be waiting of a site
abbrev pub waiting_of : Inbox Item → ℕ → List Item
waiting_of inbox k = known_at from_of (view inbox.pass) k

abbrev pub site_in : Inboxes → ℕ
site_in p = p.site

abbrev pub among_in : Inboxes → ℕ
among_in p = length p.ways.items

abbrev pub sent_for : Inboxes → ℕ → List Item
sent_for p k = read sent_by [] (slice_get p.ways.items k)

abbrev pub got_from : Inboxes → ℕ → List Item
got_from p k = taken_of p.inbox k

abbrev pub known_from : Inboxes → ℕ → List Item
known_from p k = waiting_of p.inbox k

abbrev pub room_for : Inboxes → ℕ → ℕ
room_for p k = read (λ (way : Outlet Item). way.spare) 0 (slice_get p.ways.items k)

-- a way at rest: this was taken of its site, as its site knows, and that is known to wait
pub record IsIdle (got known : List Item) (way : Outlet Item) : Type 0 where
  pub rest : IsAtRest (sent_by way) got known way.spare
  pub last : last_by way ≡ got

-- a way on which nothing was put, and from whose site nothing was taken, since it was settled at rest is at rest
abbrev pub RestsUnless : List Item → List Item → Outlet Item → ℕ → Type 0
RestsUnless got known way fresh = way.has_put ≡ false → fresh ≡ 0 → IsIdle got known way

-- the way from the first's site to the second's leads into the second's inbox, and the second's way back counts what was taken from it
pub record Linked (a b : Inboxes) : Type 0 where
  pub way : Outlet Item
  pub back : Outlet Item
  pub way_is : slice_get a.ways.items b.site ≡ Some way
  pub back_is : slice_get b.ways.items a.site ≡ Some back
  pub joined : way.pass.table_id ≡ b.inbox.pass.table_id
  pub counts : Counts (taken_of b.inbox a.site) (last_by way) back.fresh
  pub rests : RestsUnless (taken_of b.inbox a.site) (waiting_of b.inbox a.site) way back.fresh

abbrev pub KeepsPort : Inboxes → Inboxes → Type 0
KeepsPort = Keeps site_in among_in Linked

-- what a settling makes of a way and of the inbox into which it leads
pub record WaySettled (way : Outlet Item) (inbox : Inbox Item) (way' : Outlet Item) (inbox' : Inbox Item) : Type 0 where
  pub same_way : SameOutlet way way'
  pub same_inbox : SameInbox inbox inbox'
  pub sent : sent_by way' ≡ sent_by way
  pub got : got_in (view inbox'.pass) ≡ got_in (view inbox.pass)
  pub last : last_by way' ≡ taken_of inbox' (number_in (view way.pass))
  pub told : (k : ℕ) → k ≢ number_in (view way.pass) → told_in (view inbox'.pass) k ≡ told_in (view inbox.pass) k
  pub settled : taken_of inbox' (number_in (view way.pass)) ++ waiting_of inbox' (number_in (view way.pass)) ≡ sent_by way'
  pub free : way'.spare ≡ PLACES - length (waiting_of inbox' (number_in (view way.pass)))
  pub rests : way'.has_put ≡ false → way'.spare ≡ PLACES
