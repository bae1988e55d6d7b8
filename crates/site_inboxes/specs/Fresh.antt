-- Inboxes through which nothing went, and the ways into them.
use Rattle.std.specs.Prelude.{◌≡◌, ℕ, ◌+◌, true, false, []}
use Rattle.crossbeam_queue.specs.Passes.{view}
use Rattle.site_links.specs.declared.places.TheConstants.{PLACES}
use Rattle.np_inbox_rule.specs.declared.views.View.{View}
use Rattle.np_inbox_rule.specs.Steps.{sent_in, last_in, got_in, told_in}
use Rattle.site_inboxes.specs.Views.{is_owner, is_sender, number_in, sites_in, made_in}
use Rattle.site_inboxes.specs.declared.ends.Outlet.{Outlet}
use Rattle.site_inboxes.specs.declared.ends.Inbox.{Inbox}

module _ {I : Type 0} where
  -- an owner that has taken and was told nothing, of an inbox of so many sites, with so many senders made
  pub record IsUnusedView (sites made : ℕ) (v : View I) : Type 0 where
    pub role : is_owner v ≡ true
    pub sites_are : sites_in v ≡ sites
    pub made_are : made_in v ≡ made
    pub got_none : got_in v ≡ []
    pub told_none : (k : ℕ) → told_in v k ≡ []

  -- a sender that has pushed nothing
  pub record IsFreshSender (sites number : ℕ) (v : View I) : Type 0 where
    pub role : is_sender v ≡ true
    pub sites_are : sites_in v ≡ sites
    pub number_is : number_in v ≡ number
    pub sent_none : sent_in v ≡ []
    pub last_none : last_in v ≡ []

  -- w is the owner v with one sender more
  pub record IsOneMore (v w : View I) : Type 0 where
    pub role : is_owner w ≡ true
    pub sites_same : sites_in w ≡ sites_in v
    pub one_more : made_in w ≡ made_in v + 1
    pub got_same : got_in w ≡ got_in v
    pub told_same : (k : ℕ) → told_in w k ≡ told_in v k

  -- a new way into the inbox a, which is b then
  pub record IsSplitOff (a b : Inbox I) (out : Outlet I) : Type 0 where
    pub queue_same : b.pass.table_id ≡ a.pass.table_id
    pub queue_is : out.pass.table_id ≡ a.pass.table_id
    pub one_more : IsOneMore (view a.pass) (view b.pass)
    pub sender : IsFreshSender (sites_in (view a.pass)) (made_in (view a.pass)) (view out.pass)
    pub all_free : out.spare ≡ PLACES
    pub none_fresh : out.fresh ≡ 0
    pub none_put : out.has_put ≡ false
