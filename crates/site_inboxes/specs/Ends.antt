-- What outlets and inboxes have.
use Rattle.std.specs.Prelude.{◌≡◌, ◌≢◌, ℕ, ◌+◌, ◌<◌, ◌≤◌, true, List, [], ◌∷◌, ◌++◌, length, drop}
use Rattle.site_links.specs.Words.{Begins}
use Rattle.crossbeam_queue.specs.Passes.{view}
use Rattle.site_links.specs.declared.places.TheConstants.{PLACES}
use Rattle.np_inbox_rule.specs.declared.views.View.{View}
use Rattle.np_inbox_rule.specs.Rule.{items_of}
use Rattle.np_inbox_rule.specs.Steps.{sent_in, last_in, got_in, told_in}
use Rattle.site_inboxes.specs.Views.{is_owner, is_sender, number_in, sites_in}
use Rattle.site_inboxes.specs.declared.ends.Outlet.{Outlet}
use Rattle.site_inboxes.specs.declared.ends.Inbox.{Inbox}

module _ {I : Type 0} where
  -- b is the outlet a at a later time, whatever became of its lists
  pub record SameOutlet (a b : Outlet I) : Type 0 where
    pub queue_same : b.pass.table_id ≡ a.pass.table_id
    pub number_same : number_in (view b.pass) ≡ number_in (view a.pass)
    pub fresh_same : b.fresh ≡ a.fresh

  -- b is the outlet a with another count
  pub record IsSameWay (a b : Outlet I) : Type 0 where
    pub queue_same : b.queue ≡ a.queue
    pub pass_same : b.pass ≡ a.pass
    pub spare_same : b.spare ≡ a.spare
    pub put_same : b.has_put ≡ a.has_put

  -- b is the inbox a at a later time, whatever became of its lists
  pub record SameInbox (a b : Inbox I) : Type 0 where
    pub queue_same : b.pass.table_id ≡ a.pass.table_id
    pub sites_same : sites_in (view b.pass) ≡ sites_in (view a.pass)

  -- the count is of what the owner took of a sender beyond what the sender knows to have been taken, where it is not more than there
  -- are places
  abbrev pub Counts : List I → List I → ℕ → Type 0
  Counts got last n = length got ≤ length last + PLACES → length got ≡ length last + n

  module _ (sender : I → ℕ) where
    -- what the owner has taken of a sender
    abbrev pub got_at : View I → ℕ → List I
    got_at v k = items_of sender k (got_in v)

    -- what the owner knows to be waiting of a sender
    abbrev pub known_at : View I → ℕ → List I
    known_at v k = drop (length (got_at v k)) (told_in v k)

    -- the owner takes an item, which is the first that it knew to be waiting of its sender, if it knew of any
    pub record TakesFrom (v w : View I) (item : I) : Type 0 where
      pub within : sender item < sites_in v
      pub got : got_in w ≡ got_in v ++ item ∷ []
      pub first : Begins (item ∷ known_at w (sender item)) (known_at v (sender item))

    -- what a settling makes of a sender's view and of the owner's
    pub record Settled (v b v' b' : View I) : Type 0 where
      pub sender_role : is_sender v' ≡ true
      pub sender_sites : sites_in v' ≡ sites_in v
      pub number_same : number_in v' ≡ number_in v
      pub sent_same : sent_in v' ≡ sent_in v
      pub last_is : last_in v' ≡ got_at b' (number_in v)
      pub owner_role : is_owner b' ≡ true
      pub owner_sites : sites_in b' ≡ sites_in b
      pub got_same : got_in b' ≡ got_in b
      pub told_is : told_in b' (number_in v) ≡ sent_in v
      pub told_others : (k : ℕ) → k ≢ number_in v → told_in b' k ≡ told_in b k
