-- The rule of an inbox, over what its queue holds, oldest first, and over what each pass knows.
use Rattle.std.specs.Prelude.{◌≡◌, ℕ, ◌+◌, ◌<◌, ◌≤◌, cond, eqb, List, [], ◌∷◌, ◌++◌, length}
use mathlib.Core.Option.{some}
use lib.ListN.{get_elem?}
use Rattle.site_links.specs.Words.{only_at, Begins}
use Rattle.site_links.specs.declared.places.TheConstants.{PLACES}
use Rattle.np_inbox_rule.specs.declared.views.View.{View}
use Rattle.np_inbox_rule.specs.declared.views.View.TheVariants.{Owner, Sender, OfSender, OfOwner, Spent}
use Rattle.np_inbox_rule.specs.declared.views.OwnerView.{OwnerView}
use Rattle.np_inbox_rule.specs.declared.views.SenderView.{SenderView}
use Rattle.np_inbox_rule.specs.declared.views.SentNote.{SentNote}

-- what the newest note of a sender tells, and nothing where no note of it is here
abbrev pub told_of : {I : Type 0} → ℕ → List (SentNote I) → List I
told_of k [] = []
told_of k (note ∷ older) = cond (eqb k note.number) note.sent (told_of k older)

-- what is true of an inbox beside what it holds: how many sites there are, how many senders were made, which pass is the owner's and
-- which a sender's, what each sender has pushed, and what the owner has taken
pub record Standing (I : Type 0) : Type 0 where
  pub sites : ℕ
  pub made : ℕ
  pub owner : ℕ
  pub seat : ℕ → ℕ
  pub sent : ℕ → List I
  pub got : List I

module _ {I : Type 0} (sender : I → ℕ) where
  -- the items of one sender
  abbrev pub items_of : ℕ → List I → List I
  items_of k [] = []
  items_of k (x ∷ xs) = only_at k (sender x) x ++ items_of k xs

  -- what is true of one number: what its sender pushed is what was taken of it and then what waits, and at most so many wait as there
  -- are places; of a number without a sender nothing is there
  pub record Flows (t : Standing I) (items : List I) (k : ℕ) : Type 0 where
    pub flow : items_of k t.got ++ items_of k items ≡ t.sent k
    pub few : length (t.sent k) ≤ length (items_of k t.got) + PLACES
    pub unmade : t.made ≤ k → t.sent k ≡ []

  -- what the owner knows is so
  pub record OwnerFits (t : Standing I) (pass : ℕ) (v : OwnerView I) : Type 0 where
    pub alone : pass ≡ t.owner
    pub sites_are : v.sites ≡ t.sites
    pub made_are : v.made ≡ t.made
    pub got_is : v.got ≡ t.got
    pub told : (k : ℕ) → Begins (t.sent k) (told_of k v.told)

  -- what a sender knows is so, and at most so many items as there are places are not known to have been taken
  pub record SenderFits (t : Standing I) (pass : ℕ) (v : SenderView I) : Type 0 where
    pub below : v.number < t.made
    pub alone : pass ≡ t.seat v.number
    pub sites_are : v.sites ≡ t.sites
    pub sent_is : v.sent ≡ t.sent v.number
    pub freed_taken : Begins (items_of v.number t.got) v.freed
    pub last_freed : Begins v.freed v.last
    pub few : length v.sent ≤ length v.freed + PLACES

  -- what a pass knows is so
  abbrev pub Fits : Standing I → ℕ → View I → Type 0
  Fits t pass (Owner v) = OwnerFits t pass v
  Fits t pass (Sender v) = SenderFits t pass v
  Fits t pass (OfSender note) = (note.number < t.made) × Begins (t.sent note.number) note.sent
  Fits t pass (OfOwner note) = (k : ℕ) → Begins (items_of k t.got) (items_of k note.got)
  Fits t pass Spent = Unit {0}

  -- the rule
  pub record Holds (items : List I) (views : List (View I)) : Type 0 where
    pub standing : Standing I
    pub within : standing.made ≤ standing.sites
    pub flows : (k : ℕ) → Flows standing items k
    pub fits : (pass : ℕ) (v : View I) → get_elem? views pass ≡ some v → Fits standing pass v
