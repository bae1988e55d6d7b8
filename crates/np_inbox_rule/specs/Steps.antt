-- The steps of an inbox: what becomes of the view of the pass that makes the step, and what the step tells it.
use Rattle.std.specs.Prelude.{◌≡◌, ℕ, ◌+◌, ◌*◌, ◌<◌, cond, ltb, List, [], ◌∷◌, ◌++◌, length}
use Rattle.site_links.specs.Words.{Begins}
use Rattle.site_links.specs.declared.places.TheConstants.{PLACES}
use Rattle.np_inbox_rule.specs.declared.views.View.{View}
use Rattle.np_inbox_rule.specs.declared.views.View.TheVariants.{Owner, Sender, OfSender, OfOwner, Spent}
use Rattle.np_inbox_rule.specs.Rule.{items_of, told_of}

-- the longer of two lists, the first where they are as long
abbrev pub longer : {T : Type 0} → List T → List T → List T
longer a b = cond (ltb (length a) (length b)) b a

module _ {I : Type 0} where
  -- the owner of a new inbox
  abbrev pub first_view : View I
  first_view = Owner (record { sites = 0; made = 0; got = []; told = [] })

  -- ---- of whom a view is
  -- the owner's, of an inbox for so many sites, with so many senders made
  abbrev pub IsOwner : ℕ → ℕ → View I → Type 0
  IsOwner sites made (Owner v) = (v.sites ≡ sites) × (v.made ≡ made)
  IsOwner sites made _ = ⊥

  -- the sender's of that number, of an inbox for so many sites
  abbrev pub IsSender : ℕ → ℕ → View I → Type 0
  IsSender sites number (Sender v) = (v.sites ≡ sites) × (v.number ≡ number)
  IsSender sites number _ = ⊥

  -- ---- what a view has
  abbrev pub sent_in : View I → List I
  sent_in (Sender v) = v.sent
  sent_in (OfSender note) = note.sent
  sent_in _ = []

  abbrev pub last_in : View I → List I
  last_in (Sender v) = v.last
  last_in _ = []

  abbrev pub got_in : View I → List I
  got_in (Owner v) = v.got
  got_in (OfOwner note) = note.got
  got_in _ = []

  abbrev pub told_in : View I → ℕ → List I
  told_in (Owner v) k = told_of k v.told
  told_in _ k = []

  -- ---- push
  abbrev pub put : View I → I → View I
  put (Sender v) x = Sender (record v { sent = v.sent ++ x ∷ [] })
  put v x = v

  -- a sender that knows of a free place is told that the queue is not full
  abbrev pub HasSpace : View I → List I → Type 0
  HasSpace (Sender v) items = length v.sent < length v.last + PLACES → length items < v.sites * PLACES
  HasSpace _ items = Unit {0}

  -- a sender is told that what it joined last begins what it pushed
  abbrev pub IsFreed : View I → List I → Type 0
  IsFreed v items = Begins (sent_in v) (last_in v)

  -- ---- splits
  abbrev pub one_site : View I → View I
  one_site (Owner v) = Owner (record v { sites = v.sites + 1 })
  one_site v = v

  abbrev pub one_made : View I → View I
  one_made (Owner v) = Owner (record v { made = v.made + 1 })
  one_made v = v

  abbrev pub new_sender : View I → View I
  new_sender (Owner v) = Sender (record { sites = v.sites; number = v.made; sent = []; freed = []; last = [] })
  new_sender _ = Spent

  abbrev pub note_sent : View I → View I
  note_sent (Sender v) = OfSender (record { number = v.number; sent = v.sent })
  note_sent _ = Spent

  abbrev pub note_got : View I → View I
  note_got (Owner v) = OfOwner (record { got = v.got })
  note_got _ = Spent

  -- ---- joins
  abbrev pub join_sent : View I → View I → View I
  join_sent (Owner v) (OfSender note) = Owner (record v { told = note ∷ v.told })
  join_sent v _ = v

module _ {I : Type 0} (sender : I → ℕ) where
  abbrev pub join_got : View I → View I → View I
  join_got (Sender v) (OfOwner note) =
      Sender (record v { freed = longer v.freed (items_of sender v.number note.got); last = items_of sender v.number note.got })
  join_got v _ = v

  -- ---- pop
  abbrev pub take : View I → I → View I
  take (Owner v) x = Owner (record v { got = v.got ++ x ∷ [] })
  take v x = v

  -- the item was the first that was not taken of its sender, and what was told of the sender goes on with it
  pub record IsNext (v : View I) (x : I) : Type 0 where
    pub rest : List I
    pub begins : Begins (items_of sender (sender x) (got_in v) ++ x ∷ rest) (told_in v (sender x))

  -- a pop that takes an item of a sender
  pub record Taken (v : View I) (x : I) (w : View I) : Type 0 where
    pub view_is : w ≡ take v x
    pub within : (sites made : ℕ) → IsOwner sites made v → sender x < sites
    pub next : IsNext v x

  -- what was told of each sender begins what was taken of it, and then what waits
  abbrev pub IsTold : View I → List I → Type 0
  IsTold v items = (k : ℕ) → Begins (items_of sender k (got_in v) ++ items_of sender k items) (told_in v k)
