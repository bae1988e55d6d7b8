-- What contracts see of the items that a site has to put on its links.
use Rattle.std.specs.Prelude.{◌≡◌, ◌≢◌, ◌<◌, ◌≤◌, ℕ, List, [], ◌∷◌, ◌++◌, length, get_or, refl, MatchOption}
use Rattle.std.specs.Int.{bit_at}
use Rattle.std.specs.Coded.{Coded, code_by, coded×, coded_ℕ, coded_list}
use Rattle.np_syntax.specs.declared.limits.TheConstants.{MOST_SITES}
use Rattle.site_state.specs.declared.line.TheConstants.{PLACES}
use Rattle.agent_move.specs.declared.item.Item.{Item}
use Rattle.agent_move.specs.contracts.item.Item as item

-- items in the order of their coming, and for how many more there is room
pub record Waiting : Type 0 where
  pub items : List Item
  pub spare : ℕ

abbrev pub waiting_code : Coded Waiting
waiting_code = code_by (List Item × ℕ) (coded× (coded_list item.the_row.coded) coded_ℕ) (λ w. (w.items, w.spare))
    (λ p. record { items = p.0; spare = p.1 }) (λ _. refl)

-- nothing, and no room
abbrev pub nothing : Waiting
nothing = record { items = []; spare = 0 }

-- the items for a site with a number
abbrev pub queue_at : List Waiting → ℕ → List Item
queue_at lines to = (get_or lines to nothing).items

-- for how many more items for a site there is room
abbrev pub room_at : List Waiting → ℕ → ℕ
room_at lines to = (get_or lines to nothing).spare

-- the items for each site are the same
pub record SameLines (old new : List Waiting) : Type 0 where
  pub sites : length new ≡ length old
  pub queues : (to : ℕ) → queue_at new to ≡ queue_at old to

-- one more line stands behind the others, with no items and with room for some
pub record AreGrown (old new : List Waiting) : Type 0 where
  pub line : Waiting
  pub is : new ≡ old ++ line ∷ []
  pub empty : line.items ≡ []
  pub room : PLACES ≤ line.spare

-- each of the first lines has room for so many more
pub record HaveRoomBelow (end sure : ℕ) (lines : List Waiting) : Type 0 where
  pub each : (to : ℕ) → to < end → sure ≤ room_at lines to

-- each line has room for so many more
pub record HaveRoom (sure : ℕ) (lines : List Waiting) : Type 0 where
  pub each : (to : ℕ) → to < length lines → sure ≤ room_at lines to

-- lines for so many sites, with no items
pub record AreEmpty (n : ℕ) (lines : List Waiting) : Type 0 where
  pub sites : length lines ≡ n
  pub queues : (to : ℕ) → queue_at lines to ≡ []

-- what contracts see of all lines, and for how many more there is room in each
pub record Queues : Type 0 where
  pub lines : List Waiting
  pub sure : ℕ

abbrev pub queues_code : Coded Queues
queues_code = code_by (List Waiting × ℕ) (coded× (coded_list waiting_code) coded_ℕ) (λ q. (q.lines, q.sure))
    (λ p. record { lines = p.0; sure = p.1 }) (λ _. refl)

-- the item stands behind all others in the line for the site
pub record IsPut (old : List Waiting) (to : ℕ) (item : Item) (new : List Waiting) : Type 0 where
  pub sites : length new ≡ length old
  pub there : queue_at new to ≡ queue_at old to ++ item ∷ []
  pub others : (t : ℕ) → t ≢ to → queue_at new t ≡ queue_at old t

-- the item was the first in the line for the site, and its place is free
pub record IsTaken (old : List Waiting) (to : ℕ) (item : Item) (new : List Waiting) : Type 0 where
  pub sites : length new ≡ length old
  pub there : queue_at old to ≡ item ∷ queue_at new to
  pub place : 0 < room_at new to
  pub others : (t : ℕ) → t ≢ to → queue_at new t ≡ queue_at old t

-- no line has items
pub record NothingOut (lines : List Waiting) : Type 0 where
  pub each : (to : ℕ) → queue_at lines to ≡ []

-- ---- which lines may have items, a bit for each site

-- the bit of a site is not set
pub record IsUnmarked (marks to : ℕ) : Type 0 where
  pub within : to < MOST_SITES
  pub bit : bit_at marks to ≡ 0

-- the bit at a place is set, and none below it
pub record IsLowest (bits place : ℕ) : Type 0 where
  pub within : place < MOST_SITES
  pub set : bit_at bits place ≡ 1
  pub before : (to : ℕ) → to < place → bit_at bits to ≡ 0

-- a site's bit is set, and the others are as they were
pub record IsMarked (old site new : ℕ) : Type 0 where
  pub there : IsUnmarked new site → ⊥
  pub others : (to : ℕ) → to ≢ site → bit_at new to ≡ bit_at old to

-- a site's bit is not set, and the others are as they were
pub record IsStruck (old site new : ℕ) : Type 0 where
  pub there : site < MOST_SITES → IsUnmarked new site
  pub others : (to : ℕ) → to < MOST_SITES → to ≢ site → bit_at new to ≡ bit_at old to

-- a line without a mark has no items
pub record AreMarked (marks : ℕ) (lines : List Waiting) : Type 0 where
  pub each : (to : ℕ) → IsUnmarked marks to → queue_at lines to ≡ []

-- no line from a number on has items
pub record NothingFrom (lines : List Waiting) (from : ℕ) : Type 0 where
  pub each : (to : ℕ) → from ≤ to → queue_at lines to ≡ []

-- between two numbers no line has items, and there is a line with the second
pub record IsNext (lines : List Waiting) (from to : ℕ) : Type 0 where
  pub after : from ≤ to
  pub within : to < length lines
  pub before : (t : ℕ) → from ≤ t → t < to → queue_at lines t ≡ []
