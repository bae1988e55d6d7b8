-- What the code notes of a run, and what it tells of it.
use Rattle.std.specs.Prelude.{◌≡◌, ◌+◌, ◌++◌, ℕ, Bool, false, nat_eq, List, [], ◌∷◌, length, unwrap_or, if◌then◌else◌, MatchBool}
use Rattle.indexmap.specs.IndexMap as index_map
use Rattle.indexmap.specs.IndexMap.{IndexMap}
use Rattle.np_syntax.specs.declared.value.Name.{Name}
use Rattle.np_syntax.specs.declared.event.Event.{Event}
use Rattle.np_calculus.specs.Config.{Config}
use Rattle.run_save.specs.declared.trips.Item.{Item}
use Rattle.run_save.specs.declared.trips.Link.{Link}
use Rattle.run_save.specs.declared.notes.Links.{Links}
use Rattle.run_save.specs.declared.notes.Notes.{Notes}
use Rattle.run_save.specs.Ours.{IsOursFrom, names_by}
use Rattle.run_save.specs.Travels.{IsFirstInFirstOut, Travels, on_link, same_item, same_link, sender, travels}

-- ---- names

abbrev pub IsNext : ℕ → ℕ → Name → Type 0
IsNext site n name = name ≡ record { site = site; n = n }

module _ {S : Type 0} where
  -- how many names a site has made
  abbrev pub count_of : IndexMap ℕ ℕ S → ℕ → ℕ
  count_of made s = unwrap_or (index_map.get nat_eq made s) 0

  -- so many names more of this site
  pub record CountsMore (old new : IndexMap ℕ ℕ S) (site more : ℕ) : Type 0 where
    pub at : (s : ℕ) → count_of new s ≡ (if nat_eq site s then count_of old site + more else count_of old s)

-- ---- links

module _ {S : Type 0} where
  -- what waits on a link, which is nothing where it was never used
  abbrev pub waiting : IndexMap Link (List Item) S → Link → List Item
  waiting queues l = unwrap_or (index_map.get same_link queues l) []

  -- the link has these items now, and each other its old ones
  pub record SetsQueue (old new : IndexMap Link (List Item) S) (l : Link) (items : List Item) : Type 0 where
    pub at : (m : Link) → waiting new m ≡ (if same_link l m then items else waiting old m)

  -- the item was the first on the link, and each other link keeps its items
  pub record TakesFirst (old new : IndexMap Link (List Item) S) (l : Link) (first : Item) : Type 0 where
    pub is : waiting old l ≡ first ∷ waiting new l
    pub others : (m : Link) → same_link l m ≡ false → waiting new m ≡ waiting old m

-- from which site each item was put last, and what was put on a link and not taken
pub record Tells (links : Links) (t : Travels) : Type 0 where
  pub senders : (x : Item) → index_map.get same_item links.senders x ≡ sender t.put x
  pub waits : (l : Link) → on_link l t.put ≡ on_link l t.taken ++ waiting links.queues l
  pub sent : t.stray ≡ []

-- the answer is whether what is first in is first out, and then the links are told
abbrev pub IsTold : Bool → Links → Travels → Type 0
IsTold met links t = MatchBool met (Tells links t) (IsFirstInFirstOut t → ⊥)

-- ---- a run

pub record AreNoted (notes : Notes) (start : Config) (events : List Event) : Type 0 where
  pub counts : (s : ℕ) → count_of notes.made s ≡ length (names_by s events)
  pub links : Tells notes.links (travels start events)

-- the answer is whether the events are ours, and then they are noted
abbrev pub IsNoted : Bool → Notes → Config → List Event → Type 0
IsNoted met notes start events = MatchBool met (AreNoted notes start events × IsOursFrom start events) (IsOursFrom start events → ⊥)
