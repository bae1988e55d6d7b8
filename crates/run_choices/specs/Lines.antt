-- The marks by what they wait for, and the list of all that can happen next (docs/SCHEDULES.md, "Choices").
use Rattle.std.specs.Prelude.{◌≡◌, Bool, true, false, cond, not, ◌&&◌, nat_eq, List, [], ◌∷◌, Option, None, Some, unwrap_or}
use Rattle.std.specs.List.{list_any}
use Rattle.std.specs.FinMap as map
use Rattle.indexmap.specs.IndexMap as index_map
use Rattle.indexmap.specs.IndexMap.{IndexMap}
use Rattle.np_syntax.specs.declared.value.Name.{Name}
use Rattle.np_tables.specs.declared.errand.Meeting.{Meeting}
use Rattle.np_tables.specs.declared.errand.Errand.{Errand}
use Rattle.np_tables.specs.declared.errand.Errand.TheVariants as errand
use Rattle.np_tables.specs.Errands.{Work, is_filed, same_errand}
use Rattle.choice_entries.specs.declared.entry.Entry.{Entry}
use Rattle.choice_entries.specs.declared.entry.Entry.TheVariants as entry
use Rattle.choice_entries.specs.contracts.entry.EntryPartialEq.TheImpl as entries

-- ---- lists of marks

-- the comparison that `==` makes of names
abbrev pub alike : Name → Name → Bool
alike a b = nat_eq a.site b.site && nat_eq a.n b.n

-- the mark is in the list
abbrev pub has : List Name → Name → Bool
has marks mark = list_any (alike mark) marks

-- the list is not empty
abbrev pub has_some : {X : Type 0} → List X → Bool
has_some [] = false
has_some (x ∷ xs) = true

-- the mark is in the new list or not, and each other mark as it was
pub record Puts (old new : List Name) (mark : Name) (there : Bool) : Type 0 where
  pub at : (q : Name) → has new q ≡ cond (alike mark q) there (has old q)

-- ---- lines of marks that wait for the same

-- the line of each errand
abbrev pub Line : Type 0
Line = Errand → List Name

abbrev pub line_of : {S : Type 0} → IndexMap Errand (List Name) S → Line
line_of lines e = unwrap_or (index_map.get same_errand lines e) []

-- the mark is in the new line of the errand or not, and all else as it was
pub record Moves (old new : Line) (e : Errand) (mark : Name) (there : Bool) : Type 0 where
  pub line : List Name
  pub lines : (f : Errand) → new f ≡ cond (same_errand e f) line (old f)
  pub moved : Puts (old e) line mark there

-- both an input and an output wait there
abbrev pub has_both : Line → Meeting → Bool
has_both line meeting = has_some (line (errand.Takes meeting)) && has_some (line (errand.Gives meeting))

-- each mark is in the line of its errand, and in no other
pub record InLines (work : Work) (line : Line) : Type 0 where
  pub at : (e : Errand) (mark : Name) → has (line e) mark ≡ is_filed (map.get work mark) e

-- ---- entries

-- the entry of a meeting, if this holds
abbrev pub meeting_if : Bool → Meeting → Option Entry
meeting_if meets meeting = cond meets (Some (entry.Meets meeting)) None

-- the entry that comes with a mark that has come into the line of its errand
abbrev pub opened_by : Line → Name → Errand → Option Entry
opened_by line mark errand.Acts = Some (entry.Acts mark)
opened_by line mark (errand.Gives meeting) = meeting_if (has_some (line (errand.Takes meeting))) meeting
opened_by line mark (errand.Takes meeting) = meeting_if (has_some (line (errand.Gives meeting))) meeting
opened_by line mark errand.Stuck = None

-- the entry that goes with a mark that has left the line of its errand, in which others are still or none
abbrev pub closed_by : Name → Errand → Bool → Option Entry
closed_by mark errand.Acts others = Some (entry.Acts mark)
closed_by mark (errand.Gives meeting) others = meeting_if (not others) meeting
closed_by mark (errand.Takes meeting) others = meeting_if (not others) meeting
closed_by mark errand.Stuck others = None

-- the comparison that `==` makes of entries
abbrev pub same_entry : Entry → Entry → Bool
same_entry = entries.eq-value.it

-- the entry is this one, if there is one
abbrev pub is_one : Option Entry → Entry → Bool
is_one None s = false
is_one (Some t) s = same_entry t s

-- the entry stands in the list
abbrev pub stands : List Entry → Entry → Bool
stands list s = list_any (same_entry s) list

-- the entry stands in the new list or does not, and each other as before
pub record SetsEntry (old new : List Entry) (o : Option Entry) (there : Bool) : Type 0 where
  pub at : (s : Entry) → stands new s ≡ cond (is_one o s) there (stands old s)

-- the packets and the agents under way are entries as before
pub record SameComing (old new : List Entry) : Type 0 where
  pub lands : (q : Name) → stands new (entry.Lands q) ≡ stands old (entry.Lands q)
  pub arrives : (q : Name) → stands new (entry.Arrives q) ≡ stands old (entry.Arrives q)
