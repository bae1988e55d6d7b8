-- The marks by their errands, each errand's in a line, and the meetings that have both an input and an output.
use Rattle.std.specs.Prelude.{◌≡◌, ℕ, Bool, false, [], ◌∷◌, not, ◌&&◌, ◌||◌, nat_eq, Option, None, Some, unwrap_or, is_some, if◌then◌else◌}
use Rattle.std.specs.FinMap as map
use Rattle.std.specs.FinSet as set
use Rattle.indexmap.specs.IndexMap as index_map
use Rattle.indexmap.specs.IndexMap.{IndexMap}
use Rattle.indexmap.specs.Layout.{hash_map}
use Rattle.np_syntax.specs.declared.value.Name.{Name}
use Rattle.np_tables.specs.Names.{NameSet, same_name}
use Rattle.np_tables.specs.Errands.{Work, same_meeting, same_errand, is_filed, meeting_of}
use Rattle.np_tables.specs.declared.errand.Meeting.{Meeting}
use Rattle.np_tables.specs.declared.errand.Errand.{Errand}
use Rattle.np_tables.specs.declared.errand.Errand.TheVariants as errand
use Rattle.np_tables.specs.declared.turns.Turn.{Turn}
use Rattle.np_tables.specs.declared.turns.Turn.TheVariants as turn

-- the set is not empty
abbrev pub has_some : NameSet → Bool
has_some names = not (nat_eq (set.len names) 0)

abbrev pub is_here : Option Meeting → Meeting → Bool
is_here None meeting = false
is_here (Some here) meeting = same_meeting here meeting

-- the errand is an output or an input at the meeting
abbrev pub is_at : Errand → Meeting → Bool
is_at e meeting = is_here (meeting_of e) meeting

-- lines as their entries alone
abbrev pub LineMap : Type 0
LineMap = IndexMap Errand NameSet ℕ

module _ {S : Type 0} where
  -- the marks under an errand, which are none where it has no line
  abbrev pub line_of : IndexMap Errand NameSet S → Errand → NameSet
  line_of lines e = unwrap_or (index_map.get same_errand lines e) set.empty

  -- lines with one more, of the marks that act alone, whatever the hasher and the room
  abbrev pub with_acts : NameSet → IndexMap Errand NameSet S → LineMap
  with_acts acts lines = hash_map ((errand.Acts, acts) ∷ lines.entries) 0 0

  -- the meeting has both an input and an output
  abbrev pub has_both : IndexMap Errand NameSet S → Meeting → Bool
  has_both lines meeting = has_some (line_of lines (errand.Takes meeting)) && has_some (line_of lines (errand.Gives meeting))

  -- each errand keeps its marks
  pub record SameLines (old new : IndexMap Errand NameSet S) : Type 0 where
    pub same : (f : Errand) → line_of new f ≡ line_of old f

  -- the errand has this line now, and each other its old one
  pub record SetsLine (old new : IndexMap Errand NameSet S) (e : Errand) (line : NameSet) : Type 0 where
    pub at : (f : Errand) → line_of new f ≡ (if same_errand e f then line else line_of old f)

  -- each mark is in the line of its errand, and in no other
  pub record InLines (work : Work) (lines : IndexMap Errand NameSet S) : Type 0 where
    pub at : (e : Errand) (mark : Name) → set.contains (line_of lines e) mark ≡ is_filed (map.get work mark) e

  -- the same, where one mark is in the line of another errand too
  pub record InLinesAnd (work : Work) (lines : IndexMap Errand NameSet S) (e : Errand) (mark : Name) : Type 0 where
    pub at : (f : Errand) (q : Name) → set.contains (line_of lines f) q
        ≡ (is_filed (map.get work q) f || (same_errand e f && same_name q mark))

module _ {V S : Type 0} where
  -- the meeting is among the busy ones
  abbrev pub is_busy : IndexMap Meeting V S → Meeting → Bool
  is_busy busy meeting = is_some (index_map.get same_meeting busy meeting)

module _ {S V R : Type 0} where
  -- there is something to be served in this turn
  abbrev pub is_due : IndexMap Errand NameSet S → IndexMap Meeting V R → Turn → Bool
  is_due lines busy (turn.Alone mark) = set.contains (line_of lines errand.Acts) mark
  is_due lines busy (turn.Meets meeting) = is_busy busy meeting

  -- nothing is to be served in any turn
  pub record NoneDue (lines : IndexMap Errand NameSet S) (busy : IndexMap Meeting V R) : Type 0 where
    pub none_alone : has_some (line_of lines errand.Acts) ≡ false
    pub none_busy : busy.entries ≡ []

  -- the meetings that have both are the busy ones
  pub record BusyAt (lines : IndexMap Errand NameSet S) (busy : IndexMap Meeting V R) : Type 0 where
    pub at : (meeting : Meeting) → is_busy busy meeting ≡ has_both lines meeting
