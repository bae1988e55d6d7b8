-- Which mark is filed under which errand, and what is ready then.
use Rattle.std.specs.Prelude.{◌≡◌, Bool, false, Option, None, Some}
use Rattle.std.specs.FinMap as map
use Rattle.np_syntax.specs.declared.value.Name.{Name}
use Rattle.np_tables.specs.Names.{NameMap}
use Rattle.np_tables.specs.declared.errand.Meeting.{Meeting}
use Rattle.np_tables.specs.declared.errand.Errand.{Errand}
use Rattle.np_tables.specs.declared.errand.Errand.TheVariants as errand
use Rattle.np_tables.specs.declared.errand.Ready.{Ready}
use Rattle.np_tables.specs.declared.errand.Ready.TheVariants as ready
use Rattle.np_tables.specs.contracts.errand.MeetingPartialEq.TheImpl as meetings
use Rattle.np_tables.specs.contracts.errand.ErrandPartialEq.TheImpl as errands

-- the errand of each mark that is filed
abbrev pub Work : Type 0
Work = NameMap Errand

-- an input and an output that wait for each other
pub record Meet (work : Work) (input output : Name) : Type 0 where
  pub meeting : Meeting
  pub takes : map.get work input ≡ Some (errand.Takes meeting)
  pub gives : map.get work output ≡ Some (errand.Gives meeting)

-- what can go on: a mark that acts alone, or an input and an output that meet
abbrev pub IsReady : Work → Ready → Type 0
IsReady work (ready.Acts mark) = map.get work mark ≡ Some errand.Acts
IsReady work (ready.Meets input output) = Meet work input output

-- no mark acts alone, and no two meet
pub record NothingReady (work : Work) : Type 0 where
  pub alone : (mark : Name) → map.get work mark ≡ Some errand.Acts → ⊥
  pub apart : (input output : Name) → Meet work input output → ⊥

-- the comparisons that `==` makes
abbrev pub same_meeting : Meeting → Meeting → Bool
same_meeting = meetings.eq-value.it

abbrev pub same_errand : Errand → Errand → Bool
same_errand = errands.eq-value.it

-- whether what a mark is filed under, if it is, is this errand
abbrev pub is_filed : Option Errand → Errand → Bool
is_filed None e = false
is_filed (Some f) e = same_errand f e

-- where an output or an input waits
abbrev pub meeting_of : Errand → Option Meeting
meeting_of errand.Acts = None
meeting_of (errand.Gives meeting) = Some meeting
meeting_of (errand.Takes meeting) = Some meeting
meeting_of errand.Stuck = None
