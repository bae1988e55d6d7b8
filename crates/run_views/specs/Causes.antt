-- The causes of events, as code keeps them.
use Rattle.std.specs.Prelude.{◌≡◌, ◌↔◌, ◌≤◌, ◌<◌, ℕ, Bool, true, false, List, [], ◌∷◌, length, Option, None, Some, slice_get, get_or, set}
use Rattle.std.specs.FinMap as map
use Rattle.np_syntax.specs.declared.value.Name.{Name}
use Rattle.np_syntax.specs.declared.event.Event.{Event}
use Rattle.np_syntax.specs.Options.{◌>>=◌}
use Rattle.np_tables.specs.Names.{NameMap}
use Rattle.np_calculus.specs.Config.{Config}
use Rattle.np_calculus.specs.Reductions.{apply}
use Rattle.np_calculus.specs.Footprints.{touches}
use Rattle.np_calculus.specs.Sight.{inside}
use Rattle.run_views.specs.Index.{Index, IsOneOf, causes, noting}
use Rattle.run_views.specs.Past.{IsCause, Trace, writes}
use Rattle.run_views.specs.declared.causing.Causes.{Causes}
use Rattle.run_views.specs.declared.causing.Writers.{Writers}

abbrev pub index_of : Writers → Index
index_of w = record { marks = w.marks.items; places = w.places.items }

-- who wrote last under a name
abbrev pub last_of : NameMap ℕ → Option Name → Option ℕ
last_of table name = name >>= map.get table

abbrev pub places_of : Causes → List (Option ℕ)
places_of c = c.actor ∷ c.other ∷ c.agent ∷ c.asked ∷ []

-- these are the causes of each of the first events, so many
pub record AreCauses (ts : List Trace) (n : ℕ) (found : List Causes) : Type 0 where
  pub count : length found ≡ n
  pub each : (j : ℕ) (c : Causes) → slice_get found j ≡ Some c → (k : ℕ) → IsOneOf k (places_of c) ↔ IsCause ts k j

-- one event more of the run
pub record IsTraced (before after : Config) (old new : Index) (j : ℕ) (e : Event) (c : Causes) : Type 0 where
  pub applies : apply before e ≡ Some after
  pub noted : new ≡ noting old j (writes e.kind (inside before) e)
  pub found : (k : ℕ) → IsOneOf k (places_of c) ↔ IsOneOf k (causes old (touches e.kind (inside before) e))

-- ---- marks

abbrev pub is_marked : List Bool → ℕ → Bool
is_marked marked j = get_or marked j false

abbrev pub with_mark : List Bool → Option ℕ → List Bool
with_mark marked None = marked
with_mark marked (Some k) = set marked k true

abbrev pub with_marks : List Bool → List (Option ℕ) → List Bool
with_marks marked [] = marked
with_marks marked (o ∷ os) = with_marks (with_mark marked o) os

-- each cause is before what it causes
abbrev pub AreBefore : List Causes → Type 0
AreBefore found = (j k : ℕ) (c : Causes) → slice_get found j ≡ Some c → IsOneOf k (places_of c) → k < j

-- a set of places has this one, and the causes of each place that it has
pub record HasFound (found : List Causes) (i : ℕ) (places : ℕ → Bool) : Type 0 where
  pub has : places i ≡ true
  pub causes : (j k : ℕ) (c : Causes) → places j ≡ true → slice_get found j ≡ Some c → IsOneOf k (places_of c) → places k ≡ true

-- The marked places are in each such set, and those from this one on have their causes marked.
pub record AreMarked (found : List Causes) (i from : ℕ) (marked : List Bool) : Type 0 where
  pub count : length marked ≡ length found
  pub has : is_marked marked i ≡ true
  pub causes : (j k : ℕ) (c : Causes) → from ≤ j → is_marked marked j ≡ true → slice_get found j ≡ Some c → IsOneOf k (places_of c)
      → is_marked marked k ≡ true
  pub least : (others : ℕ → Bool) → HasFound found i others → (j : ℕ) → is_marked marked j ≡ true → others j ≡ true
