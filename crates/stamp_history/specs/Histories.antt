-- The history of a site (docs/HISTORIES.md, "History text"): its events with rising stamps, and the values that it printed.
use Rattle.std.specs.Prelude.{◌≡◌, ◌<◌, ◌≤◌, ◌^◌, ℕ, Bool, true, false, List, [], ◌∷◌, ◌++◌, length, count_by, refl}
use Rattle.std.specs.Coded.{Coded, code_by, coded×, coded_ℕ, coded_list}
use Rattle.std.specs.List.{AllByRecursion}
use Rattle.np_syntax.specs.declared.event.Kind.{Kind}
use Rattle.np_syntax.specs.declared.event.Kind.TheVariants as kind
use Rattle.np_syntax.specs.declared.value.Value.{Value}
use Rattle.np_syntax.specs.contracts.value.Value as value
use Rattle.stamp_history.specs.declared.stamped.Stamped.{Stamped}
use Rattle.stamp_history.specs.contracts.stamped.Stamped as stamped

-- the history of the site with a number: its events, of which there are at most the budget, and the values that it printed
pub record Recorded : Type 0 where
  pub site : ℕ
  pub budget : ℕ
  pub events : List Stamped
  pub said : List Value

-- a history, and for how many more values there is room
pub record Stored : Type 0 where
  pub history : Recorded
  pub spare : ℕ

abbrev pub recorded_code : Coded Recorded
recorded_code =
    code_by (ℕ × (ℕ × (List Stamped × List Value)))
    (coded× coded_ℕ (coded× coded_ℕ (coded× (coded_list stamped.the_row.coded) (coded_list value.the_row.coded))))
    (λ h. (h.site, (h.budget, (h.events, h.said)))) (λ p. record { site = p.0; budget = p.1.0; events = p.1.1.0; said = p.1.1.1 })
    (λ _. refl)

abbrev pub stored_code : Coded Stored
stored_code = code_by (Recorded × ℕ) (coded× recorded_code coded_ℕ) (λ s. (s.history, s.spare))
    (λ p. record { history = p.0; spare = p.1 }) (λ _. refl)

abbrev pub prints : Kind → Bool
prints kind.Print = true
prints _ = false

abbrev pub is_print : Stamped → Bool
is_print e = prints e.event.kind

-- each stamp is below those after it
abbrev pub Rises : List Stamped → Type 0
Rises [] = Unit {0}
Rises (e ∷ es) = AllByRecursion (λ later. e.stamp < later.stamp) es × Rises es

-- the stamp is above that of the last event
abbrev pub IsAboveLast : List Stamped → ℕ → Type 0
IsAboveLast [] stamp = Unit {0}
IsAboveLast (e ∷ []) stamp = e.stamp < stamp
IsAboveLast (e ∷ f ∷ es) stamp = IsAboveLast (f ∷ es) stamp

-- what each history keeps to
pub record IsHistory (h : Recorded) : Type 0 where
  pub within : length h.events ≤ h.budget
  pub rising : Rises h.events
  pub one_each : length h.said ≡ count_by is_print h.events

-- and there is room for the whole budget
pub record IsRoomy (h : Recorded) (room : ℕ) : Type 0 where
  pub history : IsHistory h
  pub fits : h.budget < 2 ^ 32
  pub reserved : h.budget ≤ room

abbrev pub without_events : ℕ → ℕ → Recorded
without_events site budget = record { site = site; budget = budget; events = []; said = [] }

abbrev pub with_event : Recorded → Stamped → Recorded
with_event h e = record { site = h.site; budget = h.budget; events = h.events ++ e ∷ []; said = h.said }

abbrev pub with_said : Recorded → Value → Recorded
with_said h v = record { site = h.site; budget = h.budget; events = h.events; said = h.said ++ v ∷ [] }
