-- Which names are born behind a run of a low program: its own, and those that events made (docs/PICTURES.md, "Refusals").
use Rattle.std.specs.Prelude.{◌≡◌, ℕ, Bool, false, ◌&&◌, ◌||◌, nat_eq, List, Some}
use Rattle.std.specs.List.{list_any}
use Rattle.np_syntax.specs.declared.value.Name.{Name}
use Rattle.np_syntax.specs.declared.event.Event.{Event}
use Rattle.np_syntax.specs.declared.event.Made.{Made}
use Rattle.np_syntax.specs.declared.event.Made.TheVariants as made
use Rattle.np_syntax.specs.declared.program.LowProgram.{LowProgram}
use Rattle.np_tables.specs.Names.{same_name}
use Rattle.np_calculus.specs.Config.{Config}
use Rattle.np_calculus.specs.Reductions.{run}
use Rattle.np_calculus.specs.Starts.{own_numbers, start_low}

-- a name is one of those that an event makes
abbrev pub is_made : Made → Name → Bool
is_made made.Nothing q = false
is_made (made.One m) q = same_name q m
is_made (made.Two m n) q = same_name q n || same_name q m

-- one of the events makes the name
abbrev pub is_made_in : List Event → Name → Bool
is_made_in events q = list_any (λ (e : Event). is_made e.made q) events

-- a program of n sites has the name from the start
abbrev pub is_own : ℕ → Name → Bool
is_own n q = nat_eq q.site n && list_any (nat_eq q.n) own_numbers

-- the events are a run of a low program, which leads there
pub record IsReached (events : List Event) (c : Config) : Type 0 where
  pub low : LowProgram
  pub runs : run (start_low low) events ≡ Some c
