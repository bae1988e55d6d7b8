-- Runs by seed (docs/SCHEDULES.md, "What is drawn").
use Rattle.std.specs.Prelude.{◌≡◌, false, List, [], ◌∷◌, ◌++◌, None, Some}
use Rattle.std.specs.FinMap as map
use Rattle.np_syntax.specs.declared.value.Name.{Name}
use Rattle.np_syntax.specs.declared.event.Event.{Event}
use Rattle.np_tables.specs.Names.{same_name}
use Rattle.np_configuration.specs.Placed.{travels}
use Rattle.np_calculus.specs.Config.{Config}
use Rattle.np_calculus.specs.Reductions.{apply}
use Rattle.np_calculus.specs.Starts.{daemon_mark, main_mark}
use Rattle.np_serial.specs.Serial.{IsEnabled}
use Rattle.run_choices.specs.declared.choice.Choice.{Choice}
use Rattle.run_choices.specs.Choices.{event_by}

-- a start: atoms stand under the marks of main and of the daemon alone, and nothing is under way
pub record FirstMarks (c : Config) : Type 0 where
  pub atoms : (q : Name) → same_name q (main_mark c.sites) ≡ false → same_name q (daemon_mark c.sites) ≡ false → map.get c.atoms q ≡ None
  pub packets : (q : Name) → map.get c.packets q ≡ None
  pub places : (q : Name) → travels (map.get c.places q) ≡ false

-- the event of a choice is enabled, makes no names but these, leads from one configuration to the other, and is noted behind the others
pub record Chooses (c d : Config) (old new : List Event) (choice : Choice) (first second : Name) : Type 0 where
  pub event : Event
  pub is : event_by c choice first second ≡ Some event
  pub enabled : IsEnabled c event first second
  pub leads : apply c event ≡ Some d
  pub noted : new ≡ old ++ event ∷ []
