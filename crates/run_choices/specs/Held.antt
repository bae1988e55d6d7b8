-- The list of all that can happen next, and what stands beside it (docs/SCHEDULES.md, "Choices").
use Rattle.std.specs.Prelude.{◌≡◌, Option, Some, is_some, List, ◌++◌}
use Rattle.std.specs.FinMap as map
use Rattle.np_syntax.specs.Options.{◌>>=◌}
use Rattle.np_syntax.specs.declared.event.Event.{Event}
use Rattle.np_syntax.specs.declared.value.Name.{Name}
use Rattle.np_tables.specs.declared.errand.Meeting.{Meeting}
use Rattle.np_tables.specs.declared.errand.Errand.TheVariants as errand
use Rattle.np_tables.specs.Errands.{Work, is_filed}
use Rattle.np_configuration.specs.Placed.{travels}
use Rattle.np_calculus.specs.Config.{Config}
use Rattle.np_calculus.specs.Footprints.{listed}
use Rattle.run_views.specs.Past.{names_of}
use Rattle.choice_entries.specs.Picks.{pick}
use Rattle.run_choices.specs.declared.choice.Choice.{Choice}
use Rattle.run_choices.specs.declared.choice.Choice.TheVariants as choice
use Rattle.run_choices.specs.declared.choice.Draw.{Draw}
use Rattle.choice_entries.specs.declared.entry.Entry.{Entry}
use Rattle.choice_entries.specs.declared.entry.Entry.TheVariants as entry
use Rattle.run_choices.specs.declared.waiting.Waiting.{Waiting}
use Rattle.run_choices.specs.Choices.{errand_in}
use Rattle.run_choices.specs.Lines.{InLines, Line, has_both, line_of, stands}

-- what each mark is filed under, the marks that wait for the same, and the entries
pub record Held : Type 0 where
  pub work : Work
  pub line : Line
  pub list : List Entry

abbrev pub held : Waiting → Held
held w = record { work = w.filed.items; line = line_of w.lines; list = w.list.entries.keys }

-- an atom that acts alone is an entry, and a channel on which both an input and an output wait is
pub record InStep (h : Held) : Type 0 where
  pub in_lines : InLines h.work h.line
  pub alone : (mark : Name) → stands h.list (entry.Acts mark) ≡ is_filed (map.get h.work mark) errand.Acts
  pub busy : (meeting : Meeting) → stands h.list (entry.Meets meeting) ≡ has_both h.line meeting

-- of this name the lists say what the configuration has
pub record Agrees (c : Config) (h : Held) (q : Name) : Type 0 where
  pub filed : map.get h.work q ≡ errand_in c q
  pub lands : stands h.list (entry.Lands q) ≡ is_some (map.get c.packets q)
  pub arrives : stands h.list (entry.Arrives q) ≡ travels (map.get c.places q)

-- the lists have all that can happen next in the configuration, and nothing else
pub record Lists (c : Config) (h : Held) : Type 0 where
  pub step : InStep h
  pub at : (q : Name) → Agrees c h q

-- the names that an event touches: those that stand in it, and the agent of its atom
abbrev pub touched : Event → Option Name → List Name
touched e agent = names_of e ++ listed agent

-- ---- what a draw picks

-- an entry is a choice; of a channel, an input and an output that wait there
abbrev pub chosen_of : Line → Draw → Entry → Option Choice
chosen_of line draw (entry.Arrives agent) = Some (choice.Arrives agent)
chosen_of line draw (entry.Lands mark) = Some (choice.Lands mark)
chosen_of line draw (entry.Acts mark) = Some (choice.Acts mark)
chosen_of line draw (entry.Meets meeting) = do
  i ← pick (line (errand.Takes meeting)) draw.input
  o ← pick (line (errand.Gives meeting)) draw.output
  Some (choice.Meets i o)

abbrev pub chosen_by : Held → Draw → Option Choice
chosen_by h draw = pick h.list draw.entry >>= chosen_of h.line draw
