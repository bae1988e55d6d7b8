-- Whether an event is read off, as the messengers alone tell it (docs/PICTURES.md, "Pictures").
use Rattle.std.specs.Prelude.{◌≡◌, Bool, is_some}
use Rattle.np_syntax.specs.declared.event.Event.{Event}
use Rattle.np_tables.specs.Names.{NameSet}
use Rattle.np_lift.specs.CachedLift.{Standing, lifted}

-- these are the messengers, whatever marks stand for
abbrev pub among : Standing → NameSet → Standing
among s messengers = record s { messengers = messengers }

-- it is told whether an event is read off, and who the messengers are after it
pub record IsTold (s : Standing) (before after : NameSet) (e : Event) (told : Bool) : Type 0 where
  pub event : told ≡ is_some (lifted (among s before) e).event
  pub messengers : (lifted (among s before) e).standing.messengers ≡ after
