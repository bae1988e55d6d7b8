-- The list of events of the high level that is read off a run of the low level (docs/TRANSLATION.md, "Translation and daemon").
use Rattle.std.specs.Prelude.{Option, None, Some, List}
use Rattle.std.specs.List.{filter_map}
use Rattle.np_syntax.specs.declared.process.Role.{Role}
use Rattle.np_syntax.specs.declared.process.Role.TheVariants as role
use Rattle.np_syntax.specs.declared.event.Event.{Event}
use Rattle.np_syntax.specs.declared.event.Kind.{Kind}
use Rattle.np_syntax.specs.declared.event.Kind.TheVariants as kind
use Rattle.np_syntax.specs.declared.event.Made.TheVariants as made

-- the post that a Send is: its site, its actor and its node's number stay
abbrev pub posted : Event → Event
posted e = record e { kind = kind.Post; other = None; tag = record { node = e.tag.node; role = role.Plain }; made = made.Nothing }

-- what an event becomes, by its role and its kind
abbrev pub lifted_by : Role → Kind → Event → Option Event
lifted_by role.Infra k e = None
lifted_by role.Post kind.Send e = Some (posted e)
lifted_by role.Post kind.Land e = None
lifted_by role.Post k e = Some e
lifted_by role.Plain k e = Some e

abbrev pub lifted : Event → Option Event
lifted e = lifted_by e.tag.role e.kind e

-- event by event, in the same order
abbrev pub lift : List Event → List Event
lift events = filter_map lifted events
