-- The list of events of the high level that is read off a run of the low level whose infrastructure has caches and messengers
-- (docs/TRANSLATION.md, "Translation and daemon").
use Rattle.std.specs.Prelude.{Bool, true, false, Option, None, Some, List, [], ◌∷◌, unwrap_or, refl}
use Rattle.std.specs.Coded.{Coded, code_by, coded×}
use Rattle.std.specs.Option.{option_map}
use Rattle.std.specs.FinMap as map
use Rattle.std.specs.FinSet as set
use Rattle.np_syntax.specs.declared.value.Name.{Name}
use Rattle.np_syntax.specs.contracts.value.Name as name
use Rattle.np_syntax.specs.declared.process.Role.{Role}
use Rattle.np_syntax.specs.declared.process.Role.TheVariants as role
use Rattle.np_syntax.specs.declared.event.Event.{Event}
use Rattle.np_syntax.specs.declared.event.Kind.{Kind}
use Rattle.np_syntax.specs.declared.event.Kind.TheVariants as kind
use Rattle.np_syntax.specs.declared.event.Made.{Made}
use Rattle.np_syntax.specs.declared.event.Made.TheVariants as made
use Rattle.np_tables.specs.Names.{NameMap, NameSet}
use Rattle.np_lift.specs.Lift as plain
use Rattle.np_lift.specs.Posts.{prepended}

-- the marks that stand for others, each with the mark that it stands for, and the messengers
pub record Standing : Type 0 where
  pub marks : NameMap Name
  pub messengers : NameSet

abbrev pub standing_code : Coded Standing
standing_code =
    code_by (NameMap Name × NameSet) (coded× (map.code name.the_row.coded name.the_row.coded) (set.code name.the_row.coded))
    (λ s. (s.marks, s.messengers)) (λ p. record { marks = p.0; messengers = p.1 }) (λ _. refl)

-- at the start of a run each mark stands for itself, and there is no messenger
abbrev pub at_first : Standing
at_first = record { marks = map.empty; messengers = set.empty }

-- a mark that is not in the map stands for itself
abbrev pub stands_for : Standing → Name → Name
stands_for s mark = unwrap_or (map.get s.marks mark) mark

-- from now on a mark stands for what another stands for
abbrev pub with_mark : Standing → Name → Name → Standing
with_mark s mark other = record s { marks = map.insert s.marks mark (stands_for s other) }

-- the same, and there is one messenger more
abbrev pub with_messenger : Standing → Name → Name → Name → Standing
with_messenger s messenger mark other = record { marks = (with_mark s mark other).marks; messengers = set.insert s.messengers messenger }

-- the event with the marks for which its actor and its other stand
abbrev pub renamed : Standing → Event → Event
renamed s e = record e { actor = stands_for s e.actor; other = option_map (stands_for s) e.other }

-- the post that a Send is, or the creation of a messenger, with the mark for which its actor stands
abbrev pub posted : Standing → Event → Event
posted s e = record (plain.posted e) { actor = stands_for s e.actor }

-- what becomes of an event, and what stands for what after it
pub record Lifted : Type 0 where
  pub event : Option Event
  pub standing : Standing

-- the landing of a post, an event of the infrastructure, and the arrival of a messenger
abbrev pub is_dropped : Role → Kind → Bool → Bool
is_dropped role.Post kind.Land of_messenger = true
is_dropped role.Infra k of_messenger = true
is_dropped r kind.Arrive of_messenger = of_messenger
is_dropped r k of_messenger = false

-- by its role, its kind, the names that it makes, and whether it is dropped where no case before is met: the cases are tried in this order
abbrev pub lifted_by : Role → Kind → Made → Bool → Standing → Event → Lifted
lifted_by role.Post kind.Agent (made.Two messenger mark) dropped s e =
    record { event = Some (posted s e); standing = with_messenger s messenger mark e.actor }
lifted_by role.Infra kind.Local (made.One mark) dropped s e = record { event = None; standing = with_mark s mark e.actor }
lifted_by role.Post kind.Send names dropped s e = record { event = Some (posted s e); standing = s }
lifted_by r k names true s e = record { event = None; standing = s }
lifted_by r k names false s e = record { event = Some (renamed s e); standing = s }

abbrev pub lifted : Standing → Event → Lifted
lifted s e = lifted_by e.tag.role e.kind e.made (is_dropped e.tag.role e.kind (set.contains s.messengers e.actor)) s e

-- event by event, in the same order
abbrev pub lift_from : Standing → List Event → List Event
lift_from s [] = []
lift_from s (e ∷ es) = prepended (lifted s e).event (lift_from (lifted s e).standing es)

abbrev pub lift_cached : List Event → List Event
lift_cached events = lift_from at_first events

-- what stands for what after the events
abbrev pub standing_after : Standing → List Event → Standing
standing_after s [] = s
standing_after s (e ∷ es) = standing_after (lifted s e).standing es
