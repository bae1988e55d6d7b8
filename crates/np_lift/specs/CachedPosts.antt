-- Posts of a run of the low level whose infrastructure has caches and messengers, and where they are handed over, each under the mark for
-- which its own stands (docs/TRANSLATION.md, "Translation and daemon").
use Rattle.std.specs.Prelude.{Option, None, Some, List, [], ◌∷◌}
use Rattle.std.specs.FinMap as map
use Rattle.np_syntax.specs.declared.value.Name.{Name}
use Rattle.np_syntax.specs.declared.process.Role.{Role}
use Rattle.np_syntax.specs.declared.process.Role.TheVariants as role
use Rattle.np_syntax.specs.declared.process.ProcForm.{ProcForm-F}
use Rattle.np_syntax.specs.declared.event.Event.{Event}
use Rattle.np_syntax.specs.declared.event.Kind.{Kind}
use Rattle.np_syntax.specs.declared.event.Kind.TheVariants as kind
use Rattle.np_syntax.specs.declared.event.Made.{Made}
use Rattle.np_syntax.specs.declared.event.Made.TheVariants as made
use Rattle.np_syntax.specs.Options.{◌>>=◌}
use Rattle.np_calculus.specs.Config.{Config}
use Rattle.np_calculus.specs.Reductions.{apply}
use Rattle.np_eval.specs.Eval.{Env, agent_of, chan_of, eval}
use Rattle.np_eval.specs.Forms.{Layer, layer}
use Rattle.np_lift.specs.Posts.{AllHanded, Alternate, Deed, Letter, deeds_to, letter_at, prepended}
use Rattle.np_lift.specs.CachedLift.{Standing, at_first, lifted, stands_for}

-- ---- the letter with which a messenger is made: agent t = migrate to s -> iflocal <b>c!v then .. else .. in ..

-- what a location test tries to give
abbrev pub letter_tried : Layer → Env → Option Letter
letter_tried (ProcForm-F.IfLocal to chan sent met unmet) env = do
  agent ← agent_of to env
  c ← chan_of chan env
  v ← eval sent env
  Some (record { agent = agent; chan = c; value = v })
letter_tried _ env = None

-- what stands behind a migration
abbrev pub letter_carried : Layer → Env → Option Letter
letter_carried (ProcForm-F.Migrate to body) env = letter_tried (layer body) env
letter_carried _ env = None

-- what the new agent goes with, under the environment of the atom that makes it
abbrev pub letter_given : Layer → Env → Option Letter
letter_given (ProcForm-F.Agent binder body rest) env = letter_carried (layer body) env
letter_given _ env = None

-- the letter with which the atom of a mark makes a messenger
abbrev pub letter_hired : Config → Name → Option Letter
letter_hired c mark = map.get c.atoms mark >>= λ a. letter_given (layer a.proc) a.env

-- ---- deeds

-- The deed of an event between two configurations, to the mark for which its own stands: a post is sent to the daemon, or a messenger
-- is made for it; it is handed over where a letter is opened, or where the messenger finds the agent, and then the output has a mark of
-- its own.
abbrev pub deed_from : Standing → Kind → Role → Made → Config → Config → Event → Option (Name × Deed)
deed_from s kind.Send role.Post names c d e = Some (stands_for s e.actor, Deed.posts (letter_at c e.actor))
deed_from s kind.Agent role.Post (made.Two messenger mark) c d e = Some (stands_for s e.actor, Deed.posts (letter_hired c e.actor))
deed_from s kind.Open r names c d e = Some (stands_for s e.actor, Deed.opens (map.get d.atoms e.actor))
deed_from s kind.Local role.Infra (made.One mark) c d e = Some (stands_for s e.actor, Deed.opens (map.get d.atoms mark))
deed_from s _ _ _ c d e = None

-- the deeds of a run, in order, as far as it goes, where marks stand for others so before it
abbrev pub and_from : Standing → Config → Event → Option Config → (Config → List (Name × Deed)) → List (Name × Deed)
and_from s c e None rest = []
and_from s c e (Some d) rest = prepended (deed_from s e.kind e.tag.role e.made c d e) (rest d)

abbrev pub deeds_from : Standing → Config → List Event → List (Name × Deed)
deeds_from s c [] = []
deeds_from s c (e ∷ es) = and_from s c e (apply c e) (λ d. deeds_from (lifted s e).standing d es)

-- ---- posts

-- the posts of a run are paired, and they are all handed over
abbrev pub IsPairedCached : Config → List Event → Type 0
IsPairedCached start events = (mark : Name) → Alternate (deeds_to mark (deeds_from at_first start events))

abbrev pub IsAllHandedCached : Config → List Event → Type 0
IsAllHandedCached start events = (mark : Name) → AllHanded (deeds_to mark (deeds_from at_first start events))
