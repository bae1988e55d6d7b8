-- What an event of an acting atom changes by the row of its kind, and what of that stays in its agent (docs/LANGUAGE.md, "Reductions").
use Rattle.std.specs.Prelude.{Bool, cond, List, [], ◌∷◌, Option, None, Some}
use Rattle.np_syntax.specs.declared.value.Name.{Name}
use Rattle.np_syntax.specs.declared.event.Event.{Event}
use Rattle.np_syntax.specs.declared.event.Kind.{Kind}
use Rattle.np_syntax.specs.declared.event.Kind.TheVariants as kind
use Rattle.np_syntax.specs.declared.event.Made.{Made}
use Rattle.np_syntax.specs.declared.event.Made.TheVariants as made
use Rattle.np_syntax.specs.Options.{◌>>=◌}
use Rattle.np_tables.specs.Names.{NameMap}
use Rattle.np_eval.specs.Eval.{agent_of}
use Rattle.np_eval.specs.Forms.{layer}
use Rattle.np_eval.specs.FormParts.{as_iflocal}
use Rattle.np_calculus.specs.declared.config.Atom.{Atom}
use Rattle.np_calculus.specs.declared.config.Packet.{Packet}
use Rattle.np_calculus.specs.Changes.{Change, Write, written}
use Rattle.np_calculus.specs.Reductions.{act, acting_in, output_in}
use Rattle.np_calculus.specs.Sight.{Sight}

-- what an event of an acting atom changes by the row of a kind, or none where the row is not met
abbrev pub change_in : Kind → Sight → Event → Option Change
change_in k w e = acting_in w e >>= λ a. act k (layer a.proc) w e a

-- what an event of an agent leaves: all that it changes but the agent's atoms, and these
abbrev pub leaves : NameMap Atom → Change → Option (Change × NameMap Atom)
leaves atoms d = Some (record d { atoms = [] }, written atoms d.atoms)

-- what an event leaves, where the first atom that it writes is of another agent: all that it changes but the agent's own
-- atoms, and these
abbrev pub outside : NameMap Atom → Change → List (Write Atom) → Option (Change × NameMap Atom)
outside atoms d [] = None
outside atoms d (w ∷ ws) = Some (record d { atoms = w ∷ [] }, written atoms ws)

abbrev pub leaves_outside : NameMap Atom → Change → Option (Change × NameMap Atom)
leaves_outside atoms d = outside atoms d d.atoms

-- the names that an event of a kind makes, where these are the next ones; a location test makes one where its agent is here
abbrev pub made_of : Kind → Bool → Name → Name → Made
made_of kind.Fork here first second = made.One first
made_of kind.New here first second = made.One first
made_of kind.Agent here first second = made.Two first second
made_of kind.Local here first second = cond here (made.One first) made.Nothing
made_of _ here first second = made.Nothing

-- the agent for which an atom asks
abbrev pub asked_of : Atom → Option Name
asked_of a = as_iflocal (layer a.proc) >>= λ (b, c, v, met, unmet). agent_of b a.env

-- the output that a packet stands for, in its agent
abbrev pub output_of : Packet → Atom
output_of packet = output_in packet.agent packet.chan packet.value packet.tag
