-- The messages of a run (docs/PICTURES.md, "Pictures").
use Rattle.std.specs.Prelude.{ℕ, Option, None, Some, option_map}
use Rattle.std.specs.FinMap as table
use Rattle.np_syntax.specs.Options.{◌>>=◌}
use Rattle.np_syntax.specs.declared.value.Name.{Name}
use Rattle.np_syntax.specs.declared.value.Value.{Value}
use Rattle.np_syntax.specs.declared.event.Event.{Event}
use Rattle.np_syntax.specs.declared.event.Kind.{Kind}
use Rattle.np_syntax.specs.declared.event.Kind.TheVariants as kind
use Rattle.np_syntax.specs.declared.process.Role.{Role}
use Rattle.np_syntax.specs.declared.process.Role.TheVariants as role
use Rattle.np_eval.specs.Eval.{chan_of, eval}
use Rattle.np_eval.specs.Forms.{as_out, layer}
use Rattle.np_calculus.specs.declared.config.Atom.{Atom}
use Rattle.np_calculus.specs.declared.config.Packet.{Packet}
use Rattle.np_calculus.specs.Config.{Config}
use Rattle.np_calculus.specs.Reductions.{one_made}
use Rattle.run_pictures.specs.declared.step.Message.{Message}

-- the channel and the value of an atom that is an output
abbrev pub output_of : Atom → Option Message
output_of a = do (chan, sent) ← as_out (layer a.proc); n ← chan_of chan a.env; v ← eval sent a.env; Some (record { chan = n; value = v })

abbrev pub output_at : Config → Name → Option Message
output_at c mark = table.get c.atoms mark >>= output_of

-- the channel and the value of a packet
abbrev pub parcel_of : Packet → Message
parcel_of p = record { chan = p.chan; value = p.value }

abbrev pub parcel_at : Config → Name → Option Message
parcel_at c mark = option_map parcel_of (table.get c.packets mark)

-- the output that an event takes; what the infrastructure takes is no message
abbrev pub taken_at : Config → Role → Option Name → Option Message
taken_at c role.Infra other = None
taken_at c r other = other >>= output_at c

-- what comes or is taken by an event of a kind, as it stands before the event
abbrev pub coming : Kind → Config → Event → Option Message
coming kind.Land c e = parcel_at c e.actor
coming k c e = taken_at c e.tag.role e.other

-- what is sent by an event of a kind, as it stands after the event: a location test that finds its agent makes an output in it
abbrev pub going : Kind → Config → Event → Option Message
going kind.Send d e = parcel_at d e.actor
going kind.Post d e = output_at d e.actor
going kind.Local d e = one_made e.made >>= output_at d
going k d e = None

abbrev pub either : Option Message → Option Message → Option Message
either None second = second
either (Some message) second = Some message
