-- The types of channels along a run (docs/LANGUAGE.md, "Reductions"): a channel has the type that is written at the `new`
-- whose event made it.
use Rattle.std.specs.Prelude.{ℕ, Option, None, Some, List, [], ◌∷◌, nat_lt}
use Rattle.std.specs.FinMap as map
use Rattle.np_syntax.specs.declared.value.Name.{Name}
use Rattle.np_syntax.specs.declared.types.Cap.{Cap}
use Rattle.np_syntax.specs.declared.types.Ty.{Ty, out-Ty}
use Rattle.np_syntax.specs.declared.event.Event.{Event}
use Rattle.np_syntax.specs.declared.event.Kind.{Kind}
use Rattle.np_syntax.specs.declared.event.Kind.TheVariants as kind
use Rattle.np_syntax.specs.Options.{◌>>=◌}
use Rattle.np_tables.specs.Names.{NameMap}
use Rattle.np_syntax.specs.Parts.{as_channel}
use Rattle.np_types.specs.Worlds.{World}
use Rattle.np_calculus.specs.Config.{Config}
use Rattle.np_eval.specs.Forms.{layer}
use Rattle.np_eval.specs.FormParts.{as_new}
use Rattle.np_calculus.specs.Reductions.{one_made, apply}
use Rattle.np_calculus.specs.Seen.{acting}

-- the capability of each channel, and what it carries
abbrev pub Channels : Type 0
Channels = NameMap (Cap × Ty)

-- the channel that an event makes, with its type
abbrev pub makes_at : Kind → Config → Event → Option (Name × (Cap × Ty))
makes_at kind.New c e = do
  a ← acting c e
  parts ← as_new (layer a.proc)
  n ← one_made e.made
  k ← as_channel (out-Ty parts.1)
  Some (n, k)
makes_at _ c e = None

abbrev pub noted : Channels → Option (Name × (Cap × Ty)) → Channels
noted g None = g
noted g (Some made) = map.insert g made.0 made.1

-- the channels after an event, where it is enabled
abbrev pub after : Option Config → (Config → Channels) → Channels → Channels
after None next g = g
after (Some d) next g = next d

-- the channels after events, from a configuration and those that it has
abbrev pub channels_after : List Event → Channels → Config → Channels
channels_after [] g c = g
channels_after (e ∷ es) g c = after (apply c e) (channels_after es (noted g (makes_at e.kind c e))) g

-- the world of n sites and of these channels
abbrev pub world : ℕ → Channels → World
world n g = record { site = λ s. nat_lt s n; chan = λ c. map.get g c }
