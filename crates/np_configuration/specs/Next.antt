-- What a configuration in code does next (docs/LANGUAGE.md, "Reductions").
use Rattle.std.specs.Prelude.{◌≡◌, Some, IsSome}
use Rattle.std.specs.FinMap as map
use Rattle.np_tables.specs.Errands.{IsReady}
use Rattle.np_tables.specs.Mapped.{mapped}
use Rattle.np_calculus.specs.declared.config.Place.TheVariants as place
use Rattle.np_calculus.specs.Config.{Config}
use Rattle.np_configuration.specs.Placed.{NoneTravels}
use Rattle.np_configuration.specs.declared.step.Step.{Step}
use Rattle.np_configuration.specs.declared.step.Step.TheVariants as step
use Rattle.np_configuration.specs.Errands.{errand_of}

-- A step that a configuration can take: an agent arrives, a packet lands, or atoms go on where no agent is under way.
abbrev pub IsNext : Config → Step → Type 0
IsNext c (step.Arrives agent site) = map.get c.places agent ≡ Some (place.Way site)
IsNext c (step.Lands mark) = IsSome (map.get c.packets mark)
IsNext c (step.Goes ready) = IsReady (mapped errand_of c.atoms) ready × NoneTravels c.places
