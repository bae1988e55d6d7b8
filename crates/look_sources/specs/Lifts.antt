-- Which events of the sites those of the source are read off from (docs/PICTURES.md, "Pictures").
use Rattle.std.specs.Prelude.{◌≡◌, ℕ, List}
use Rattle.np_syntax.specs.declared.event.Event.{Event}
use Rattle.run_twins.specs.Twins.{cached_twins, twins}
use Rattle.np_words.specs.declared.modes.Infrastructure.{Infrastructure}
use Rattle.np_words.specs.declared.modes.Infrastructure.TheVariants as infrastructures

-- numbers of the events of the sites from which those of the source are read off
abbrev pub AreTwins : Infrastructure → List Event → List ℕ → Type 0
AreTwins infrastructures.Central events numbers = numbers ≡ twins events
AreTwins infrastructures.Cache events numbers = numbers ≡ cached_twins events
