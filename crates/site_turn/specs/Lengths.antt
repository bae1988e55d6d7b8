-- How long a turn may be (docs/HISTORIES.md, "History text").
use Rattle.std.specs.Prelude.{ℕ}
use Rattle.site_turn.specs.declared.effort.Length.{Length}
use Rattle.site_turn.specs.declared.effort.Length.TheVariants as lengths
use Rattle.site_turn.specs.declared.effort.TheConstants.{LONG, SHORT}

-- how many events a turn of this length has at most
abbrev pub most_events : Length → ℕ
most_events lengths.Short = SHORT
most_events lengths.Long = LONG
