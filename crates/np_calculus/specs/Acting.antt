-- Where a site can act, one of its events is enabled (docs/LANGUAGE.md, "Reductions").
use Rattle.std.specs.Prelude.{◌≡◌, ◌↔◌, ℕ}
use Rattle.np_syntax.specs.declared.event.Event.{Event}
use Rattle.np_calculus.specs.Config.{Config}
use Rattle.np_calculus.specs.Idle.{Can}
use Rattle.np_calculus.specs.Reductions.{apply}
use Rattle.np_calculus.specs.Well.{Has, Well}

-- in a configuration that is well, a site can act exactly where some event of that site is enabled
abbrev pub ActsWhereEnabled : Type 0
ActsWhereEnabled = (c : Config) → Well c → (site : ℕ) → Can c site ↔ ((e : Event) × (e.site ≡ site) × Has (apply c e))
