-- What each event makes of the letters under way, whichever the infrastructure (docs/TRANSLATION.md, "Translation and daemon").
use Rattle.std.specs.Prelude.{◌⊎◌}
use Rattle.np_syntax.specs.declared.process.Role.{Role}
use Rattle.np_syntax.specs.declared.process.Role.TheVariants as role
use Rattle.np_syntax.specs.declared.event.Event.{Event}
use Rattle.np_syntax.specs.declared.event.Kind.{Kind}
use Rattle.np_syntax.specs.declared.event.Kind.TheVariants as kind
use Rattle.np_calculus.specs.Config.{Config}
use Rattle.simulate_laws.specs.levels.Coupled.{View}
use Rattle.simulate_laws.specs.levels.Letters.{IsFinding, IsHiringFor, IsMissing, LettersAfter}

-- A messenger is made for a post, or tests for the agent, and else it is what both infrastructures do. Here `next` is where the event
-- leads at the low level, and `then` where it leads at the high one.
abbrev pub LettersLeft : Kind → Role → Config → Config → Config → Event → View → View → Type 0
LettersLeft kind.Agent role.Post low next then e v w = IsHiringFor low then e v w
LettersLeft kind.Local role.Infra low next then e v w = IsFinding next e v w ⊎ IsMissing e v w
LettersLeft k r low next then e v w = LettersAfter k r low next e v w
