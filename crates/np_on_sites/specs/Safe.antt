-- What the low program of an accepted source never comes to (docs/LANGUAGE.md, "Types" and "Reductions").
use Rattle.std.specs.Prelude.{◌≡◌}
use Rattle.np_syntax.specs.declared.program.LowProgram.{LowProgram}
use Rattle.np_syntax.specs.declared.program.Program.{Program}
use Rattle.np_check.specs.Faults.{IsAccepted}
use Rattle.np_words.specs.declared.modes.Infrastructure.{Infrastructure}
use Rattle.site_crew.specs.Runs.{RunsSafely}
use Rattle.np_on_sites.specs.ByInfrastructure.{low_by}

-- by each infrastructure no run meets a value of a wrong type, or makes a post as the high level does
abbrev pub LowRunsSafely : Type 0
LowRunsSafely = (infrastructure : Infrastructure) (p : Program) (low : LowProgram) → IsAccepted p → low ≡ low_by infrastructure p
    → RunsSafely low
