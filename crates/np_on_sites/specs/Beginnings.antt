-- How the sites of a low program begin, and what is known of what comes of it (docs/HISTORIES.md, "Stop and resume").
use Rattle.std.specs.Prelude.{ℕ, List}
use Rattle.np_syntax.specs.declared.event.Event.{Event}
use Rattle.np_syntax.specs.declared.program.LowProgram.{LowProgram}
use Rattle.stamp_history.specs.Histories.{Recorded}
use Rattle.run_save.specs.following.Following.{IsResumed}
use Rattle.site_crew.specs.Lists.{IsToFollow}
use Rattle.crew_resumes.specs.ToGoOn.{IsToGoOn}
use Rattle.np_on_sites.specs.declared.beginning.Beginning.{Beginning}
use Rattle.np_on_sites.specs.declared.beginning.Beginning.TheVariants.{Anew, Again}

-- what is known of the events, and of the histories that begin with them
abbrev pub HasBegun : Beginning → LowProgram → ℕ → List Event → List Recorded → Type 0
HasBegun Anew low budget events histories = Unit {0}
HasBegun Again low budget events histories = IsResumed events histories × IsToGoOn low budget events

-- where the sites do not go on from the events: they never stop so where they begin anew, nor where the events are to be followed
abbrev pub IsStopped : Beginning → LowProgram → ℕ → List Event → Type 0
IsStopped Anew low budget events = ⊥
IsStopped Again low budget events = IsToFollow low budget events → ⊥
