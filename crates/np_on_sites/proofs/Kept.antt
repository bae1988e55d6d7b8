-- What is kept of a crew whose run has ended is a run of the low program on its sites.
use Rattle.std.proofs.Common.{◌≡◌, ℕ, ap, subst₂, ◌∙◌}
use Rattle.np_syntax.specs.declared.event.End.{End}
use Rattle.np_syntax.specs.declared.program.LowProgram.{LowProgram}
use Rattle.np_code.specs.Programs.{ProgramTable, program}
use Rattle.site_crew.specs.Crews.{CrewState, HasEnded}
use Rattle.np_on_sites.specs.SitesRuns.{IsSitesRun}

pub ended_run : (low : LowProgram) (budget : ℕ) (code : ProgramTable) (c : CrewState) (e : End) → program code ≡ low → c.code ≡ code → c.budget ≡ budget → HasEnded c e
    → IsSitesRun low budget c.histories e
ended_run low budget code c e is same most ended =
    subst₂ (λ (q : LowProgram) (b : ℕ). IsSitesRun q b c.histories e) (ap program same ∙ is) most
    (record {
      sites = ended.run.sites;
      last = ended.last;
      reaches = ended.run.reaches;
      said = ended.run.said;
      ours = ended.run.ours;
      stamped = ended.run.stamped;
      rests = ended.rests;
      spent = ended.spent;
      still = ended.still;
    })
