-- A run of a low program is a run of the source, by what the laws say of the run.
use Rattle.std.proofs.Common.{◌≡◌, ℕ, List, length, sym, subst, ◌∙◌}
use Rattle.np_syntax.specs.declared.event.End.{End}
use Rattle.np_syntax.specs.declared.event.End.TheVariants.{Rest}
use Rattle.np_syntax.specs.declared.event.Event.{Event}
use Rattle.np_syntax.specs.declared.program.LowProgram.{LowProgram}
use Rattle.np_syntax.specs.declared.program.Program.{Program}
use Rattle.np_syntax.specs.declared.value.Value.{Value}
use Rattle.np_syntax.proofs.Options.{done}
use Rattle.np_calculus.specs.Idle.{Idle}
use Rattle.np_calculus.specs.Runs.{RunsWell}
use Rattle.np_calculus.specs.Starts.{start_high, start_low}
use Rattle.np_check.specs.Faults.{IsAccepted}
use Rattle.cache_encode.specs.Encoded.{encoded_cached}
use Rattle.cache_encode.specs.Related.{CachedEncodesItself}
use Rattle.cache_encode.specs.Typed.{CachedRunsWell}
use Rattle.daemon_encode.specs.Encoded.{encoded}
use Rattle.infrastructure_texts.specs.Infrastructures.{Infrastructure as Encoding}
use Rattle.daemon_encode.specs.Translates as translates
use Rattle.daemon_encode.specs.Typed.{EncodesRunsWell}
use Rattle.np_lift.specs.CachedLift.{Standing}
use Rattle.simulate_laws.specs.simulation.FreeLocks.{HasFreeLocks}
use Rattle.simulate_laws.specs.simulation.PostLaws.{CachedLettersHaveOnePlace, CachedPostsArePaired, CachedRestsAllHanded, LettersHaveOnePlace, PostsArePaired, RestsAllHanded}
use Rattle.simulate_laws.specs.simulation.RestLaws.{RestsTogether}
use Rattle.simulate_laws.specs.simulation.Laws.{CentralRunsAreLifted, LeadsAbove, RunsAreLifted}
use Rattle.np_words.specs.declared.modes.Infrastructure.{Infrastructure}
use Rattle.np_words.specs.declared.modes.Infrastructure.TheVariants.{Cache, Central}
use Rattle.np_on_sites.specs.ByInfrastructure.{ArePlacedBy, IsAllHandedBy, IsPairedBy, lift_by}
use Rattle.run_merge.specs.Merged.{said}
use Rattle.np_on_sites.specs.SitesRuns.{events_of}
use Rattle.np_on_sites.specs.SourceRuns.{IsLowRun, IsRunOfSource, RunsAreSourceRuns, SitesRunsAreSourceRuns}

-- by one infrastructure, which the translation knows as `i`
module _ (infrastructure : Infrastructure) (i : Encoding) (p : Program) (q : LowProgram) (events : List Event) (printed : List (ℕ × Value)) (end : End) where
  source_run : RestsTogether → RunsWell (start_low q) q.at → (ran : IsLowRun q events printed end) → (first : ℕ) (standing : Standing)
      → LeadsAbove i (length p.sites) p.binders first (start_high p) (lift_by infrastructure events) standing ran.last
      → IsPairedBy infrastructure (start_low q) events → ArePlacedBy infrastructure (start_low q) events
      → (Idle ran.last → IsAllHandedBy infrastructure (start_low q) events)
      → IsRunOfSource infrastructure p q events printed end
  source_run rest runs ran first standing high paired placed handed =
      let lodged = runs.lodged events ran.last ran.reaches in
      let both = λ (is : end ≡ Rest). rest i (length p.sites) p.binders first ran.last high.high high.view high.coupled lodged (ran.rests is) in
      record {
        well = runs.well events ran.last ran.reaches;
        high = high.high;
        lifted = high.runs;
        said = sym high.said ∙ ran.said;
        paired = paired;
        placed = placed;
        rests = λ is. (both is).0;
        handed = λ is. handed (ran.rests is);
        locks = λ is last reaches.
            let same : ran.last ≡ last = done (sym reaches ∙ ran.reaches) in
            subst (λ d. HasFreeLocks d high.high) same (both is).3;
      }

module _ (rest : RestsTogether) (p : Program) (accepted : IsAccepted p) (events : List Event) (printed : List (ℕ × Value)) (end : End) where
  pub central_run : translates.EncodesItself → EncodesRunsWell → CentralRunsAreLifted → PostsArePaired → LettersHaveOnePlace → RestsAllHanded
      → IsLowRun (encoded p) events printed end → IsRunOfSource Central p (encoded p) events printed end
  central_run itself well lifted paired placed handed ran =
      let of = itself p in
      source_run Central Encoding.central p (encoded p) events printed end rest (well p accepted) ran of.first _
      (lifted p (encoded p) of accepted events ran.last ran.reaches)
      (paired p (encoded p) of accepted events ran.last ran.reaches)
      (placed p (encoded p) of accepted events)
      (handed p (encoded p) of accepted events ran.last ran.reaches)

  pub cached_run : CachedEncodesItself → CachedRunsWell → ((i : Encoding) → RunsAreLifted i) → CachedPostsArePaired → CachedLettersHaveOnePlace → CachedRestsAllHanded
      → IsLowRun (encoded_cached p) events printed end → IsRunOfSource Cache p (encoded_cached p) events printed end
  cached_run itself well lifted paired placed handed ran =
      let of = itself p in
      source_run Cache Encoding.cached p (encoded_cached p) events printed end rest (well p accepted) ran of.first _
      (lifted Encoding.cached p (encoded_cached p) of accepted events ran.last ran.reaches)
      (paired p (encoded_cached p) of accepted events ran.last ran.reaches)
      (placed p (encoded_cached p) of accepted events)
      (handed p (encoded_cached p) of accepted events ran.last ran.reaches)

-- what holds of the low programs of both infrastructures holds of each run
pub by_infrastructure : ((p : Program) (events : List Event) (printed : List (ℕ × Value)) (end : End) → IsAccepted p → IsLowRun (encoded p) events printed end
    → IsRunOfSource Central p (encoded p) events printed end)
    → ((p : Program) (events : List Event) (printed : List (ℕ × Value)) (end : End) → IsAccepted p → IsLowRun (encoded_cached p) events printed end
    → IsRunOfSource Cache p (encoded_cached p) events printed end)
    → RunsAreSourceRuns
by_infrastructure central cached Central p q events printed end accepted is ran =
    subst (λ (low : LowProgram). IsRunOfSource Central p low events printed end) (sym is)
    (central p events printed end accepted (subst (λ (low : LowProgram). IsLowRun low events printed end) is ran))
by_infrastructure central cached Cache p q events printed end accepted is ran =
    subst (λ (low : LowProgram). IsRunOfSource Cache p low events printed end) (sym is)
    (cached p events printed end accepted (subst (λ (low : LowProgram). IsLowRun low events printed end) is ran))

-- a run on sites is a run of the low program
pub on_sites : RunsAreSourceRuns → SitesRunsAreSourceRuns
on_sites runs infrastructure p low budget histories end accepted is ran =
    runs infrastructure p low (events_of histories) (said histories) end accepted is
    (record { last = ran.last; reaches = ran.reaches; said = ran.said; rests = ran.rests.0 })
