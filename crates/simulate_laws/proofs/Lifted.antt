-- The lifted events of a run of a compiled program are a run, and leave the configuration that shows it.
use Rattle.std.proofs.Common.{◌≡◌, List, Some, length, sym, ap, subst, ◌∙◌}
use Rattle.np_syntax.specs.declared.event.Event.{Event}
use Rattle.np_syntax.specs.declared.program.Program.{Program}
use Rattle.np_syntax.proofs.Options.{done}
use Rattle.np_calculus.specs.Config.{Config}
use Rattle.np_calculus.specs.Idle.{Idle}
use Rattle.np_calculus.specs.Reductions.{run}
use Rattle.np_calculus.specs.Starts.{start_high, start_low}
use Rattle.np_calculus.specs.Well.{Has}
use Rattle.np_check.specs.Faults.{IsAccepted}
use Rattle.daemon_encode.specs.Encoded.{encoded}
use Rattle.infrastructure_texts.specs.Infrastructures.{Infrastructure}
use Rattle.daemon_encode.proofs.LowAgents.{encodes-runs-well}
use Rattle.daemon_encode.proofs.Related.{encodes-itself}
use Rattle.np_lift.specs.Lift.{lift}
use Rattle.simulate_laws.proofs.simulation.Posts.{posts-are-paired, rests-all-handed}
use Rattle.simulate_laws.proofs.simulation.Placed.{letters-have-one-place}
use Rattle.simulate_laws.proofs.simulation.Highs.{rests-together}
use Rattle.simulate_laws.proofs.simulation.Central.{central-runs-are-lifted}
use Rattle.simulate_laws.proofs.simulation.Runs.{stays-well}
use Rattle.simulate_laws.specs.Lifted.{EndsAtRest, ShowsHigh, ShowsRest}
use Rattle.simulate_laws.specs.simulation.FreeLocks.{HasFreeLocks}

module _ (p : Program) (accepted : IsAccepted p) (events : List Event) where
  -- the lifted events are a run
  pub are-run : Has (run (start_low (encoded p)) events) → Has (run (start_high p) (lift events))
  are-run h = let l = central-runs-are-lifted p (encoded p) (encodes-itself p) accepted events h.0 h.1 in (l.high, l.runs)

  pub shows-high : Has (run (start_low (encoded p)) events) → (high : Config) → run (start_high p) (lift events) ≡ Some high → ShowsHigh p events high
  shows-high h high leads = record {
    runs = leads;
    said = λ low is. (let l = central-runs-are-lifted p (encoded p) (encodes-itself p) accepted events low is in l.said ∙ ap (λ (d : Config). d.said) (done (sym leads ∙ l.runs)));
    well = stays-well p accepted (lift events) high leads;
    paired = posts-are-paired p (encoded p) (encodes-itself p) accepted events h.0 h.1;
    placed = letters-have-one-place p (encoded p) (encodes-itself p) accepted events;
  }

  pub shows-rest : EndsAtRest p events → (high : Config) → ShowsHigh p events high → ShowsRest p events high
  shows-rest ends high shows =
      let l = central-runs-are-lifted p (encoded p) (encodes-itself p) accepted events ends.last ends.runs in
      let lodged = (encodes-runs-well p accepted).lodged events ends.last ends.runs in
      let same : high ≡ l.high = done (sym l.runs ∙ shows.runs) in
      let rest = rests-together Infrastructure.central (length p.sites) p.binders (encodes-itself p).first ends.last l.high l.view l.coupled lodged ends.rests in
      record {
        shows = shows;
        rests = subst Idle (sym same) rest.0;
        handed = rests-all-handed p (encoded p) (encodes-itself p) accepted events ends.last ends.runs ends.rests;
        locks = λ low is.
            let last : ends.last ≡ low = done (sym is ∙ ends.runs) in
            let free : HasFreeLocks low l.high = subst (λ d. HasFreeLocks d l.high) last rest.3 in
            subst (HasFreeLocks low) (sym same) free;
      }
