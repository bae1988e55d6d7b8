-- The lifted events of a run of a compiled program with caches are a run, and leave the configuration that shows it.
use Rattle.std.proofs.Common.{◌≡◌, List, Some, length, refl, sym, subst, ◌∙◌}
use Rattle.np_syntax.specs.declared.event.Event.{Event}
use Rattle.np_syntax.specs.declared.program.Program.{Program}
use Rattle.np_syntax.proofs.Options.{done}
use Rattle.np_calculus.specs.Config.{Config}
use Rattle.np_calculus.specs.Idle.{Idle}
use Rattle.np_calculus.specs.Reductions.{run}
use Rattle.np_calculus.specs.Starts.{start_high, start_low}
use Rattle.np_calculus.specs.Well.{Has}
use Rattle.np_check.specs.Faults.{IsAccepted}
use Rattle.infrastructure_texts.specs.Infrastructures.{Infrastructure}
use Rattle.daemon_encode.specs.Translates.{IsLowOf}
use Rattle.cache_encode.specs.Encoded.{encoded_cached}
use Rattle.cache_encode.proofs.CachedRelated.{cached-encodes-itself}
use Rattle.np_lift.specs.CachedLift.{lift_cached}
use Rattle.simulate_laws.proofs.simulation.Posts.{cached-letters-in-place, cached-posts-are-paired, cached-rests-all-handed}
use Rattle.simulate_laws.specs.simulation.FreeLocks.{HasFreeLocks}
use Rattle.simulate_laws.proofs.simulation.Placed.{cached-letters-have-one-place}
use Rattle.simulate_laws.specs.simulation.RestLaws.{HasCacheRest}
use Rattle.simulate_laws.proofs.simulation.Highs.{rests-together}
use Rattle.simulate_laws.proofs.simulation.Lodged.{runs-are-lodged}
use Rattle.simulate_laws.proofs.simulation.Runs.{runs-are-lifted, stays-well}
use Rattle.simulate_laws.specs.Cached.{ShowsCached}

module _ (p : Program) (accepted : IsAccepted p) (events : List Event) where
  of : IsLowOf Infrastructure.cached p (encoded_cached p)
  of = cached-encodes-itself p

  -- the lifted events are a run
  pub are-cached-run : Has (run (start_low (encoded_cached p)) events) → Has (run (start_high p) (lift_cached events))
  are-cached-run h = let l = runs-are-lifted p (encoded_cached p) of accepted events h.0 h.1 in (l.high, l.runs)

  pub shows-cached : Has (run (start_low (encoded_cached p)) events) → (high : Config) → run (start_high p) (lift_cached events) ≡ Some high → ShowsCached p events high
  shows-cached h high leads =
      let place = cached-letters-in-place p (encoded_cached p) of accepted events h.0 h.1 in
      let l = place.0 in
      let same : l.high ≡ high = done (sym leads ∙ l.runs) in
      record {
        low = h.0;
        reaches = h.1;
        first = of.first;
        lifted = l;
        leads = same;
        well = stays-well p accepted (lift_cached events) high leads;
        paired = cached-posts-are-paired p (encoded_cached p) of accepted events h.0 h.1;
        place = place.1;
        placed = cached-letters-have-one-place p (encoded_cached p) of accepted events;
        rests = λ idle.
            let lodged = runs-are-lodged p (encoded_cached p) of accepted events h.0 h.1 in
            let r = rests-together Infrastructure.cached (length p.sites) p.binders of.first h.0 l.high l.view l.coupled lodged idle in
            record {
              idle = subst Idle same r.0;
              handed = cached-rests-all-handed p (encoded_cached p) of accepted events h.0 h.1 idle;
              infrastructure = r.1;
              locks = subst (λ d. HasFreeLocks h.0 d) same r.3;
              caches = subst (λ d. HasCacheRest h.0 d l.view) same (r.2 refl);
            };
      }
