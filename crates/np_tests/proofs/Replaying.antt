-- What is kept of a run on sites is a run of the low program.
use Rattle.std.proofs.Common.{◌≡◌, ℕ, List, subst, sym, ap, ◌∙◌}
use Rattle.np_syntax.specs.declared.event.End.{End}
use Rattle.np_syntax.specs.declared.event.End.TheVariants.{Rest}
use Rattle.np_syntax.specs.declared.event.Event.{Event}
use Rattle.np_syntax.specs.declared.program.LowProgram.{LowProgram}
use Rattle.np_syntax.specs.declared.program.Program.{Program}
use Rattle.np_calculus.specs.Reductions.{run}
use Rattle.np_calculus.specs.Starts.{start_low}
use Rattle.np_calculus.specs.Well.{Has}
use Rattle.daemon_encode.specs.Encoded.{encoded}
use Rattle.stamp_history.specs.Histories.{Stored}
use Rattle.run_merge.specs.Merged.{items, merged, past}
use Rattle.simulate_laws.specs.Lifted.{EndsAtRest}
use Rattle.np_on_sites.specs.SitesRuns.{IsSitesRun}

module _ (low : LowProgram) (budget : ℕ) (kept : List Stored) (end : End) (r : IsSitesRun low budget (past kept) end) where
  pub merged_runs : (histories : List Stored) → histories ≡ kept → Has (run (start_low low) (items (merged (past histories))))
  merged_runs histories same = subst (λ (hs : List Stored). Has (run (start_low low) (items (merged (past hs))))) (sym same) (r.last, r.reaches)

  module _ (histories : List Stored) (events : List Event) (same : histories ≡ kept) (are : events ≡ items (merged (past histories))) where
    all : events ≡ items (merged (past kept))
    all = are ∙ ap (λ (hs : List Stored). items (merged (past hs))) same

    pub events_run : (q : LowProgram) → low ≡ q → Has (run (start_low q) events)
    events_run q is =
        subst (λ (p : LowProgram). Has (run (start_low p) events)) is (subst (λ (es : List Event). Has (run (start_low low) es)) (sym all) (r.last, r.reaches))

    pub events_rest : (p : Program) → low ≡ encoded p → end ≡ Rest → EndsAtRest p events
    events_rest p is rest = record {
      last = r.last;
      runs = ap (λ (q : LowProgram). run (start_low q) events) (sym is) ∙ ap (run (start_low low)) all ∙ r.reaches;
      rests = r.rests.0 rest;
    }
