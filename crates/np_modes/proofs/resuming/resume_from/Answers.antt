use Rattle.std.proofs.Common.{◌≢◌, ℕ, inl, inr, List, sym, subst, Result, Ok, Err, IfErr}
use Rattle.np_syntax.proofs.Options.{there-is}
use Rattle.np_syntax.specs.declared.event.Event.{Event}
use Rattle.np_syntax.specs.declared.program.LowProgram.{LowProgram}
use Rattle.np_calculus.specs.Reductions.{run}
use Rattle.np_calculus.specs.Starts.{start_low}
use Rattle.np_verdict.specs.declared.refusal.Refusal.{Refusal}
use Rattle.np_verdict.specs.declared.refusal.Refusal.TheVariants.{Memory}
use Rattle.np_histories.specs.Histories.{IsRead}
use Rattle.np_modes.specs.Causes.{IsUnfit, StopsFrom}
use Rattle.np_modes.proofs.resuming.resume_from.Goals as goal

-- events that are no run, or a run from which the sites do not go on
unfit_for : (budget : ℕ) (low : LowProgram) (bytes : List ℕ) (events : List Event) → IsRead bytes events → (refusal : Refusal) → StopsFrom budget low events refusal
    → IsUnfit budget low bytes refusal
unfit_for budget low bytes events read refusal (inl stops) = inl (inr (inl (record { events = events; read = read; stops = stops })))
unfit_for budget low bytes events read refusal (inr cannot) =
    let last = there-is (run (start_low low) events) cannot.0 in
    inr (record { events = events; history = read; last = last.0; reaches = last.1; cannot = cannot.1 })

unfit : {X : Type 0} (budget : ℕ) (low : LowProgram) (bytes : List ℕ) (events : List Event) → IsRead bytes events → (r : Result X Refusal)
    → IfErr r (λ refusal. refusal ≢ Memory → StopsFrom budget low events refusal) → IfErr r (λ refusal. refusal ≢ Memory → IsUnfit budget low bytes refusal)
unfit budget low bytes events read (Ok x) h = tt
unfit budget low bytes events read (Err e) h = λ some. unfit_for budget low bytes events read e (h some)

pub returns-clause-refused : goal.returns-clause-refused
returns-clause-refused g c =
    unfit _ c.args.source.now.low _ c.as_slice.result.now (subst (IsRead c.args.saved.now) (sym c.as_slice.ensures) c.in_ok-events.ensures.found)
    c.job_from.result c.job_from.ensures.refused
