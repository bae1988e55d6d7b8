use Rattle.std.proofs.Common.{◌≡◌, ◌≢◌, ℕ, List, length, Some, Result, Ok, Err, IfOk, IfErr}
use Rattle.np_syntax.specs.declared.event.Event.{Event}
use Rattle.np_syntax.specs.declared.program.LowProgram.{LowProgram}
use Rattle.np_calculus.specs.Config.{Config}
use Rattle.np_calculus.specs.Reductions.{run}
use Rattle.np_calculus.specs.Starts.{start_low}
use Rattle.np_verdict.specs.Report.{replay_text}
use Rattle.np_verdict.specs.declared.refusal.Refusal.{Refusal}
use Rattle.np_verdict.specs.declared.refusal.Refusal.TheVariants.{Memory}
use Rattle.np_histories.specs.Histories.{Ends, Stops}
use Rattle.np_histories.proofs.replaying.replayed_events.Goals as goal

-- the report of the end of a run
ends : (low : LowProgram) (events : List Event) (last : Config) → run (start_low low) events ≡ Some last → (r : Result (List ℕ) Refusal)
    → IfOk r (λ text. text ≡ replay_text low.sites last.said (length events)) → IfOk r (Ends low events)
ends low events last reaches (Ok text) report = record { last = last; reaches = reaches; report = report }
ends low events last reaches (Err e) report = tt

-- want of memory is no refusal of the events
no_refusal : (low : LowProgram) (events : List Event) (r : Result (List ℕ) Refusal) → IfErr r (λ refusal. refusal ≡ Memory)
    → IfErr r (λ refusal. refusal ≢ Memory → Stops (start_low low) events refusal)
no_refusal low events (Ok text) is = tt
no_refusal low events (Err e) is = λ some. absurd (some is)

pub returns-in-Ok-clause-made : goal.returns-in-Ok-clause-made
returns-in-Ok-clause-made c =
    ends c.args.low.now c.args.events.now c.in-Ok.last c.in-Ok.ensures.reached c.report_of-report.result c.report_of-report.ensures.made

pub returns-in-Ok-clause-refused : goal.returns-in-Ok-clause-refused
returns-in-Ok-clause-refused c = no_refusal c.args.low.now c.args.events.now c.report_of-report.result c.report_of-report.ensures.refused
