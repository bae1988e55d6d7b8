use Rattle.std.proofs.Common.{◌≢◌, List, refl}
use Rattle.np_syntax.specs.declared.event.Event.{Event}
use Rattle.np_calculus.specs.Config.{Config}
use Rattle.np_calculus.specs.Starts.{start_low}
use Rattle.np_serial.specs.Replays.{IsRefusal}
use Rattle.np_serial.specs.declared.fail.ReplayFail.{ReplayFail}
use Rattle.np_serial.specs.declared.fail.ReplayFail.TheVariants as replay
use Rattle.np_verdict.specs.declared.refusal.Refusal.TheVariants.{Memory}
use Rattle.np_histories.specs.Histories.{Stops, of_replay}
use Rattle.np_histories.proofs.replaying.end_of.Goals as goal

-- the refusal of a replay tells where the events stop being a run
stops : (start : Config) (events : List Event) (fail : ReplayFail) → IsRefusal start events fail → of_replay fail ≢ Memory → Stops start events (of_replay fail)
stops start events replay.Memory refuses some = absurd (some refl)
stops start events (replay.NotARun index) refuses some = record { index = index; is = refl; stops = refuses }

pub returns-in-Ok-clause-reached : goal.returns-in-Ok-clause-reached
returns-in-Ok-clause-reached c = c.in-Ok.ensures.reached

pub returns-in-Err-clause-refused : goal.returns-in-Err-clause-refused
returns-in-Err-clause-refused c = rw c.of_replay.ensures (stops (start_low c.args.low.now) c.args.events.now c.in-Err.fail c.in-Err.ensures.refused)
