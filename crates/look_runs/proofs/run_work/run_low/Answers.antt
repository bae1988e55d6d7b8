use Rattle.std.proofs.Common.{refl}
use Rattle.look_runs.proofs.run_work.run_low.Goals as goal

pub returns-in-Ok : goal.returns-in-Ok
returns-in-Ok c =
    let is = c.in-Ok.ensures in
    let low = c.args.low.now in
    let run = c.in-Ok.run' in
    record {
      low = low;
      translated = c.requires.low;
      goes = is.run;
      ours = is.ours;
      drawn = is.drawn;
      source = c.law_source_runs.ensures.runs c.args.way.infrastructure c.args.checked.now low run.events run.last.said run.end c.program.ensures.accepted c.requires.low
          (record { last = run.last; reaches = is.run.reaches; said = refl; rests = is.run.rest.0 });
    }
