use Rattle.np_sources.proofs.Promises.{free_of}
use Rattle.np_sources.proofs.runs.run_of.Goals as goal

pub returns-in-Ok-clause-made : goal.returns-in-Ok-clause-made
returns-in-Ok-clause-made c =
    let checked = c.in_ok-checked.checked in let found = c.in_ok-checked.ensures.found in
    record { program = checked; accepted = found; free = free_of c.args.high c.args.bytes.now checked found c.in_ok-checked.ensures.free; run = c.in-Ok.ensures }
