use Rattle.run_twins.proofs.ReadOff.{cached-twins-are-read-off, twins-are-read-off}
use Rattle.run_twins.proofs.laws.law_twins.Goals as goal

pub returns-clause-central : goal.returns-clause-central
returns-clause-central c = twins-are-read-off

pub returns-clause-cached : goal.returns-clause-cached
returns-clause-cached c = cached-twins-are-read-off
