use Rattle.np_serial.proofs.Runs.{one-end}
use Rattle.np_serial.proofs.laws.law_one_end.Goals as goal

pub returns : goal.returns
returns c = one-end
