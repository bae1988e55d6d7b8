use Rattle.history_text.proofs.Found.{one_reading}
use Rattle.history_text.proofs.laws.law_one_reading.Goals as goal

pub returns : goal.returns
returns c = one_reading
