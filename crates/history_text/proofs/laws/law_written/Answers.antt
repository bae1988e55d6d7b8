use Rattle.history_text.proofs.Plain.{written}
use Rattle.history_text.proofs.laws.law_written.Goals as goal

pub returns : goal.returns
returns c = written
