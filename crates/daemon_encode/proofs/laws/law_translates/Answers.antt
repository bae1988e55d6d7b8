use Rattle.daemon_encode.proofs.Related.{translates-itself, encodes-itself}
use Rattle.daemon_encode.proofs.laws.law_translates.Goals as goal

pub returns-clause-process : goal.returns-clause-process
returns-clause-process c = translates-itself

pub returns-clause-program : goal.returns-clause-program
returns-clause-program c = encodes-itself
