use Rattle.std.proofs.Common.{arith}
use Rattle.std.proofs.lemmas.Grind.{common_steps}
use Rattle.np_parse.specs.Read.Heads.{directed}
use Rattle.np_parse.proofs.flat.directed.Goals as goal

pub returns-in-Sign-Query-clause-reads : goal.returns-in-Sign-Query-clause-reads
unfolding directed
returns-in-Sign-Query-clause-reads c = grind (arith, common_steps)
