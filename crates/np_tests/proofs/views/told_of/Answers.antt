use Rattle.std.proofs.Common.{subst}
use Rattle.np_syntax.specs.declared.program.LowProgram.{LowProgram}
use Rattle.np_calculus.specs.Reductions.{run}
use Rattle.np_calculus.specs.Starts.{start_low}
use Rattle.np_calculus.specs.Well.{Has}
use Rattle.np_tests.proofs.views.told_of.Goals as goal

pub steps_of-requires-clause-run : goal.steps_of-requires-clause-run
steps_of-requires-clause-run c = subst (λ (q : LowProgram). Has (run (start_low q) c.args.events.now)) c.requires.low c.requires.run
