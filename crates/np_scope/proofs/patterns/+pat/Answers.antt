use Rattle.std.proofs.Common.{arith}
use Rattle.std.proofs.lemmas.Grind.{common_steps}
use Rattle.np_scope.proofs.Forms.{patterns}
use Rattle.np_scope.proofs.Sizes.{pattern_sizes}
use Rattle.np_scope.proofs.patterns.+pat.Goals as goal

pub pats-pat-requires : goal.pats-pat-requires
pats-pat-requires t c = grind (arith, common_steps, patterns, pattern_sizes)

pub pats-loop-part-preserved : goal.pats-loop-part-preserved
pats-loop-part-preserved t c = grind (arith, common_steps, patterns, pattern_sizes)
