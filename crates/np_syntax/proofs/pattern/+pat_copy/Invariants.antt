use Rattle.std.proofs.Common.{◌≡◌, take}
use Rattle.np_syntax.proofs.pattern.+pat_copy.Given as goal

abbrev pub invariant-copy_pats-loop-pat : goal.invariant-copy_pats-loop-pat
invariant-copy_pats-loop-pat l = l.copies ≡ take l.pat-index l.pats
