use Rattle.std.proofs.Common.{◌≡◌, drop, length}
use Rattle.np_eval.specs.Fitting.{fits_all}
use Rattle.np_eval.proofs.fitting.+fits.Given as goal

abbrev pub invariant-fits_all-loop-at : goal.invariant-fits_all-loop-at
invariant-fits_all-loop-at l = (length l.parts ≡ length l.exprs) × (fits_all l.parts l.exprs l.env ≡ fits_all (drop l.at l.parts) (drop l.at l.exprs) l.env)
