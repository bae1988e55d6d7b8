use Rattle.std.proofs.lemmas.Grind.{common_steps}
use Rattle.std.proofs.Common.{sym, ◌∙◌, arith}
use Rattle.np_eval.proofs.FittingTuples.{fits_all-next, fitting}
use Rattle.np_eval.proofs.Binds.{binds}
use Rattle.np_eval.proofs.fitting.+fits.Goals as goal

pub fits_all-loop-at-preserved : goal.fits_all-loop-at-preserved
fits_all-loop-at-preserved t c = (
  c.loop-at.invariant.0,
  c.loop-at.invariant.1
      ∙ fits_all-next c.args.parts.now c.args.exprs.now c.loop-at.at _ _ c.args.env.now c.loop-at-test.true c.loop-at.invariant.0 c.index-parts-at.is c.index-exprs-at.is (sym c.if-not-fits.false ∙ c.fits.ensures),
)

pub fits_all-returns : goal.fits_all-returns
fits_all-returns t c = grind (arith, common_steps, binds, fitting)

pub fits_tuple-returns-in-Pack : goal.fits_tuple-returns-in-Pack
fits_tuple-returns-in-Pack t c = grind (arith, common_steps, binds, fitting)

pub fits_all-returns-then-parts-exprs : goal.fits_all-returns-then-parts-exprs
fits_all-returns-then-parts-exprs t c = grind (arith, common_steps, binds, fitting)

pub fits_tuple-returns-in-Bin : goal.fits_tuple-returns-in-Bin
fits_tuple-returns-in-Bin t c = grind (arith, common_steps, binds, fitting)

pub fits_tuple-returns-in-Tuple : goal.fits_tuple-returns-in-Tuple
fits_tuple-returns-in-Tuple t c = grind (arith, common_steps, binds, fitting)

pub fits_tuple-returns-in-Some : goal.fits_tuple-returns-in-Some
fits_tuple-returns-in-Some t c = grind (arith, common_steps, binds, fitting)

pub fits_tuple-returns-in-With : goal.fits_tuple-returns-in-With
fits_tuple-returns-in-With t c = grind (arith, common_steps, binds, fitting)

pub fits_all-returns-then-not-fits : goal.fits_all-returns-then-not-fits
fits_all-returns-then-not-fits t c = grind (arith, common_steps, binds, fitting)

pub fits_tuple-returns-in-None : goal.fits_tuple-returns-in-None
fits_tuple-returns-in-None t c = grind (arith, common_steps, binds, fitting)
