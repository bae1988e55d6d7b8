use Rattle.np_types.specs.Worlds.{bare}
use Rattle.np_types.proofs.Tellings.{handed_on, failed_then, told_as}
use Rattle.np_types.proofs.Leasts.{output-parts}
use Rattle.np_types.proofs.channels.output.Goals as goal

pub returns-in_err-least : goal.returns-in_err-least
returns-in_err-least c = handed_on _ _ _ c.from_residual.ensures (rw (output-parts bare _ _ _) (failed_then _ _ _ c.in_err-least.ensures))

pub returns-in_err-carried : goal.returns-in_err-carried
returns-in_err-carried c = handed_on _ _ _ c.from_residual-in_err-carried.ensures (rw (output-parts bare _ _ _, c.in_ok-least.ensures) (failed_then _ _ _ c.in_err-carried.ensures))

pub returns-in_err-given : goal.returns-in_err-given
returns-in_err-given c =
    handed_on _ _ _ c.from_residual-in_err-given.ensures (rw (output-parts bare _ _ _, c.in_ok-least.ensures, c.in_ok-carried.ensures) (failed_then _ _ _ c.in_err-given.ensures))

pub returns : goal.returns
returns c = rw (output-parts bare _ _ _, c.in_ok-least.ensures, c.in_ok-carried.ensures, c.in_ok-given.ensures) (told_as _ _ _ _ _ c.sub.ensures c.ensure.ensures)
