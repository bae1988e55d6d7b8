use Rattle.np_types.specs.Worlds.{bare}
use Rattle.np_types.proofs.Tellings.{handed_on, failed_then}
use Rattle.np_types.proofs.Leasts.{input-parts}
use Rattle.np_types.proofs.channels.input.Goals as goal

pub returns-in_err-least : goal.returns-in_err-least
returns-in_err-least c = handed_on _ _ _ c.from_residual.ensures (rw (input-parts bare _ _) (failed_then _ _ _ c.in_err-least.ensures))

pub returns : goal.returns
returns c = rw (input-parts bare _ _, c.in_ok-least.ensures) c.read_on.ensures
