use Rattle.np_lift.proofs.WithoutMessengers.{lift-without-messengers}
use Rattle.np_lift.proofs.cached_laws.law_lift_cached_without_messengers.Goals as goal

pub returns : goal.returns
returns c = lift-without-messengers
