use Rattle.std.proofs.Common.{refl}
use Rattle.simulate_laws.proofs.things.laws.law_daemon_desks.Goals as goal

pub returns : goal.returns
returns c = λ n s0 x. refl
