use Rattle.std.proofs.Common.{refl}
use Rattle.crew_ends.proofs.First.{has_first}
use Rattle.crew_ends.proofs.starting.settle_first.Goals.{in-Ok, in-Err}
use Rattle.crew_ends.proofs.starting.settle_first.Goals as goal

pub returns : goal.returns
returns c = elim c.match-settle_agent.branch [
  | in-Ok w ↦ rw w.result-is (has_first _ _ _ _ _ c.in_ok-first.first _ _ c.new.result refl c.in_ok-first.ensures.name c.new.ensures c.in_ok-first.ensures.atoms w.in-Ok.ensures.ok)
  | in-Err w ↦ rw w.result-is tt
]
