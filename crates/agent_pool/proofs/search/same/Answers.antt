use Rattle.std.proofs.Common.{sym, ap, ◌∙◌}
use Rattle.agent_pool.proofs.Calms.{same_wait, same_wait-is, same_wait-itself}
use Rattle.agent_pool.proofs.search.same.Goals as goal

pub returns : goal.returns
returns c = (
  (λ t. same_wait-is c.args.first c.args.second (sym c.eq.ensures ∙ t)),
  (λ e. c.eq.ensures ∙ ap (same_wait c.args.first) (sym e) ∙ same_wait-itself c.args.first),
)
