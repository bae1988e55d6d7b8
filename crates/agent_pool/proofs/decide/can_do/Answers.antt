use Rattle.std.proofs.Common.{sym, ◌∙◌}
use Rattle.np_tables.specs.Mapped.{mapped}
use Rattle.agent_pool.specs.Pools.{seen_as}
use Rattle.agent_pool.proofs.Deciding.{found-ready, ready-found}
use Rattle.agent_pool.proofs.Maps.{own-agent}
use Rattle.agent_pool.proofs.decide.can_do.Goals as goal

pub returns : goal.returns
returns c = λ agent.
    let ts = c.args.code.now.processes in
    let items = c.args.atoms.now.items in
    let atoms = mapped (seen_as ts agent) items in
    let r = c.args.r in (
      (λ t. found-ready c.args.code.now atoms r (λ a b p q there stands. own-agent ts agent items q b stands ∙ sym (own-agent ts agent items p a there))
          (sym (c.found_in.ensures agent) ∙ c.is_this.ensures.0 t)),
      (λ h. c.is_this.ensures.1 (c.found_in.ensures agent ∙ ready-found c.args.code.now atoms r h)),
    )
