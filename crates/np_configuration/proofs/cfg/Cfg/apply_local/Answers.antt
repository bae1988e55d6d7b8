use Rattle.std.proofs.Common.{Bool, subst}
use Rattle.np_configuration.specs.Rows.{IsLocal}
use Rattle.np_configuration.proofs.Finds.{local-step}
use Rattle.np_configuration.proofs.cfg.Cfg.apply_local.Goals as goal

pub local_here-requires : goal.local_here-requires
local_here-requires c = subst (λ (t : Bool). IsLocal c.args.self.now c.args.e.now c.in_ok-asked.asked t) c.if-asked.true (local-step c.args.self.now c.args.e.now _ c.in_ok-asked.ensures)

pub local_away-requires : goal.local_away-requires
local_away-requires c = subst (λ (t : Bool). IsLocal c.args.self.now c.args.e.now c.in_ok-asked.asked t) c.if-asked.false (local-step c.args.self.now c.args.e.now _ c.in_ok-asked.ensures)
