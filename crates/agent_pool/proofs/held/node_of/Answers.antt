use Rattle.std.proofs.Common.{subst, sym}
use Rattle.np_eval.specs.Forms.{layer}
use Rattle.agent_pool.specs.declared.held.Held.{Held}
use Rattle.agent_pool.specs.Held.{proc_of, IsOutput}
use Rattle.agent_pool.proofs.Layers.{layer-given}
use Rattle.agent_pool.proofs.held.node_of.Goals as goal

pub returns-in-Given : goal.returns-in-Given
returns-in-Given c =
    subst (λ (h : Held). IsOutput (layer (proc_of c.args.code.now.processes h))) (sym c.in-Given.is)
    (record { chan = _; value = _; is = layer-given c.in-Given.field-0 c.in-Given.field-1 c.in-Given.field-2 })
