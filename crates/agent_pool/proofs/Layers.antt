-- One level of an output that came from outside.
use Rattle.std.proofs.Common.{◌≡◌, List, refl}
use Rattle.std.specs.FinMap as map
use Rattle.np_syntax.specs.declared.value.Name.{Name}
use Rattle.np_syntax.specs.declared.value.Value.{Value}
use Rattle.np_syntax.specs.declared.value.Value as value
use Rattle.np_syntax.specs.declared.expression.ExprForm as expr
use Rattle.np_syntax.specs.declared.process.Tag.{Tag}
use Rattle.np_syntax.specs.declared.process.Proc.{Proc}
use Rattle.np_syntax.specs.declared.process.ProcForm.{ProcForm-F}
use Rattle.np_syntax.specs.declared.process.ProcForm.TheVariants.{outs-Out}
use Rattle.np_syntax.specs.declared.value.Value.TheVariants.{outs-Chan}
use Rattle.np_eval.specs.Forms.{layer}
use Rattle.np_eval.proofs.Evals.{eval-form, eval-val}
use Rattle.np_calculus.specs.Reductions.{output}
use Rattle.agent_index.specs.declared.wait.Wait.TheVariants as wait
use Rattle.agent_pool.specs.declared.held.Held.TheVariants as held
use Rattle.agent_pool.specs.Held.{wait_of}

pub layer-given : (c : Name) (v : Value) (tag : Tag) → layer (output c v tag) ≡ ProcForm-F.Out (record { at = 0; form = expr.Val (value.Chan c) }) (record { at = 0; form = expr.Val v })
layer-given c v tag = outs-Out _ _

pub wait-given : (ts : List Proc) (c : Name) (v : Value) (tag : Tag) → wait_of ts (held.Given c v tag) ≡ wait.Gives c
wait-given ts c v tag = rw (layer-given c v tag, eval-form (record { at = 0; form = expr.Val (value.Chan c) }) map.empty, eval-val (value.Chan c) map.empty, outs-Chan c) refl

pub ruleset layers = (layer-given, wait-given)
