-- What an output that came from outside gives.
use Rattle.std.proofs.Common.{◌≡◌, List, Some, refl}
use Rattle.std.specs.FinMap as map
use Rattle.np_syntax.specs.declared.value.Name.{Name}
use Rattle.np_syntax.specs.declared.value.Value.{Value}
use Rattle.np_syntax.specs.declared.value.Value as value
use Rattle.np_syntax.specs.declared.value.Value.TheVariants.{outs-Chan}
use Rattle.np_syntax.specs.declared.expression.ExprForm as expr
use Rattle.np_syntax.specs.declared.process.Tag.{Tag}
use Rattle.np_syntax.specs.declared.process.Proc.{Proc}
use Rattle.np_tables.proofs.Tables.{same_name-itself}
use Rattle.np_eval.proofs.Evals.{eval-form, eval-val}
use Rattle.np_calculus.specs.Reductions.{sends}
use Rattle.agent_pool.specs.declared.held.Held.TheVariants as held
use Rattle.agent_pool.specs.Held.{atom_of}
use Rattle.agent_pool.proofs.Layers.{layer-given}

pub sends-given : (ts : List Proc) (a : Name) (c : Name) (v : Value) (tag : Tag) → sends (atom_of ts a (held.Given c v tag)) ≡ Some (c, v)
sends-given ts a c v tag =
    rw (
      layer-given c v tag,
      eval-form (record { at = 0; form = expr.Val (value.Chan c) }) map.empty,
      eval-val (value.Chan c) map.empty,
      eval-form (record { at = 0; form = expr.Val v }) map.empty,
      eval-val v map.empty,
      outs-Chan c,
    ) refl

pub ruleset outputs = (layer-given, sends-given, same_name-itself)
