-- The code may be shared with another thread.
use denote.Param.Send.{IsSync, sendable}
use Rattle.std.proofs.Crossing.{crosses}
use Rattle.np_syntax.specs.contracts.expression.Expr as expression
use Rattle.np_syntax.specs.contracts.pattern.Pat as pattern
use Rattle.np_syntax.specs.contracts.types.Ty as types
use Rattle.np_syntax.proofs.expression.ExprForm.TheLaws.TheKnot as expression_knot
use Rattle.np_syntax.proofs.expression.Op.TheSendSync as op_laws
use Rattle.np_syntax.proofs.pattern.PatForm.TheLaws.TheKnot as pattern_knot
use Rattle.np_syntax.proofs.process.Tag.TheSendSync as tag_laws
use Rattle.np_syntax.proofs.types.Cap.TheSendSync as cap_laws
use Rattle.np_syntax.proofs.types.Ty.TheLaws.TheKnot as type_knot
use Rattle.np_code.specs.contracts.code.Code as code
use Rattle.np_code.specs.contracts.node.Node as node
use Rattle.np_code.specs.contracts.node.NodeForm as form
use Rattle.np_code.specs.contracts.table.Nodes as nodes
use Rattle.site_turn.proofs.Crossing.Values.{value_field_sync}

pub type_sync : IsSync (types.the_field).row
type_sync = search (sendable, crosses, type_knot.crosses, cap_laws.the_field_sync) depth 40

pub pattern_sync : IsSync (pattern.the_field).row
pattern_sync = search (sendable, crosses, pattern_knot.crosses) depth 40

pub expression_sync : IsSync (expression.the_field).row
expression_sync = search (sendable, crosses, expression_knot.crosses, value_field_sync, op_laws.the_field_sync) depth 40

pub form_sync : IsSync (form.the_field).row
form_sync = search (sendable, crosses, type_sync, pattern_sync, expression_sync) depth 40 fits 20000

pub node_sync : IsSync node.the_row
node_sync = search (sendable, crosses, form_sync, tag_laws.the_field_sync) depth 40

pub nodes_sync : IsSync nodes.the_row
nodes_sync = search (sendable, crosses, node_sync) depth 40

pub code_sync : IsSync code.the_row
code_sync = search (sendable, crosses, nodes_sync) depth 40
