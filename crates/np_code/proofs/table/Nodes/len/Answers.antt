use Rattle.std.proofs.Common.{◌∙◌, arith, rules}
use Rattle.np_code.proofs.Growth.{length-shown}
use Rattle.np_code.proofs.table.Nodes.len.Goals as goal

pub overflow_cast-result : goal.overflow_cast-result
overflow_cast-result c = search (arith, rules, length-shown c.self.inside.nodes _ c.self.view_is, c.len.ensures, c.requires)

pub returns : goal.returns
returns c = c.len.ensures ∙ length-shown c.self.inside.nodes _ c.self.view_is
