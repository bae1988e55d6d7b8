use Rattle.std.proofs.Common.{[]}
use Rattle.np_code.proofs.Growth.{below-next, with-push}
use Rattle.np_code.proofs.table.Nodes.put.Goals as goal

pub invariant_of-self-2 : goal.invariant_of-self-2
invariant_of-self-2 c =
    record { below = rw c.in_ok-add.ensures (below-next c.self.inside.nodes c.args.node _ c.self.view_is c.self.invariant.below c.requires); spare = c.self.invariant.spare }

pub returns-clause-ok : goal.returns-clause-ok
returns-clause-ok c = rw (c.in_ok-add.ensures, ← c.self.view_is) (with-push [] c.self.inside.nodes c.args.node)
