-- What a table of nodes is.
use Rattle.std.specs.Prelude.{◌≡◌, List, []}
use Rattle.np_syntax.specs.declared.process.Proc.{Proc}
use Rattle.np_syntax.specs.declared.process.Role.TheVariants as role
use Rattle.np_code.specs.declared.node.NodeForm.TheVariants as node
use Rattle.np_code.specs.declared.table.Nodes.TheInside.{Inside}
use Rattle.np_code.specs.Trees.{with_nodes, AllBelow}

-- the process under each number
abbrev pub processes : Inside → List Proc
processes table = with_nodes [] table.nodes

-- each node stands behind its parts, and the spare node is that of `0`
pub record IsTable (table : Inside) : Type 0 where
  pub below : AllBelow 0 table.nodes
  pub spare : table.spare ≡ record { tag = record { node = 0; role = role.Plain }; at = 0; form = node.Stop }
