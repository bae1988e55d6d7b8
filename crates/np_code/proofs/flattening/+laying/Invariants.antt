use Rattle.std.proofs.Common.{◌+◌, ◌*◌}
use Rattle.std.specs.Option.{option_copied}
use Rattle.np_code.specs.Sizes.{nodes, part_nodes}
use Rattle.np_code.proofs.flattening.+laying.Given as goal

abbrev pub decreases-lay : goal.decreases-lay
decreases-lay l = 2 * nodes l.p.now

abbrev pub decreases-lay_part : goal.decreases-lay_part
decreases-lay_part l = 2 * part_nodes (option_copied l.part) + 1
