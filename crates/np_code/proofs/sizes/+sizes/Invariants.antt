use Rattle.std.proofs.Common.{◌+◌, ◌*◌}
use Rattle.std.specs.Option.{option_copied}
use Rattle.np_code.specs.Sizes.{nodes, part_nodes}
use Rattle.np_code.proofs.sizes.+sizes.Given as goal

abbrev pub decreases-count : goal.decreases-count
decreases-count l = 2 * nodes l.p.now

abbrev pub decreases-count_part : goal.decreases-count_part
decreases-count_part l = 2 * part_nodes (option_copied l.part) + 1
