use Rattle.std.proofs.Common.{◌+◌, ◌*◌}
use Rattle.np_code.proofs.unflattening.+raising.Given as goal

abbrev pub decreases-raise : goal.decreases-raise
decreases-raise l = 3 * l.id + 2

abbrev pub decreases-raise_form : goal.decreases-raise_form
decreases-raise_form l = 3 * l.id + 1

abbrev pub decreases-raise_two : goal.decreases-raise_two
decreases-raise_two l = 3 * l.id
