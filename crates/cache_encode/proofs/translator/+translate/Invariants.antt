use Rattle.std.proofs.Common.{◌+◌, ◌*◌}
use Rattle.daemon_encode.proofs.Sizes.{form_size, size}
use Rattle.cache_encode.proofs.translator.+translate.Given as goal

abbrev pub decreases-translate : goal.decreases-translate
decreases-translate l = 3 * size l.p.now + 1

abbrev pub decreases-form : goal.decreases-form
decreases-form l = 3 * form_size l.form.now

abbrev pub decreases-new_agent : goal.decreases-new_agent
decreases-new_agent l = 3 * size l.p.now + 2

abbrev pub decreases-maker : goal.decreases-maker
decreases-maker l = 3 * size l.p.now + 2
