use Rattle.std.proofs.Common.{◌+◌, ◌*◌}
use Rattle.daemon_encode.proofs.Sizes.{form_size, size}
use Rattle.daemon_encode.proofs.translator.Translator.+translate.Given as goal

abbrev pub decreases-translate : goal.decreases-translate
decreases-translate l = 3 * size l.p.now + 1

abbrev pub decreases-form : goal.decreases-form
decreases-form l = 3 * form_size l.form.now

abbrev pub decreases-child : goal.decreases-child
decreases-child l = 3 * size l.p.now + 2

abbrev pub decreases-rest : goal.decreases-rest
decreases-rest l = 3 * size l.p.now + 2
