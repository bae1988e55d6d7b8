use Rattle.np_check.proofs.LowForms.{low_forms}
use Rattle.np_check.proofs.laws.law_low_forms.Goals as goal

pub returns : goal.returns
returns c = low_forms
