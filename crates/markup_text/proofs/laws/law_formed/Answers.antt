use Rattle.markup_text.proofs.Formed.{markup-formed}
use Rattle.markup_text.proofs.laws.law_formed.Goals as goal

pub returns : goal.returns
returns c = markup-formed
