use Rattle.markup_text.proofs.Tame.{stays-tame}
use Rattle.markup_text.proofs.laws.law_escaped.Goals as goal

pub returns : goal.returns
returns c = stays-tame
