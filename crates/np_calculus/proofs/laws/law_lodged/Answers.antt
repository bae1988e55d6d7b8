use Rattle.np_calculus.proofs.Housed.{stays-lodged}
use Rattle.np_calculus.proofs.laws.law_lodged.Goals as goal

pub returns : goal.returns
returns c = stays-lodged
