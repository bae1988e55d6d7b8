use Rattle.np_calculus.proofs.Touches.{depends_on_touched, unseen}
use Rattle.np_calculus.proofs.laws.law_footprints.Goals as goal

pub returns-clause-depends : goal.returns-clause-depends
returns-clause-depends c = depends_on_touched

pub returns-clause-unseen : goal.returns-clause-unseen
returns-clause-unseen c = unseen
