use Rattle.np_subtyping.proofs.Subs.{sub-out, sub-chans, sub-itself, sub-trans, sub-exact}
use Rattle.np_types.proofs.Below.{as_many, printable_below}
use Rattle.np_types.proofs.laws.law_subtyping.Goals as goal

pub returns-clause-table : goal.returns-clause-table
returns-clause-table c = record { forms = sub-out; channels = sub-chans }

pub returns-clause-reflexive : goal.returns-clause-reflexive
returns-clause-reflexive c = sub-itself

pub returns-clause-transitive : goal.returns-clause-transitive
returns-clause-transitive c = sub-trans

pub returns-clause-antisymmetric : goal.returns-clause-antisymmetric
returns-clause-antisymmetric c = sub-exact

pub returns-clause-nodes : goal.returns-clause-nodes
returns-clause-nodes c s t h = (as_many t s).0 h

pub returns-clause-printable : goal.returns-clause-printable
returns-clause-printable c s t h k = printable_below t s h k
