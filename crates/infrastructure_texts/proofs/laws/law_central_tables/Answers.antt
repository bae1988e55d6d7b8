use Rattle.std.proofs.Common.{refl}
use Rattle.infrastructure_texts.proofs.laws.law_central_tables.Goals as goal

pub returns-clause-daemon : goal.returns-clause-daemon
returns-clause-daemon c = λ n s x. refl

pub returns-clause-post : goal.returns-clause-post
returns-clause-post c = λ n k x b c v. refl

pub returns-clause-migration : goal.returns-clause-migration
returns-clause-migration c = λ n k x a e p. refl

pub returns-clause-creation : goal.returns-clause-creation
returns-clause-creation c = λ n k b s l t x a p q. refl

pub returns-clause-main : goal.returns-clause-main
returns-clause-main c = λ n s l t x p. refl
