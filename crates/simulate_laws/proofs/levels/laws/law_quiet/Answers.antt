use Rattle.simulate_laws.proofs.levels.Infrastructure.{infrastructure, others}
use Rattle.simulate_laws.proofs.levels.Lands.{lands}
use Rattle.simulate_laws.proofs.levels.Messengers.{messengers-arrive}
use Rattle.simulate_laws.proofs.levels.Tries.{messengers-try}
use Rattle.simulate_laws.proofs.levels.laws.law_quiet.Goals as goal

pub returns-clause-others : goal.returns-clause-others
returns-clause-others c = others

pub returns-clause-infrastructure : goal.returns-clause-infrastructure
returns-clause-infrastructure c = infrastructure

pub returns-clause-posts_land : goal.returns-clause-posts_land
returns-clause-posts_land x i n from first low high v c e next k r h = lands c e next k (λ plain. cc) h

pub returns-clause-messengers_arrive : goal.returns-clause-messengers_arrive
returns-clause-messengers_arrive c i = messengers-arrive

pub returns-clause-messengers_try : goal.returns-clause-messengers_try
returns-clause-messengers_try c i = messengers-try
