use Rattle.np_calculus.proofs.ExampleRuns as example
use Rattle.np_calculus.proofs.NotEnabled as refused
use Rattle.np_calculus.proofs.laws.law_examples.Goals as goal

pub returns-clause-two_prints : goal.returns-clause-two_prints
returns-clause-two_prints c = example.two_prints

pub returns-clause-communication : goal.returns-clause-communication
returns-clause-communication c = example.communication

pub returns-clause-replication : goal.returns-clause-replication
returns-clause-replication c = example.replication

pub returns-clause-migration : goal.returns-clause-migration
returns-clause-migration c = example.migration

pub returns-clause-not_enabled : goal.returns-clause-not_enabled
returns-clause-not_enabled c = refused.not_enabled

pub returns-clause-no_value : goal.returns-clause-no_value
returns-clause-no_value c = refused.no_value

pub returns-clause-opening : goal.returns-clause-opening
returns-clause-opening c = example.opening

pub returns-clause-looking_up : goal.returns-clause-looking_up
returns-clause-looking_up c = example.looking_up

pub returns-clause-low_not_enabled : goal.returns-clause-low_not_enabled
returns-clause-low_not_enabled c = refused.low_not_enabled
