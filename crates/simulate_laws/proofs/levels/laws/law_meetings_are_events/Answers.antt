use Rattle.simulate_laws.proofs.levels.Packets.{lands-are-events, sends-are-events}
use Rattle.simulate_laws.proofs.levels.Splits.{forks-are-events}
use Rattle.simulate_laws.proofs.levels.Takes.{communications-are-events, copies-are-events}
use Rattle.simulate_laws.proofs.levels.laws.law_meetings_are_events.Goals as goal

pub returns-clause-forks : goal.returns-clause-forks
returns-clause-forks c i = forks-are-events

pub returns-clause-sends : goal.returns-clause-sends
returns-clause-sends c i = sends-are-events

pub returns-clause-lands : goal.returns-clause-lands
returns-clause-lands c i = lands-are-events

pub returns-clause-communications : goal.returns-clause-communications
returns-clause-communications c i = communications-are-events

pub returns-clause-copies : goal.returns-clause-copies
returns-clause-copies c i = copies-are-events
