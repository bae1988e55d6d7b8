use Rattle.std.proofs.Common.{length}
use Rattle.site_agents.specs.Rounds.{GoesOn}
use Rattle.site_agents.proofs.serving.next_likely.Given as goal

abbrev pub invariant-loop-name : goal.invariant-loop-name
invariant-loop-name l = GoesOn l.code l.initial.seats l.initial.turns l.initial.doubtful l.seats l.turns l.doubtful

abbrev pub decreases-loop-name : goal.decreases-loop-name
decreases-loop-name l = length l.turns.names
