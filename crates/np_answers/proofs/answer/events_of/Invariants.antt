use Rattle.std.proofs.Common.{◌≡◌, take}
use Rattle.np_answers.specs.Answers.{events_of}
use Rattle.np_answers.proofs.answer.events_of.Given as goal

-- the events of the histories so far
abbrev pub invariant-loop-history : goal.invariant-loop-history
invariant-loop-history l = l.events ≡ events_of (take l.history-index l.histories)
