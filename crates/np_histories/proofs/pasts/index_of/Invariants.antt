use Rattle.std.proofs.Common.{◌≡◌, ◌<◌, take}
use Rattle.run_views.specs.Saying.{prints}
use Rattle.np_histories.proofs.pasts.index_of.Given as goal

-- how many values the events before print
abbrev pub invariant-loop-index : goal.invariant-loop-index
invariant-loop-index l = record {
  counts : l.printed ≡ prints (take l.index l.events);
  few : l.printed < l.line;
}
