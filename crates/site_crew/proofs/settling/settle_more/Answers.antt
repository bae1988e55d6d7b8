use Rattle.std.proofs.Common.{◌<◌, arith}
use Rattle.site_crew.proofs.Pairs.{told_none, told_some}
use Rattle.site_crew.proofs.settling.settle_more.Goals as goal

pub returns-then-waiting-eq0 : goal.returns-then-waiting-eq0
returns-then-waiting-eq0 g c =
    let p = c.settle_pair-waiting.ensures.settled in
    record { waiting = c.settle_pair-waiting.result; pair = p; told = told_none c.args.from c.args.to c.args.waits p c.if-waiting-eq0.true }

pub returns-else-waiting-eq0 : goal.returns-else-waiting-eq0
returns-else-waiting-eq0 g c =
    let p = c.settle_pair-waiting.ensures.settled in
    let some : 0 < c.settle_pair-waiting.result = omega arith in
    record { waiting = c.settle_pair-waiting.result; pair = p; told = λ before. told_some c.args.from c.args.to p some }
