use Rattle.std.proofs.Common.{◌+◌, take, refl, sym, ap, subst}
use Rattle.run_save.specs.Ours.{StopsBeingOurs}
use Rattle.np_calculus.proofs.Runs.{goes-on}
use Rattle.run_save.proofs.RunLaws.{met-at, never-refused, nothing-ours, stops-at}
use Rattle.run_save.proofs.ours.first_not_ours.Goals as goal

pub loop-event-init : goal.loop-event-init
loop-event-init c = record { counts = refl; reaches = refl; noted = c.new-notes.ensures c.args.reached.now; ours = nothing-ours c.args.reached.now }

pub unreachable-requires : goal.unreachable-requires
unreachable-requires c =
    let refused = rw c.in-Err-NotEnabled.field-0-is at c.in-Err-NotEnabled.ensures in
    never-refused c.args.reached.now c.args.events.now c.loop-event.event-index _ c.loop-event.reached c.requires.run c.loop-event-test.true c.loop-event.invariant.reaches refused.0

pub returns-then-not-branch : goal.returns-then-not-branch
returns-then-not-branch c =
    let start = c.args.reached.now in
    let events = c.args.events.now in
    let before = take c.loop-event.event-index events in
    let invariant = c.loop-event.invariant in
    subst (StopsBeingOurs start events) (sym invariant.counts)
    (stops-at start events c.loop-event.event-index _ c.loop-event-test.true c.in_ok-note.field-0 c.note.new.self c.if-not-branch.true invariant.ours
    (c.in_ok-note.ensures start c.loop-event.reached before invariant.noted invariant.reaches c.in-Ok.ensures invariant.ours))

pub loop-event-preserved : goal.loop-event-preserved
loop-event-preserved c =
    let start = c.args.reached.now in
    let events = c.args.events.now in
    let before = take c.loop-event.event-index events in
    let invariant = c.loop-event.invariant in
    let met = met-at start events c.loop-event.event-index _ c.loop-event-test.true c.in_ok-note.field-0 c.note.new.self c.if-not-branch.false
    (c.in_ok-note.ensures start c.loop-event.reached before invariant.noted invariant.reaches c.in-Ok.ensures invariant.ours) in
    record {
      counts = ap (λ n. n + 1) invariant.counts;
      reaches = goes-on start events c.loop-event.event-index _ c.loop-event.reached c.loop-event-test.true invariant.reaches c.apply.new.c c.in-Ok.ensures;
      noted = met.0;
      ours = met.1;
    }
