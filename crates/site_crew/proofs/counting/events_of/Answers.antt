use Rattle.std.proofs.Common.{◌≡◌, ◌<◌, length, arith, ap, sym, ◌∙◌}
use Rattle.std.proofs.lemmas.Option.{slice_get_within}
use Rattle.site_crew.proofs.Counts.{counted, counted_all, counted_more, counted_none, whole_more}
use Rattle.site_crew.proofs.counting.events_of.Goals as goal

pub loop-i-init : goal.loop-i-init
loop-i-init g c = record { total = sym (counted_none c.args.seats.now); low = omega arith; whole = λ i s at h. absurd (omega arith) }

pub loop-i-preserved : goal.loop-i-preserved
loop-i-preserved g c =
    let i = c.loop-i.invariant in
    let h : c.loop-i.i < length c.args.seats.now = omega arith in
    let more = counted_more c.args.seats.now c.loop-i.i c.index-seats-i.result h c.index-seats-i.is in record {
      total = omega (arith, more, i.total, c.from-total.ensures, c.count.ensures.count);
      low = omega (arith, i.low, c.from-total.ensures);
      whole = whole_more c.args.seats.now c.loop-i.i c.index-seats-i.result i.whole c.index-seats-i.is c.count.ensures.history;
    }

pub returns-clause-total : goal.returns-clause-total
returns-clause-total g c =
    let e : c.loop-i.i ≡ length c.args.seats.now = omega arith in
    c.loop-i.invariant.total ∙ ap (counted c.args.seats.now) e ∙ counted_all c.args.seats.now

pub returns-clause-whole : goal.returns-clause-whole
returns-clause-whole g c =
    let e : c.loop-i.i ≡ length c.args.seats.now = omega arith in
    record { each = λ i s at. let h : i < length c.args.seats.now = slice_get_within c.args.seats.now i s at in c.loop-i.invariant.whole i s at (omega arith) }
