use Rattle.std.proofs.lemmas.Grind.{common_steps}
use Rattle.std.proofs.Common.{◌≡◌, ◌<◌, ◌≤◌, ◌-◌, ◌∙◌, max, subst, sym, arith}
use Rattle.std.proofs.lemmas.Option.{slice_get_within}
use Rattle.site_crew.proofs.Brought.{clear_again, due_same, no_first, no_room}
use Rattle.site_crew.proofs.Clearing.{clear_same, due_early}
use Rattle.site_crew.proofs.Doing.{added_after, added_before}
use Rattle.site_crew.proofs.Redoing.{on_no, on_yes, rest_of_settled}
use Rattle.site_crew.proofs.Replacing.{all_rest_later, all_rest_trans, but_none, grows_rest, stand_settled, there_too}
use Rattle.site_crew.proofs.Running.{grow_trans}
use Rattle.site_crew.proofs.bringing.bring_from.Goals as goal

pub send_from-sent-requires-clause-from : goal.send_from-sent-requires-clause-from
send_from-sent-requires-clause-from g c κs within =
    subst (λ m. c.args.from < m) (sym c.catch_at.ensures.rest.count) (slice_get_within c.args.seats.now c.args.from c.requires.due.seat c.requires.due.at)

pub send_from-sent-requires-clause-to : goal.send_from-sent-requires-clause-to
send_from-sent-requires-clause-to g c κs within = subst (λ m. c.args.event.site < m) (sym c.catch_at.ensures.rest.count) c.requires.at

pub returns-then-not-sent-clause-grow : goal.returns-then-not-sent-clause-grow
returns-then-not-sent-clause-grow g c = grow_trans (grows_rest c.catch_at.ensures.rest) (grows_rest c.send_from-sent.ensures.rest)

pub returns-then-not-sent-clause-no : goal.returns-then-not-sent-clause-no
returns-then-not-sent-clause-no g c = λ no.
    let due = due_same c.catch_at.ensures.same c.requires.due in
    let none = c.send_from-sent.ensures.no c.if-not-sent.true (clear_same c.catch_at.ensures.same c.requires.clear) due.seat due.at in
    absurd (no_first due.due none)

pub take_at-took-requires-clause-stand : goal.take_at-took-requires-clause-stand
take_at-took-requires-clause-stand g c κs within = but_none c.send_from-sent.ensures.stand c.args.event.site

pub take_at-took-requires-clause-at : goal.take_at-took-requires-clause-at
take_at-took-requires-clause-at g c κs within = subst (λ m. c.args.event.site < m) (sym (c.send_from-sent.ensures.rest.count ∙ c.catch_at.ensures.rest.count)) c.requires.at

pub settle_to-requires-clause-linked : goal.settle_to-requires-clause-linked
settle_to-requires-clause-linked g c κs within = c.take_at-took.ensures.stand.seats.linked

pub settle_to-requires-clause-to : goal.settle_to-requires-clause-to
settle_to-requires-clause-to g c κs within =
    subst (λ m. c.args.event.site < m) (sym (c.take_at-took.ensures.count ∙ c.send_from-sent.ensures.rest.count ∙ c.catch_at.ensures.rest.count)) c.requires.at

pub returns-clause-stand : goal.returns-clause-stand
returns-clause-stand g c = stand_settled c.take_at-took.ensures.stand c.settle_to.ensures

pub returns-clause-grow : goal.returns-clause-grow
returns-clause-grow g c =
    grow_trans (grows_rest c.catch_at.ensures.rest) (grow_trans (grows_rest c.send_from-sent.ensures.rest) (grow_trans c.take_at-took.ensures.grow (grows_rest (rest_of_settled c.settle_to.ensures))))

pub returns-clause-yes : goal.returns-clause-yes
returns-clause-yes g c =
    let late = c.args.stamp - 1 in
    let before = all_rest_trans c.catch_at.ensures.rest (all_rest_later late c.send_from-sent.ensures.rest) in
    on_yes c.take_at-took.result (λ added. added_before (added_after before added) (rest_of_settled c.settle_to.ensures)) c.take_at-took.ensures.yes

pub returns-clause-clear : goal.returns-clause-clear
returns-clause-clear g c =
    let clear = clear_same c.catch_at.ensures.same c.requires.clear in
    let due = due_same c.catch_at.ensures.same c.requires.due in
    let sent = c.send_from-sent.ensures.yes c.if-not-sent.false in
    on_yes c.take_at-took.result
    (λ one. clear_again c.catch_at.ensures.stand clear due sent c.send_from-sent.ensures.rest.count c.send_from-sent.ensures.stand c.settle_to.ensures one one.goes.from one.goes.item one.goes.got one.goes.aside)
    c.take_at-took.ensures.got

pub returns-clause-no : goal.returns-clause-no
returns-clause-no g c =
    let clear = clear_same c.catch_at.ensures.same c.requires.clear in
    let due = due_same c.catch_at.ensures.same c.requires.due in
    let sent = c.send_from-sent.ensures.yes c.if-not-sent.false in
    let late = c.args.stamp - 1 in
    let before = all_rest_trans c.catch_at.ensures.rest (all_rest_later late c.send_from-sent.ensures.rest) in
    let kept = (c.catch_at.ensures.stand.seats.each c.args.from due.seat due.at).kept in
    let early : due.due.item.stamp ≤ due.seat.site.clock = due_early kept c.args.event.site due.due.item due.due.later due.due.first in
    let x = there_too c.catch_at.new.seats c.args.seats.now c.args.from due.seat (sym c.catch_at.ensures.rest.count) due.at in
    let r = c.catch_at.ensures.rest.each c.args.from x.0 due.seat x.1 due.at in
    let rc : due.seat.site.clock ≤ max x.0.site.clock (c.args.stamp - 1) = r.clock in
    let old : x.0.site.clock ≤ c.args.stamp - 1 = c.requires.clocks c.args.from x.0 x.1 in
    let low : due.due.item.stamp ≤ c.args.stamp - 1 = omega arith in
    let some : 1 ≤ c.args.stamp = c.requires.stamp.0 in
    on_no c.take_at-took.result
    (λ one.
    let y = there_too c.send_from-sent.new.seats c.catch_at.new.seats c.args.event.site one.old (sym c.send_from-sent.ensures.rest.count) one.was in
    let z = there_too c.catch_at.new.seats c.args.seats.now c.args.event.site y.0 (sym c.catch_at.ensures.rest.count) y.1 in
    let p = c.catch_at.ensures.rest.each c.args.event.site z.0 y.0 z.1 y.1 in
    let q = c.send_from-sent.ensures.rest.each c.args.event.site y.0 one.old y.1 one.was in
    let a : z.0.site.clock ≤ c.args.stamp - 1 = c.requires.clocks c.args.event.site z.0 z.1 in
    let b : y.0.site.clock ≤ max z.0.site.clock (c.args.stamp - 1) = p.clock in
    let d : c.args.stamp - 1 ≤ y.0.site.clock = c.catch_at.ensures.there y.0 y.1 in
    let e : one.old.site.clock ≤ max y.0.site.clock 0 = q.clock in
    let f : y.0.site.clock ≤ one.old.site.clock = q.later in
    let clock : one.old.site.clock ≡ c.args.stamp - 1 = omega arith in
    no_room c.catch_at.ensures.stand clear due sent c.send_from-sent.ensures.rest.count c.send_from-sent.ensures.stand c.settle_to.ensures one low some c.requires.stamp.1 clock before)
    c.take_at-took.ensures.no

pub catch_at-requires-clause-early : goal.catch_at-requires-clause-early
catch_at-requires-clause-early g c = grind (arith, common_steps)
