use Rattle.std.proofs.Common.{refl}
use Rattle.crew_ends.proofs.Overs.{count_of, over_spent, not_resting, not_sent, over_resting}
use Rattle.crew_ends.proofs.quiet.is_over.Goals as goal

pub returns-then-len-budget-clause-yes : goal.returns-then-len-budget-clause-yes
returns-then-len-budget-clause-yes g c = λ _.
    let count = count_of c.len.result _ _ c.len.ensures.len c.history.ensures.history in
    over_spent c.args.code.now c.args.budget c.args.seats.now c.args.i c.len.result c.index-seats-i.result c.requires.place count c.if-len-budget.true

pub returns-then-not-is_resting-clause-no : goal.returns-then-not-is_resting-clause-no
returns-then-not-is_resting-clause-no g c = λ _.
    let count = count_of c.len.result _ _ c.len.ensures.len c.history.ensures.history in
    not_resting c.args.code.now c.args.budget c.args.seats.now c.args.i c.len.result c.index-seats-i.result c.requires.place count
    c.index-seats-i-2.result c.index-seats-i-2.is c.if-len-budget.false (c.if-not-is_resting.ensures.no refl)

pub returns-clause-yes : goal.returns-clause-yes
returns-clause-yes g c = λ e.
    let count = count_of c.len.result _ _ c.len.ensures.len c.history.ensures.history in
    over_resting c.args.code.now c.args.budget c.args.seats.now c.args.i c.len.result c.index-seats-i.result c.requires.place count
    c.index-seats-i-2.result c.index-seats-i-2.is (c.if-not-is_resting.ensures.yes refl) (c.none_sends.ensures.yes e)

pub returns-clause-no : goal.returns-clause-no
returns-clause-no g c = λ e.
    let count = count_of c.len.result _ _ c.len.ensures.len c.history.ensures.history in
    not_sent c.args.code.now c.args.budget c.args.seats.now c.args.i c.len.result c.index-seats-i.result c.requires.place count c.if-len-budget.false (c.none_sends.ensures.no e)
