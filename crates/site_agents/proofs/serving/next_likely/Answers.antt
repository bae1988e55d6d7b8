use Rattle.std.proofs.Common.{sym, subst}
use Rattle.np_tables.specs.Stored.{Stored}
use Rattle.np_tables.proofs.Tables.{same_name-is}
use Rattle.site_agents.specs.declared.seat.Seat.{Seat}
use Rattle.site_agents.specs.Rounds.{GoesOn}
use Rattle.site_agents.proofs.Lines.{keeps_again}
use Rattle.site_agents.proofs.Seatings.{goes_then, goes_again, goes_doubt}
use Rattle.site_agents.proofs.serving.next_likely.Goals as goal

pub returns-in-Some-likely-clause-goes : goal.returns-in-Some-likely-clause-goes
returns-in-Some-likely-clause-goes c =
    let l = c.loop-name in
    goes_then c.args.code.now c.args.seats.now c.args.turns.now c.args.doubtful.now _ _ _ _ _ _ l.invariant
    (goes_again c.args.code.now l.seats l.turns l.doubtful _ (keeps_again l.turns c.pop.new.self c.push.new.self c.in-Some.name c.in-Some.ensures.first c.push.ensures.keeps c.push.ensures.waits (λ q t. same_name-is q _ t)))

pub loop-name-preserved : goal.loop-name-preserved
loop-name-preserved c =
    let l = c.loop-name in
    goes_then c.args.code.now c.args.seats.now c.args.turns.now c.args.doubtful.now _ _ _ _ _ _ l.invariant
    (subst (λ (s : Stored Seat). GoesOn c.args.code.now l.seats l.turns l.doubtful s c.pop.new.self c.doubt.new.doubtful) (sym c.doubt.ensures.seats)
    (goes_doubt c.args.code.now l.seats l.turns l.doubtful c.in-Some.name c.pop.new.self c.doubt.new.doubtful c.in-Some.ensures.first c.doubt.ensures.keeps c.doubt.ensures.waits))
