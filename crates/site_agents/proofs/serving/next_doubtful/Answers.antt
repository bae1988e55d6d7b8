use Rattle.std.proofs.Common.{sym, ap, subst, refl, ◌∙◌}
use Rattle.np_tables.specs.Names.{NameMap}
use Rattle.np_tables.specs.Stored.{Stored}
use Rattle.agent_pool.specs.Pools.{Pool}
use Rattle.site_agents.specs.declared.seat.Seat.{Seat}
use Rattle.site_agents.specs.Rounds.{GoesOn, called}
use Rattle.site_agents.specs.Standings.{agents_of, CanDo}
use Rattle.site_agents.proofs.Seatings.{goes_nowhere, goes_then, goes_call, goes_settle, agents_changed}
use Rattle.site_agents.proofs.serving.next_doubtful.Goals as goal

pub loop-name-init : goal.loop-name-init
loop-name-init c = (goes_nowhere c.args.code.now c.args.seats.now c.args.turns.now c.args.doubtful.now, refl)

pub returns-in-Some-exact-clause-goes : goal.returns-in-Some-exact-clause-goes
returns-in-Some-exact-clause-goes c =
    let l = c.loop-name in
    goes_then c.args.code.now c.args.seats.now c.args.turns.now c.args.doubtful.now _ _ _ _ _ _ l.invariant.0
    (subst (λ (s : Stored Seat). GoesOn c.args.code.now l.seats l.turns l.doubtful s c.call.new.turns c.pop.new.self) (sym c.call.ensures.seats)
    (goes_call c.args.code.now l.seats l.turns l.doubtful c.in-Some.name c.call.new.turns c.pop.new.self c.call.ensures.keeps c.in-Some.ensures.first c.call.ensures.waits))

pub returns-in-Some-exact-clause-some : goal.returns-in-Some-exact-clause-some
returns-in-Some-exact-clause-some c =
    let seats = c.loop-name.seats.items in
    let same = ap (λ (s : Stored Seat). agents_of s.items) c.call.ensures.seats ∙ agents_changed seats c.in-Some.name called (λ x. refl) in
    subst (λ (m : NameMap Pool). CanDo c.args.code.now m c.in-Some.name c.in-Some-exact.ready) (sym same) c.in-Some-exact.ensures.some

pub returns-clause-turns : goal.returns-clause-turns
returns-clause-turns c = c.loop-name.invariant.1

pub loop-name-preserved : goal.loop-name-preserved
loop-name-preserved c =
    let l = c.loop-name in (
      goes_then c.args.code.now c.args.seats.now c.args.turns.now c.args.doubtful.now _ _ _ _ _ _ l.invariant.0
          (subst (λ (s : Stored Seat). GoesOn c.args.code.now l.seats l.turns l.doubtful s l.turns c.pop.new.self) (sym c.settle.ensures)
          (goes_settle c.args.code.now l.seats l.turns l.doubtful c.in-Some.name c.pop.new.self c.in-Some.ensures.first c.in_default-exact.ensures.none)),
      l.invariant.1,
    )
