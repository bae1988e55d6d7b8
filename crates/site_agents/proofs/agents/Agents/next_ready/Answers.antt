use Rattle.std.proofs.Common.{sym, ap, ◌∙◌}
use Rattle.site_agents.specs.Queues.{Waiting}
use Rattle.site_agents.proofs.Reading.{still_by, none_by}
use Rattle.site_agents.proofs.agents.Agents.next_ready.Goals as goal

pub returns-in-Some-clause-still : goal.returns-in-Some-clause-still
returns-in-Some-clause-still c = still_by c.args.code.now c.args.self.now c.self.inside.seats c.next_likely.new.seats c.self.view_is c.next_likely.ensures.goes.quiet

pub returns-in-Some-next_doubtful-clause-still : goal.returns-in-Some-next_doubtful-clause-still
returns-in-Some-next_doubtful-clause-still c =
    still_by c.args.code.now c.args.self.now c.self.inside.seats c.next_doubtful.new.seats c.self.view_is (λ h. c.next_doubtful.ensures.goes.quiet (c.next_likely.ensures.goes.quiet h))

pub returns-then-not-is_lost-2-clause-none : goal.returns-then-not-is_lost-2-clause-none
returns-then-not-is_lost-2-clause-none c =
    let a = c.next_likely.ensures.goes in
    let b = c.next_doubtful.ensures.goes in
    let same = c.in_default-next_doubtful.ensures.turns in
    none_by c.args.code.now c.args.self.now c.self.inside.seats c.next_doubtful.new.seats c.next_doubtful.new.turns c.next_doubtful.new.doubtful c.self.view_is (b.agents ∙ a.agents)
    (b.in_turn (a.in_turn c.self.invariant)) (λ h. b.quiet (a.quiet h)) (ap (λ (w : Waiting). w.names) same ∙ c.in_default.ensures.none)
    (sym c.is_lost.ensures ∙ c.if-not-is_lost.true) c.in_default-next_doubtful.ensures.none (sym c.is_lost-then-not-is_lost.ensures ∙ c.if-not-is_lost-2.true)

pub returns-then-not-is_lost-2-clause-still : goal.returns-then-not-is_lost-2-clause-still
returns-then-not-is_lost-2-clause-still c =
    still_by c.args.code.now c.args.self.now c.self.inside.seats c.next_doubtful.new.seats c.self.view_is (λ h. c.next_doubtful.ensures.goes.quiet (c.next_likely.ensures.goes.quiet h))

pub returns-clause-still : goal.returns-clause-still
returns-clause-still c =
    still_by c.args.code.now c.args.self.now c.self.inside.seats c.next_doubtful.new.seats c.self.view_is (λ h. c.next_doubtful.ensures.goes.quiet (c.next_likely.ensures.goes.quiet h))
