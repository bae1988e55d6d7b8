use Rattle.std.proofs.Common.{Option, subst}
use Rattle.np_syntax.specs.declared.value.Name.{Name}
use Rattle.np_calculus.specs.FrameRule.{Every}
use Rattle.run_choices.specs.Held.{Agrees, held, touched}
use Rattle.run_choices.proofs.Following.{followed}
use Rattle.run_choices.proofs.Lists.{on-ok}
use Rattle.run_choices.proofs.seeded.make.Goals as goal

pub returns-clause-lists : goal.returns-clause-lists
returns-clause-lists c =
    let after = c.turn.new.c in
    let event = c.args.event in
    let list = held c.follow.new.self in
    on-ok c.add.result
    (followed c.args.c.now after event c.in_ok-turn.ensures (held c.args.waiting.now) list c.requires.lists c.in_ok-follow.ensures.step
    (subst (λ (o : Option Name). Every (Agrees after list) (touched event o)) c.agent_in-agent.ensures c.in_ok-follow.ensures.here)
    c.in_ok-follow.ensures.kept)
