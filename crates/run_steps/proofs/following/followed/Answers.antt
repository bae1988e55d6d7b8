use Rattle.run_steps.proofs.Told.{followed-is}
use Rattle.run_steps.proofs.following.followed.Goals as goal

pub returns-in-Ok-clause-made : goal.returns-in-Ok-clause-made
returns-in-Ok-clause-made c =
    followed-is c.args.reached.now c.args.sites.now c.args.events.now c.steps_on.new.reached _ c.said.result.now c.in_ok-steps.ensures.reached c.in_ok-steps.ensures.steps c.said.ensures c.in-Ok.ensures
