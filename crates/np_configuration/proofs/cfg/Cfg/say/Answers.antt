use Rattle.np_configuration.proofs.Keeping.{kept-cut}
use Rattle.np_configuration.proofs.cfg.Cfg.say.Goals as goal

pub invariant_of-self-2 : goal.invariant_of-self-2
invariant_of-self-2 c = rw (c.remove.ensures, c.remove-2.ensures.items) (kept-cut c.self.invariant c.args.mark)
