use Rattle.np_configuration.proofs.Keeping.{kept-cut, kept-sent}
use Rattle.np_configuration.proofs.Moved.{born-under}
use Rattle.np_configuration.proofs.cfg.Cfg.fly.Goals as goal

pub invariant_of-self-2 : goal.invariant_of-self-2
invariant_of-self-2 c =
    rw (c.remove.ensures, c.remove-2.ensures.items, c.in_ok-insert.ensures.ok)
    (kept-cut (kept-sent c.self.invariant c.args.mark _ (born-under c.self.view_is c.self.invariant c.args.mark c.requires)) c.args.mark)
