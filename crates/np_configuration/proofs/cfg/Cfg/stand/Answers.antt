use Rattle.std.proofs.lemmas.Grind.{common_steps}
use Rattle.np_configuration.proofs.Keeping.{kept-put}
use Rattle.np_configuration.proofs.Moved.{born-under, kept-equal}
use Rattle.std.proofs.Common.{refl, arith}
use Rattle.np_configuration.proofs.cfg.Cfg.stand.Goals as goal

pub invariant_of-self-2 : goal.invariant_of-self-2
invariant_of-self-2 c =
    kept-equal (kept-put c.self.invariant c.args.mark c.args.atom (born-under c.self.view_is c.self.invariant c.args.mark c.requires)) c.in_ok-file_atom.ensures.ok
    c.replace.ensures.items refl

pub invariant_of-self : goal.invariant_of-self
invariant_of-self c = grind (arith, common_steps)
