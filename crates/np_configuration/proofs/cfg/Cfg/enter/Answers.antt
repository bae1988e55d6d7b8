use Rattle.std.proofs.Common.{◌∙◌, ap}
use Rattle.np_configuration.proofs.Common.{NameSet}
use Rattle.np_calculus.specs.Changes.{with_made}
use Rattle.np_configuration.proofs.Keeping.{kept-put}
use Rattle.np_configuration.proofs.Moved.{born-under, kept-equal, kept-made}
use Rattle.np_configuration.proofs.cfg.Cfg.enter.Goals as goal

pub invariant_of-self-2 : goal.invariant_of-self-2
invariant_of-self-2 c =
    kept-equal
    (kept-made (kept-put c.self.invariant c.args.mark c.args.atom (born-under c.self.view_is c.self.invariant c.args.mark c.requires)) c.args.made)
    c.in_ok-file_atom.ensures.ok c.replace.ensures.items
    (c.bear.ensures ∙ ap (λ (x : NameSet). with_made x c.args.made) c.in_ok-reserve.ensures.members)
