use Rattle.std.proofs.lemmas.Grind.{common_steps}
use Rattle.std.proofs.Common.{◌≡◌, true, refl, ap, ◌∙◌, arith}
use Rattle.std.specs.FinSet as set
use Rattle.np_configuration.proofs.Common.{Config}
use Rattle.np_configuration.proofs.Keeping.{kept-put}
use Rattle.np_configuration.proofs.Moved.{kept-equal}
use Rattle.np_configuration.proofs.cfg.Cfg.add_agent.Goals as goal

pub invariant_of-self-2 : goal.invariant_of-self-2
invariant_of-self-2 c =
    let born : set.contains c.self.inside.born.members c.args.mark ≡ true = ap (λ (d : Config). set.contains d.born c.args.mark) c.self.view_is ∙ c.requires in
    kept-equal (kept-put c.self.invariant c.args.mark c.in_ok-atom.atom born) c.in_ok-put_filed.ensures.ok c.in_ok-put_filed.ensures.items refl

pub returns : goal.returns
returns c = grind (arith, common_steps)

pub invariant_of-self-in_err-put_filed : goal.invariant_of-self-in_err-put_filed
invariant_of-self-in_err-put_filed c = grind (arith, common_steps)
