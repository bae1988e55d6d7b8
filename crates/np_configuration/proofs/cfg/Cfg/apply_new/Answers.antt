use Rattle.std.proofs.Common.{Some, sym, ap, ◌∙◌}
use Rattle.np_configuration.proofs.Common.{Atom}
use Rattle.np_eval.specs.FormParts.{as_new}
use Rattle.np_configuration.specs.Found.{entered}
use Rattle.np_configuration.specs.Rows.{new_more}
use Rattle.np_configuration.proofs.Finds.{row-gives, stands}
use Rattle.np_configuration.proofs.cfg.Cfg.apply_new.Goals as goal

pub enter-requires : goal.enter-requires
enter-requires c = stands as_new new_more c.args.self.now c.args.e.now _ c.in_ok-atom.ensures

pub returns : goal.returns
returns c =
    row-gives _ _ (λ (a : Atom). entered c.args.self.now c.args.e.now.actor a c.args.e.now.made) c.in_ok-atom.ensures
    ∙ ap Some (sym c.in_ok-enter.ensures.ok)
