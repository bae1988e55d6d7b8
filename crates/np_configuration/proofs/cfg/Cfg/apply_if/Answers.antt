use Rattle.std.proofs.Common.{Some, sym, ap, ◌∙◌}
use Rattle.np_eval.specs.FormParts.{as_if}
use Rattle.np_configuration.specs.Found.{stood}
use Rattle.np_configuration.specs.Rows.{if_more}
use Rattle.np_configuration.proofs.Finds.{row-gives, stands}
use Rattle.np_configuration.proofs.cfg.Cfg.apply_if.Goals as goal

pub stand-requires : goal.stand-requires
stand-requires c = stands as_if if_more c.args.self.now c.args.e.now _ c.in_ok-atom.ensures

pub returns : goal.returns
returns c = row-gives _ _ (stood c.args.self.now c.args.e.now.actor) c.in_ok-atom.ensures ∙ ap Some (sym c.in_ok-stand.ensures.ok)
