use Rattle.std.proofs.Common.{Some, sym, ap, ◌∙◌}
use Rattle.np_eval.specs.FormParts.{as_send}
use Rattle.np_configuration.specs.Found.{flown}
use Rattle.np_configuration.specs.Rows.{send_more}
use Rattle.np_configuration.proofs.Finds.{row-gives, stands}
use Rattle.np_configuration.proofs.cfg.Cfg.apply_send.Goals as goal

pub fly-requires : goal.fly-requires
fly-requires c = stands as_send send_more c.args.self.now c.args.e.now _ c.in_ok-packet.ensures

pub returns : goal.returns
returns c = row-gives _ _ (flown c.args.self.now c.args.e.now.actor) c.in_ok-packet.ensures ∙ ap Some (sym c.in_ok-fly.ensures.ok)
