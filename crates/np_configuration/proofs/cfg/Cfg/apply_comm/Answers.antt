use Rattle.std.proofs.Common.{Some, sym, ap, ◌∙◌}
use Rattle.np_configuration.proofs.Common.{Name, Atom, Config}
use Rattle.np_eval.specs.FormParts.{as_inp}
use Rattle.np_configuration.specs.Found.{ended, stood}
use Rattle.np_configuration.specs.Rows.{comm_more}
use Rattle.np_configuration.proofs.Finds.{row-gives, stands}
use Rattle.np_configuration.proofs.cfg.Cfg.apply_comm.Goals as goal

pub stand-requires : goal.stand-requires
stand-requires c = stands as_inp comm_more c.args.self.now c.args.e.now _ c.in_ok-mark.ensures

pub returns : goal.returns
returns c =
    row-gives _ _ (λ (s : Name × Atom). ended (stood c.args.self.now c.args.e.now.actor s.1) s.0) c.in_ok-mark.ensures
    ∙ ap Some (sym (c.end.ensures ∙ ap (λ (d : Config). ended d c.in_ok-mark.mark) c.in_ok-stand.ensures.ok))
