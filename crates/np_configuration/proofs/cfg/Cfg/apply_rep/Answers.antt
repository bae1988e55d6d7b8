use Rattle.std.proofs.Common.{Some, sym, ap, ◌∙◌}
use Rattle.np_configuration.proofs.Common.{Name, Atom}
use Rattle.np_configuration.specs.Found.{stood}
use Rattle.np_configuration.proofs.Finds.{rep-stands, row-gives}
use Rattle.np_configuration.proofs.cfg.Cfg.apply_rep.Goals as goal

pub stand-requires : goal.stand-requires
stand-requires c = rep-stands c.args.self.now c.args.e.now _ c.in_ok-mark.ensures

pub returns : goal.returns
returns c = row-gives _ _ (λ (s : Name × Atom). stood c.args.self.now s.0 s.1) c.in_ok-mark.ensures ∙ ap Some (sym c.in_ok-stand.ensures.ok)
