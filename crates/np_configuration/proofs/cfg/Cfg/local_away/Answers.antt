use Rattle.std.proofs.Common.{◌≡◌, Some, rules, sym, ap}
use Rattle.np_calculus.specs.Reductions.{none_made}
use Rattle.np_configuration.proofs.Keeping.{is_some_of}
use Rattle.np_configuration.proofs.cfg.Cfg.local_away.Goals as goal

pub stand-requires : goal.stand-requires
stand-requires c = is_some_of _ c.requires.atom c.requires.there

pub returns : goal.returns
returns c = let made : none_made c.args.e.now.made ≡ Some tt = search rules in rw (c.requires.gives, made) (ap Some (sym c.in_ok-stand.ensures.ok))
