use Rattle.std.proofs.Common.{subst}
use Rattle.look_pictures.specs.Looks.{IsLogOf}
use Rattle.look_pictures.proofs.logs.logged.Goals as goal

pub returns-in_ok-made-in-Ok : goal.returns-in_ok-made-in-Ok
returns-in_ok-made-in-Ok c = record {
  p = c.args.checked.now;
  accepted = c.program.ensures.accepted;
  low = c.in-Ok.low;
  translated = c.in-Ok.ensures.gives;
  run = c.args.run.now;
  found = c.requires;
  log = subst (λ events. IsLogOf c.in-Ok.low.sites events c.in_ok-made-in-Ok.field-0) c.as_slice.ensures c.in_ok-made-in-Ok.ensures;
}
