use Rattle.std.proofs.Common.{refl, subst}
use Rattle.look_pictures.specs.Looks.{IsViewed}
use Rattle.look_pictures.proofs.pictures.of_program.Goals as goal

pub returns-in_ok-text-in-Ok : goal.returns-in_ok-text-in-Ok
returns-in_ok-text-in-Ok c =
    let wanted = c.args.wanted.now in
    record {
      run = c.in-Ok.run';
      looked = c.in-Ok.ensures;
      viewed = subst (λ events. IsViewed wanted.view wanted.infrastructure events c.in_ok-text-in-Ok.text) c.as_slice.ensures c.in_ok-text-in-Ok.ensures;
      ends = refl;
    }
