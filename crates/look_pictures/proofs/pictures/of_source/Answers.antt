use Rattle.std.proofs.lemmas.Result.{IfOk-weaker}
use Rattle.look_pictures.specs.Looks.{IsShown, IsShownOf}
use Rattle.look_pictures.proofs.pictures.of_source.Goals as goal

pub returns-in-Ok : goal.returns-in-Ok
returns-in-Ok c =
    let wanted = c.args.wanted.now in
    IfOk-weaker c.of_program-made.result (IsShownOf wanted c.args.history c.in-Ok.low) (IsShown wanted)
    (λ shown is. record {
      run = is.run;
      looked = record {
        p = c.args.checked.now;
        accepted = c.program.ensures.accepted;
        low = c.in-Ok.low;
        translated = c.in-Ok.ensures.gives;
        history = c.args.history;
        found = c.requires;
        is = is.looked;
      };
      viewed = is.viewed;
      ends = is.ends;
    }) c.of_program-made.ensures
