use Rattle.std.proofs.lemmas.Result.{IfOk-weaker}
use Rattle.look_pages.specs.ShownPages.{IsShownOf, IsShownWith}
use Rattle.look_pages.proofs.pages.of_source.Goals as goal

pub returns-in-Ok : goal.returns-in-Ok
returns-in-Ok c =
    let wanted = c.args.wanted.now in
    let source = c.args.bytes.now in
    IfOk-weaker c.of_program-made.result (IsShownOf source wanted c.args.history c.in-Ok.low) (IsShownWith source wanted)
    (λ shown is. record {
      run = is.run;
      looked = record {
        p = c.args.checked.now;
        accepted = c.program.ensures.accepted;
        low = c.in-Ok.low;
        translated = c.in-Ok.ensures.gives;
        history = c.args.history;
        found = c.requires.found;
        is = is.looked;
      };
      page = is.page;
    }) c.of_program-made.ensures
