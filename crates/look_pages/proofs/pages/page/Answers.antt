use Rattle.std.proofs.lemmas.Result.{IfOk-weaker}
use Rattle.look_pages.specs.ShownPages.{IsShownPage, IsShownWith}
use Rattle.look_pages.proofs.pages.page.Goals as goal

pub returns : goal.returns
returns g c =
    let source = c.as_slice-source.result.now in
    let wanted = c.args.wanted in
    IfOk-weaker c.of_history-made.result (IsShownWith source wanted) (IsShownPage wanted)
    (λ shown is. record { source = source; accepted = (c.in_ok-checked.checked, c.in_ok-checked.ensures.found); is = is }) c.of_history-made.ensures
