use Rattle.std.proofs.lemmas.Result.{IfOk-weaker}
use Rattle.source_words.specs.Words.{source_of}
use Rattle.look_pages.specs.ShownPages.{IsPageOfSteps}
use Rattle.look_pages.proofs.Shown.{page-shows}
use Rattle.look_pages.proofs.drafts.text_for.Goals as goal

pub returns : goal.returns
returns c =
    let high = c.args.high.now.followed.steps in
    let low = c.args.low.now.followed.steps in
    let page = c.in_ok-page in
    IfOk-weaker c.page_text.result _ (IsPageOfSteps (source_of c.args.told.lines) high low)
    (λ text is. page-shows c.law_formed.ensures c.law_pages_formed.ensures c.args.told.lines high low page.page text page.ensures.lines page.ensures.high page.ensures.low is)
    c.page_text.ensures
