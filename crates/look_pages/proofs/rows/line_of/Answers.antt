use Rattle.std.proofs.Common.{◌≡◌, ◌≤◌, ap, length, subst, sym, ◌∙◌}
use Rattle.std.proofs.lemmas.Result.{IfOk-weaker}
use Rattle.history_text.specs.Spelling.{event_line, history_text}
use Rattle.history_text.specs.declared.format.Format.TheVariants.{First}
use Rattle.look_pages.proofs.Lines.{line-cut, long}
use Rattle.look_pages.proofs.rows.line_of.Goals as goal

pub inner-line-requires : goal.inner-line-requires
inner-line-requires c =
    let is = c.as_slice-bytes.ensures ∙ c.in_ok-history.ensures ∙ ap (history_text First) c.as_slice.ensures in
    subst (λ l. 15 ≤ length l) (sym is) (long c.args.event.now)

pub returns : goal.returns
returns c =
    let e = c.args.event.now in
    let is = c.as_slice-bytes.ensures ∙ c.in_ok-history.ensures ∙ ap (history_text First) c.as_slice.ensures in
    IfOk-weaker c.from_slice.result _ (λ text. text ≡ event_line First e) (λ text copied. copied ∙ c.inner-line.ensures ∙ line-cut e _ is) c.from_slice.ensures
