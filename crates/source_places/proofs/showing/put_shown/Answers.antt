use Rattle.std.proofs.Common.{◌+◌, ◌-◌, ◌++◌, append_assoc, ap, drop, length, sym, ◌∙◌}
use Rattle.std.proofs.lemmas.List.{append-nil}
use Rattle.source_places.specs.Shown.{front_len, shown_front, shown_some}
use Rattle.source_places.proofs.Walks.{shown-none, shown-step}
use Rattle.source_places.proofs.showing.put_shown.Goals as goal

pub loop-preserved : goal.loop-preserved
loop-preserved c f =
    let n = length c.args.bytes.now in
    let i = c.loop.index in
    let rest = c.loop.rest.now in
    let k = n - (i + 1) in
    let left = drop (front_len rest) rest in
    let now = c.put_front.ensures f in
    let before = c.loop.invariant now.0 in
    let text = c.loop.text.text in (
      before.0,
      ap (λ r. c.put_front.new.text.text ++ shown_some k r) (c.behind_front-rest.ensures ∙ ap (λ m. drop m rest) c.front_len.ensures.is)
          ∙ ap (λ t. t ++ shown_some k left) now.1
          ∙ append_assoc text (shown_front rest) (shown_some k left)
          ∙ ap (λ l. text ++ l) (sym (shown-step n i rest c.loop-test.true))
          ∙ before.1,
    )

pub returns : goal.returns
returns c f =
    let n = length c.args.bytes.now in
    let before = c.loop.invariant f in (
      before.0,
      sym (append-nil c.loop.text.text)
          ∙ ap (λ l. c.loop.text.text ++ l) (sym (shown-none n c.loop.index c.loop.rest.now c.loop-test.false))
          ∙ before.1,
    )
