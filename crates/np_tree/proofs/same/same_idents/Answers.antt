use Rattle.std.proofs.Common.{◌≡◌, get_or, refl, sym, ap, ◌∙◌, arith}
use Rattle.np_tree.specs.Erased.{erased_ident}
use Rattle.np_tree.proofs.Parts.{same_lists, lists_at}
use Rattle.np_tree.proofs.same.same_idents.Goals as goal

pub returns-then-not-same_ident : goal.returns-then-not-same_ident
returns-then-not-same_ident c = (
  λ h. cc,
  λ h.
      let x = c.index-a-at.result in
      let y = c.index-b-at.result in
      let one : x ≡ get_or c.args.a.now c.loop-at.at x = c.index-a-at.is in
      let two : y ≡ get_or c.args.b.now c.loop-at.at y = c.index-b-at.is in
      let here : erased_ident (get_or c.args.a.now c.loop-at.at x) ≡ erased_ident (get_or c.args.b.now c.loop-at.at y) = lists_at erased_ident c.args.a.now c.args.b.now h c.loop-at.at x y (omega arith) in
      sym c.if-not-same_ident.true ∙ c.same_ident.ensures.1 (ap erased_ident one ∙ here ∙ sym (ap erased_ident two)),
)

pub returns : goal.returns
returns c = (λ h. same_lists erased_ident c.args.a.now c.args.b.now c.loop-at.invariant.0 (λ k d below. c.loop-at.invariant.1 k d (omega arith)), λ h. refl)
