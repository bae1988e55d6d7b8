use Rattle.std.proofs.Common.{◌≡◌, get_or, refl, sym, ap, ◌∙◌, arith, rules}
use Rattle.np_tree.specs.Erased.{erased_expr}
use Rattle.np_tree.proofs.Parts.{same_lists, lists_at, both, fails, under, tuple_same, bin}
use Rattle.np_tree.proofs.same.+expr.Goals as goal

pub same_exprs-returns-then-not-same_expr : goal.same_exprs-returns-then-not-same_expr
same_exprs-returns-then-not-same_expr t c = (
  λ h. cc,
  λ h.
      let x = c.index-a-at.result in
      let y = c.index-b-at.result in
      let one : x ≡ get_or c.args.a.now c.loop-at.at x = c.index-a-at.is in
      let two : y ≡ get_or c.args.b.now c.loop-at.at y = c.index-b-at.is in
      let here : erased_expr (get_or c.args.a.now c.loop-at.at x) ≡ erased_expr (get_or c.args.b.now c.loop-at.at y) = lists_at erased_expr c.args.a.now c.args.b.now h c.loop-at.at x y (omega arith) in
      sym c.if-not-same_expr.true ∙ c.same_expr.ensures.1 (ap erased_expr one ∙ here ∙ sym (ap erased_expr two)),
)

pub same_exprs-returns : goal.same_exprs-returns
same_exprs-returns t c = (λ h. same_lists erased_expr c.args.a.now c.args.b.now c.loop-at.invariant.0 (λ k d below. c.loop-at.invariant.1 k d (omega arith)), λ h. refl)

pub same_expr-returns-in-Tuple-Tuple : goal.same_expr-returns-in-Tuple-Tuple
same_expr-returns-in-Tuple-Tuple t c =
    let is = c.in-Tuple-Tuple in
    let first : c.as_slice.result.now ≡ is.xs = c.as_slice.ensures in
    let second : c.as_slice-in-Tuple-Tuple.result.now ≡ is.ys = c.as_slice-in-Tuple-Tuple.ensures in
    let same = tuple_same _ _ is.xs is.ys (sym c.get.ensures ∙ is.is-0) (sym c.get-2.ensures ∙ is.is-1) in
    (λ h. same.0 (rw (← first, ← second) (c.same_exprs.ensures.0 h)), λ h. c.same_exprs.ensures.1 (rw (first, second) (same.1 h)))

pub same_expr-returns-then-same_expr : goal.same_expr-returns-then-same_expr
same_expr-returns-then-same_expr t c =
    let is = c.in-Bin-Bin in
    both (under (bin _ _ _ _ _ _ _ _ (sym c.get.ensures ∙ is.is-0) (sym c.get-2.ensures ∙ is.is-1)) (search rules)) (c.same_expr.ensures.0 (search rules)) c.same_expr-then-same_expr.ensures

pub same_expr-returns-else-same_expr : goal.same_expr-returns-else-same_expr
same_expr-returns-else-same_expr t c =
    let is = c.in-Bin-Bin in
    fails (under (bin _ _ _ _ _ _ _ _ (sym c.get.ensures ∙ is.is-0) (sym c.get-2.ensures ∙ is.is-1)) (search rules)) c.same_expr.ensures (search rules)
