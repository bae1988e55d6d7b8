use Rattle.std.proofs.Common.{◌≡◌, get_or, refl, sym, ap, ◌∙◌, arith}
use Rattle.np_tree.specs.Erased.{erased_pat}
use Rattle.np_tree.proofs.Parts.{same_lists, lists_at, tuple_pat_same}
use Rattle.np_tree.proofs.same.+pat.Goals as goal

pub same_pats-returns-then-not-same_pat : goal.same_pats-returns-then-not-same_pat
same_pats-returns-then-not-same_pat t c = (
  λ h. cc,
  λ h.
      let x = c.index-a-at.result in
      let y = c.index-b-at.result in
      let one : x ≡ get_or c.args.a.now c.loop-at.at x = c.index-a-at.is in
      let two : y ≡ get_or c.args.b.now c.loop-at.at y = c.index-b-at.is in
      let here : erased_pat (get_or c.args.a.now c.loop-at.at x) ≡ erased_pat (get_or c.args.b.now c.loop-at.at y) = lists_at erased_pat c.args.a.now c.args.b.now h c.loop-at.at x y (omega arith) in
      sym c.if-not-same_pat.true ∙ c.same_pat.ensures.1 (ap erased_pat one ∙ here ∙ sym (ap erased_pat two)),
)

pub same_pats-returns : goal.same_pats-returns
same_pats-returns t c = (λ h. same_lists erased_pat c.args.a.now c.args.b.now c.loop-at.invariant.0 (λ k d below. c.loop-at.invariant.1 k d (omega arith)), λ h. refl)

pub same_pat-returns-in-Tuple-Tuple : goal.same_pat-returns-in-Tuple-Tuple
same_pat-returns-in-Tuple-Tuple t c =
    let is = c.in-Tuple-Tuple in
    let first : c.as_slice.result.now ≡ is.ps = c.as_slice.ensures in
    let second : c.as_slice-in-Tuple-Tuple.result.now ≡ is.qs = c.as_slice-in-Tuple-Tuple.ensures in
    let same = tuple_pat_same _ _ is.ps is.qs is.is-0 is.is-1 in
    (λ h. same.0 (rw (← first, ← second) (c.same_pats.ensures.0 h)), λ h. c.same_pats.ensures.1 (rw (first, second) (same.1 h)))
