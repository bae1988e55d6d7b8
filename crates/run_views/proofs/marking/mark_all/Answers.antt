use Rattle.std.proofs.Common.{◌<◌, ap, inl, inr, length, subst, sym, ◌∙◌}
use Rattle.run_views.proofs.Marks.{one-length}
use Rattle.run_views.proofs.marking.mark_all.Goals as goal

pub mark-requires : goal.mark-requires
mark-requires c = λ k is. c.requires k (inl is)

pub mark-requires-2 : goal.mark-requires-2
mark-requires-2 c = λ k is. subst (λ n. k < n) (sym (ap length c.mark.ensures ∙ one-length c.args.marked.now c.args.causes.now.actor)) (c.requires k (inr (inl is)))

pub mark-requires-3 : goal.mark-requires-3
mark-requires-3 c = λ k is.
    let first = ap length c.mark.ensures ∙ one-length c.args.marked.now c.args.causes.now.actor in
    let second = ap length c.mark-2.ensures ∙ one-length c.mark.new.marked c.args.causes.now.other in
    subst (λ n. k < n) (sym (second ∙ first)) (c.requires k (inr (inr (inl is))))

pub mark-requires-4 : goal.mark-requires-4
mark-requires-4 c = λ k is.
    let first = ap length c.mark.ensures ∙ one-length c.args.marked.now c.args.causes.now.actor in
    let second = ap length c.mark-2.ensures ∙ one-length c.mark.new.marked c.args.causes.now.other in
    let third = ap length c.mark-3.ensures ∙ one-length c.mark-2.new.marked c.args.causes.now.agent in
    subst (λ n. k < n) (sym (third ∙ (second ∙ first))) (c.requires k (inr (inr (inr (inl is)))))
