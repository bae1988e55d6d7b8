use Rattle.std.proofs.Common.{◌≤◌, ℕ, arith, subst, sym, inl, inr}
use Rattle.std.proofs.lemmas.Bool.Decides.{eqb_tells}
use Rattle.run_save.specs.following.Following.{events_at}
use Rattle.site_crew.proofs.past.first_past.Goals as goal

pub loop-site-preserved : goal.loop-site-preserved
loop-site-preserved c = λ u h.
    elim (eqb_tells u c.loop-site.site) [
      | inl w ↦
          let few : events_at c.loop-site.site c.args.events.now ≤ c.args.budget = (let many = c.events_at.ensures in let low = c.if-events_at-budget.false in omega arith) in
          subst (λ (m : ℕ). events_at m c.args.events.now ≤ c.args.budget) (sym w.1) few
      | inr w ↦ c.loop-site.invariant u (omega arith)
    ]
