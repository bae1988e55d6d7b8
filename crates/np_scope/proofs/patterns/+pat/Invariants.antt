use Rattle.std.proofs.Common.{◌≡◌, ◌≤◌, ◌+◌, drop}
use Rattle.np_tree.specs.Sizes.{names_all}
use Rattle.np_scope.specs.Resolved.{pats_of}
use Rattle.np_scope.proofs.Forms.{after_pats}
use Rattle.np_scope.proofs.Weights.{weight, form_weight, weights}
use Rattle.np_scope.proofs.patterns.+pat.Given as goal

abbrev pub decreases-pat : goal.decreases-pat
decreases-pat l = weight l.p.now

abbrev pub decreases-pat_form : goal.decreases-pat_form
decreases-pat_form l = form_weight l.form.now + 1

abbrev pub decreases-pats : goal.decreases-pats
decreases-pats l = weights l.parts.now + 1

abbrev pub invariant-pats-loop-part : goal.invariant-pats-loop-part
invariant-pats-loop-part l = record {
  bound : pats_of l.parts l.initial.scope l.next ≡ after_pats l.resolved (pats_of (drop l.part-index l.parts) l.scope l.number);
  behind : l.number + names_all (drop l.part-index l.parts) ≡ l.next + names_all l.parts;
  lighter : weights (drop l.part-index l.parts) ≤ weights l.parts;
}
