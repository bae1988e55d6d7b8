use Rattle.std.proofs.Common.{◌≡◌, ℕ, ◌<◌, length, get_or}
use Rattle.np_tree.specs.declared.tree.RawPat.{RawPat}
use Rattle.np_tree.specs.Erased.{erased_pat}
use Rattle.np_tree.proofs.same.+pat.Given as goal

abbrev pub invariant-same_pats-loop-at : goal.invariant-same_pats-loop-at
invariant-same_pats-loop-at l = (length l.a ≡ length l.b) × ((k : ℕ) (d : RawPat) → k < l.at → erased_pat (get_or l.a k d) ≡ erased_pat (get_or l.b k d))
