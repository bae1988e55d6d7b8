use Rattle.std.proofs.Common.{◌≡◌, ℕ, ◌<◌, length, get_or}
use Rattle.np_tree.specs.declared.tree.Ident.{Ident}
use Rattle.np_tree.specs.Erased.{erased_ident}
use Rattle.np_tree.proofs.same.same_idents.Given as goal

abbrev pub invariant-loop-at : goal.invariant-loop-at
invariant-loop-at l = (length l.a ≡ length l.b) × ((k : ℕ) (d : Ident) → k < l.at → erased_ident (get_or l.a k d) ≡ erased_ident (get_or l.b k d))
