use Rattle.std.proofs.Common.{◌∙◌, sym, ap, List, ℕ, [], ◌∷◌, ◌++◌}
use Rattle.np_example_files.proofs.Texts.{tree-more}
use Rattle.np_example_files.proofs.pieces.tree_of.Goals as goal

pub loop-level-preserved : goal.loop-level-preserved
loop-level-preserved c =
    c.in_ok-tree-2.ensures.ok ∙ ap (λ (t : List ℕ). 40 ∷ (t ++ (124 ∷ (t ++ (41 ∷ []))))) c.loop-level.invariant ∙ sym (tree-more c.args.leaf.now c.loop-level._level)
