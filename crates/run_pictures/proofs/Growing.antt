-- Columns that grow, and marks in them.
use Rattle.std.proofs.Common.{◌≡◌, ⊎_elim, ℕ, ◌+◌, ◌<◌, List, [], ◌∷◌, ◌++◌, length, Some, slice_get, ap, sym, subst, ◌∙◌}
use Rattle.std.proofs.lemmas.List.{length_push}
use Rattle.run_pictures.specs.declared.step.Step.{Step}
use Rattle.run_pictures.specs.declared.layout.Column.{Column}
use Rattle.run_pictures.specs.declared.layout.Mark.{Mark}
use Rattle.run_pictures.specs.Columns.{Extends, StandFor, column_of}
use Rattle.run_pictures.proofs.Lists.{push-cases, push-kept}

pub extends-none : (columns : List Column) → Extends columns columns
extends-none columns = record { kept = λ k c h. h }

pub extends-one : (columns : List Column) (column : Column) → Extends columns (columns ++ column ∷ [])
extends-one columns column = record { kept = λ k c h. push-kept columns column c k h }

pub extends-on : (a b c : List Column) → Extends a b → Extends b c → Extends a c
extends-on a b c h g = record { kept = λ k x is. g.kept k x (h.kept k x is) }

pub stand-on : (old new : List Column) (marks : List Mark) (steps : List Step) (n : ℕ) → StandFor old marks steps n → Extends old new → StandFor new marks steps n
stand-on old new marks steps n h g = record { count = h.count; each = λ k mark step is at. g.kept mark.column (column_of step) (h.each k mark step is at) }

pub stand-more : (old new : List Column) (marks : List Mark) (steps : List Step) (n : ℕ) (mark : Mark) (step : Step)
    → StandFor old marks steps n → Extends old new → slice_get steps n ≡ Some step → slice_get new mark.column ≡ Some (column_of step) → StandFor new (marks ++ mark ∷ []) steps (n + 1)
stand-more old new marks steps n mark step h g at stands = record {
  count = length_push marks mark ∙ ap (λ m. m + 1) h.count;
  each = λ k m s is there. ⊎_elim
      (λ before. g.kept m.column (column_of s) (h.each k m s before there))
      (λ here. subst (λ (m : Mark). slice_get new m.column ≡ Some (column_of s)) here.1
      (stands ∙ ap (λ (s : Step). Some (column_of s)) (same k s (here.0 ∙ h.count) there)))
      (push-cases marks mark k m is);
}
  where
    same : (k : ℕ) (s : Step) → k ≡ n → slice_get steps k ≡ Some s → step ≡ s
    same k s e there = let e2 : slice_get steps k ≡ slice_get steps n = ap (λ j. slice_get steps j) e in cc
