use Rattle.std.proofs.Common.{◌≡◌, ◌+◌, drop, length, reverse}
use Rattle.infrastructure_texts.specs.Filling.{build}
use Rattle.infrastructure_texts.specs.Whole.{made_of, parts_of}
use Rattle.text_filling.specs.Hands.{all_behind, hand_of}
use Rattle.text_filling.proofs.filler.Filler.fill.Given as goal

abbrev pub invariant-loop-place : goal.invariant-loop-place
invariant-loop-place l = (all_behind l.behind ≡ build (hand_of l.self) (drop l.place l.table) (reverse l.fn.parts))
    × (length l.behind.made ≡ made_of (drop l.place l.table))
    × (length l.behind.parts + parts_of (drop l.place l.table) ≡ length l.fn.parts)
