-- What a table is filled in with, and what stands behind a piece, as code has them.
use Rattle.std.specs.Prelude.{ℕ, ◌+◌, ◌-◌, ◌≤◌, length, map, reverse}
use Rattle.infrastructure_texts.specs.Filling.{Hand, Behind, hand}
use Rattle.text_filling.specs.declared.filler.Filler.{Filler}
use Rattle.text_filling.specs.declared.filling.Behind.{Behind as Held}

abbrev pub hand_of : Filler → Hand
hand_of f = hand f.writer.sites f.writer.node f.binders.now f.next (map (λ e. e.now) f.given.now)

-- the nearest first
abbrev pub all_behind : Held → Behind
all_behind b = record { made = reverse b.made; parts = reverse b.parts }

-- so many binders have numbers
abbrev pub room_of : Filler → ℕ
room_of f = length f.binders.now + (4294967296 - f.next)

-- there are so many binders, and so many expressions are given
pub record Holds (f : Filler) (binders given : ℕ) : Type 0 where
  pub bound : binders ≤ room_of f
  pub is_given : given ≤ length f.given.now
