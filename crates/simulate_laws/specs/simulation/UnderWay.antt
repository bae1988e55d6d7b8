-- The letters that are under way, by what a run did, and by the things that stand about (docs/TRANSLATION.md, "Translation and daemon").
use Rattle.std.specs.Prelude.{Option, None, Some, List, [], ◌∷◌}
use Rattle.std.specs.Option.{option_map}
use Rattle.std.specs.List.{filter_map}
use Rattle.np_lift.specs.Posts.{Deed, Letter}
use Rattle.simulate_laws.specs.things.Things.{Thing, carried}
use Rattle.simulate_laws.specs.levels.Letters.{as_letter}

-- of the deeds to a mark, the letter of the last post, where it was not opened yet; the first is the one that was under way before
abbrev pub left_by : Option Letter → List Deed → Option Letter
left_by o [] = o
left_by o (Deed.posts p ∷ ds) = left_by p ds
left_by o (Deed.opens a ∷ ds) = left_by None ds

-- that letter, if there is one
abbrev pub listed : Option Letter → List Letter
listed None = []
listed (Some l) = l ∷ []

abbrev pub under_way : List Deed → List Letter
under_way ds = listed (left_by None ds)

-- the letters that things carry
abbrev pub carried_letter : Thing → Option Letter
carried_letter t = option_map as_letter (carried t)

abbrev pub letters_of : Option (List Thing) → List Letter
letters_of None = []
letters_of (Some ts) = filter_map carried_letter ts
