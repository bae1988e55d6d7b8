-- Marks, to which links on a page lead (docs/PICTURES.md, "Pages").
use Rattle.std.specs.Prelude.{ℕ, List, ◌++◌, codes, decimal}
use Rattle.std.specs.List.{flat_map}
use Rattle.page_html.specs.declared.page.Level.{Level}
use Rattle.page_html.specs.declared.page.Level.TheVariants as levels

abbrev pub letter : Level → List ℕ
letter levels.High = codes "h"
letter levels.Low = codes "l"

abbrev pub other_letter : Level → List ℕ
other_letter levels.High = codes "l"
other_letter levels.Low = codes "h"

-- of an event the letter of its level and its number, of a line of the source an `s` and its number
abbrev pub mark : List ℕ → ℕ → List ℕ
mark letter number = letter ++ decimal number

abbrev pub target : List ℕ → ℕ → List ℕ
target letter number = codes "#" ++ letter ++ decimal number

-- numbers, each with a space behind it
abbrev pub spaced : ℕ → List ℕ
spaced number = decimal number ++ codes " "

abbrev pub numbers : List ℕ → List ℕ
numbers ns = flat_map spaced ns
