-- The rows of a picture, one below the other (docs/PICTURES.md, "Pictures").
use Rattle.std.specs.Prelude.{ℕ, ◌+◌, ◌/◌, ◌≤◌, zero, suc, Bool, true, false, List, [], ◌∷◌, ◌++◌, Option, None, Some, slice_get}
use Rattle.std.specs.Prelude.{if◌then◌else◌}
use Rattle.np_syntax.specs.declared.process.Role.{Role}
use Rattle.np_syntax.specs.declared.process.Role.TheVariants as roles
use Rattle.np_syntax.specs.declared.event.Kind.{Kind}
use Rattle.np_syntax.specs.declared.event.Kind.TheVariants as kinds
use Rattle.run_pictures.specs.declared.layout.Mark.{Mark}
use Rattle.run_pictures.specs.declared.step.Step.{Step}
use Rattle.run_pictures.specs.declared.marks.TheConstants.{OWN_ROW, QUIET_ROW, SENT_ROW}

abbrev pub is_send : Kind → Bool
is_send kinds.Send = true
is_send _ = false

-- of the infrastructure only what it sends is told
abbrev pub told_of : Role → Kind → Bool
told_of roles.Infra kind = is_send kind
told_of _ kind = true

abbrev pub is_told : Step → Bool
is_told step = told_of step.event.tag.role step.event.kind

abbrev pub told_height : Role → ℕ
told_height roles.Infra = SENT_ROW
told_height _ = OWN_ROW

abbrev pub row_height : Step → ℕ
row_height step = if is_told step then told_height step.event.tag.role else QUIET_ROW

-- the middles of the rows of steps, where the first row begins there
abbrev pub middles : ℕ → List Step → List ℕ
middles at [] = []
middles at (step ∷ steps) = (at + row_height step / 2) ∷ middles (at + row_height step) steps

-- numbers from this one on, each greater than the one before
abbrev pub Rises : ℕ → List ℕ → Type 0
Rises least [] = Unit {0}
Rises least (y ∷ ys) = (least ≤ y) × Rises (suc y) ys

-- how far down a mark stands, if there is one
abbrev pub row_of : Option Mark → ℕ
row_of None = 0
row_of (Some mark) = mark.y

-- how far down the twin of a step stands, if there is one
abbrev pub row_by : List Mark → Option ℕ → ℕ
row_by below None = 0
row_by below (Some twin) = row_of (slice_get below twin)

-- the rows of the first steps, each that of its twin
abbrev pub rows_by : List Mark → List ℕ → ℕ → List ℕ
rows_by below twins zero = []
rows_by below twins (suc n) = rows_by below twins n ++ row_by below (slice_get twins n) ∷ []
