-- Rows that follow one another rise.
use Rattle.std.proofs.Common.{◌≡◌, ℕ, zero, suc, ◌+◌, ◌/◌, ◌≤◌, ◌<◌, List, [], ◌∷◌, ◌++◌, append_assoc, append-nil, refl, length, map, drop, drop-cons, get_or, slice_get, true, false, arith, add-one, ap, sym, ◌∙◌}
use Rattle.std.proofs.lemmas.List.{map_push}
use Rattle.run_pictures.specs.declared.layout.Mark.{Mark}
use Rattle.np_syntax.specs.declared.process.Role.{Role}
use Rattle.np_syntax.specs.declared.process.Role.TheVariants as roles
use Rattle.np_syntax.specs.declared.event.Kind.{Kind}
use Rattle.run_pictures.specs.declared.step.Step.{Step}
use Rattle.run_pictures.specs.Rows.{Rises, is_send, is_told, middles, row_by, row_height, rows_by, told_height, told_of}
use Rattle.std.specs.Prelude.{Bool, if◌then◌else◌}
use Rattle.run_pictures.specs.declared.marks.TheConstants.{QUIET_ROW}

told-some : (role : Role) → 4 ≤ told_height role
told-some roles.Plain = omega arith
told-some roles.Post = omega arith
told-some roles.Infra = omega arith

some-by : (b : Bool) (role : Role) → 4 ≤ (if b then told_height role else QUIET_ROW)
some-by true role = told-some role
some-by false role = omega arith

pub row-some : (step : Step) → 4 ≤ row_height step
row-some step = some-by (is_told step) step.event.tag.role

half-within : (least at h : ℕ) → least ≤ at → 4 ≤ h → (least ≤ at + h / 2) × (suc (at + h / 2) ≤ at + h)
half-within least at h l s = (omega arith, omega arith)

pub middles-rise : (least at : ℕ) (steps : List Step) → least ≤ at → Rises least (middles at steps)
middles-rise least at [] h = tt
middles-rise least at (step ∷ steps) h =
    let w = half-within least at (row_height step) h (row-some step) in
    (w.0, middles-rise (suc (at + row_height step / 2)) (at + row_height step) steps w.1)

-- one row more, and those still to come
pub rows-more : (marks : List Mark) (end h : ℕ) (steps : List Step) (i : ℕ) (s : Step) (m : Mark) (all : List ℕ) → i < length steps → h ≡ row_height (get_or steps i s) → m.y ≡ end + h / 2
    → map (λ (mark : Mark). mark.y) marks ++ middles end (drop i steps) ≡ all → map (λ (mark : Mark). mark.y) (marks ++ m ∷ []) ++ middles (end + h) (drop (i + 1) steps) ≡ all
rows-more marks end h steps i s m all less high middle rows =
    let y : Mark → ℕ = λ mark. mark.y in
    let rest : List Step = drop (suc i) steps in
    let here : middles end (drop i steps) ≡ (end + row_height (get_or steps i s) / 2) ∷ middles (end + row_height (get_or steps i s)) rest = ap (middles end) (drop-cons steps i s less) in
    let same : (end + row_height (get_or steps i s) / 2) ∷ middles (end + row_height (get_or steps i s)) rest ≡ (end + h / 2) ∷ middles (end + h) rest =
    ap (λ r. (end + r / 2) ∷ middles (end + r) rest) (sym high) in
    ap (λ j. map y (marks ++ m ∷ []) ++ middles (end + h) (drop j steps)) (add-one i)
    ∙ ap (λ l. l ++ middles (end + h) rest) (map_push y marks m)
    ∙ append_assoc (map y marks) (m.y ∷ []) (middles (end + h) rest)
    ∙ ap (λ v. map y marks ++ v ∷ middles (end + h) rest) middle
    ∙ ap (λ l. map y marks ++ l) (sym (here ∙ same))
    ∙ rows

drop-past : (xs : List Step) (i : ℕ) → length xs ≤ i → drop i xs ≡ []
drop-past [] zero h = refl
drop-past [] (suc i) h = refl
drop-past (x ∷ xs) zero h = absurd (omega arith)
drop-past (x ∷ xs) (suc i) h = drop-past xs i (omega arith)

pub rows-end : (marks : List Mark) (end : ℕ) (steps : List Step) (i : ℕ) (all : List ℕ) → length steps ≤ i
    → map (λ (mark : Mark). mark.y) marks ++ middles end (drop i steps) ≡ all → map (λ (mark : Mark). mark.y) marks ≡ all
rows-end marks end steps i all past rows =
    sym (append-nil (map (λ (mark : Mark). mark.y) marks)) ∙ ap (λ l. map (λ (mark : Mark). mark.y) marks ++ middles end l) (sym (drop-past steps i past)) ∙ rows

-- one step more, as far down as its twin
pub rows-beside : (marks more : List Mark) (below : List Mark) (twins : List ℕ) (i j : ℕ) (m : Mark) → i ≡ j → more ≡ marks ++ m ∷ [] → m.y ≡ row_by below (slice_get twins i)
    → map (λ (mark : Mark). mark.y) marks ≡ rows_by below twins j → map (λ (mark : Mark). mark.y) more ≡ rows_by below twins (j + 1)
rows-beside marks more below twins i j m same grown at rows =
    let y : Mark → ℕ = λ mark. mark.y in
    ap (map y) grown
    ∙ map_push y marks m
    ∙ ap (λ l. l ++ m.y ∷ []) rows
    ∙ ap (λ v. rows_by below twins j ++ v ∷ []) (at ∙ ap (λ n. row_by below (slice_get twins n)) same)
    ∙ ap (rows_by below twins) (sym (add-one j))
