-- Marks in lines: who waits on a channel, inputs and outputs, in the order in which they came.
use Rattle.std.specs.Prelude.{◌≡◌, ℕ, Bool, true, false, ◌&&◌, cond, List, [], ◌∷◌, Option, None, Some, count_by, refl}
use Rattle.std.specs.Coded.{Coded, code_by, coded×, coded_ℕ, coded_list}
use Rattle.std.specs.FinMap as map
use Rattle.np_syntax.specs.declared.value.Name.{Name}
use Rattle.np_syntax.specs.contracts.value.Name as name
use Rattle.np_tables.specs.Names.{NameMap, same_name}
use Rattle.agent_index.specs.declared.wait.Wait.{Wait}
use Rattle.agent_index.specs.declared.wait.Wait.TheVariants as wait

-- marks in a row, and how many more are sure to find a place
pub record Row : Type 0 where
  pub items : List Name
  pub room : ℕ

abbrev pub row_code : Coded Row
row_code = code_by (List Name × ℕ) (coded× (coded_list name.the_row.coded) coded_ℕ) (λ r. (r.items, r.room))
    (λ p. record { items = p.0; room = p.1 }) (λ _. refl)

-- how often a mark stands in a list
abbrev pub times : Name → List Name → ℕ
times q marks = count_by (same_name q) marks

-- a list without the first place of a mark
abbrev pub without : List Name → Name → List Name
without [] mark = []
without (x ∷ xs) mark = cond (same_name x mark) xs (x ∷ without xs mark)

abbrev pub first_of : List Name → Option Name
first_of [] = None
first_of (x ∷ xs) = Some x

-- who waits on a channel, and how many more inputs and outputs are sure to find a place
pub record Waiting : Type 0 where
  pub inputs : List Name
  pub outputs : List Name
  pub room : ℕ

abbrev pub waiting_code : Coded Waiting
waiting_code =
    code_by (List Name × (List Name × ℕ)) (coded× (coded_list name.the_row.coded) (coded× (coded_list name.the_row.coded) coded_ℕ))
    (λ w. (w.inputs, (w.outputs, w.room)))
    (λ p. record { inputs = p.0; outputs = p.1.0; room = p.1.1 }) (λ _. refl)

abbrev pub is_none : List Name → Bool
is_none [] = true
is_none (x ∷ xs) = false

-- nothing waits there
abbrev pub is_bare : Waiting → Bool
is_bare w = is_none w.inputs && is_none w.outputs

abbrev pub inputs_in : Option Waiting → List Name
inputs_in None = []
inputs_in (Some w) = w.inputs

abbrev pub outputs_in : Option Waiting → List Name
outputs_in None = []
outputs_in (Some w) = w.outputs

-- the marks that wait for the same
abbrev pub in_line : NameMap Waiting → Wait → List Name
in_line lanes (wait.Takes chan) = inputs_in (map.get lanes chan)
in_line lanes (wait.Gives chan) = outputs_in (map.get lanes chan)
in_line lanes _ = []

-- whether what waits for the one stands in the line of the other
abbrev pub same_line : Wait → Wait → Bool
same_line (wait.Takes c) (wait.Takes d) = same_name c d
same_line (wait.Gives c) (wait.Gives d) = same_name c d
same_line _ _ = false

-- the line of a wait is this one now, and each other is its old one
pub record SetsLine (old new : NameMap Waiting) (w : Wait) (line : List Name) : Type 0 where
  pub at : (f : Wait) → in_line new f ≡ cond (same_line w f) line (in_line old f)

pub record SameLines (old new : NameMap Waiting) : Type 0 where
  pub at : (f : Wait) → in_line new f ≡ in_line old f
