-- The nodes of a process are those of its parts, and one more.
use Rattle.std.proofs.Common.{◌≡◌, ℕ, ◌+◌, refl, ◌∙◌, unwrap_or}
use Rattle.np_syntax.specs.declared.process.Proc.{Proc, fold-Proc, fold_out-Proc}
use Rattle.np_syntax.specs.declared.process.ProcForm.{ProcForm, ProcForm-F, out-ProcForm, map-ProcForm, fold-ProcForm, fold_out-ProcForm}
use Rattle.np_code.specs.Parts.{Layer, first_of, second_of}
use Rattle.np_code.specs.Sizes.{nodes_step, part_nodes}
unfoldable use Rattle.np_code.specs.Sizes.{nodes, capped}

forms : ProcForm → ℕ
forms = fold-ProcForm ℕ ℕ nodes_step (λ p. p.form)

folded : Proc → ℕ
folded = fold-Proc ℕ ℕ nodes_step (λ p. p.form)

nodes-folded : (p : Proc) → folded p ≡ nodes p
unfolding nodes folded
nodes-folded p = fold_out-Proc ℕ ℕ nodes_step (λ p. p.form) p

abbrev counted : Layer → ProcForm-F ℕ ℕ
counted l = map-ProcForm ProcForm Proc ℕ ℕ forms folded l

first-counted : (l : Layer) → unwrap_or (first_of (counted l)) 0 ≡ part_nodes (first_of l)
first-counted ProcForm-F.Stop = refl
first-counted (ProcForm-F.Par left right) = nodes-folded left
first-counted (ProcForm-F.New x ty body) = nodes-folded body
first-counted (ProcForm-F.Out c e) = refl
first-counted (ProcForm-F.Inp c x body) = nodes-folded body
first-counted (ProcForm-F.Rep c x body) = nodes-folded body
first-counted (ProcForm-F.Agent b body rest) = nodes-folded body
first-counted (ProcForm-F.Migrate s body) = nodes-folded body
first-counted (ProcForm-F.IfLocal b c e met unmet) = nodes-folded met
first-counted (ProcForm-F.Send b s c e) = refl
first-counted (ProcForm-F.Post b c e) = refl
first-counted (ProcForm-F.If e met unmet) = nodes-folded met
first-counted (ProcForm-F.Let x e body) = nodes-folded body
first-counted (ProcForm-F.Print e) = refl
first-counted (ProcForm-F.Open e) = refl
first-counted (ProcForm-F.Lookup a m x met unmet) = nodes-folded met

second-counted : (l : Layer) → unwrap_or (second_of (counted l)) 0 ≡ part_nodes (second_of l)
second-counted ProcForm-F.Stop = refl
second-counted (ProcForm-F.Par left right) = nodes-folded right
second-counted (ProcForm-F.New x ty body) = refl
second-counted (ProcForm-F.Out c e) = refl
second-counted (ProcForm-F.Inp c x body) = refl
second-counted (ProcForm-F.Rep c x body) = refl
second-counted (ProcForm-F.Agent b body rest) = nodes-folded rest
second-counted (ProcForm-F.Migrate s body) = refl
second-counted (ProcForm-F.IfLocal b c e met unmet) = nodes-folded unmet
second-counted (ProcForm-F.Send b s c e) = refl
second-counted (ProcForm-F.Post b c e) = refl
second-counted (ProcForm-F.If e met unmet) = nodes-folded unmet
second-counted (ProcForm-F.Let x e body) = refl
second-counted (ProcForm-F.Print e) = refl
second-counted (ProcForm-F.Open e) = refl
second-counted (ProcForm-F.Lookup a m x met unmet) = nodes-folded unmet

pub nodes-parts : (p : Proc) → nodes p ≡ 1 + part_nodes (first_of (out-ProcForm p.form)) + part_nodes (second_of (out-ProcForm p.form))
unfolding nodes forms folded
nodes-parts p =
    fold_out-ProcForm ℕ ℕ nodes_step (λ p. p.form) p.form
    ∙ rw (first-counted (out-ProcForm p.form), second-counted (out-ProcForm p.form)) refl

pub ruleset counts = (nodes-parts)
