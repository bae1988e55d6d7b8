-- The location tests of a process, by its form.
use Rattle.std.proofs.Common.{◌≡◌, ℕ, List, [], ◌∷◌, ◌++◌, refl, ap, ◌∙◌}
use Rattle.np_calculus.proofs.Common.{Name, Value, Proc, Layer, layer}
use Rattle.np_syntax.specs.declared.process.Proc.{fold_out-Proc}
use Rattle.np_syntax.specs.declared.process.ProcForm.{ProcForm, map-ProcForm, fold-ProcForm, fold_out-ProcForm}
use Rattle.np_syntax.specs.declared.process.ProcForm.TheVariants.{outs-Out}
use Rattle.np_syntax.specs.declared.process.Tag.{Tag}
use Rattle.np_calculus.specs.Reductions.{output}
use Rattle.run_views.specs.Tests.{Offsets, test_step}
unfoldable use Rattle.run_views.specs.Tests.{tests}

abbrev forms : ProcForm → ℕ → Offsets
forms = fold-ProcForm (ℕ → Offsets) Offsets test_step (λ p. p.form p.at)

-- those of a form at an offset
abbrev pub form_tests : Layer → ℕ → Offsets
form_tests l = test_step (map-ProcForm ProcForm Proc (ℕ → Offsets) Offsets forms tests l)

pub tests-out : (p : Proc) → tests p ≡ form_tests (layer p) p.at
unfolding tests
tests-out p = fold_out-Proc (ℕ → Offsets) Offsets test_step (λ p. p.form p.at) p ∙ ap (λ f. f p.at) (fold_out-ProcForm (ℕ → Offsets) Offsets test_step (λ p. p.form p.at) p.form)

pub tests-by : (p : Proc) (l : Layer) → layer p ≡ l → tests p ≡ form_tests l p.at
tests-by p l is = tests-out p ∙ ap (λ l. form_tests l p.at) is

-- an output has none
pub output-free : (n : Name) (v : Value) (tag : Tag) → tests (output n v tag) ≡ []
output-free n v tag = tests-by (output n v tag) _ (outs-Out _ _)

-- the parts of a process without location tests have none
pub free-parts : {X : Type 0} (xs ys : List X) → xs ++ ys ≡ [] → (xs ≡ []) × (ys ≡ [])
free-parts [] ys h = (refl, h)
free-parts (x ∷ xs) ys h = absurd cc
