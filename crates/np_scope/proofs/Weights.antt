-- A weight by which a pattern weighs more than its form, and a form more than its parts together.
use Rattle.std.proofs.Common.{◌≡◌, ℕ, ◌+◌, List, [], ◌∷◌, map, refl, ap, ◌∙◌}
use Rattle.np_tree.specs.declared.tree.RawPat.{RawPat, fold-RawPat, fold_out-RawPat}
use Rattle.np_tree.specs.declared.tree.RawPatForm.{RawPatForm, RawPatForm-F, out-RawPatForm, map-RawPatForm, fold-RawPatForm, fold_out-RawPatForm}
use Rattle.np_tree.specs.declared.tree.RawPatForm as pat
use Rattle.np_tree.specs.declared.tree.RawPatForm.TheVariants as patv
use Rattle.np_tree.specs.Sizes.{total}

abbrev weight_step : RawPatForm-F ℕ ℕ → ℕ
weight_step RawPatForm-F.Any = 0
weight_step (RawPatForm-F.Bind name) = 0
weight_step (RawPatForm-F.Tuple parts) = 1 + total parts

unfoldable pub weight : RawPat → ℕ
weight = fold-RawPat ℕ ℕ weight_step (λ p. p.form + 2)

unfoldable pub form_weight : RawPatForm → ℕ
form_weight = fold-RawPatForm ℕ ℕ weight_step (λ p. p.form + 2)

abbrev pub weights : List RawPat → ℕ
weights [] = 0
weights (p ∷ ps) = weight p + weights ps

pub weight-form : (p : RawPat) → weight p ≡ form_weight p.form + 2
unfolding weight form_weight
weight-form p = fold_out-RawPat ℕ ℕ weight_step (λ p. p.form + 2) p

abbrev weight_stepped : RawPatForm-F RawPatForm RawPat → ℕ
weight_stepped l = weight_step (map-RawPatForm RawPatForm RawPat ℕ ℕ form_weight weight l)

weight-layer : (f : RawPatForm) → form_weight f ≡ weight_stepped (out-RawPatForm f)
unfolding weight form_weight
weight-layer f = fold_out-RawPatForm ℕ ℕ weight_step (λ p. p.form + 2) f

total-weights : (ps : List RawPat) → total (map weight ps) ≡ weights ps
total-weights [] = refl
total-weights (p ∷ ps) = ap (λ n. weight p + n) (total-weights ps)

pub weight-tuple : (ps : List RawPat) → form_weight (pat.Tuple ps) ≡ 1 + weights ps
weight-tuple ps = weight-layer (pat.Tuple ps) ∙ ap weight_stepped (patv.outs-Tuple ps) ∙ ap (λ n. 1 + n) (total-weights ps)
