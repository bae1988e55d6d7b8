-- Induction over processes, by their layers.
use Rattle.std.proofs.Common.{◌≡◌, ℕ, subst, sym, ◌∙◌}
use Rattle.np_syntax.specs.declared.process.Tag.{Tag}
use Rattle.np_syntax.specs.declared.process.Proc.{Proc, ind-Proc, roll-Proc}
use Rattle.np_syntax.specs.declared.process.ProcForm.{ProcForm, ProcForm-F, out-ProcForm, roll-ProcForm, map-ProcForm, out-roll-ProcForm}
use Rattle.np_syntax.proofs.Trees.{With}

module _ (P : Proc → Type 0) where
  abbrev pub OfProcForm : ProcForm → Type 0
  OfProcForm f = (tag : Tag) (at : ℕ) → P (record { tag = tag; at = at; form = f })

  abbrev pub ProcHyps : Type 0
  ProcHyps = ProcForm-F (With ProcForm OfProcForm) (With Proc P)

  abbrev pub proc_of : ProcHyps → ProcForm-F ProcForm Proc
  proc_of y = map-ProcForm (With ProcForm OfProcForm) (With Proc P) ProcForm Proc (λ f. f.0) (λ e. e.0) y

  pub proc_ind : ((p : Proc) (y : ProcHyps) → out-ProcForm p.form ≡ proc_of y → P p) → (p : Proc) → P p
  proc_ind step = ind-Proc OfProcForm P
      (λ x y is tag at. step (record { tag = tag; at = at; form = roll-ProcForm x }) y (out-roll-ProcForm x ∙ sym is))
      (λ x y is. subst (λ x. P (roll-Proc x)) is (y.form.1 y.tag y.at))
