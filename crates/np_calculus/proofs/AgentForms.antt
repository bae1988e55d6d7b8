-- The agents of the parts of a process.
use Rattle.std.proofs.Common.{◌≡◌, inl, inr, [], ◌∷◌, ◌++◌, subst, sym, ap, ◌∙◌}
use Rattle.np_calculus.proofs.Common.{Name, Expr, Proc, Layer, layer}
use Rattle.np_syntax.specs.declared.process.Proc.{fold_out-Proc}
use Rattle.np_syntax.specs.declared.process.ProcForm.{ProcForm, map-ProcForm, fold-ProcForm, fold_out-ProcForm}
use Rattle.np_calculus.specs.Agents.{Agents, Each, IsIn, expr_agents, proc_agents, proc_step}

abbrev forms : ProcForm → Agents
forms = fold-ProcForm Agents Agents proc_step (λ p. p.form)

-- the agents in a form
abbrev pub form_agents : Layer → Agents
form_agents l = proc_step (map-ProcForm ProcForm Proc Agents Agents forms proc_agents l)

pub proc-out : (p : Proc) → proc_agents p ≡ form_agents (layer p)
unfolding proc_agents
proc-out p = fold_out-Proc Agents Agents proc_step (λ p. p.form) p ∙ fold_out-ProcForm Agents Agents proc_step (λ p. p.form) p.form

module _ (P : Name → Type 0) where
  first_in : (xs ys : Agents) → ((a : Name) → IsIn a (xs ++ ys) → P a) → (a : Name) → IsIn a xs → P a
  first_in [] ys h a i = absurd i
  first_in (x ∷ xs) ys h a (inl e) = h a (inl e)
  first_in (x ∷ xs) ys h a (inr i) = first_in xs ys (λ b j. h b (inr j)) a i

  last_in : (xs ys : Agents) → ((a : Name) → IsIn a (xs ++ ys) → P a) → (a : Name) → IsIn a ys → P a
  last_in [] ys h a i = h a i
  last_in (x ∷ xs) ys h a i = last_in xs ys (λ b j. h b (inr j)) a i

  both_in : (xs ys : Agents) → ((a : Name) → IsIn a xs → P a) → ((a : Name) → IsIn a ys → P a) → (a : Name) → IsIn a (xs ++ ys) → P a
  both_in [] ys h k a i = k a i
  both_in (x ∷ xs) ys h k a (inl e) = h a (inl e)
  both_in (x ∷ xs) ys h k a (inr i) = both_in xs ys (λ b j. h b (inr j)) k a i

  pub first-part : (xs ys : Agents) → Each P (xs ++ ys) → Each P xs
  first-part xs ys h = record { each = first_in xs ys h.each }

  pub last-part : (xs ys : Agents) → Each P (xs ++ ys) → Each P ys
  last-part xs ys h = record { each = last_in xs ys h.each }

  pub halves : {xs ys : Agents} → Each P (xs ++ ys) → Each P xs × Each P ys
  halves h = (first-part _ _ h, last-part _ _ h)

  pub both-parts : (xs ys : Agents) → Each P xs → Each P ys → Each P (xs ++ ys)
  both-parts xs ys h k = record { each = both_in xs ys h.each k.each }

  abbrev pub OfExpr : Expr → Type 0
  OfExpr e = Each P (expr_agents e)

  abbrev pub OfProc : Proc → Type 0
  OfProc p = Each P (proc_agents p)

  abbrev pub OfForm : Layer → Type 0
  OfForm l = Each P (form_agents l)

  pub of-form : (p : Proc) → OfProc p → OfForm (layer p)
  of-form p h = subst (Each P) (proc-out p) h

  pub of-proc : (p : Proc) (l : Layer) → layer p ≡ l → OfForm l → OfProc p
  of-proc p l is h = subst (Each P) (sym (proc-out p ∙ ap form_agents is)) h

  pub nobody : Each P []
  nobody = record { each = λ a i. absurd i }

  -- the agents of a process of this form
  pub of-layer : (p : Proc) (l : Layer) → layer p ≡ l → OfProc p → OfForm l
  of-layer p l is h = subst OfForm is (of-form p h)
