-- A process of the source by its translation: where this has the role Plain, the process has the same form and tag, and its parts are translated.
use Rattle.std.proofs.Common.{◌≡◌, ℕ, refl, sym, subst, ◌∙◌}
use Rattle.np_syntax.specs.declared.expression.Expr.{Expr}
use Rattle.np_syntax.specs.declared.process.Proc.{Proc}
use Rattle.np_syntax.specs.declared.process.ProcForm.{ProcForm-F}
use Rattle.np_syntax.specs.declared.process.ProcForm.TheVariants as forms
use Rattle.np_syntax.specs.declared.process.Role.TheVariants as role
use Rattle.np_eval.specs.Forms.{Layer, layer}
use Rattle.infrastructure_texts.specs.Infrastructures.{Infrastructure}
use Rattle.daemon_encode.specs.Translates.{Translates}
use Rattle.simulate_laws.proofs.things.Acting.{PostBegins, post-begins}

-- what the form of a translation, the first one, says of the form of the process
abbrev pub IsFormOf : Infrastructure → ℕ → ℕ → Expr → Layer → Layer → Type 0
IsFormOf i n from a ProcForm-F.Stop l = l ≡ ProcForm-F.Stop
IsFormOf i n from a (ProcForm-F.Par p' q') l = (p : Proc) × (q : Proc) × (l ≡ ProcForm-F.Par p q) × Translates i n from a p p' × Translates i n from a q q'
IsFormOf i n from a (ProcForm-F.New c t p') l = (p : Proc) × (l ≡ ProcForm-F.New c t p) × Translates i n from a p p'
IsFormOf i n from a (ProcForm-F.Out c e) l = l ≡ ProcForm-F.Out c e
IsFormOf i n from a (ProcForm-F.Inp c x p') l = (p : Proc) × (l ≡ ProcForm-F.Inp c x p) × Translates i n from a p p'
IsFormOf i n from a (ProcForm-F.Rep c x p') l = (p : Proc) × (l ≡ ProcForm-F.Rep c x p) × Translates i n from a p p'
IsFormOf i n from a (ProcForm-F.IfLocal b c e p' q') l =
    (p : Proc) × (q : Proc) × (l ≡ ProcForm-F.IfLocal b c e p q) × Translates i n from a p p' × Translates i n from a q q'
IsFormOf i n from a (ProcForm-F.Send b s c e) l = l ≡ ProcForm-F.Send b s c e
IsFormOf i n from a (ProcForm-F.If e p' q') l = (p : Proc) × (q : Proc) × (l ≡ ProcForm-F.If e p q) × Translates i n from a p p' × Translates i n from a q q'
IsFormOf i n from a (ProcForm-F.Let x e p') l = (p : Proc) × (l ≡ ProcForm-F.Let x e p) × Translates i n from a p p'
IsFormOf i n from a (ProcForm-F.Print e) l = l ≡ ProcForm-F.Print e
IsFormOf i n from a _ l = Unit {0}

module _ (n from : ℕ) (a : Expr) where
  post-not-plain : (q : Proc) → PostBegins q → q.tag.role ≡ role.Plain → ⊥
  post-not-plain q (PostBegins.is_sent r is) low = let bad : role.Post ≡ role.Plain = sym r ∙ low in cc
  post-not-plain q (PostBegins.takes_cache r is) low = let bad : role.Infra ≡ role.Plain = sym r ∙ low in cc

  form_as : {l m : Layer} {q p : Layer} (i : Infrastructure) → q ≡ m → p ≡ l → IsFormOf i n from a m l → IsFormOf i n from a q p
  form_as {l} {m} {q} {p} i e g h = subst (λ x. IsFormOf i n from a x p) (sym e) (subst (IsFormOf i n from a m) (sym g) h)

  pub source_form : {i : Infrastructure} (p q : Proc) → Translates i n from a p q → p.tag.role ≡ role.Plain → q.tag.role ≡ role.Plain
      → (p.tag ≡ q.tag) × IsFormOf i n from a (layer q) (layer p)
  source_form p q Translates.stop plain low = (refl, form_as _ forms.outs-Stop forms.outs-Stop refl)
  source_form p q (Translates.parallel {p = l} {p' = l'} {q = r} {q' = r'} t u) plain low =
      (refl, form_as _ (forms.outs-Par l' r') (forms.outs-Par l r) (l, r, refl, t, u))
  source_form p q (Translates.channel {c = c} {t = ty} {p = b} {p' = b'} t) plain low =
      (refl, form_as _ (forms.outs-New c ty b') (forms.outs-New c ty b) (b, refl, t))
  source_form p q (Translates.output {c = c} {e = e}) plain low = (refl, form_as _ (forms.outs-Out c e) (forms.outs-Out c e) refl)
  source_form p q (Translates.input {c = c} {x = x} {p = b} {p' = b'} t) plain low = (refl, form_as _ (forms.outs-Inp c x b') (forms.outs-Inp c x b) (b, refl, t))
  source_form p q (Translates.replicated {c = c} {x = x} {p = b} {p' = b'} t) plain low =
      (refl, form_as _ (forms.outs-Rep c x b') (forms.outs-Rep c x b) (b, refl, t))
  source_form p q (Translates.agent d f g h x t u) plain low = absurd (let bad : role.Infra ≡ role.Plain = low in cc)
  source_form p q (Translates.migrate t) plain low = absurd (let bad : role.Infra ≡ role.Plain = low in cc)
  source_form p q (Translates.iflocal {b = b} {c = c} {e = e} {p = l} {p' = l'} {q = r} {q' = r'} t u) plain low =
      (refl, form_as _ (forms.outs-IfLocal b c e l' r') (forms.outs-IfLocal b c e l r) (l, r, refl, t, u))
  source_form p q (Translates.send {b = b} {s = s} {c = c} {e = e}) plain low = (refl, form_as _ (forms.outs-Send b s c e) (forms.outs-Send b s c e) refl)
  source_form {i = i} p q (Translates.post {k = tag} {m = m} {b = b} {c = c} {v = v} above) plain low = absurd (post-not-plain q (post-begins i n tag.node a b c v m) low)
  source_form p q (Translates.test {e = e} {p = l} {p' = l'} {q = r} {q' = r'} t u) plain low =
      (refl, form_as _ (forms.outs-If e l' r') (forms.outs-If e l r) (l, r, refl, t, u))
  source_form p q (Translates.bind {x = x} {e = e} {p = b} {p' = b'} t) plain low = (refl, form_as _ (forms.outs-Let x e b') (forms.outs-Let x e b) (b, refl, t))
  source_form p q (Translates.print {e = e}) plain low = (refl, form_as _ (forms.outs-Print e) (forms.outs-Print e) refl)
  source_form p q (Translates.open_letter {e = e}) plain low = (refl, form_as _ (forms.outs-Open e) (forms.outs-Open e) tt)
  source_form p q (Translates.lookup {x = x} {b = b} {m = m} {p = l} {p' = l'} {q = r} {q' = r'} t u) plain low =
      (refl, form_as _ (forms.outs-Lookup b m x l' r') (forms.outs-Lookup b m x l r) tt)
