-- A sound process by its form: what each form's parts are.
use Rattle.std.proofs.Common.{◌≡◌, ℕ, ◌+◌, List, [], ◌∷◌, ◌++◌, refl, sym, subst}
use Rattle.np_syntax.specs.declared.pattern.Pat.{Pat}
use Rattle.np_syntax.specs.declared.process.Proc.{Proc}
use Rattle.np_syntax.specs.declared.process.ProcForm.{ProcForm, ProcForm-F, out-ProcForm}
use Rattle.np_syntax.specs.declared.process.ProcForm.TheVariants as formv
use Rattle.np_scope.specs.Sound.{IsSoundExpr, Binds, IsSoundProc}
use Rattle.np_scope.specs.Written.{IsChannelType}

module _ (n : ℕ) (scope : List ℕ) (node after : ℕ) (bound : List ℕ) where
  -- a body in the scope of a pattern's binders
  pub record BodyParts (x : Pat) (p : Proc) : Type 0 where
    pub inner : List ℕ
    pub xs : List ℕ
    pub ys : List ℕ
    pub is : bound ≡ xs ++ ys
    pub binds : Binds scope x inner xs
    pub body : IsSoundProc n inner (node + 1) p after ys

  -- two parts in this scope, one behind the other, which bind these binders
  pub record TwoParts (inner binders : List ℕ) (p q : Proc) : Type 0 where
    pub mid : ℕ
    pub xs : List ℕ
    pub ys : List ℕ
    pub is : binders ≡ xs ++ ys
    pub first : IsSoundProc n inner (node + 1) p mid xs
    pub second : IsSoundProc n inner mid q after ys

  -- no process in it, and no binder
  abbrev pub NoParts : Type 0
  NoParts = (after ≡ node + 1) × (bound ≡ [])

  abbrev pub ProcParts : ProcForm-F ProcForm Proc → Type 0
  ProcParts ProcForm-F.Stop = NoParts
  ProcParts (ProcForm-F.Par p q) = TwoParts scope bound p q
  ProcParts (ProcForm-F.New c t p) = (xs : List ℕ) × (bound ≡ c ∷ xs) × IsChannelType t × IsSoundProc n (c ∷ scope) (node + 1) p after xs
  ProcParts (ProcForm-F.Out c e) = NoParts × IsSoundExpr n scope c × IsSoundExpr n scope e
  ProcParts (ProcForm-F.Inp c x p) = IsSoundExpr n scope c × BodyParts x p
  ProcParts (ProcForm-F.Rep c x p) = IsSoundExpr n scope c × BodyParts x p
  ProcParts (ProcForm-F.Agent b p q) = (xs : List ℕ) × (bound ≡ b ∷ xs) × TwoParts (b ∷ scope) xs p q
  ProcParts (ProcForm-F.Migrate s p) = IsSoundExpr n scope s × IsSoundProc n scope (node + 1) p after bound
  ProcParts (ProcForm-F.IfLocal b c e p q) = IsSoundExpr n scope b × IsSoundExpr n scope c × IsSoundExpr n scope e × TwoParts scope bound p q
  ProcParts (ProcForm-F.Send b s c e) = NoParts × IsSoundExpr n scope b × IsSoundExpr n scope s × IsSoundExpr n scope c × IsSoundExpr n scope e
  ProcParts (ProcForm-F.Post b c e) = NoParts × IsSoundExpr n scope b × IsSoundExpr n scope c × IsSoundExpr n scope e
  ProcParts (ProcForm-F.If e p q) = IsSoundExpr n scope e × TwoParts scope bound p q
  ProcParts (ProcForm-F.Let x e p) = IsSoundExpr n scope e × BodyParts x p
  ProcParts (ProcForm-F.Print e) = NoParts × IsSoundExpr n scope e
  ProcParts (ProcForm-F.Open e) = ⊥
  ProcParts (ProcForm-F.Lookup a m x p q) = ⊥

pub proc-parts : (n : ℕ) {scope bound : List ℕ} {node after : ℕ} {p : Proc} → IsSoundProc n scope node p after bound
    → ProcParts n scope node after bound (out-ProcForm p.form)
proc-parts n (IsSoundProc.stop {scope = s} {node = x}) =
    subst (ProcParts n s x (x + 1) []) (sym formv.outs-Stop) (refl, refl)
proc-parts n (IsSoundProc.parallel {scope = s} {xs = xs} {ys = ys} {node = x} {mid = z} {after = y} {p = p} {q = q} g h) =
    subst (ProcParts n s x y (xs ++ ys)) (sym (formv.outs-Par p q)) (record { mid = z; xs = xs; ys = ys; is = refl; first = g; second = h })
proc-parts n (IsSoundProc.channel {scope = s} {xs = xs} {node = x} {after = y} {c = c} {t = t} {p = p} g h) =
    subst (ProcParts n s x y (c ∷ xs)) (sym (formv.outs-New c t p)) (xs, refl, g, h)
proc-parts n (IsSoundProc.output {scope = s} {node = x} {c = c} {e = e} g h) =
    subst (ProcParts n s x (x + 1) []) (sym (formv.outs-Out c e)) ((refl, refl), g, h)
proc-parts n (IsSoundProc.input {scope = s} {inner = w} {xs = xs} {ys = ys} {node = x} {after = y} {c = c} {x = r} {p = p} f b h) =
    subst (ProcParts n s x y (xs ++ ys)) (sym (formv.outs-Inp c r p)) (f, record { inner = w; xs = xs; ys = ys; is = refl; binds = b; body = h })
proc-parts n (IsSoundProc.replicated {scope = s} {inner = w} {xs = xs} {ys = ys} {node = x} {after = y} {c = c} {x = r} {p = p} f b h) =
    subst (ProcParts n s x y (xs ++ ys)) (sym (formv.outs-Rep c r p)) (f, record { inner = w; xs = xs; ys = ys; is = refl; binds = b; body = h })
proc-parts n (IsSoundProc.agent {scope = s} {xs = xs} {ys = ys} {node = x} {mid = z} {after = y} {b = b} {p = p} {q = q} g h) =
    subst (ProcParts n s x y (b ∷ (xs ++ ys))) (sym (formv.outs-Agent b p q)) (xs ++ ys, refl, record { mid = z; xs = xs; ys = ys; is = refl; first = g; second = h })
proc-parts n (IsSoundProc.migrate {scope = s} {xs = xs} {node = x} {after = y} {s = e} {p = p} g h) =
    subst (ProcParts n s x y xs) (sym (formv.outs-Migrate e p)) (g, h)
proc-parts n (IsSoundProc.iflocal {scope = s} {xs = xs} {ys = ys} {node = x} {mid = z} {after = y} {b = b} {c = c} {e = e} {p = p} {q = q} d f i g h) =
    subst (ProcParts n s x y (xs ++ ys)) (sym (formv.outs-IfLocal b c e p q)) (d, f, i, record { mid = z; xs = xs; ys = ys; is = refl; first = g; second = h })
proc-parts n (IsSoundProc.send {scope = s} {node = x} {b = b} {s = t} {c = c} {e = e} d f g h) =
    subst (ProcParts n s x (x + 1) []) (sym (formv.outs-Send b t c e)) ((refl, refl), d, f, g, h)
proc-parts n (IsSoundProc.post {scope = s} {node = x} {b = b} {c = c} {e = e} d g h) =
    subst (ProcParts n s x (x + 1) []) (sym (formv.outs-Post b c e)) ((refl, refl), d, g, h)
proc-parts n (IsSoundProc.test {scope = s} {xs = xs} {ys = ys} {node = x} {mid = z} {after = y} {e = e} {p = p} {q = q} f g h) =
    subst (ProcParts n s x y (xs ++ ys)) (sym (formv.outs-If e p q)) (f, record { mid = z; xs = xs; ys = ys; is = refl; first = g; second = h })
proc-parts n (IsSoundProc.bind {scope = s} {inner = w} {xs = xs} {ys = ys} {node = x} {after = y} {x = r} {e = e} {p = p} b f h) =
    subst (ProcParts n s x y (xs ++ ys)) (sym (formv.outs-Let r e p)) (f, record { inner = w; xs = xs; ys = ys; is = refl; binds = b; body = h })
proc-parts n (IsSoundProc.print {scope = s} {node = x} {e = e} g) =
    subst (ProcParts n s x (x + 1) []) (sym (formv.outs-Print e)) ((refl, refl), g)
