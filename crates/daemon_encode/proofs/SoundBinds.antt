-- A resolved program binds no number twice on one path, and each is below its number of binders.
use Rattle.std.proofs.Common.{◌≡◌, inl, inr, ℕ, Bool, true, not, ◌&&◌, Option, Some, List, ◌∷◌, ◌++◌, map, refl, subst, ap, ◌∙◌, append_assoc}
use Rattle.std.specs.FinMap.{nat_cmp-IsAntisymmetric}
use Rattle.std.specs.Ordering.{nat_cmp, eq_by_cmp}
use Rattle.np_syntax.specs.declared.pattern.Pat.{Pat}
use Rattle.np_syntax.specs.declared.pattern.PatForm.{PatForm, PatForm-F, out-PatForm}
use Rattle.np_syntax.specs.declared.pattern.PatForm.TheVariants as pats
use Rattle.np_syntax.specs.declared.process.Proc.{Proc}
use Rattle.np_syntax.specs.declared.process.ProcForm.TheVariants as forms
use Rattle.np_syntax.proofs.Bools.{and-in}
use Rattle.np_eval.specs.Forms.{Layer, layer}
use Rattle.np_scope.specs.Sound.{Among, NoneTwice, Binds, BindAll, IsSoundProc}
use Rattle.daemon_encode.proofs.Binders.{among-first, among-second, once-first, once-second}
use Rattle.daemon_encode.proofs.Binding.{Free, without, taken, taken_all, taken_step, Takes, takens, taken-out, after, clean, clean_step, Cleans, cleans, clean-out}
use Rattle.daemon_encode.proofs.Making.{differ}

-- these may be bound
abbrev pub AllFree : Free → List ℕ → Type 0
AllFree free xs = (x : ℕ) → Among x xs → free x ≡ true

unlike : (x y : ℕ) → (x ≡ y → ⊥) → not (eq_by_cmp nat_cmp x y) ≡ true
unlike x y h = rw (differ (nat_cmp x y) (λ e. h (nat_cmp-IsAntisymmetric x y e))) refl

-- the first one is bound
bound_first : (free : Free) (x : ℕ) (xs : List ℕ) → (Among x xs → ⊥) → AllFree free (x ∷ xs) → AllFree (without free x) xs
bound_first free x xs apart f y m = and-in (f y (inr m)) (unlike y x (λ e. apart (subst (λ z. Among z xs) e m)))

free-first : (free : Free) (xs ys : List ℕ) → AllFree free (xs ++ ys) → AllFree free xs
free-first free xs ys f x m = f x (among-first x xs ys m)

free-second : (free : Free) (xs ys : List ℕ) → AllFree free (xs ++ ys) → AllFree free ys
free-second free xs ys f x m = f x (among-second x xs ys m)

-- ---- patterns

-- what is left, where these are bound behind the pattern
record Took (o : Option Free) (ys : List ℕ) : Type 0 where
  left : Free
  is : o ≡ Some left
  rest : AllFree left ys

taken-as : (p : Pat) (y : PatForm-F PatForm Pat) (free : Free) → out-PatForm p.form ≡ y → taken p free ≡ taken_step (takens y) free
taken-as p y free is = ap (λ (g : Takes). g free) (taken-out p ∙ ap (λ x. taken_step (takens x)) is)

mutual
  took_pat : {scope inner xs : List ℕ} {p : Pat} (free : Free) (ys : List ℕ) → Binds scope p inner xs → NoneTwice (xs ++ ys) → AllFree free (xs ++ ys) → Took (taken p free) ys
  took_pat free ys Binds.any once f = record { left = free; is = taken-as _ _ free pats.outs-Any; rest = f }
  took_pat free ys (Binds.name {x = x}) once f =
      record { left = without free x; is = taken-as _ _ free (pats.outs-Bind x) ∙ rw (f x (inl refl)) refl; rest = bound_first free x ys once.0 f }
  took_pat free ys (Binds.tuple {ps = ps} bs) once f =
      let r = took_pats free ys bs once f in
      record { left = r.left; is = taken-as _ _ free (pats.outs-Tuple ps) ∙ r.is; rest = r.rest }

  took_pats : {scope inner xs : List ℕ} {ps : List Pat} (free : Free) (ys : List ℕ) → BindAll scope ps inner xs → NoneTwice (xs ++ ys) → AllFree free (xs ++ ys)
      → Took (taken_all (map taken ps) free) ys
  took_pats free ys BindAll.none once f = record { left = free; is = refl; rest = f }
  took_pats free ys (BindAll.more {xs = xs} {ys = zs} b bs) once f =
      let apart : NoneTwice (xs ++ (zs ++ ys)) = subst NoneTwice (append_assoc xs zs ys) once in
      let r = took_pat free (zs ++ ys) b apart (subst (AllFree free) (append_assoc xs zs ys) f) in
      let s = took_pats r.left ys bs (once-second xs (zs ++ ys) apart) r.rest in
      record { left = s.left; is = rw r.is s.is; rest = s.rest }

-- ---- processes

clean-as : (p : Proc) (y : Layer) (free : Free) → layer p ≡ y → clean_step (cleans y) free ≡ true → clean p free ≡ true
clean-as p y free is h = ap (λ (g : Cleans). g free) (clean-out p ∙ ap (λ x. clean_step (cleans x)) is) ∙ h

goes_on : (o : Option Free) (p : Free → Bool) (left : Free) → o ≡ Some left → p left ≡ true → after o p ≡ true
goes_on o p left is h = rw is h

-- clean, where these binders of it may be bound
abbrev pub CleanWhere : Free → List ℕ → Proc → Type 0
CleanWhere free xs p = NoneTwice xs → AllFree free xs → clean p free ≡ true

-- two parts, one behind the other
both : (p q : Proc) (free : Free) (xs ys : List ℕ) → CleanWhere free xs p → CleanWhere free ys q → NoneTwice (xs ++ ys) → AllFree free (xs ++ ys)
    → (clean p free && clean q free) ≡ true
both p q free xs ys g h once f = and-in (g (once-first xs ys once) (free-first free xs ys f)) (h (once-second xs ys once) (free-second free xs ys f))

-- a body behind a pattern
behind : {scope inner xs : List ℕ} {x : Pat} (p : Proc) (free : Free) (ys : List ℕ) → Binds scope x inner xs → ((left : Free) → CleanWhere left ys p)
    → NoneTwice (xs ++ ys) → AllFree free (xs ++ ys) → after (taken x free) (clean p) ≡ true
behind {xs = xs} {x = x} p free ys b g once f =
    let r = took_pat free ys b once f in
    goes_on (taken x free) (clean p) r.left r.is (g r.left (once-second xs ys once) r.rest)

pub sound-clean : {n : ℕ} {scope bound : List ℕ} {node after : ℕ} {p : Proc} (free : Free) → IsSoundProc n scope node p after bound → CleanWhere free bound p
sound-clean free IsSoundProc.stop once f = clean-as _ _ free forms.outs-Stop refl
sound-clean free (IsSoundProc.parallel {xs = xs} {ys = ys} {p = p} {q = q} g h) once f =
    clean-as _ _ free (forms.outs-Par p q) (both p q free xs ys (sound-clean free g) (sound-clean free h) once f)
sound-clean free (IsSoundProc.channel {xs = xs} {c = c} {t = t} {p = p} k g) once f =
    clean-as _ _ free (forms.outs-New c t p) (and-in (f c (inl refl)) (sound-clean (without free c) g once.1 (bound_first free c xs once.0 f)))
sound-clean free (IsSoundProc.output {c = c} {e = e} hc he) once f = clean-as _ _ free (forms.outs-Out c e) refl
sound-clean free (IsSoundProc.input {ys = ys} {c = c} {x = x} {p = p} hc b g) once f =
    clean-as _ _ free (forms.outs-Inp c x p) (behind p free ys b (λ left. sound-clean left g) once f)
sound-clean free (IsSoundProc.replicated {ys = ys} {c = c} {x = x} {p = p} hc b g) once f =
    clean-as _ _ free (forms.outs-Rep c x p) (behind p free ys b (λ left. sound-clean left g) once f)
sound-clean free (IsSoundProc.agent {xs = xs} {ys = ys} {b = b} {p = p} {q = q} g h) once f =
    let inner = without free b in
    clean-as _ _ free (forms.outs-Agent b p q)
    (and-in (f b (inl refl)) (both p q inner xs ys (sound-clean inner g) (sound-clean inner h) once.1 (bound_first free b (xs ++ ys) once.0 f)))
sound-clean free (IsSoundProc.migrate {s = s} {p = p} hs g) once f = clean-as _ _ free (forms.outs-Migrate s p) (sound-clean free g once f)
sound-clean free (IsSoundProc.iflocal {xs = xs} {ys = ys} {b = b} {c = c} {e = e} {p = p} {q = q} hb hc he g h) once f =
    clean-as _ _ free (forms.outs-IfLocal b c e p q) (both p q free xs ys (sound-clean free g) (sound-clean free h) once f)
sound-clean free (IsSoundProc.send {b = b} {s = s} {c = c} {e = e} hb hs hc he) once f = clean-as _ _ free (forms.outs-Send b s c e) refl
sound-clean free (IsSoundProc.post {b = b} {c = c} {e = e} hb hc he) once f = clean-as _ _ free (forms.outs-Post b c e) refl
sound-clean free (IsSoundProc.test {xs = xs} {ys = ys} {e = e} {p = p} {q = q} he g h) once f =
    clean-as _ _ free (forms.outs-If e p q) (both p q free xs ys (sound-clean free g) (sound-clean free h) once f)
sound-clean free (IsSoundProc.bind {ys = ys} {x = x} {e = e} {p = p} b he g) once f =
    clean-as _ _ free (forms.outs-Let x e p) (behind p free ys b (λ left. sound-clean left g) once f)
sound-clean free (IsSoundProc.print {e = e} he) once f = clean-as _ _ free (forms.outs-Print e) refl
