-- Processes that bind no number twice on one path.
use Rattle.std.proofs.Common.{◌≡◌, ℕ, Bool, true, false, not, ◌&&◌, cond, Option, None, Some, List, [], ◌∷◌, ◌∙◌}
use Rattle.std.specs.Ordering.{nat_cmp, eq_by_cmp}
use Rattle.np_syntax.specs.declared.pattern.Pat.{Pat, fold-Pat, fold_out-Pat}
use Rattle.np_syntax.specs.declared.pattern.PatForm.{PatForm, PatForm-F, out-PatForm, map-PatForm, fold-PatForm, fold_out-PatForm}
use Rattle.np_syntax.specs.declared.process.Proc.{Proc, fold-Proc, fold_out-Proc}
use Rattle.np_syntax.specs.declared.process.ProcForm.{ProcForm, ProcForm-F, map-ProcForm, fold-ProcForm, fold_out-ProcForm}
use Rattle.np_syntax.specs.Options.{◌>>=◌}
use Rattle.np_eval.specs.Forms.{Layer, layer}

-- the numbers that may still be bound
abbrev pub Free : Type 0
Free = ℕ → Bool

abbrev pub without : Free → ℕ → Free
without free x y = free y && not (eq_by_cmp nat_cmp y x)

abbrev pub taken_all : List (Free → Option Free) → Free → Option Free
taken_all [] free = Some free
taken_all (f ∷ fs) free = f free >>= taken_all fs

abbrev pub taken_step : PatForm-F (Free → Option Free) (Free → Option Free) → Free → Option Free
taken_step PatForm-F.Any free = Some free
taken_step (PatForm-F.Bind x) free = cond (free x) (Some (without free x)) None
taken_step (PatForm-F.Tuple ps) free = taken_all ps free

-- what is left after a pattern, where it may bind its numbers
unfoldable pub taken : Pat → Free → Option Free
taken = fold-Pat (Free → Option Free) (Free → Option Free) taken_step (λ p. p.form)

-- goes on with what is left
abbrev pub after : Option Free → (Free → Bool) → Bool
after None p = false
after (Some free) p = p free

abbrev pub clean_step : ProcForm-F (Free → Bool) (Free → Bool) → Free → Bool
clean_step ProcForm-F.Stop free = true
clean_step (ProcForm-F.Par p q) free = p free && q free
clean_step (ProcForm-F.New x ty p) free = free x && p (without free x)
clean_step (ProcForm-F.Out c e) free = true
clean_step (ProcForm-F.Inp c x p) free = after (taken x free) p
clean_step (ProcForm-F.Rep c x p) free = after (taken x free) p
clean_step (ProcForm-F.Agent b p q) free = free b && (p (without free b) && q (without free b))
clean_step (ProcForm-F.Migrate e p) free = p free
clean_step (ProcForm-F.IfLocal b c e p q) free = p free && q free
clean_step (ProcForm-F.Send b s c e) free = true
clean_step (ProcForm-F.Post b c e) free = true
clean_step (ProcForm-F.If e p q) free = p free && q free
clean_step (ProcForm-F.Let x e p) free = after (taken x free) p
clean_step (ProcForm-F.Print e) free = true
clean_step (ProcForm-F.Open e) free = true
clean_step (ProcForm-F.Lookup b m x p q) free = free x && (p (without free x) && q free)

unfoldable pub clean : Proc → Free → Bool
clean = fold-Proc (Free → Bool) (Free → Bool) clean_step (λ p. p.form)

abbrev pub Takes : Type 0
Takes = Free → Option Free

abbrev pub takens : PatForm-F PatForm Pat → PatForm-F Takes Takes
takens y = map-PatForm PatForm Pat Takes Takes (fold-PatForm Takes Takes taken_step (λ p. p.form)) taken y

pub taken-out : (p : Pat) → taken p ≡ taken_step (takens (out-PatForm p.form))
unfolding taken
taken-out p = fold_out-Pat Takes Takes taken_step (λ p. p.form) p ∙ fold_out-PatForm Takes Takes taken_step (λ p. p.form) p.form

abbrev pub Cleans : Type 0
Cleans = Free → Bool

abbrev pub cleans : Layer → ProcForm-F Cleans Cleans
cleans y = map-ProcForm ProcForm Proc Cleans Cleans (fold-ProcForm Cleans Cleans clean_step (λ p. p.form)) clean y

pub clean-out : (p : Proc) → clean p ≡ clean_step (cleans (layer p))
unfolding clean
clean-out p = fold_out-Proc Cleans Cleans clean_step (λ p. p.form) p ∙ fold_out-ProcForm Cleans Cleans clean_step (λ p. p.form) p.form
