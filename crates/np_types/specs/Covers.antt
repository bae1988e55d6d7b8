-- A pattern against a type (docs/LANGUAGE.md, "Types").
use Rattle.std.specs.Prelude.{Err, ℕ, Bool, true, false, Ok, List, [], ◌∷◌}
use Rattle.std.specs.FinMap as table
use Rattle.np_syntax.specs.declared.types.Ty.{Ty, out-Ty}
use Rattle.np_syntax.specs.declared.pattern.Pat.{Pat, fold-Pat}
use Rattle.np_syntax.specs.declared.pattern.PatForm.{PatForm, PatForm-F, fold-PatForm}
use Rattle.np_types.specs.declared.fault.Rule.TheVariants as rule
use Rattle.np_subtyping.specs.Sub.{as_tuple}
use Rattle.np_syntax.specs.Results.{◌>>=◌, ◌>>◌}
use Rattle.np_types.specs.Checks.{Check, ensure, want}
use Rattle.np_types.specs.Least.{Types}

-- what a pattern does to the types of binders at a type
abbrev pub Covering : Type 0
Covering = Ty → Types → Check Types

abbrev pub as_long : {A B : Type 0} → List A → List B → Bool
as_long [] [] = true
as_long [] (b ∷ bs) = false
as_long (a ∷ xs) [] = false
as_long (a ∷ xs) (b ∷ bs) = as_long xs bs

-- each component against its own
abbrev pub cover_each : List Covering → List Ty → ℕ → Types → Check Types
cover_each [] [] at env = Ok env
cover_each [] (t ∷ ts) at env = Err (record { at = at; rule = rule.Shape })
cover_each (p ∷ ps) [] at env = Err (record { at = at; rule = rule.Shape })
cover_each (p ∷ ps) (t ∷ ts) at env = p t env >>= cover_each ps ts at

abbrev pub cover_step : PatForm-F (ℕ → Covering) Covering → ℕ → Covering
cover_step PatForm-F.Any at t env = Ok env
cover_step (PatForm-F.Bind x) at t env = Ok (table.insert env x t)
cover_step (PatForm-F.Tuple ps) at t env = do
  ts ← want (as_tuple (out-Ty t)) at rule.Shape
  ensure (as_long ps ts) at rule.Shape
  cover_each ps ts at env

-- the types of binders with those that the pattern gives its names, or the first fault
unfoldable pub cover : Pat → Covering
cover = fold-Pat (ℕ → Covering) Covering cover_step (λ p. p.form p.at)

unfoldable pub cover_form : PatForm → ℕ → Covering
cover_form = fold-PatForm (ℕ → Covering) Covering cover_step (λ p. p.form p.at)

abbrev pub cover_all : List Pat → List Ty → ℕ → Types → Check Types
cover_all [] [] at env = Ok env
cover_all [] (t ∷ ts) at env = Err (record { at = at; rule = rule.Shape })
cover_all (p ∷ ps) [] at env = Err (record { at = at; rule = rule.Shape })
cover_all (p ∷ ps) (t ∷ ts) at env = cover p t env >>= cover_all ps ts at

-- each component of a tuple pattern against its component of a tuple type
abbrev pub cover_parts : List Pat → List Ty → ℕ → Types → Check Types
cover_parts ps ts at env = ensure (as_long ps ts) at rule.Shape >> cover_all ps ts at env
