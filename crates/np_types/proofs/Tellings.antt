-- Answers of checks in code, step by step.
use Rattle.std.proofs.Common.{◌≡◌, ℕ, Bool, Result, Ok, Err, IsErr, IsErrAnd, refl, sym, subst}
use Rattle.np_types.specs.declared.fault.Rule.{Rule}
use Rattle.np_types.specs.declared.fault.LeastFail.{LeastFail}
use Rattle.np_types.specs.declared.fault.LeastFail.TheVariants as fail
use Rattle.np_syntax.specs.Results.{◌>>=◌, ◌>>◌}
use Rattle.np_types.specs.Checks.{Check, ensure}
use Rattle.np_types.specs.Least.{Types}
use Rattle.np_types.specs.Told.{Failed, Told, ToldTypes}

-- what a `?` hands on
pub handed_on : {A : Type 0} (r : Result A LeastFail) (e : LeastFail) (o : Check A) → IsErr r × IsErrAnd r (λ y. y ≡ e) → Failed e o → Told r o
handed_on (Ok a) e o h f = absurd h.1
handed_on (Err y) e o h f = subst (λ (x : LeastFail). Failed x o) (sym h.1) f

pub handed_types : {A : Type 0} (r : Result A LeastFail) (e : LeastFail) (env : Types) (o : Check Types) → IsErr r × IsErrAnd r (λ y. y ≡ e) → Failed e o → ToldTypes r env o
handed_types (Ok a) e env o h f = absurd h.1
handed_types (Err y) e env o h f = subst (λ (x : LeastFail). Failed x o) (sym h.1) f

-- a test by another name
pub told_as : (r : Result (Unit {0}) LeastFail) (b c : Bool) (at : ℕ) (rule : Rule) → b ≡ c → Told r (ensure b at rule) → Told r (ensure c at rule)
told_as r b c at rule p h = subst (λ (x : Bool). Told r (ensure x at rule)) p h

module _ {A B : Type 0} where
  -- a first step that fails
  pub failed_then : (e : LeastFail) (o : Check A) (next : A → Check B) → Failed e o → Failed e (o >>= next)
  failed_then (fail.Fault f) o next h = rw h refl
  failed_then fail.Memory o next h = tt

  -- a check whose value has to meet a test, and what follows it
  abbrev pub asked : Check A → (A → Bool) → ℕ → Rule → (A → Check B) → Check B
  asked o test at r next = o >>= λ a. ensure (test a) at r >> next a

  pub met : (r : Result B LeastFail) (o : Check A) (a : A) (test : A → Bool) (at : ℕ) (rule : Rule) (next : A → Check B) → o ≡ Ok a → ensure (test a) at rule ≡ Ok tt → Told r (next a) → Told r (asked o test at rule next)
  met r o a test at rule next h g t = subst (λ (c : Check A). Told r (asked c test at rule next)) (sym h) (subst (λ (c : Check (Unit {0})). Told r (c >>= λ _. next a)) (sym g) t)
