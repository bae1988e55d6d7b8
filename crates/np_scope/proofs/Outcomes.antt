-- What holds of an outcome, where it is no refusal.
use Rattle.std.proofs.Common.{◌≡◌, Ok, Err, refl, sym, subst, ap}
use Rattle.np_scope.specs.declared.fail.ScopeFail.{ScopeFail}
use Rattle.np_syntax.specs.Results.{◌>>=◌}
use Rattle.np_scope.specs.Outcomes.{Outcome}

pub record All {A : Type 0} (P : A → Type 0) (o : Outcome A) : Type 0 where
  pub each : (a : A) → o ≡ Ok a → P a

abbrev got : {A : Type 0} → A → Outcome A → A
got d (Ok a) = a
got d (Err e) = d

pub done : {A : Type 0} {P : A → Type 0} {a : A} → P a → All P (Ok a)
done {A} {P} {a} h = record { each = λ b is. subst P (ap (got a) is) h }

pub refused : {A : Type 0} {P : A → Type 0} (e : ScopeFail) → All P (Err e)
refused e = record { each = λ b is. absurd cc }

pub moved : {A : Type 0} {P : A → Type 0} {o new : Outcome A} → new ≡ o → All P o → All P new
moved {A} {P} is h = subst (All P) (sym is) h

pub and_then : {A B : Type 0} {P : A → Type 0} {Q : B → Type 0} {f : A → Outcome B} (o : Outcome A) → All P o → ((a : A) → P a → All Q (f a)) → All Q (o >>= f)
and_then (Ok a) h g = g a (h.each a refl)
and_then (Err e) h g = refused e
