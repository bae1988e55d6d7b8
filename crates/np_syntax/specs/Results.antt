-- A value or the first refusal, step by step: what a chain of steps that may fail gives.
use Rattle.std.specs.Prelude.{Result, Ok, Err, List, [], ◌∷◌}

infixl 10 ◌>>=◌
abbrev pub ◌>>=◌ : {A B E : Type 0} → Result A E → (A → Result B E) → Result B E
(Ok a) >>= f = f a
(Err e) >>= f = Err e

infixl 10 ◌>>◌
abbrev pub ◌>>◌ : {A B E : Type 0} → Result A E → Result B E → Result B E
o >> p = o >>= (λ _. p)

-- all of them in order, or the first refusal
abbrev pub all_ok : {A E : Type 0} → List (Result A E) → Result (List A) E
all_ok [] = Ok []
all_ok (c ∷ cs) = do
  a ← c
  rest ← all_ok cs
  Ok (a ∷ rest)
