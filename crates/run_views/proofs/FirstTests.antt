-- The first location test of a process, by its parts.
use Rattle.std.proofs.Common.{◌≡◌, ℕ, List, [], ◌∷◌, ◌++◌, None, Some, slice_get, refl, sym}
use Rattle.run_views.proofs.TestParts.{par-tests, agent-tests, if-tests, lookup-tests, new-tests, inp-tests, rep-tests, migrate-tests, let-tests}
use Rattle.run_views.proofs.TestParts.{stop-tests, out-tests, post-tests, print-tests, open-tests, send-tests, local-tests}

-- where the first list has a first element, that is the first of both
pub first-front : (xs ys : List ℕ) (at : ℕ) → Some at ≡ slice_get xs 0 → slice_get (xs ++ ys) 0 ≡ Some at
first-front [] ys at h = cc
first-front (x ∷ xs) ys at h = sym h

-- and else the first of the second
pub first-back : (xs ys : List ℕ) → None ≡ slice_get xs 0 → slice_get (xs ++ ys) 0 ≡ slice_get ys 0
first-back [] ys h = refl
first-back (x ∷ xs) ys h = cc

pub ruleset firsts = (first-front, first-back, par-tests, agent-tests, if-tests, lookup-tests, new-tests, inp-tests, rep-tests, migrate-tests, let-tests, stop-tests, out-tests, post-tests, print-tests, open-tests, send-tests, local-tests)
