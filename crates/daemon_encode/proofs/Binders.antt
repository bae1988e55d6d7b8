-- Lists of binders: what is among the first or the later ones, and bounds and distinctness of each part.
use Rattle.std.proofs.Common.{◌<◌, inl, inr, ℕ, List, [], ◌∷◌, ◌++◌, subst, sym}
use Rattle.np_scope.specs.Sound.{Among, AllBelow, NoneTwice}

pub among-below : (n : ℕ) (xs : List ℕ) → AllBelow n xs → (x : ℕ) → Among x xs → x < n
among-below n [] b x m = absurd m
among-below n (y ∷ ys) b x (inl e) = subst (λ z. z < n) (sym e) b.0
among-below n (y ∷ ys) b x (inr m) = among-below n ys b.1 x m

pub among-first : (x : ℕ) (xs ys : List ℕ) → Among x xs → Among x (xs ++ ys)
among-first x [] ys m = absurd m
among-first x (z ∷ zs) ys (inl e) = inl e
among-first x (z ∷ zs) ys (inr m) = inr (among-first x zs ys m)

pub among-second : (x : ℕ) (xs ys : List ℕ) → Among x ys → Among x (xs ++ ys)
among-second x [] ys m = m
among-second x (z ∷ zs) ys m = inr (among-second x zs ys m)

pub once-first : (xs ys : List ℕ) → NoneTwice (xs ++ ys) → NoneTwice xs
once-first [] ys h = tt
once-first (x ∷ xs) ys h = ((λ m. h.0 (among-first x xs ys m)), once-first xs ys h.1)

pub once-second : (xs ys : List ℕ) → NoneTwice (xs ++ ys) → NoneTwice ys
once-second [] ys h = h
once-second (x ∷ xs) ys h = once-second xs ys h.1

pub below-first : (n : ℕ) (xs ys : List ℕ) → AllBelow n (xs ++ ys) → AllBelow n xs
below-first n [] ys h = tt
below-first n (x ∷ xs) ys h = (h.0, below-first n xs ys h.1)

pub below-second : (n : ℕ) (xs ys : List ℕ) → AllBelow n (xs ++ ys) → AllBelow n ys
below-second n [] ys h = h
below-second n (x ∷ xs) ys h = below-second n xs ys h.1
