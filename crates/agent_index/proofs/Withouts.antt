-- A list without the first place of a mark, found by a walk, and how often marks stand in it.
use Rattle.std.proofs.Common.{◌≡◌, ◌<◌, ◌+◌, ℕ, suc, Bool, true, false, cond, List, [], ◌∷◌, ◌++◌, length, get_or, take, drop, refl, sym, ap, ◌∙◌, arith}
use Rattle.std.specs.List.{remove}
use Rattle.std.proofs.lemmas.List.{drop_more}
use Rattle.std.proofs.lemmas.List.Sums.{sum_by-cons, sum_by_push}
use Rattle.np_syntax.specs.declared.value.Name.{Name}
use Rattle.np_tables.specs.Names.{same_name}
use Rattle.np_tables.proofs.Tables.{same_name-is, same_name-swap}
use Rattle.agent_index.specs.InStep.{one}
use Rattle.agent_index.specs.Lines.{times, without}

-- the mark is not among the first of the list, so what is left without it begins with them
pub record Passed (xs : List Name) (mark : Name) (at : ℕ) : Type 0 where
  pub is : without xs mark ≡ take at xs ++ without (drop at xs) mark

module _ (xs : List Name) (mark x : Name) (at : ℕ) (within : at < length xs) (is : x ≡ get_or xs at x) (passed : Passed xs mark at) where
  here : drop at xs ≡ x ∷ drop (at + 1) xs
  here = drop_more xs at x within ∙ ap (λ y. y ∷ drop (at + 1) xs) (sym is)

  cut_here : (t : Bool) → same_name x mark ≡ t → without xs mark ≡ take at xs ++ cond t (drop (at + 1) xs) (x ∷ without (drop (at + 1) xs) mark)
  cut_here t h = passed.is ∙ ap (λ ys. take at xs ++ without ys mark) here ∙ ap (λ s. take at xs ++ cond s (drop (at + 1) xs) (x ∷ without (drop (at + 1) xs) mark)) h

  pub found-here : same_name x mark ≡ true → remove xs at ≡ without xs mark
  found-here h = let next : suc at ≡ at + 1 = omega arith in ap (λ n. take at xs ++ drop n xs) next ∙ sym (cut_here true h)

-- ---- how often marks stand there

pub times-cons : (q x : Name) (xs : List Name) → times q (x ∷ xs) ≡ one (same_name q x) + times q xs
times-cons q x xs = sum_by-cons (λ y. one (same_name q y)) x xs

pub times-more : (q x : Name) (xs : List Name) → times q (xs ++ x ∷ []) ≡ times q xs + one (same_name q x)
times-more q x xs = sum_by_push (λ y. one (same_name q y)) xs x

-- another mark stands in the list as often as before
pub times-without : (q m : Name) (xs : List Name) → same_name q m ≡ false → times q (without xs m) ≡ times q xs
times-without q m [] h = refl
times-without q m (x ∷ xs) h = by (same_name x m) refl (times-without q m xs h)
  where
    by : (t : Bool) → same_name x m ≡ t → times q (without xs m) ≡ times q xs → times q (cond t xs (x ∷ without xs m)) ≡ times q (x ∷ xs)
    by true is rec = sym (times-cons q x xs ∙ ap (λ s. one s + times q xs) (ap (same_name q) (same_name-is x m is) ∙ h) ∙ omega arith)
    by false is rec = times-cons q x (without xs m) ∙ ap (λ n. one (same_name q x) + n) rec ∙ sym (times-cons q x xs)

-- a mark that stands there once does not stand there without its place
pub times-once : (m : Name) (xs : List Name) → times m xs ≡ 1 → times m (without xs m) ≡ 0
times-once m [] h = refl
times-once m (x ∷ xs) h = by (same_name x m) refl (times-once m xs)
  where
    turned : (t : Bool) → same_name x m ≡ t → one t + times m xs ≡ 1
    turned t is = ap (λ s. one s + times m xs) (sym (same_name-swap m x ∙ is)) ∙ sym (times-cons m x xs) ∙ h

    by : (t : Bool) → same_name x m ≡ t → (times m xs ≡ 1 → times m (without xs m) ≡ 0) → times m (cond t xs (x ∷ without xs m)) ≡ 0
    by true is rec = let e = turned true is in omega (arith, e)
    by false is rec =
        let e = turned false is in
        times-cons m x (without xs m) ∙ ap (λ s. one s + times m (without xs m)) (same_name-swap m x ∙ is) ∙ ap (λ n. 0 + n) (rec (omega (arith, e))) ∙ omega arith
