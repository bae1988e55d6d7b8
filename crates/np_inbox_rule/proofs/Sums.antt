-- How many items an inbox holds, where of each sender few wait.
use Rattle.std.proofs.Common.{◌≡◌, ◌≢◌, ℕ, zero, suc, ◌+◌, ◌*◌, ◌<◌, ◌≤◌, inl, inr, cond, eqb, List, [], ◌∷◌, ◌++◌, length, refl, sym, ◌∙◌, ap, subst, arith, suc-mul}
use Rattle.std.proofs.lemmas.Bool.Decides.{eqb_tells}
use Rattle.site_links.specs.Words.{only_at}
use Rattle.site_links.proofs.Rows.{only_at-same, only_at-other}
use Rattle.np_inbox_rule.specs.Rule.{items_of}

module _ {I : Type 0} (sender : I → ℕ) where
  -- the items of all others
  abbrev others : ℕ → List I → List I
  others k [] = []
  others k (x ∷ xs) = cond (eqb k (sender x)) (others k xs) (x ∷ others k xs)

  counted : (k : ℕ) (xs : List I) → length xs ≡ length (items_of sender k xs) + length (others k xs)
  counted k [] = refl
  counted k (x ∷ xs) = elim (eqb_tells k (sender x)) [
    | inl h ↦ rw h.0 (omega (arith, counted k xs))
    | inr h ↦ rw h.0 (omega (arith, counted k xs))
  ]

  others-none : (k : ℕ) (xs : List I) → items_of sender k (others k xs) ≡ []
  others-none k [] = refl
  others-none k (x ∷ xs) = elim (eqb_tells k (sender x)) [
    | inl h ↦ rw h.0 (others-none k xs)
    | inr h ↦ rw (h.0, h.0) (others-none k xs)
  ]

  others-same : (k j : ℕ) (xs : List I) → j ≢ k → items_of sender j (others k xs) ≡ items_of sender j xs
  others-same k j [] n = refl
  others-same k j (x ∷ xs) n = elim (eqb_tells k (sender x)) [
    | inl h ↦ rw h.0 (others-same k j xs n ∙ sym (ap (λ l. l ++ items_of sender j xs) (only_at-other j (sender x) x (λ e. n (e ∙ sym h.1)))))
    | inr h ↦ rw h.0 (ap (λ l. only_at j (sender x) x ++ l) (others-same k j xs n))
  ]

  none-at-all : (xs : List I) → ((k : ℕ) → items_of sender k xs ≡ []) → length xs ≡ 0
  none-at-all [] h = refl
  none-at-all (x ∷ xs) h =
      let e : (x ∷ []) ++ items_of sender (sender x) xs ≡ [] = ap (λ l. l ++ items_of sender (sender x) xs) (sym (only_at-same (sender x) x)) ∙ h (sender x) in
      absurd (omega (arith, ap length e))

  -- the items of the other senders, where there are n + 1
  fewer : (n : ℕ) (xs : List I) → ((k : ℕ) → suc n ≤ k → items_of sender k xs ≡ []) → (k : ℕ) → n ≤ k → items_of sender k (others n xs) ≡ []
  fewer n xs h k le = elim (eqb_tells k n) [
    | inl e ↦ subst (λ (m : ℕ). items_of sender m (others n xs) ≡ []) (sym e.1) (others-none n xs)
    | inr e ↦ let ne = e.1 in others-same n k xs ne ∙ h k (omega arith)
  ]

  few-others : (n b : ℕ) (xs : List I) → ((k : ℕ) → length (items_of sender k xs) ≤ b) → (k : ℕ) → length (items_of sender k (others n xs)) ≤ b
  few-others n b xs h k = elim (eqb_tells k n) [
    | inl e ↦ subst (λ (m : ℕ). length (items_of sender m (others n xs)) ≤ b) (sym e.1) (rw (others-none n xs) (omega arith))
    | inr e ↦ rw (others-same n k xs e.1) (h k)
  ]

  pub at-most : (n b : ℕ) (xs : List I) → ((k : ℕ) → n ≤ k → items_of sender k xs ≡ []) → ((k : ℕ) → length (items_of sender k xs) ≤ b) → length xs ≤ n * b
  at-most zero b xs none few = omega (arith, none-at-all xs (λ k. none k (omega arith)))
  at-most (suc n) b xs none few =
      let rest : length (others n xs) ≤ n * b = at-most n b (others n xs) (fewer n xs none) (few-others n b xs few) in
      omega (arith, rest, few n, counted n xs, suc-mul n b)

  -- where of one sender fewer wait, fewer wait in all
  pub fewer-than : (n b s : ℕ) (xs : List I) → s < n → ((k : ℕ) → n ≤ k → items_of sender k xs ≡ []) → ((k : ℕ) → length (items_of sender k xs) ≤ b)
      → length (items_of sender s xs) < b → length xs < n * b
  fewer-than zero b s xs lt none few less = absurd (omega arith)
  fewer-than (suc n) b s xs lt none few less = elim (eqb_tells s n) [
    | inl e ↦
        let rest : length (others n xs) ≤ n * b = at-most n b (others n xs) (fewer n xs none) (few-others n b xs few) in
        let here : length (items_of sender n xs) < b = subst (λ (m : ℕ). length (items_of sender m xs) < b) e.1 less in
        omega (arith, rest, here, counted n xs, suc-mul n b)
    | inr e ↦
        let ne = e.1 in
        let same : length (items_of sender s (others n xs)) < b = rw (others-same n s xs ne) less in
        let rest : length (others n xs) < n * b = fewer-than n b s (others n xs) (omega arith) (fewer n xs none) (few-others n b xs few) same in
        omega (arith, rest, few n, counted n xs, suc-mul n b)
  ]
