-- Fronts of lists, and the items of one sender in a list.
use Rattle.std.proofs.Common.{◌≡◌, ℕ, ◌+◌, ◌<◌, ◌≤◌, Bool, true, false, cond, ltb, List, [], ◌∷◌, ◌++◌, length, refl, sym, ◌∙◌, ap, arith, length-append, append_assoc, ltb-true, ltb-false}
use Rattle.std.proofs.lemmas.List.{append-nil}
use Rattle.site_links.specs.Words.{Begins, only_at}
use Rattle.np_inbox_rule.specs.Rule.{items_of}
use Rattle.np_inbox_rule.specs.Steps.{longer}

module _ {T : Type 0} where
  pub begins-refl : (a : List T) → Begins a a
  begins-refl a = record { rest = []; is = sym (append-nil a) }

  pub begins-none : (a : List T) → Begins a []
  begins-none a = record { rest = a; is = refl }

  pub begins-more : (a f more : List T) → Begins a f → Begins (a ++ more) f
  begins-more a f more h = record { rest = h.rest ++ more; is = ap (λ l. l ++ more) h.is ∙ append_assoc f h.rest more }

  pub begins-trans : (a b c : List T) → Begins a b → Begins b c → Begins a c
  begins-trans a b c h k = record { rest = k.rest ++ h.rest; is = h.is ∙ (ap (λ l. l ++ h.rest) k.is ∙ append_assoc c k.rest h.rest) }

  pub begins-short : (a f : List T) → Begins a f → length f ≤ length a
  begins-short a f h = omega (arith, ap length h.is, length-append f h.rest)

  pub begins-joined : (a f r : List T) → a ≡ f ++ r → Begins a f
  begins-joined a f r e = record { rest = r; is = e }

  abbrev tail : List T → List T
  tail [] = []
  tail (x ∷ xs) = xs

  abbrev head : T → List T → T
  head d [] = d
  head d (x ∷ xs) = x

  both : (a b ra rb : List T) → a ++ ra ≡ b ++ rb → length b ≤ length a → Begins a b
  both a [] ra rb e h = record { rest = a; is = refl }
  both [] (y ∷ b) ra rb e h = absurd (omega arith)
  both (x ∷ a) (y ∷ b) ra rb e h =
      let t : Begins a b = both a b ra rb (ap tail e) (omega arith) in
      let first : x ≡ y = ap (head x) e in
      record { rest = t.rest; is = λ i. first i ∷ t.is i }

  -- of two fronts of a list the shorter begins the longer
  pub begins-both : (w a b : List T) → Begins w a → Begins w b → length b ≤ length a → Begins a b
  begins-both w a b h k s = both a b h.rest k.rest (sym h.is ∙ k.is) s

  -- a fact of the longer of two lists
  pub longer-is : (P : List T → Type 0) (a b : List T) → P a → P b → P (longer a b)
  longer-is P a b ha hb = by (ltb (length a) (length b))
    where
      by : (t : Bool) → P (cond t b a)
      by true = hb
      by false = ha

  longer-by : (a b : List T) (t : Bool) → ltb (length a) (length b) ≡ t → (length a ≤ length (cond t b a)) × (length b ≤ length (cond t b a))
  longer-by a b true e = let lt : length a < length b = ltb-true (length a) (length b) e in (omega arith, omega arith)
  longer-by a b false e = let le : length b ≤ length a = ltb-false (length a) (length b) e in (omega arith, omega arith)

  pub longer-first : (a b : List T) → length a ≤ length (longer a b)
  longer-first a b = (longer-by a b (ltb (length a) (length b)) refl).0

  pub longer-second : (a b : List T) → length b ≤ length (longer a b)
  longer-second a b = (longer-by a b (ltb (length a) (length b)) refl).1

module _ {I : Type 0} (sender : I → ℕ) where
  pub items-append : (k : ℕ) (xs ys : List I) → items_of sender k (xs ++ ys) ≡ items_of sender k xs ++ items_of sender k ys
  items-append k [] ys = refl
  items-append k (x ∷ xs) ys = ap (λ l. only_at k (sender x) x ++ l) (items-append k xs ys) ∙ sym (append_assoc (only_at k (sender x) x) (items_of sender k xs) (items_of sender k ys))

  pub items-snoc : (k : ℕ) (xs : List I) (x : I) → items_of sender k (xs ++ x ∷ []) ≡ items_of sender k xs ++ only_at k (sender x) x
  items-snoc k xs x = items-append k xs (x ∷ []) ∙ ap (λ l. items_of sender k xs ++ l) (append-nil (only_at k (sender x) x))
