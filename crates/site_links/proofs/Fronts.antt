-- What comes before the rest of a list, while the rest changes.
use Rattle.std.proofs.Common.{◌≡◌, ◌-◌, List, [], ◌∷◌, ◌++◌, length, sym, ◌∙◌, ap, subst, arith, append_assoc, length-append, Option, Some, None}
use Rattle.std.specs.Prelude.{option_to_list}
use Rattle.std.proofs.lemmas.List.{take_at}
use Rattle.site_links.specs.Fronts.{before}

module _ {T : Type 0} where
  pub before_is : (whole front rest : List T) → whole ≡ front ++ rest → before whole rest ≡ front
  before_is whole front rest e =
      subst (λ (w : List T). before w rest ≡ front) (sym e) (take_at front rest (length (front ++ rest) - length rest) (omega (arith, length-append front rest)))

  -- the first of the rest goes over to what comes before it
  one_less : (whole : List T) (item : T) (rest : List T) → before whole (item ∷ rest) ++ item ∷ rest ≡ whole → whole ≡ (before whole (item ∷ rest) ++ item ∷ []) ++ rest
  one_less whole item rest h = sym h ∙ sym (append_assoc (before whole (item ∷ rest)) (item ∷ []) rest)

  pub before_less : (whole : List T) (item : T) (rest : List T) → before whole (item ∷ rest) ++ item ∷ rest ≡ whole → before whole rest ≡ before whole (item ∷ rest) ++ item ∷ []
  before_less whole item rest h = before_is whole (before whole (item ∷ rest) ++ item ∷ []) rest (one_less whole item rest h)

  pub left_less : (whole : List T) (item : T) (rest : List T) → before whole (item ∷ rest) ++ item ∷ rest ≡ whole → before whole rest ++ rest ≡ whole
  left_less whole item rest h = ap (λ front. front ++ rest) (before_less whole item rest h) ∙ sym (one_less whole item rest h)

  pub before_popped : (whole rest : List T) (item : T) (after : List T) → rest ≡ item ∷ after → before whole rest ++ rest ≡ whole → before whole after ≡ before whole rest ++ item ∷ []
  before_popped whole rest item after e h =
      subst (λ (r : List T). before whole after ≡ before whole r ++ item ∷ []) (sym e) (before_less whole item after (subst (λ (r : List T). before whole r ++ r ≡ whole) e h))

  pub left_popped : (whole rest : List T) (first : Option T) (after : List T) → rest ≡ option_to_list first ++ after → before whole rest ++ rest ≡ whole → before whole after ++ after ≡ whole
  left_popped whole rest None after e h = subst (λ (r : List T). before whole r ++ r ≡ whole) e h
  left_popped whole rest (Some item) after e h = left_less whole item after (subst (λ (r : List T). before whole r ++ r ≡ whole) e h)
