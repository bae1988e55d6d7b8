-- One draw more of a generator, and one event more that it makes.
use Rattle.std.proofs.Common.{◌≡◌, ℕ, zero, suc, ◌+◌, List, [], ◌∷◌, ◌++◌, Some, refl, sym, ap, subst, ◌∙◌, arith}
use Rattle.std.proofs.lemmas.List.{append-nil, append_assoc}
use Rattle.np_syntax.specs.declared.event.Event.{Event}
use Rattle.np_syntax.proofs.Options.{done, then}
use Rattle.np_calculus.specs.Config.{Config}
use Rattle.np_calculus.specs.Reductions.{apply, run}
use Rattle.run_choices.specs.declared.choice.Draw.{Draw}
use Rattle.run_choices.specs.Draws.{behind, drawn, draws}
use Rattle.run_choices.specs.Made.{AreMade}
use Rattle.run_choices.proofs.Runs.{same-next}

module _ {G : Type 0} (step : G → ℕ × G) where
  draws-more : (g : G) (n : ℕ) → draws step g (suc n) ≡ draws step g n ++ (drawn step (behind step g n)).0 ∷ []
  draws-more g zero = refl
  draws-more g (suc n) = ap (λ ds. (drawn step g).0 ∷ ds) (draws-more (drawn step g).1 n)

  behind-more : (g : G) (n : ℕ) → behind step g (suc n) ≡ (drawn step (behind step g n)).1
  behind-more g zero = refl
  behind-more g (suc n) = behind-more (drawn step g).1 n

  next-suc : (n : ℕ) → n + 1 ≡ suc n
  next-suc n = omega arith

  draws-next : (g : G) (n : ℕ) → draws step g (n + 1) ≡ draws step g n ++ (drawn step (behind step g n)).0 ∷ []
  draws-next g n = ap (draws step g) (next-suc n) ∙ draws-more g n

  behind-next : (g : G) (n : ℕ) → behind step g (n + 1) ≡ (drawn step (behind step g n)).1
  behind-next g n = ap (behind step g) (next-suc n) ∙ behind-more g n

module _ (Makes : List Event → Config → Draw → Event → Type 0) (draw : Draw) (e : Event) where
  made-more : (made : List Event) (c last : Config) (ds : List Draw) (es : List Event) → AreMade Makes made c ds es → run c es ≡ Some last
      → Makes (made ++ es) last draw e → AreMade Makes made c (ds ++ draw ∷ []) (es ++ e ∷ [])
  made-more made c last [] [] all reaches is =
      let same : c ≡ last = sym (done reaches) in (
        subst (λ (x : Config). Makes made x draw e) (sym same) (subst (λ (xs : List Event). Makes xs last draw e) (append-nil made) is),
        λ next applies. tt,
      )
  made-more made c last (d ∷ ds) (x ∷ es) all reaches is = (
    all.0,
    λ next applies. then (apply c x) (λ y. run y es) reaches λ other leads rest.
        let same : next ≡ other = same-next c next other x applies leads in
        made-more (made ++ x ∷ []) next last ds es (all.1 next applies) (subst (λ (y : Config). run y es ≡ Some last) (sym same) rest)
        (subst (λ (xs : List Event). Makes xs last draw e) (sym (append_assoc made (x ∷ []) es)) is),
  )
  made-more made c last [] (x ∷ es) all reaches is = absurd all
  made-more made c last (d ∷ ds) [] all reaches is = absurd all

-- the next draw of a generator that has drawn so many, and the event that is made of it
module _ {G : Type 0} (step : G → ℕ × G) (g : G) (n : ℕ) (words after : G) (draw : Draw) (are : words ≡ behind step g n)
    (next : (draw, after) ≡ drawn step words) where
  pair : drawn step (behind step g n) ≡ (draw, after)
  pair = ap (drawn step) (sym are) ∙ sym next

  pub words-next : after ≡ behind step g (n + 1)
  words-next = sym (ap (λ (p : Draw × G). p.1) pair) ∙ sym (behind-next step g n)

  pub made-next : (Makes : List Event → Config → Draw → Event → Type 0) (start last : Config) (e : Event) (es all : List Event)
      → AreMade Makes [] start (draws step g n) es → run start es ≡ Some last → Makes es last draw e → all ≡ es ++ e ∷ []
      → AreMade Makes [] start (draws step g (n + 1)) all
  made-next Makes start last e es all made reaches is noted =
      let drew : draws step g n ++ draw ∷ [] ≡ draws step g (n + 1) =
      ap (λ (d : Draw). draws step g n ++ d ∷ []) (sym (ap (λ (p : Draw × G). p.0) pair)) ∙ sym (draws-next step g n) in
      subst (λ (xs : List Event). AreMade Makes [] start (draws step g (n + 1)) xs) (sym noted)
      (subst (λ (ds : List Draw). AreMade Makes [] start ds (es ++ e ∷ [])) drew (made-more Makes draw e [] start last (draws step g n) es made reaches is))
