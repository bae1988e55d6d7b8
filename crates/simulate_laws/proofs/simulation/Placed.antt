-- The letter of each post of a run that was not handed over is in its one place.
use Rattle.std.proofs.Common.{ℕ, None, inl, inr, sym, ap, subst, ◌∙◌}
use Rattle.std.specs.FinSet as set
use Rattle.np_syntax.specs.declared.value.Name.{Name}
use Rattle.np_lift.specs.Posts.{Letter}
use Rattle.np_lift.proofs.Standings.{stands-itself}
use Rattle.np_lift.proofs.WithoutMessengers.{standing-without-messengers}
use Rattle.np_calculus.specs.Config.{Config}
use Rattle.infrastructure_texts.specs.Infrastructures.{Infrastructure}
use Rattle.simulate_laws.specs.levels.Coupled.{Coupled, View}
use Rattle.simulate_laws.specs.simulation.HeldLetters.{HasOnePlace, IsPlace}
use Rattle.simulate_laws.specs.simulation.PostLaws.{CachedLettersHaveOnePlace, LettersHaveOnePlace}
use Rattle.simulate_laws.specs.simulation.UnderWay.{left_by}
use Rattle.simulate_laws.proofs.simulation.Central.{none-added}
use Rattle.simulate_laws.proofs.simulation.Held.{place}
use Rattle.simulate_laws.proofs.simulation.Holding.{Apart, Holders, not-spent}
use Rattle.simulate_laws.proofs.simulation.Posts.{its-deeds, one-left, turns}
use Rattle.simulate_laws.proofs.simulation.Under.{HasOne}

-- of two marks that stand for one mark, and of which one has its letter, the other is spent
one-place : {i : Infrastructure} {n from first : ℕ} {low high : Config} {v : View} → Coupled i n from first low high v → Holders n low v → Apart low v
    → (k : Name) (l : Letter) → HasOne v k l → HasOnePlace low v.standing k l
one-place {low = low} {v = v} c holders apart k l one = record {
  at = one.at;
  stands = one.stands;
  holds = subst (λ l. IsPlace low v.standing.messengers l one.at) one.same (place c one.at one.posted one.is (holders one.at one.posted one.is));
  alone = λ m is far. elim (apart m one.at far (is ∙ sym one.stands)) [
    | inl spent ↦ spent
    | inr spent ↦ absurd (not-spent c one.at one.posted one.is spent)
  ];
}

pub cached-letters-have-one-place : CachedLettersHaveOnePlace
cached-letters-have-one-place p q low accepted events c h mark l left =
    let t = turns p q low accepted events c h in
    let its = t.1 mark in
    subst (λ s. HasOnePlace c s mark l) t.0.stand (one-place t.0.coupled t.2 t.3 mark l (one-left t.0.view mark _ its.0 its.1 its.2 l left))

pub letters-have-one-place : LettersHaveOnePlace
letters-have-one-place p q low accepted events c h mark l left =
    let t = turns p q low accepted events c h in
    let its = t.1 mark in
    let stand = t.0.stand ∙ standing-without-messengers events (none-added p q low accepted events c h) in
    let left_from = ap (left_by None) (its-deeds p q low accepted events c h mark) ∙ left in
    let one = one-left t.0.view mark _ its.0 its.1 its.2 l left_from in
    let at = subst (λ s. HasOnePlace c s mark l) stand (one-place t.0.coupled t.2 t.3 mark l one) in
    subst (IsPlace c set.empty l) (sym (stands-itself at.at) ∙ at.stands) at.holds
