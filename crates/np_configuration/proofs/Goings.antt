-- Where nothing is under way, a site can act exactly where some atom goes on.
use Rattle.std.proofs.Common.{◌≡◌, ℕ, ◌<◌, ◌⊎◌, inl, inr, get_or, List, length, Some, IsSome, sym, ap, subst, ◌∙◌}
use Rattle.std.specs.FinMap as map
use Rattle.np_configuration.proofs.Common.{Name, Meeting, NameMap, Covers, Atom, Place, errand_of, GivesAt, MayAct}
use Rattle.np_tables.specs.declared.errand.Errand.TheVariants as errand
use Rattle.np_configuration.specs.Going.{AnyGives}

-- what does not hold of the first so many names of a table that covers a map holds of no name of the map
pub none_covered : {X : Type 0} (P : Name → Type 0) (m : NameMap X) (keys : List Name) → Covers m keys
    → ((k : ℕ) (d : Name) → k < length keys → P (get_or keys k d) → ⊥) → (mark : Name) (x : X) → map.get m mark ≡ Some x → P mark → ⊥
none_covered P m keys covers none mark x there p =
    let s = covers mark x there in
    none s.index mark s.within (subst P (sym (s.is mark)) p)

module _ (atoms : NameMap Atom) (mark : Name) where
  pub gives-is : (meeting : Meeting) (a : Atom) → map.get atoms mark ≡ Some a → GivesAt atoms meeting mark → errand_of a ≡ errand.Gives meeting
  gives-is meeting a there g = let same : g.atom ≡ a = (let e = sym g.there ∙ there in cc) in ap errand_of (sym same) ∙ g.gives

  module _ (places : NameMap Place) where
    module _ (a : Atom) (there : map.get atoms mark ≡ Some a) where
      same : (g : MayAct atoms places mark) → g.atom ≡ a
      same g = let e = sym g.there ∙ there in cc

      -- what its errand is decides
      pub goes-as : (MayAct atoms places mark) → (errand_of a ≡ errand.Acts) ⊎ ((meeting : Meeting) × (errand_of a ≡ errand.Takes meeting) × AnyGives atoms meeting)
      goes-as g = subst (λ (b : Atom). (errand_of b ≡ errand.Acts) ⊎ ((meeting : Meeting) × (errand_of b ≡ errand.Takes meeting) × AnyGives atoms meeting)) (same g) g.goes

      pub acts-goes : IsSome (map.get places a.agent) → errand_of a ≡ errand.Acts → MayAct atoms places mark
      acts-goes housed e = record { atom = a; there = there; housed = housed; goes = inl e }

      pub takes-goes : IsSome (map.get places a.agent) → (meeting : Meeting) → errand_of a ≡ errand.Takes meeting → AnyGives atoms meeting → MayAct atoms places mark
      takes-goes housed meeting e given = record { atom = a; there = there; housed = housed; goes = inr (meeting, e, given) }

      pub goes-takes : (meeting : Meeting) → errand_of a ≡ errand.Takes meeting → MayAct atoms places mark → AnyGives atoms meeting
      goes-takes meeting e g = elim (goes-as g) [
        | inl acts ↦ absurd (let x = sym e ∙ acts in cc)
        | inr takes ↦ let is : takes.0 ≡ meeting = (let x = sym takes.1 ∙ e in cc) in subst (AnyGives atoms) is takes.2
      ]
