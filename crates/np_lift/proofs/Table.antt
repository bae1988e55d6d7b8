-- What becomes of an event, case by case.
use Rattle.std.proofs.Common.{◌≡◌, Bool, true, false, refl, ap, sym, ◌∙◌}
use Rattle.std.specs.FinSet as set
use Rattle.np_syntax.specs.declared.process.Role.{Role}
use Rattle.np_syntax.specs.declared.process.Role.TheVariants as role
use Rattle.np_syntax.specs.declared.event.Event.{Event}
use Rattle.np_syntax.specs.declared.event.Kind.{Kind}
use Rattle.np_syntax.specs.declared.event.Kind.TheVariants as kind
use Rattle.np_syntax.specs.declared.event.Made.{Made}
use Rattle.np_syntax.specs.declared.event.Made.TheVariants as made
use Rattle.np_lift.specs.CachedLift.{Standing, Lifted, is_dropped, lifted, lifted_by, renamed}
use Rattle.np_lift.specs.CachedLaws.{LiftedByTable, adds_mark, becomes, nothing}

module _ (s : Standing) (e : Event) where
  abbrev by : Role → Kind → Made → Bool → Lifted
  by r k names of_messenger = lifted_by r k names (is_dropped r k of_messenger) s e

  infra-by : (k : Kind) (names : Made) (b : Bool) → adds_mark role.Infra k names ≡ false → by role.Infra k names b ≡ nothing s
  infra-by kind.Local (made.One m) b h = absurd cc
  infra-by _ _ b h = refl

  arrival-by : (r : Role) (names : Made) → by r kind.Arrive names true ≡ nothing s
  arrival-by role.Infra names = refl
  arrival-by role.Post names = refl
  arrival-by role.Plain names = refl

  plain-by : (k : Kind) (names : Made) (b : Bool) → (k ≡ kind.Arrive → b ≡ false) → by role.Plain k names b ≡ becomes s (renamed s e)
  plain-by kind.Arrive names b h = ap (by role.Plain kind.Arrive names) (h refl)
  plain-by _ names b h = refl

  other-by : (k : Kind) (names : Made) (b : Bool) → adds_mark role.Post k names ≡ false → (k ≡ kind.Send → ⊥) → (k ≡ kind.Land → ⊥) → (k ≡ kind.Arrive → b ≡ false)
      → by role.Post k names b ≡ becomes s (renamed s e)
  other-by kind.Agent (made.Two t m) b h n l f = absurd cc
  other-by kind.Send names b h n l f = absurd (n refl)
  other-by kind.Land names b h n l f = absurd (l refl)
  other-by kind.Arrive names b h n l f = ap (by role.Post kind.Arrive names) (f refl)
  other-by _ _ b h n l f = refl

  abbrev b : Bool
  b = set.contains s.messengers e.actor

  -- it is told by the role, by the kind and by the names made
  role-is : (r : Role) → e.tag.role ≡ r → lifted s e ≡ by r e.kind e.made b
  role-is r is = ap (λ r. by r e.kind e.made b) is

  kind-is : (r : Role) (k : Kind) → e.tag.role ≡ r → e.kind ≡ k → lifted s e ≡ by r k e.made b
  kind-is r k is has = role-is r is ∙ ap (λ k. by r k e.made b) has

  made-is : (r : Role) (k : Kind) (names : Made) → e.tag.role ≡ r → e.kind ≡ k → e.made ≡ names → lifted s e ≡ by r k names b
  made-is r k names is has makes = kind-is r k is has ∙ ap (λ names. by r k names b) makes

pub lifted-by-table : LiftedByTable
lifted-by-table = record {
  messenger = λ s e t m is has makes. made-is s e role.Post kind.Agent (made.Two t m) is has makes;
  found = λ s e m is has makes. made-is s e role.Infra kind.Local (made.One m) is has makes;
  sent = λ s e is has. kind-is s e role.Post kind.Send is has;
  landing = λ s e is has. kind-is s e role.Post kind.Land is has;
  infra = λ s e is none. role-is s e role.Infra is ∙ infra-by s e e.kind e.made (b s e) (ap (λ r. adds_mark r e.kind e.made) (sym is) ∙ none);
  arrival = λ s e has among. kind-is s e e.tag.role kind.Arrive refl has ∙ ap (by s e e.tag.role kind.Arrive e.made) among ∙ arrival-by s e e.tag.role e.made;
  plain = λ s e is far. role-is s e role.Plain is ∙ plain-by s e e.kind e.made (b s e) far;
  other = λ s e is none send land far. role-is s e role.Post is ∙ other-by s e e.kind e.made (b s e) (ap (λ r. adds_mark r e.kind e.made) (sym is) ∙ none) send land far;
}
