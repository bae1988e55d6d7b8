-- Lists of events are lifted event by event.
use Rattle.std.proofs.Common.{◌≡◌, Option, None, Some, List, [], ◌∷◌, ◌++◌, refl, ap, ◌∙◌}
use Rattle.std.specs.List.{filter_map}
use Rattle.np_syntax.specs.declared.process.Role.TheVariants as role
use Rattle.np_syntax.specs.declared.event.Event.{Event}
use Rattle.np_syntax.specs.declared.event.Kind.{Kind}
use Rattle.np_syntax.specs.declared.event.Kind.TheVariants as kind
use Rattle.np_lift.specs.Lift.{lifted, lifted_by}
use Rattle.np_lift.specs.Laws.{LiftedByTable, LiftOfParts}

other_kind : (k : Kind) (e : Event) → (k ≡ kind.Send → ⊥) → (k ≡ kind.Land → ⊥) → lifted_by role.Post k e ≡ Some e
other_kind kind.Send e s l = absurd (s refl)
other_kind kind.Land e s l = absurd (l refl)
other_kind _ e s l = refl

pub lifted-by-table : LiftedByTable
lifted-by-table = record {
  infra = λ e r. ap (λ s. lifted_by s e.kind e) r;
  post = λ e r k. ap (λ s. lifted_by s e.kind e) r ∙ ap (λ s. lifted_by role.Post s e) k;
  landing = λ e r k. ap (λ s. lifted_by s e.kind e) r ∙ ap (λ s. lifted_by role.Post s e) k;
  plain = λ e r. ap (λ s. lifted_by s e.kind e) r;
  other = λ e r s l. ap (λ s. lifted_by s e.kind e) r ∙ other_kind e.kind e s l;
}

module _ {A B : Type 0} (f : A → Option B) where
  one_more : (o : Option B) (xs ys zs : List A) → filter_map f zs ≡ filter_map f xs ++ filter_map f ys → (x : A) → f x ≡ o → filter_map f (x ∷ zs) ≡ filter_map f (x ∷ xs) ++ filter_map f ys
  one_more None xs ys zs h x e = rw e h
  one_more (Some y) xs ys zs h x e = rw e (ap (λ l. y ∷ l) h)

  pub filter-append : (xs ys : List A) → filter_map f (xs ++ ys) ≡ filter_map f xs ++ filter_map f ys
  filter-append [] ys = refl
  filter-append (x ∷ xs) ys = one_more (f x) xs ys (xs ++ ys) (filter-append xs ys) x refl

pub lift-of-parts : LiftOfParts
lift-of-parts h k = filter-append lifted h k
