-- Where no mark comes to stand for another, the list is that of the infrastructure without caches.
use Rattle.std.proofs.Common.{◌≡◌, false, Option, None, Some, List, [], ◌∷◌, refl, ap, ◌∙◌}
use Rattle.std.specs.List.{All}
use Rattle.std.specs.Option.{option_map}
use Rattle.std.proofs.lemmas.List.Elements.{All-head, All-tail}
use Rattle.np_syntax.specs.declared.value.Name.{Name}
use Rattle.np_syntax.specs.declared.process.Role.{Role}
use Rattle.np_syntax.specs.declared.process.Role.TheVariants as role
use Rattle.np_syntax.specs.declared.event.Event.{Event}
use Rattle.np_syntax.specs.declared.event.Kind.{Kind}
use Rattle.np_syntax.specs.declared.event.Kind.TheVariants as kind
use Rattle.np_syntax.specs.declared.event.Made.{Made}
use Rattle.np_syntax.specs.declared.event.Made.TheVariants as made
use Rattle.np_tables.proofs.Tables.{contains-none}
use Rattle.np_lift.specs.Lift as plain
use Rattle.np_lift.specs.Posts.{prepended}
use Rattle.np_lift.specs.CachedLift.{Lifted, at_first, is_dropped, lift_from, lifted, lifted_by, posted, renamed, standing_after, stands_for}
use Rattle.np_lift.specs.CachedLaws.{AddsNoMark, LiftWithoutMessengers, adds_mark}
use Rattle.np_lift.proofs.Standings.{stands-itself}

same-other : (o : Option Name) → option_map (stands_for at_first) o ≡ o
same-other None = refl
same-other (Some mark) = ap Some (stands-itself mark)

same-event : (e : Event) → renamed at_first e ≡ e
same-event e = ap (λ m. record e { actor = m; other = option_map (stands_for at_first) e.other }) (stands-itself e.actor) ∙ ap (λ o. record e { other = o }) (same-other e.other)

same-post : (e : Event) → posted at_first e ≡ plain.posted e
same-post e = ap (λ m. record (plain.posted e) { actor = m }) (stands-itself e.actor)

abbrev alike : Option Event → Lifted
alike o = record { event = o; standing = at_first }

module _ (e : Event) where
  abbrev by : Role → Kind → Made → Lifted
  by r k names = lifted_by r k names (is_dropped r k false) at_first e

  -- event by event
  same-by : (r : Role) (k : Kind) (names : Made) → adds_mark r k names ≡ false → by r k names ≡ alike (plain.lifted_by r k e)
  same-by role.Post kind.Agent (made.Two t m) h = absurd cc
  same-by role.Infra kind.Local (made.One m) h = absurd cc
  same-by role.Post kind.Send names h = ap (λ p. alike (Some p)) (same-post e)
  same-by role.Post kind.Land names h = refl
  same-by role.Infra k names h = refl
  same-by role.Plain kind.Arrive names h = ap (λ p. alike (Some p)) (same-event e)
  same-by r k names h = ap (λ p. alike (Some p)) (same-event e)

  same-lifted : AddsNoMark e → lifted at_first e ≡ alike (plain.lifted e)
  same-lifted h =
      ap (λ b. lifted_by e.tag.role e.kind e.made (is_dropped e.tag.role e.kind b) at_first e) (contains-none e.actor) ∙ same-by e.tag.role e.kind e.made h

one-more : (o : Option Event) (e : Event) (h : List Event) → plain.lifted e ≡ o → prepended o (plain.lift h) ≡ plain.lift (e ∷ h)
one-more None e h is = rw is refl
one-more (Some x) e h is = rw is refl

pub lift-without-messengers : LiftWithoutMessengers
lift-without-messengers [] none = refl
lift-without-messengers (e ∷ h) none =
    ap (λ l. prepended l.event (lift_from l.standing h)) (same-lifted e (All-head AddsNoMark e h none))
    ∙ ap (prepended (plain.lifted e)) (lift-without-messengers h (All-tail AddsNoMark e h none)) ∙ one-more (plain.lifted e) e h refl

-- and each mark stands for itself after it
pub standing-without-messengers : (h : List Event) → All AddsNoMark h → standing_after at_first h ≡ at_first
standing-without-messengers [] none = refl
standing-without-messengers (e ∷ h) none =
    ap (λ l. standing_after l.standing h) (same-lifted e (All-head AddsNoMark e h none)) ∙ standing-without-messengers h (All-tail AddsNoMark e h none)
