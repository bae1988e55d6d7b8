-- Where no mark comes to stand for another, the deeds are those of the infrastructure without caches.
use Rattle.std.proofs.Common.{◌≡◌, false, Option, None, Some, List, [], ◌∷◌, refl, ap, ◌∙◌}
use Rattle.std.specs.List.{All}
use Rattle.std.specs.FinMap as map
use Rattle.std.proofs.lemmas.List.Elements.{All-cons, All-head, All-nil, All-tail}
use Rattle.np_syntax.specs.declared.process.Role.{Role}
use Rattle.np_syntax.specs.declared.process.Role.TheVariants as role
use Rattle.np_syntax.specs.declared.event.Event.{Event}
use Rattle.np_syntax.specs.declared.event.Kind.{Kind}
use Rattle.np_syntax.specs.declared.event.Kind.TheVariants as kind
use Rattle.np_syntax.specs.declared.event.Made.{Made}
use Rattle.np_syntax.specs.declared.event.Made.TheVariants as made
use Rattle.np_calculus.specs.Config.{Config}
use Rattle.np_calculus.specs.Reductions.{apply}
use Rattle.np_lift.specs.Posts.{Deed, and_on, deed_by, deeds, letter_at, prepended}
use Rattle.np_lift.specs.CachedLaws.{AddsNoMark, adds_mark}
use Rattle.np_lift.specs.CachedLift.{at_first, lifted}
use Rattle.np_lift.specs.CachedPosts.{and_from, deed_from, deeds_from}
use Rattle.np_lift.proofs.Standings.{stands-itself}
use Rattle.np_lift.proofs.WithoutMessengers.{standing-without-messengers}

module _ (c d : Config) (e : Event) where
  same-deed : (k : Kind) (r : Role) (names : Made) → adds_mark r k names ≡ false → deed_from at_first k r names c d e ≡ deed_by k r c d e
  same-deed kind.Send role.Post names h = ap (λ m. Some (m, Deed.posts (letter_at c e.actor))) (stands-itself e.actor)
  same-deed kind.Open r names h = ap (λ m. Some (m, Deed.opens (map.get d.atoms e.actor))) (stands-itself e.actor)
  same-deed kind.Agent role.Post (made.Two t m) h = absurd cc
  same-deed kind.Local role.Infra (made.One m) h = absurd cc
  same-deed _ _ _ h = refl

pub same-deeds : (c : Config) (es : List Event) → All AddsNoMark es → deeds_from at_first c es ≡ deeds c es
same-deeds c [] none = refl
same-deeds c (e ∷ es) none = go (apply c e) (λ d. same-deeds d es (All-tail AddsNoMark e es none))
  where
    stays : (lifted at_first e).standing ≡ at_first
    stays = standing-without-messengers (e ∷ []) (All-cons AddsNoMark e [] (All-head AddsNoMark e es none) (All-nil AddsNoMark))

    go : (o : Option Config) → ((d : Config) → deeds_from at_first d es ≡ deeds d es)
        → and_from at_first c e o (λ d. deeds_from (lifted at_first e).standing d es) ≡ and_on c e o (λ d. deeds d es)
    go None rest = refl
    go (Some d) rest =
        ap (λ s. prepended (deed_from at_first e.kind e.tag.role e.made c d e) (deeds_from s d es)) stays
        ∙ ap (prepended (deed_from at_first e.kind e.tag.role e.made c d e)) (rest d)
        ∙ ap (λ x. prepended x (deeds d es)) (same-deed c d e e.kind e.tag.role e.made (All-head AddsNoMark e es none))
