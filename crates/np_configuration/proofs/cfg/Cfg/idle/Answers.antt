use Rattle.std.proofs.Common.{◌≡◌, refl, sym, subst, ◌∙◌}
use Rattle.std.specs.FinMap as map
use Rattle.np_configuration.proofs.Common.{Idle, NoneTravels, the_view}
use Rattle.np_configuration.proofs.Rests.{idle-still, idle-stays, stay-idle}
use Rattle.np_configuration.proofs.RestTests.{none_travels, not_both, not_is, rests, some_travels}
use Rattle.np_configuration.proofs.cfg.Cfg.idle.Goals as goal

pub returns-then-not-is_empty : goal.returns-then-not-is_empty
returns-then-not-is_empty c = (λ e. absurd cc, λ i. c.if-not-is_empty.ensures.1 (idle-still (the_view c.self.inside) (subst Idle (sym c.self.view_is) i)).0)

pub returns-then-is_some : goal.returns-then-is_some
returns-then-is_some c = (
  λ e. absurd cc,
  λ i. absurd (some_travels c.self.inside.places.items c.under_way.result (sym c.is_some.ensures ∙ c.if-is_some.true) c.under_way.ensures.some
      (idle-still (the_view c.self.inside) (subst Idle (sym c.self.view_is) i)).1),
)

pub returns-then-is_quiet : goal.returns-then-is_quiet
returns-then-is_quiet c =
    let empty : c.self.inside.packets.items ≡ map.empty = c.is_empty.ensures.0 c.if-not-is_empty.false in
    let none : NoneTravels c.self.inside.places.items = none_travels c.self.inside.places.items c.under_way.result (sym c.is_some.ensures ∙ c.if-is_some.false) c.under_way.ensures.none in
    (λ e. subst Idle c.self.view_is (rests (the_view c.self.inside) c.self.inside.work c.self.invariant (c.is_quiet.ensures.0 c.if-is_quiet.true) empty none), λ i. refl)

pub returns : goal.returns
returns c =
    let empty : c.self.inside.packets.items ≡ map.empty = c.is_empty.ensures.0 c.if-not-is_empty.false in
    let none : NoneTravels c.self.inside.places.items = none_travels c.self.inside.places.items c.under_way.result (sym c.is_some.ensures ∙ c.if-is_some.false) c.under_way.ensures.none in (
      λ t. subst Idle c.self.view_is (stay-idle (the_view c.self.inside) empty none.each (λ g. not_both c.any_may_act.result t (c.any_may_act.ensures.1 g))),
      λ i. not_is c.any_may_act.result (λ y. idle-stays (the_view c.self.inside) (subst Idle (sym c.self.view_is) i) (c.any_may_act.ensures.0 y)),
    )
